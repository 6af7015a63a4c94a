-- `crc::blocks::over_bytes` meets its contract: the bytes that are left, from the register as it is. Assumes nothing.
use mathlib.Core.Path.{sym, ap, ◌∙◌}
use Prim.Native.Nat.{ℕ, ◌+◌, ◌-◌, ◌%◌}
use native.Mathlib.Omega.{arith}
use mathlib.Core.List.{List}
use lib.Bits.{bit_xor}
use lib.ListN.{length, drop}
use Rattle.lists.specs.Lists.{fold}
use Rattle.crc.specs.Crc.{crc_bits, crc_byte}
use Rattle.crc.proofs.Folds.{fold-append, fold_next, fold_end, remainder-kept}
use Rattle.crc.proofs.blocks.over_bytes.Goals as goal

pub loop-block-preserved : goal.loop-block-preserved
loop-block-preserved c =
    let b = c.loop-block in
    let left = c.next.new.self.rest.now in
    let block = c.in-Some.block.now in
    let step = c.in-Some.ensures.steps in
    let parts = step.1.0 in
    let size = step.1.1 ∙ b.invariant.0 in (
      step.0 ∙ b.invariant.0,
      b.invariant.1
          ∙ ap (λ (l : List ℕ). drop (length l - length l % 32768) l) parts
          ∙ remainder-kept block left size,
      ap (λ (x : ℕ). fold crc_byte x left) c.over_block-c.ensures
          ∙ sym (ap (fold crc_byte b.c) parts ∙ fold-append crc_byte b.c block left)
          ∙ b.invariant.2,
    )

pub loop-byte-preserved : goal.loop-byte-preserved
unfolding crc_byte
loop-byte-preserved c =
    let b = c.loop-byte in
    let rest = c.remainder-rest.result.now in
    ap (λ (x : ℕ). fold crc_byte x (drop (b.byte-index + 1) rest))
    (c.byte_out-c.ensures ∙ ap (λ (x : ℕ). crc_bits 8 (bit_xor b.c x)) c.from.ensures)
    ∙ fold_next crc_byte b.c rest b.byte-index (omega arith)
    ∙ b.invariant

pub returns : goal.returns
returns c =
    let b = c.loop-byte in
    sym (fold_end crc_byte b.c c.remainder-rest.result.now b.byte-index (omega arith)) ∙ b.invariant
