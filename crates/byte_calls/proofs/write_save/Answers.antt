-- `byte_calls::write_save` meets its contract. Assumes nothing.
use mathlib.Core.Path.{sym, subst}
use native.Mathlib.Omega.{arith}
use lib.ListN.{length}
use Rattle.memory.specs.Memory.{Fits}
use Rattle.kind.proofs.Sizes.{whole-stretches}
use Rattle.byte_step.specs.declared.ByteStep.{ByteStep}
use Rattle.byte_step.proofs.Fits.{step_fits}
use Rattle.memory.proofs.Counts.{count-is, memory-is, tallies-are}
use Rattle.cart.specs.Calls.{accepted, write_save}
use Rattle.byte_calls.proofs.write_save.Goals as goal

pub apply-changed-requires : goal.apply-changed-requires
apply-changed-requires c =
    let s = c in
    let a = s.args in
    let n = length a.memory.now in record {
      tallied = omega (arith, s.requires.memory_len, s.requires.tallies_len, whole-stretches a.cart.kind);
      fits = subst (λ (t : ByteStep). Fits t.store n) (sym c.write_byte-t.ensures)
          (step_fits a.cart.kind a.cart.chip.flash n a.address a.value s.requires.memory_len);
    }

pub returns : goal.returns
unfolding accepted write_save
returns c =
    let stores = c.apply-changed.ensures in
    rw (
      c.stored.ensures,
      c.with_flash.ensures,
      c.flag_after.ensures,
      count-is stores,
      tallies-are stores,
      memory-is stores,
      c.write_byte-t.ensures,
    )
