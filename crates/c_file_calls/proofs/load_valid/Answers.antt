-- `c_file_calls::load_valid` meets its contract. Assumes nothing.
use mathlib.Core.Path.{sym, ap, ap₂, ◌∙◌}
use mathlib.Core.Bool.{Bool}
use native.Mathlib.Omega.{arith}
use lib.ListN.{length}
use Rattle.kind.specs.declared.SaveType.{SaveType}
use Rattle.lists.specs.Lists.{bit}
use Rattle.cart.specs.Calls.{large_after}
use Rattle.c_record.proofs.FieldBytes.{large-byte}
use Rattle.c_file_calls.proofs.FileCalls.{large-read, load-valid}
use Rattle.c_file_calls.proofs.load_valid.Goals as goal

pub put_bit-requires : goal.put_bit-requires
put_bit-requires c =
    let s = c in
    let r = s.args.cart.now in
    (omega arith, large-byte r s.requires.valid.0 ∙ ap bit (sym (large-read r)))

pub returns : goal.returns
returns c =
    let s = c in
    let r = s.args.cart.now in
    let f = s.args.file.now in
    load-valid r s.args.memory.now s.requires.valid.0 f s.args.tallies.now _
    (c.large_after-next.ensures ∙ ap₂ (λ (k : SaveType) (b : Bool). large_after k b (length f)) c.kind_in.ensures (large-read r))
    c.put_bit.ensures
    c.apply.ensures
