-- `file_calls::save_data` meets its contract. Assumes nothing.
use mathlib.Core.Path.{refl, sym, ap, ap₂, ◌∙◌}
use mathlib.Core.List.{List, [], ◌∷◌}
use Prim.Native.Nat.{ℕ}
use native.Mathlib.Omega.{arith}
use lib.ListN.{length, take}
use Rattle.refusal.specs.Refusals.{refusal_number}
use Rattle.refusal.proofs.Passed.{not-0}
use Rattle.cart.proofs.Replies.{passed-reply}
use Rattle.cart.specs.Counts.{store_of}
use Rattle.cart.specs.Replies.{Reply}
use Rattle.lists.specs.Questions.{◌else◌}
use borrow.Author.Tests.{le-leb, lt-leb}
use Rattle.lists.specs.Lists.{into}
use Rattle.cart.specs.Calls.{save_data, file_of, holds, questions, accepted}
use Rattle.cart.specs.Replies.{state, done, export_replied}
use Rattle.cart.proofs.Replies.{step-no, step_kept, door-no, door-yes, door-more}
use Rattle.file_calls.proofs.Exports.{holds-is, exported-is}
use Rattle.file_calls.proofs.save_data.Goals as goal

pub returns-in_err-door : goal.returns-in_err-door
unfolding questions
returns-in_err-door c =
    let a = c.args in
    let s = state a.cart a.memory.now in
    let e = door-no a.cart (length a.memory.now) (holds (file_of a.cart.kind s) a.destination.now else 13 ∷ []) (refusal_number c.in_err-door.field-0.0) c.in_err-door.ensures (not-0 c.in_err-door.field-0.0) in
    ap (λ (r : Reply). (r, a.destination.now)) (passed-reply a.cart c.from_residual.result c.in_err-door.field-0.0 c.from_residual.ensures.1) ∙ ap export_replied (sym (step-no save_data a.destination.now s (refusal_number c.in_err-door.field-0.0) e (not-0 c.in_err-door.field-0.0)))

pub returns-then-destination-n : goal.returns-then-destination-n
unfolding questions
returns-then-destination-n c =
    let a = c.args in
    let s = state a.cart a.memory.now in
    let y = door-yes a.cart (length a.memory.now) 0 c.in_ok-door.ensures refl in
    let e = door-more a.cart (length a.memory.now) (holds (file_of a.cart.kind s) a.destination.now else 13 ∷ []) 0 c.in_ok-door.ensures refl in
    let h = holds-is s a.destination.now a.cart.kind y.1 in
    ap export_replied (sym (step-no save_data a.destination.now s 13 (sym (e ∙ rw (h, ← c.file_length-n.ensures, lt-leb _ _ c.if-destination-n.true))) (λ z. omega arith)))

pub returns : goal.returns
unfolding questions accepted store_of
returns c =
    let a = c.args in
    let s = state a.cart a.memory.now in
    let y = door-yes a.cart (length a.memory.now) 0 c.in_ok-door.ensures refl in
    let e = door-more a.cart (length a.memory.now) (holds (file_of a.cart.kind s) a.destination.now else 13 ∷ []) 0 c.in_ok-door.ensures refl in
    let h = holds-is s a.destination.now a.cart.kind y.1 in
    ap₂ (λ (r : Reply) (l : List ℕ). (r, l)) c.done.ensures c.copy_file.ensures
    ∙ ap (λ (n : ℕ). (done n a.cart, into (take n a.memory.now) a.destination.now)) c.file_length-n.ensures
    ∙ sym (exported-is s a.destination.now a.cart.kind y.1)
    ∙ ap export_replied (sym (step_kept save_data a.destination.now s 0 (sym (e ∙ rw (h, ← c.file_length-n.ensures, le-leb _ _ c.if-destination-n.false))) refl refl))
