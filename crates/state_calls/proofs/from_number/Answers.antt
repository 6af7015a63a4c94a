-- `state_calls::from_number` meets its contract. Assumes nothing.
use mathlib.Core.Path.{◌≡◌, refl, sym, ap, ap₂, ◌∙◌}
use mathlib.Core.Logic.{◌≢◌}
use mathlib.Core.List.{List, [], ◌∷◌}
use Rattle.refusal.specs.Refusals.{refusal_number}
use Rattle.refusal.proofs.Passed.{not-0}
use Prim.Native.Nat.{ℕ}
use native.Mathlib.Omega.{arith}
use lib.ListN.{length, replicate}
use Rattle.lists.specs.Questions.{asked, ◌else◌}
use Rattle.lists.proofs.Questions.{asked-no, yes-all}
use Rattle.image.specs.Image.{image_question}
use Rattle.lists.proofs.Bools.{denied, granted}
use Rattle.cart.specs.Replies.{Reply}
use borrow.Author.Tests.{eq-eqb, ne_eqb}
use Rattle.memory.specs.Memory.{erased}
use Rattle.kind.specs.declared.SaveType.TheVariants.{None}
use Rattle.kind.specs.Kind.{memory_size, tally_count, detect_save_type}
use Rattle.part.specs.declared.Part.TheVariants.{Usual}
use Rattle.part.specs.Part.{part_of, number_fits}
use Rattle.cart.specs.Record.{memory_question, tally_question, fresh_cart, fresh, outcome, open_questions, from_bytes}
use Rattle.cart.specs.Replies.{tallied, refused, done, store_replied}
use Rattle.cart.proofs.Replies.{passed-reply, guarded-no, guarded-yes}
use Rattle.state_calls.proofs.from_number.Goals as goal

-- a refused opening
unopened : (i : List ℕ) (p : ℕ) (m ts : List ℕ) (n : ℕ) → n ≡ asked (open_questions i p m ts) → n ≢ 0
    → (refused n (fresh_cart 0 None Usual), m, ts) ≡ store_replied (from_bytes i p m ts)
unfolding from_bytes
unopened i p m ts n e h =
    ap store_replied (sym (guarded-no (open_questions i p m ts) [] (tallied (fresh_cart 0 None Usual) m ts) (outcome [] (fresh i (part_of p)) []) n e h))

pub returns-in_err-ask_length : goal.returns-in_err-ask_length
returns-in_err-ask_length c =
    let a = c.args in
    let ts = a.tallies.now in
    let e = c.in_err-ask_length.field-0.0 in
    let k = detect_save_type a.image.now in
    ap (λ (r : Reply). (r, a.memory.now, ts)) (passed-reply (fresh_cart 0 None Usual) c.from_residual.result e c.from_residual.ensures.1)
    ∙ unopened a.image.now a.part a.memory.now ts (refusal_number e)
    (asked-no (image_question a.image.now ∷ []) (memory_question k a.memory.now ∷ tally_question k ts ∷ number_fits a.part k else 15 ∷ []) (refusal_number e) c.in_err-ask_length.ensures (not-0 e))
    (not-0 e)

pub returns-then-memory-memory_size : goal.returns-then-memory-memory_size
returns-then-memory-memory_size c =
    let a = c.args in
    let e = (yes-all (image_question a.image.now ∷ []) refl (sym c.in_ok-ask_length.ensures)).0 in
    let n = c.memory_size.ensures ∙ ap memory_size c.detect_save_type-kind.ensures in
    unopened a.image.now a.part a.memory.now a.tallies.now 3
    (rw (e, ← n, ne_eqb _ _ c.if-memory-memory_size.true)) (λ z. omega arith)

pub returns-then-tallies-tally_count : goal.returns-then-tallies-tally_count
returns-then-tallies-tally_count c =
    let a = c.args in
    let k = c.detect_save_type-kind.ensures in
    let e = (yes-all (image_question a.image.now ∷ []) refl (sym c.in_ok-ask_length.ensures)).0 in
    let n = c.memory_size.ensures ∙ ap memory_size k in
    let t = c.tally_count.ensures ∙ ap tally_count k in
    unopened a.image.now a.part a.memory.now a.tallies.now 16
    (rw (e, ← n, eq-eqb _ _ c.if-memory-memory_size.false, ← t, ne_eqb _ _ c.if-tallies-tally_count.true)) (λ z. omega arith)

pub returns-then-not-number_fits : goal.returns-then-not-number_fits
returns-then-not-number_fits c =
    let a = c.args in
    let k = c.detect_save_type-kind.ensures in
    let e = (yes-all (image_question a.image.now ∷ []) refl (sym c.in_ok-ask_length.ensures)).0 in
    let n = c.memory_size.ensures ∙ ap memory_size k in
    let t = c.tally_count.ensures ∙ ap tally_count k in
    let f = denied _ (c.number_fits.ensures ∙ ap (number_fits a.part) k) c.if-not-number_fits.true in
    unopened a.image.now a.part a.memory.now a.tallies.now 15
    (rw (e, ← n, eq-eqb _ _ c.if-memory-memory_size.false, ← t, eq-eqb _ _ c.if-tallies-tally_count.false, f)) (λ z. omega arith)

pub returns : goal.returns
unfolding from_bytes fresh
returns c =
    let a = c.args in
    let i = a.image.now in
    let m = a.memory.now in
    let ts = a.tallies.now in
    let p = a.part in
    let k = c.detect_save_type-kind.ensures in
    let e = (yes-all (image_question a.image.now ∷ []) refl (sym c.in_ok-ask_length.ensures)).0 in
    let n = c.memory_size.ensures ∙ ap memory_size k in
    let t = c.tally_count.ensures ∙ ap tally_count k in
    let f = granted _ (c.number_fits.ensures ∙ ap (number_fits p) k) c.if-not-number_fits.false in
    let r = c.done.ensures ∙ ap (done 0) (c.fresh_cart.ensures ∙ ap₂ (fresh_cart (length i)) k c.part_of.ensures) in
    let b = c.blank.ensures in
    let x = b.memory_after ∙ ap erased (c.if-memory-memory_size.false ∙ n) in
    let y = b.tallies_after ∙ ap (λ (q : ℕ). replicate q 0) (c.if-tallies-tally_count.false ∙ t) in
    (λ j. (r j, x j, y j))
    ∙ ap store_replied
    (sym (guarded-yes (open_questions i p m ts) [] (tallied (fresh_cart 0 None Usual) m ts) (outcome [] (fresh i (part_of p)) []) 0
    (rw (e, ← n, eq-eqb _ _ c.if-memory-memory_size.false, ← t, eq-eqb _ _ c.if-tallies-tally_count.false, f)) refl))
