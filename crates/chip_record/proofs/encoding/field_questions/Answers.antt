-- `chip_record::encoding::field_questions` meets its contract, question by question. Assumes nothing.
use mathlib.Core.Path.{◌≡◌, refl, ap, ap₂, subst, ◌∙◌}
use mathlib.Core.Bool.{Bool, true, false, ◌&&◌}
use native.Mathlib.Omega.{arith}
use Prim.Native.Nat.{ℕ, ◌+◌, ◌*◌, ◌<◌, ◌≤◌}
use lib.Dec.{leb, eqb}
use lib.ListN.{get_or}
use borrow.Author.Tests.{le-leb, lt-leb, lt-ltb, le-ltb}
use Rattle.lists.proofs.Bools.{denied, granted, and_left, and_right}
use Rattle.eeprom.specs.Eeprom.{w, count_limit}
use Rattle.eeprom.proofs.Sound.{limit-64}
use Rattle.eeprom.proofs.Allowed.{w_le}
use Rattle.chip_record.specs.ChipState.{phase_of, field_questions}
use Rattle.chip_record.proofs.encoding.field_questions.Goals as goal

late-no : (a b c : Bool) → b && c ≡ false → a && b && c ≡ false
late-no true b c h = h
late-no false b c h = refl

pub returns-then-b-gt6 : goal.returns-then-b-gt6
unfolding field_questions
returns-then-b-gt6 c =
    let b = c.args.b.now in
    rw (lt-leb (get_or b 5 0) 6 c.if-b-gt6.true)

pub returns-then-not-state_allowed : goal.returns-then-not-state_allowed
unfolding field_questions
returns-then-not-state_allowed c =
    let b = c.args.b.now in
    rw (
      le-leb (get_or b 5 0) 6 c.if-b-gt6.false,
      denied _ c.state_allowed.ensures c.if-not-state_allowed.true,
    )

pub returns-then-not-flags_allowed : goal.returns-then-not-flags_allowed
unfolding field_questions
returns-then-not-flags_allowed c =
    let b = c.args.b.now in
    rw (
      le-leb (get_or b 5 0) 6 c.if-b-gt6.false,
      granted _ c.state_allowed.ensures c.if-not-state_allowed.false,
      denied _ c.flags_allowed.ensures c.if-not-flags_allowed.true,
    )

pub returns-then-not-width_allowed : goal.returns-then-not-width_allowed
unfolding field_questions
returns-then-not-width_allowed c =
    let b = c.args.b.now in
    rw (
      le-leb (get_or b 5 0) 6 c.if-b-gt6.false,
      granted _ c.state_allowed.ensures c.if-not-state_allowed.false,
      granted _ c.flags_allowed.ensures c.if-not-flags_allowed.false,
      denied _ c.width_allowed.ensures c.if-not-width_allowed.true,
    )

pub returns-then-not-places_allowed : goal.returns-then-not-places_allowed
unfolding field_questions
returns-then-not-places_allowed c =
    let t = c in
    let b = t.args.b.now in
    rw (
      le-leb (get_or b 5 0) 6 t.if-b-gt6.false,
      granted _ t.state_allowed.ensures t.if-not-state_allowed.false,
      granted _ t.flags_allowed.ensures t.if-not-flags_allowed.false,
      granted _ t.width_allowed.ensures t.if-not-width_allowed.false,
      late-no (leb (get_or b 6 0) 64) _ _ (denied _ (c.places_allowed.ensures ∙ ap (λ (n : ℕ). leb n 1023 && leb (get_or b 9 0) 67) c.low16.ensures) c.if-not-places_allowed.true),
    )

pub returns-then-b-count_limit : goal.returns-then-b-count_limit
unfolding field_questions
returns-then-b-count_limit c =
    let l = c in
    let q = l in
    let t = q in
    let b = t.args.b.now in
    let a = granted _ t.width_allowed.ensures t.if-not-width_allowed.false in
    let y = granted _ (q.places_allowed.ensures ∙ ap (λ (n : ℕ). leb n 1023 && leb (get_or b 9 0) 67) q.low16.ensures) q.if-not-places_allowed.false in
    let limit = l.count_limit.ensures ∙ ap₂ count_limit l.phase_of.ensures l.w.ensures in
    let m : get_or b 6 0 < count_limit (phase_of (get_or b 5 0)) (w (get_or b 3 0) (eqb (get_or b 4 0) 1)) = subst (λ (n : ℕ). get_or b 6 0 < n) limit l.if-b-count_limit.true in
    let k = limit-64 (phase_of (get_or b 5 0)) (w (get_or b 3 0) (eqb (get_or b 4 0) 1)) (get_or b 6 0) (w_le (get_or b 3 0) (eqb (get_or b 4 0) 1) a) m in
    rw (
      le-leb (get_or b 5 0) 6 t.if-b-gt6.false,
      granted _ t.state_allowed.ensures t.if-not-state_allowed.false,
      granted _ t.flags_allowed.ensures t.if-not-flags_allowed.false,
      a,
      le-leb (get_or b 6 0) 64 (omega (arith, k)),
      and_left (leb (get_or b 7 0 + 256 * get_or b 8 0) 1023) (leb (get_or b 9 0) 67) y,
      and_right (leb (get_or b 7 0 + 256 * get_or b 8 0) 1023) (leb (get_or b 9 0) 67) y,
      lt-ltb _ _ m,
    )

pub returns-then-b-gt64 : goal.returns-then-b-gt64
unfolding field_questions
returns-then-b-gt64 c =
    let l = c in
    let q = l in
    let t = q in
    let b = t.args.b.now in
    let a = granted _ t.width_allowed.ensures t.if-not-width_allowed.false in
    rw (
      le-leb (get_or b 5 0) 6 t.if-b-gt6.false,
      granted _ t.state_allowed.ensures t.if-not-state_allowed.false,
      granted _ t.flags_allowed.ensures t.if-not-flags_allowed.false,
      a,
      lt-leb (get_or b 6 0) 64 c.if-b-gt64.true,
    )

pub returns : goal.returns
unfolding field_questions
returns c =
    let l = c in
    let q = l in
    let t = q in
    let b = t.args.b.now in
    let a = granted _ t.width_allowed.ensures t.if-not-width_allowed.false in
    let y = granted _ (q.places_allowed.ensures ∙ ap (λ (n : ℕ). leb n 1023 && leb (get_or b 9 0) 67) q.low16.ensures) q.if-not-places_allowed.false in
    let limit = l.count_limit.ensures ∙ ap₂ count_limit l.phase_of.ensures l.w.ensures in
    rw (
      le-leb (get_or b 5 0) 6 t.if-b-gt6.false,
      granted _ t.state_allowed.ensures t.if-not-state_allowed.false,
      granted _ t.flags_allowed.ensures t.if-not-flags_allowed.false,
      a,
      le-leb (get_or b 6 0) 64 c.if-b-gt64.false,
      and_left (leb (get_or b 7 0 + 256 * get_or b 8 0) 1023) (leb (get_or b 9 0) 67) y,
      and_right (leb (get_or b 7 0 + 256 * get_or b 8 0) 1023) (leb (get_or b 9 0) 67) y,
      le-ltb _ _ (subst (λ (n : ℕ). n ≤ get_or b 6 0) limit l.if-b-count_limit.false),
    )
