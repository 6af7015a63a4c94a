-- States through the calls. Assumes nothing.
use mathlib.Core.Path.{◌≡◌, refl, ap, ap₂, ◌∙◌}
use mathlib.Core.Logic.{◌≢◌}
use mathlib.Core.Bool.{Bool, true, ◌&&◌}
use mathlib.Core.List.{List, [], ◌∷◌, ◌++◌}
use Prim.Native.Nat.{ℕ, ◌^◌, ◌<◌}
use native.Mathlib.Omega.{arith}
use lib.Dec.{eqb}
use lib.ListN.{length}
use lib.Pow.{are_bytes}
use lib.Seq.{take_all}
use borrow.Author.Tests.{eqb-true}
use Rattle.lists.specs.Lists.{bit}
use Rattle.lists.specs.Questions.{Question, asked, FirstNo}
use Rattle.lists.proofs.Bools.{split, and_left, and_right}
use Rattle.lists.proofs.Questions.{numbered, refused-first, all_yes, yes-all}
use Rattle.image.specs.Image.{image_length}
use Rattle.part.specs.Part.{part_fits}
use Rattle.chip_record.specs.declared.ChipRecord.{ChipRecord}
use Rattle.chip_record.specs.ChipState.{chip_bytes, chip_of, field_questions, chip_allowed}
use Rattle.chip_record.specs.States.{layout_number, state_bytes, eighteen_of, flag_from, state_questions, Carried, eighteen, twenty, carried}
use Rattle.cart.specs.Record.{State, Outcome, outcome, record_allowed}
use Rattle.cart.specs.Calls.{chip_state, chip_with, restore_questions, questions, accepted, step, restore}
use Rattle.cart.specs.Claims.{StateBytes}
use Rattle.chip_record.proofs.Layouts.{own-questions, own-restored, own-flag, old-flag, taken, eighteen-back, twenty-back}
use Rattle.cart.proofs.Sound.{step-accepted}

-- an allowed record's own questions
own-yes : (k : Carried) (s : State) → record_allowed s.cart ≡ true → asked (state_questions (carried k (state_bytes s.cart.chip s.cart.dirty))) ≡ 0
unfolding record_allowed
own-yes k s h =
    let n : ℕ = asked (field_questions (chip_bytes s.cart.chip)) in
    own-questions k s.cart.chip s.cart.dirty (eqb-true n 0 (and_right (image_length s.cart.len && part_fits s.cart.part s.cart.kind) (eqb n 0) h))

bytes-given : (s : State) → record_allowed s.cart ≡ true → (step chip_state [] s).given ≡ state_bytes s.cart.chip s.cart.dirty
unfolding questions accepted
bytes-given s h = ap (λ (o : Outcome). o.given) (step-accepted chip_state [] s (h, tt))

-- an accepted restore, and a refused one
abbrev pub restoring : List ℕ → State → State
restoring b s = chip_with s (flag_from b s.cart.dirty) (chip_of (eighteen_of b))

pub restore-accepted : (b : List ℕ) (s : State) → asked (restore_questions b s) ≡ 0 → restore b s ≡ outcome [] (restoring b s) []
unfolding restore
restore-accepted b s e = rw e

restore-yes : (b : List ℕ) (s : State) → (restore b s).refusal ≡ 0 → asked (restore_questions b s) ≡ 0
unfolding restore
restore-yes b s =
    let n : ℕ = asked (restore_questions b s) in
    split (λ (o : Outcome). o.refusal ≡ 0 → n ≡ 0) (eqb n 0) (λ e h. eqb-true n 0 e) (λ e h. h)

-- what a written state makes of a cartridge with another flag f and another chip record c
restores-by : (k : Carried) (s : State) (f : Bool) (c : ChipRecord) (dirty : Bool) → record_allowed s.cart ≡ true → s.cart.chip.eeprom.acc < 2 ^ 64
    → record_allowed (chip_with s f c).cart ≡ true → flag_from (carried k (state_bytes s.cart.chip s.cart.dirty)) f ≡ dirty
    → restore (carried k (step chip_state [] s).given) (chip_with s f c) ≡ outcome [] (chip_with s dirty s.cart.chip) []
restores-by k s f c dirty h a g e =
    let b : List ℕ = carried k (state_bytes s.cart.chip s.cart.dirty) in
    ap (λ (l : List ℕ). restore (carried k l) (chip_with s f c)) (bytes-given s h)
    ∙ restore-accepted b (chip_with s f c) (rw g (own-yes k s h))
    ∙ ap₂ (λ (x : Bool) (y : ChipRecord). outcome [] (chip_with s x y) []) e (own-restored k s.cart.chip s.cart.dirty a)

numbers : (b : List ℕ) (s : State) → numbered (restore_questions b s) ≡ true
unfolding field_questions
numbers b s = refl

pub state-yes : (b : List ℕ) (s : State) → asked (restore_questions b s) ≡ 0 → asked (state_questions b) ≡ 0
state-yes b s e = all_yes (state_questions b) (yes-all (restore_questions b s) (numbers b s) e).1

pub restored-allowed : (b : List ℕ) (s : State) → are_bytes b ≡ true → record_allowed s.cart ≡ true → asked (state_questions b) ≡ 0 → record_allowed (restoring b s).cart ≡ true
unfolding record_allowed
restored-allowed b s a h e =
    let l : Bool = image_length s.cart.len in
    let p : Bool = part_fits s.cart.part s.cart.kind in
    let k = and_left (l && p) (chip_allowed s.cart.chip) h in
    let t = taken b e in
    rw (eighteen-back b a t, t.fields, and_left l p k, and_right l p k)

-- bytes that restore accepts
module _ (b : List ℕ) (s : State) (a : are_bytes b ≡ true) (h : (restore b s).refusal ≡ 0) where
  yes : asked (state_questions b) ≡ 0
  yes = state-yes b s (restore-yes b s h)

  written : (step chip_state [] (restore b s).next).given ≡ eighteen_of b ++ (bit (flag_from b s.cart.dirty) ∷ layout_number ∷ [])
  unfolding state_bytes
  written =
      let y = yes-all (restore_questions b s) (numbers b s) (restore-yes b s h) in
      ap (λ (o : Outcome). (step chip_state [] o.next).given) (restore-accepted b s (restore-yes b s h))
      ∙ bytes-given (restoring b s) (restored-allowed b s a y.0 yes)
      ∙ ap (λ (l : List ℕ). l ++ (bit (flag_from b s.cart.dirty) ∷ layout_number ∷ [])) (eighteen-back b a (taken b yes))

  writes-back : length b ≡ 20 → (step chip_state [] (restore b s).next).given ≡ b
  writes-back l = written ∙ twenty-back b s.cart.dirty (taken b yes) l

  writes_old : length b ≡ 18 → (step chip_state [] (restore b s).next).given ≡ b ++ (bit s.cart.dirty ∷ layout_number ∷ [])
  writes_old l =
      let f : flag_from b s.cart.dirty ≡ s.cart.dirty = rw l in
      written
      ∙ ap₂ (λ (x : List ℕ) (y : Bool). x ++ (bit y ∷ layout_number ∷ [])) (take_all 18 b (omega arith)) f

refuses : (b : List ℕ) (s : State) → (restore b s).refusal ≢ 0 → FirstNo (restore_questions b s) (restore b s).refusal × ((restore b s).next ≡ s)
unfolding restore
refuses b s =
    let qs : List Question = restore_questions b s in
    split (λ (o : Outcome). o.refusal ≢ 0 → FirstNo qs o.refusal × (o.next ≡ s)) (eqb (asked qs) 0) (λ e h. absurd (h refl))
    (λ e h. (refused-first qs h, refl))

pub state-bytes : StateBytes
state-bytes =
    record {
      restores_itself = λ s f c h a g. restores-by twenty s f c s.cart.dirty h a g (own-flag s.cart.chip s.cart.dirty f);
      eighteen_restore = λ s f c h a g. restores-by eighteen s f c f h a g (old-flag s.cart.chip s.cart.dirty f);
      writes_back = writes-back;
      writes_back_old = writes_old;
      refuses_first = refuses;
    }
