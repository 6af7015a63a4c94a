-- States of either layout, and what a record's own is. Assumes nothing.
use mathlib.Core.Path.{◌≡◌, refl, sym, ap, ap₂, ◌∙◌}
use mathlib.Core.Bool.{Bool, true, false, ◌||◌}
use mathlib.Core.List.{List, [], ◌∷◌, ◌++◌}
use Prim.Native.Nat.{ℕ, ◌≤◌, ◌^◌, ◌<◌}
use native.Mathlib.Omega.{arith}
use lib.Dec.{leb, eqb}
use lib.ListN.{length, get_or, drop, take-append-drop, length-drop}
use lib.Pow.{are_bytes}
use lib.Seq.{take_all, length-take-le}
use borrow.Author.Tests.{eqb-true, eqb-false, eq-eqb}
use Rattle.lists.specs.Lists.{bit, low_first}
use Rattle.lists.specs.Questions.{Question, asked}
use Rattle.lists.proofs.Bools.{cases, bit_le, bit-back, bit-forth}
use Rattle.lists.proofs.Digits.{bytes_take}
use Rattle.lists.proofs.Parts.{spells}
use Rattle.lists.proofs.Questions.{AllYes, all_yes, yes-all, asked-no, asked-yes}
use Rattle.chip_record.specs.declared.ChipRecord.{ChipRecord}
use Rattle.chip_record.specs.ChipState.{chip_bytes, chip_of, field_questions}
use Rattle.chip_record.specs.States.{layout_number, state_bytes, eighteen_of, flag_from, length_question, layout_question, flag_question, state_questions, Carried, eighteen, twenty, carried}
use Rattle.chip_record.proofs.ChipState.{chip-back, bytes_back}

-- a record's own state, and its first eighteen bytes
own-chip : (k : Carried) (c : ChipRecord) (f : Bool) → eighteen_of (carried k (state_bytes c f)) ≡ chip_bytes c
unfolding state_bytes chip_bytes low_first
own-chip eighteen c f = refl
own-chip twenty c f = refl

own-tail : (k : Carried) (c : ChipRecord) (f : Bool) → asked (flag_question (carried k (state_bytes c f)) ∷ []) ≡ 0
unfolding state_bytes chip_bytes low_first
own-tail eighteen c f = refl
own-tail twenty c f = rw (bit_le f)

-- the questions, where those about the fields are answered yes
by-fields : (k : Carried) (c : ChipRecord) (f : Bool)
    → asked (state_questions (carried k (state_bytes c f)))
    ≡ asked (field_questions (eighteen_of (carried k (state_bytes c f))) ++ (flag_question (carried k (state_bytes c f)) ∷ []))
unfolding state_bytes chip_bytes low_first
by-fields eighteen c f = refl
by-fields twenty c f = refl

fields-yes : (b : List ℕ) → asked (field_questions b) ≡ 0 → AllYes (field_questions b)
unfolding field_questions
fields-yes b e = yes-all (field_questions b) refl e

pub own-questions : (k : Carried) (c : ChipRecord) (f : Bool) → asked (field_questions (chip_bytes c)) ≡ 0 → asked (state_questions (carried k (state_bytes c f))) ≡ 0
own-questions k c f e =
    let b : List ℕ = carried k (state_bytes c f) in
    let y = ap (λ (l : List ℕ). asked (field_questions l)) (own-chip k c f) ∙ e in
    by-fields k c f ∙ asked-yes (field_questions (eighteen_of b)) (flag_question b ∷ []) (fields-yes (eighteen_of b) y) ∙ own-tail k c f

-- what restore takes such a state for
pub own-restored : (k : Carried) (c : ChipRecord) (f : Bool) → c.eeprom.acc < 2 ^ 64 → chip_of (eighteen_of (carried k (state_bytes c f))) ≡ c
own-restored k c f a = ap chip_of (own-chip k c f) ∙ chip-back c a

pub own-flag : (c : ChipRecord) (f dirty : Bool) → flag_from (state_bytes c f) dirty ≡ f
unfolding state_bytes chip_bytes low_first
own-flag c f dirty = bit-back f

pub old-flag : (c : ChipRecord) (f dirty : Bool) → flag_from (eighteen_of (state_bytes c f)) dirty ≡ dirty
unfolding state_bytes chip_bytes low_first
old-flag c f dirty = refl

-- the fields' questions, and then the flag's
fields-then : (b : List ℕ) (q : Question) (n : ℕ) → n ≡ asked (field_questions b) → (n ≡ 0 → asked (q ∷ []) ≡ 0) → n ≡ asked (field_questions b ++ (q ∷ []))
fields-then b q n e y =
    cases (eqb n 0)
    (λ t. let z = eqb-true n 0 t in z ∙ sym (asked-yes (field_questions b) (q ∷ []) (fields-yes b (sym e ∙ z)) ∙ y z))
    (λ t. asked-no (field_questions b) (q ∷ []) n e (eqb-false n 0 t))

front-old : (b : List ℕ) (qs : List Question) → length b ≡ 18 → asked (length_question b ∷ layout_question b ∷ qs) ≡ asked qs
front-old b qs l = rw l

pub old-asked : (b : List ℕ) (n : ℕ) → length b ≡ 18 → n ≡ asked (field_questions b) → n ≡ asked (state_questions b)
old-asked b n l e =
    let f = e ∙ ap (λ (x : List ℕ). asked (field_questions x)) (sym (take_all 18 b (omega arith))) in
    fields-then (eighteen_of b) (flag_question b) n f (λ z. rw l) ∙ sym (front-old b (field_questions (eighteen_of b) ++ (flag_question b ∷ [])) l)

module _ (b : List ℕ) (l : length b ≡ 20) (v : get_or b 19 0 ≡ 2) where
  front-new : (qs : List Question) → asked (length_question b ∷ layout_question b ∷ qs) ≡ asked qs
  front-new qs = rw (l, v)

  pub new-asked : (n : ℕ) → n ≡ asked (field_questions (eighteen_of b)) → (n ≡ 0 → leb (get_or b 18 0) 1 ≡ true) → n ≡ asked (state_questions b)
  new-asked n e y =
      fields-then (eighteen_of b) (flag_question b) n e (λ z. rw (l, y z)) ∙ sym (front-new (field_questions (eighteen_of b) ++ (flag_question b ∷ [])))

  pub new-18 : asked (field_questions (eighteen_of b)) ≡ 0 → leb (get_or b 18 0) 1 ≡ false → 18 ≡ asked (state_questions b)
  new-18 e y =
      let f : asked (flag_question b ∷ []) ≡ 18 = rw (l, y) in
      let qs : List Question = field_questions (eighteen_of b) in
      sym (front-new (qs ++ (flag_question b ∷ [])) ∙ asked-yes qs (flag_question b ∷ []) (fields-yes (eighteen_of b) e) ∙ f)

-- what is known of bytes that restore takes
pub record Taken (b : List ℕ) : Type 0 where
  pub long : 18 ≤ length b
  pub fields : asked (field_questions (eighteen_of b)) ≡ 0
  pub layout : length b ≡ 20 → get_or b 19 0 ≡ 2
  pub flag : length b ≡ 20 → leb (get_or b 18 0) 1 ≡ true

either-length : (b : List ℕ) → eqb (length b) 18 || eqb (length b) 20 ≡ true → 18 ≤ length b
either-length b h =
    cases (eqb (length b) 18) (λ t. omega (arith, eqb-true (length b) 18 t)) (λ t. omega (arith, eqb-true (length b) 20 (rw t at h)))

pub taken : (b : List ℕ) → asked (state_questions b) ≡ 0 → Taken b
unfolding field_questions
taken b e =
    let y = yes-all (state_questions b) refl e in
    let f = y.1.1 in
    record {
      long = either-length b y.0;
      fields = all_yes (field_questions (eighteen_of b)) (f.0, (f.1.0, (f.1.1.0, (f.1.1.1.0, (f.1.1.1.1.0, (f.1.1.1.1.1.0, tt))))));
      layout = λ l. eqb-true (get_or b 19 0) 2 (rw (eq-eqb _ _ l) at y.1.0);
      flag = λ l. rw (eq-eqb _ _ l) at f.1.1.1.1.1.1.0;
    }

-- the eighteen are written back
pub eighteen-back : (b : List ℕ) → are_bytes b ≡ true → Taken b → chip_bytes (chip_of (eighteen_of b)) ≡ eighteen_of b
eighteen-back b a t = bytes_back (eighteen_of b) (bytes_take 18 b a) (length-take-le 18 b t.long) t.fields

-- and of 20 bytes the last two
last-two : (b : List ℕ) → length b ≡ 20 → drop 18 b ≡ get_or b 18 0 ∷ get_or b 19 0 ∷ []
last-two b l =
    let n : length (drop 18 b) ≡ 2 = simp length-drop (omega arith) in
    sym (take_all 2 (drop 18 b) (omega arith)) ∙ spells b 0 2 18 (omega arith)

pub twenty-back : (b : List ℕ) (dirty : Bool) → Taken b → length b ≡ 20 → eighteen_of b ++ (bit (flag_from b dirty) ∷ layout_number ∷ []) ≡ b
twenty-back b dirty t l =
    let f : bit (flag_from b dirty) ≡ get_or b 18 0 = rw (eq-eqb _ _ l) (bit-forth (get_or b 18 0) (t.flag l)) in
    ap₂ (λ (x y : ℕ). eighteen_of b ++ (x ∷ y ∷ [])) f (sym (t.layout l))
    ∙ ap (λ (m : List ℕ). eighteen_of b ++ m) (sym (last-two b l))
    ∙ take-append-drop 18 b
