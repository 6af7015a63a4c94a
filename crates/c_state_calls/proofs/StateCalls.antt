-- Opening, `chip_state` and restore on a record's bytes. Assumes nothing.
use mathlib.Core.Path.{◌≡◌, refl, sym, ap, ap₂, ◌∙◌}
use mathlib.Core.Logic.{◌≢◌}
use mathlib.Core.Bool.{Bool, true}
use mathlib.Core.List.{List, [], ◌∷◌, ◌++◌, append-nil}
use Prim.Native.Nat.{ℕ, suc, ◌≤◌}
use native.Mathlib.Omega.{arith}
use lib.ListN.{length, get_or, set, take, drop, length-take, length-drop, drop_of_length-le}
use lib.Pow.{are_bytes}
use lib.Dec.{eqb}
use borrow.Author.Tests.{ne_eqb}
use Rattle.lists.specs.Lists.{bit, low_first, with_part, into}
use Rattle.lists.specs.Questions.{asked}
use Rattle.lists.proofs.Bools.{bit-back}
use Rattle.lists.proofs.Parts.{mid-part}
use Rattle.chip_record.specs.declared.ChipRecord.{ChipRecord}
use Rattle.cart.specs.declared.Cartridge.{Cartridge}
use Rattle.cart.specs.Replies.{Reply}
use Rattle.chip_record.specs.ChipState.{chip_bytes, chip_of}
use Rattle.chip_record.specs.States.{state_bytes, eighteen_of, flag_from, state_questions}
use Rattle.cart.specs.Record.{from_bytes}
use Rattle.cart.specs.Calls.{chip_state, questions, accepted, restore}
use Rattle.cart.specs.Replies.{cart_with, store_replied}
use Rattle.chip_record.proofs.Layouts.{taken, eighteen-back}
use Rattle.c_record.specs.RecordBytes.{record_bytes, chip_in, cart_of, Valid}
use Rattle.c_record.specs.AtExit.{called, state_at}
use Rattle.c_record.specs.Calls.{opens, gives_state, restores}
use Rattle.c_record.proofs.Calls.{done}

pub opened : (image : List ℕ) (part : ℕ) (m ts : List ℕ) (reply : Reply) {b m' ts' : List ℕ}
    → (reply, m', ts') ≡ store_replied (from_bytes image part m ts)
    → b ≡ record_bytes reply.cart
    → (reply.refusal, b, m', ts') ≡ opens image part m ts
opened image part m ts reply {m' = m'} {ts' = ts'} e f =
    ap (λ (l : List ℕ). (reply.refusal, l, m', ts')) f
    ∙ ap (λ (q : Reply × List ℕ × List ℕ). (q.0.refusal, record_bytes q.0.cart, q.1, q.2)) e

-- a copy that is as long as its destination
whole : (f d : List ℕ) → length d ≤ length f → into f d ≡ f
unfolding into
whole f d h = rw (drop_of_length-le d h) (append-nil f)

-- the two places behind a front
put_two : (front l : List ℕ) (f v : ℕ) → length l ≡ 2 → set (set (front ++ l) (length front) f) (suc (length front)) v ≡ front ++ (f ∷ v ∷ [])
put_two [] [] f v h = absurd (omega arith)
put_two [] (a ∷ []) f v h = absurd (omega arith)
put_two [] (a ∷ b ∷ []) f v h = refl
put_two [] (a ∷ b ∷ c ∷ l) f v h = absurd (omega arith)
put_two (a ∷ front) l f v h = ap (λ (k : List ℕ). a ∷ k) (put_two front l f v h)

module _ (r : List ℕ) (n : length r ≡ 25) where
  chip-size : length (chip_in r) ≡ 18
  chip-size = simp (length-take, length-drop) (omega arith)

  pub copied-out : (d : List ℕ) {given : List ℕ} (f v : ℕ) → length d ≡ 20 → given ≡ into (chip_in r) d → set (set given 18 f) 19 v ≡ chip_in r ++ (f ∷ v ∷ [])
  unfolding into
  copied-out d f v h e =
      let c : List ℕ = chip_in r in
      let l : length (drop (length c) d) ≡ 2 = simp length-drop (omega (arith, chip-size)) in
      ap (λ (g : List ℕ). set (set g 18 f) 19 v) e
      ∙ ap (λ (k : ℕ). set (set (c ++ drop (length c) d) k f) (suc k) v) (sym chip-size)
      ∙ put_two c (drop (length c) d) f v l

  pub copied-in : (b : List ℕ) {part : List ℕ} → length b ≡ 18 → part ≡ into b (chip_in r) → take 6 r ++ (part ++ drop 18 (drop 6 r)) ≡ with_part r 6 b
  copied-in b {part} h e =
      let p : part ≡ b = e ∙ whole b (chip_in r) (omega (arith, chip-size)) in
      rw p (mid-part r 6 24 b (omega arith))

-- the state among a record's bytes, and another chip record and flag in their places
state-read : (c : Cartridge) → chip_in (record_bytes c) ++ (get_or (record_bytes c) 5 0 ∷ 2 ∷ []) ≡ state_bytes c.chip c.dirty
unfolding record_bytes low_first chip_bytes state_bytes
state-read c = refl

chip-put : (c : Cartridge) (k : ChipRecord) → with_part (record_bytes c) 6 (chip_bytes k) ≡ record_bytes (cart_with c c.dirty k)
unfolding record_bytes low_first chip_bytes with_part
chip-put c k = refl

flag-put : (c : Cartridge) (dirty : Bool) → set (record_bytes c) 5 (bit dirty) ≡ record_bytes (cart_with c dirty c.chip)
unfolding record_bytes low_first
flag-put c dirty = refl

flag-in : (c : Cartridge) → eqb (get_or (record_bytes c) 5 0) 1 ≡ c.dirty
unfolding record_bytes low_first
flag-in c = bit-back c.dirty

-- the flag of a state
flag-from : (c : Cartridge) (b : List ℕ) → set (record_bytes c) 5 (bit (flag_from b (eqb (get_or (record_bytes c) 5 0) 1))) ≡ record_bytes (cart_with c (flag_from b c.dirty) c.chip)
flag-from c b = ap (λ (f : Bool). set (record_bytes c) 5 (bit (flag_from b f))) (flag-in c) ∙ flag-put c (flag_from b c.dirty)

module _ (r : List ℕ) (v : Valid r) where
  pub state-yes : (m place : List ℕ) {given : List ℕ} → given ≡ chip_in r ++ (get_or r 5 0 ∷ 2 ∷ []) → (0, r, m, given) ≡ gives_state r m place
  unfolding questions accepted
  state-yes m place g =
      let b = g ∙ ap (λ (l : List ℕ). chip_in l ++ (get_or l 5 0 ∷ 2 ∷ [])) (sym v.back) ∙ state-read (cart_of r) in
      (λ i. (0, sym v.back i, m, b i)) ∙ ap (state_at place) (done chip_state [] r m [] v (rw v.allowed))

  -- what is asked of the bytes to restore
  module _ (b m : List ℕ) (n : ℕ) (e : n ≡ asked (state_questions b)) where
    pub restore-no : n ≢ 0 → (n, r, m) ≡ restores b r m
    unfolding called restore
    restore-no h = rw (v.yes, v.allowed, ← e, ne_eqb n 0 h) (λ i. (n, sym v.back i, m))

    pub restore-yes : {r' r'' : List ℕ} → n ≡ 0 → are_bytes b ≡ true → r' ≡ with_part r 6 (eighteen_of b) → r'' ≡ set r' 5 (bit (flag_from b (eqb (get_or r' 5 0) 1)))
        → (0, r'', m) ≡ restores b r m
    unfolding called restore
    restore-yes z a g h =
        let q = sym e ∙ z in
        let t = taken b q in
        let k = eighteen-back b a t in
        let c : Cartridge = cart_with (cart_of r) (cart_of r).dirty (chip_of (eighteen_of b)) in
        let p = g ∙ ap₂ (λ (l k : List ℕ). with_part l 6 k) (sym v.back) (sym k) ∙ chip-put (cart_of r) (chip_of (eighteen_of b)) in
        let f = h ∙ ap (λ (l : List ℕ). set l 5 (bit (flag_from b (eqb (get_or l 5 0) 1)))) p ∙ flag-from c b in
        rw (v.yes, v.allowed, q) (λ i. (0, f i, m))
