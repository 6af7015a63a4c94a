-- The serial calls on a valid record's bytes. Assumes nothing.
use mathlib.Core.Path.{◌≡◌, refl, sym, ap, ◌∙◌}
use mathlib.Core.Logic.{◌≢◌}
use mathlib.Core.Bool.{true, false, ◌||◌}
use mathlib.Core.List.{List, [], ◌∷◌}
use Prim.Native.Nat.{ℕ, ◌%◌}
use native.Mathlib.Omega.{arith}
use lib.ListN.{length}
use Rattle.lists.specs.Questions.{Question, ◌else◌, asked}
use Rattle.lists.proofs.Bools.{either}
use Rattle.memory.specs.Memory.{stored, stores, with_count}
use Rattle.memory.proofs.Counts.{none-counted}
use Rattle.counts.specs.Tallies.{Words}
use Rattle.kind.specs.Kind.{memory_size, tally_count, uses_eeprom}
use Rattle.eeprom.specs.declared.Eeprom.{Eeprom}
use Rattle.eeprom.specs.declared.Shifted.{Shifted}
use Rattle.eeprom.specs.declared.Shifted.TheVariants.{More, Full}
use Rattle.eeprom.specs.declared.Drawn.{Drawn}
use Rattle.eeprom.specs.declared.Drawn.TheVariants as drawn
use Rattle.eeprom.specs.declared.EepromStep.{EepromStep}
use Rattle.eeprom.specs.Eeprom.{w_of, count_limit, told, tells6, tells14, begin_dma, dma_question, serial, kept, shift_in, shifted, turned, write_bit, bit_in}
use Rattle.eeprom.specs.Eeprom.{read_bit, drawn_by, drawn_from}
use Rattle.eeprom.proofs.Turns.{by_turn, after-drawn}
use Rattle.cart.specs.Calls.{eeprom_begin_dma, eeprom_write, eeprom_read, question16, questions, accepted}
use Rattle.c_record.specs.RecordBytes.{record_bytes, cart_of, Valid, state_of}
use Rattle.cart.proofs.Bounds.{allowed-bounds}
use Rattle.kind.proofs.Sizes.{whole-stretches}
use Rattle.c_record.specs.Fields.{with_width, with_shift, with_place, with_ended, with_serial}
use Rattle.c_record.specs.AtExit.{plain, value_at, changed_at}
use Rattle.c_record.specs.Calls.{announces, takes_bit, gives_bit}
use Rattle.c_record.proofs.FieldBytes.{serialed, put-width, put-place, put_ended, put-shift, put-serial}
use Rattle.c_record.proofs.Calls.{memory-no, memory-yes, tallies-no, tallies-yes, refused, done}

-- a DMA announcement tells a width and large, and nothing else
tells : (words : ℕ) (e : Eeprom) → told (begin_dma words e).width (begin_dma words e).large e ≡ begin_dma words e
unfolding begin_dma
tells words e =
    let P : Eeprom → Type 0 = λ x. told x.width x.large e ≡ x in
    either P (tells6 words) refl (either P (tells14 words) refl refl)

module _ (r m : List ℕ) (v : Valid r) where
  abbrev e : Eeprom
  e = (cart_of r).chip.eeprom

  pub dma-no : (words : ℕ) → (dma_question words e).yes ≡ false → (5, r, m) ≡ announces words r m
  unfolding questions dma_question
  dma-no words q = ap plain (refused (eeprom_begin_dma words) [] r m [] v 5 (rw (v.allowed, q)) (λ z. omega (arith, z)))

  pub dma-yes : (words : ℕ) (next : Eeprom) {r' : List ℕ} → (dma_question words e).yes ≡ true → next ≡ begin_dma words e
      → r' ≡ with_width r next.width next.large
      → (0, r', m) ≡ announces words r m
  unfolding questions dma_question accepted
  dma-yes words next {r'} q n p =
      let b = p ∙ ap (λ (l : List ℕ). with_width l next.width next.large) (sym v.back) ∙ put-width (cart_of r) next.width next.large
      ∙ ap (λ (x : Eeprom). record_bytes (serialed (cart_of r) (cart_of r).dirty x)) (ap (λ (x : Eeprom). told x.width x.large e) n ∙ tells words e) in
      (λ i. (0, b i, m)) ∙ ap plain (done (eeprom_begin_dma words) [] r m [] v (rw (v.allowed, q)))

  -- the question after 16 of a bit in
  abbrev last : List Question
  last = uses_eeprom (cart_of r).kind else 4 ∷ []

  -- question 3 is answered no
  module _ (n : length m ≢ memory_size (cart_of r).kind) where
    pub write-3 : (ts : List ℕ) (x place : ℕ) → (3, r, m, ts, place) ≡ takes_bit x r m ts place
    unfolding questions
    write-3 ts x place =
        ap (changed_at place) (refused (eeprom_write x) [] r m ts v 3 (memory-no r m ts v (question16 (state_of r m ts) ∷ last) n) (λ z. omega (arith, z)))

    pub read-3 : (place : ℕ) → (3, r, m, place) ≡ gives_bit r m place
    unfolding questions
    read-3 place = ap (value_at place) (refused eeprom_read [] r m [] v 3 (memory-no r m [] v [] n) (λ z. omega (arith, z)))

  -- and yes
  module _ (n : length m ≡ memory_size (cart_of r).kind) where
    pub write-16 : (ts : List ℕ) (x place : ℕ) → length ts ≢ tally_count (cart_of r).kind → (16, r, m, ts, place) ≡ takes_bit x r m ts place
    unfolding questions
    write-16 ts x place h = ap (changed_at place) (refused (eeprom_write x) [] r m ts v 16 (tallies-no r m ts v last n h) (λ z. omega (arith, z)))

    -- and question 16
    module _ (ts : List ℕ) (o : length ts ≡ tally_count (cart_of r).kind) where
      pub write-4 : (x place : ℕ) → uses_eeprom (cart_of r).kind ≡ false → (4, r, m, ts, place) ≡ takes_bit x r m ts place
      unfolding questions
      write-4 x place k =
          let q : 4 ≡ asked last = rw k in
          ap (changed_at place) (refused (eeprom_write x) [] r m ts v 4 (q ∙ tallies-yes r m ts v last n o) (λ z. omega (arith, z)))

      -- what the step t leaves
      written : (x place : ℕ) (t : EepromStep) {k : ℕ} {r' m' ts' : List ℕ} → uses_eeprom (cart_of r).kind ≡ true → t ≡ write_bit e (x % 2)
          → r' ≡ record_bytes (serialed (cart_of r) (stores t.store || (cart_of r).dirty) t.eeprom)
          → (k, m', ts') ≡ with_count m (stored t.store [] m) ts
          → (0, r', m', ts', k) ≡ takes_bit x r m ts place
      unfolding questions accepted bit_in
      written x place t k w p q =
          let y : 0 ≡ asked last = rw k in
          (λ i. (0, p i, (q i).1, (q i).2, (q i).0))
          ∙ rw w (ap (changed_at place) (done (eeprom_write x) [] r m ts v (y ∙ tallies-yes r m ts v last n o)))

      -- a bit that more follow, and one that ends a phase; `chip` is the EEPROM as it was read, w its address bits
      module _ (x place : ℕ) (chip : Eeprom) (w : ℕ) (s : Shifted) (k : uses_eeprom (cart_of r).kind ≡ true) (c : chip ≡ e) (h : w ≡ w_of chip)
          (f : s ≡ shift_in chip.acc chip.count (count_limit chip.phase w) (x % 2)) where
        step : (y : Shifted) → s ≡ y → shifted e (λ acc. turned e acc (x % 2)) y ≡ write_bit e (x % 2)
        step y g =
            ap (shifted e (λ acc. turned e acc (x % 2)))
            (sym g ∙ f ∙ ap (λ (i : ℕ). shift_in chip.acc chip.count (count_limit chip.phase i) (x % 2)) h
            ∙ ap (λ (z : Eeprom). shift_in z.acc z.count (count_limit z.phase (w_of z)) (x % 2)) c)
            ∙ by_turn e (x % 2) (allowed-bounds (cart_of r) v.allowed).limit_ok

        pub write-more : Words ts → (acc count : ℕ) {r' : List ℕ} → s ≡ More acc count → r' ≡ with_shift r count acc → (0, r', m, ts, 0) ≡ takes_bit x r m ts place
        unfolding stored
        write-more u acc count g p =
            written x place (kept (serial e e.phase count e.block e.place acc)) k (step (More acc count) g)
            (p ∙ ap (λ (l : List ℕ). with_shift l count acc) (sym v.back) ∙ put-shift (cart_of r) count acc) (none-counted m ts u)

        pub write-turn : (acc : ℕ) {d : ℕ} {r' m' ts' : List ℕ} → s ≡ Full acc
            → r' ≡ with_serial r (stores (turned chip acc (x % 2)).store) (turned chip acc (x % 2)).eeprom
            → (d, m', ts') ≡ with_count m (stored (turned chip acc (x % 2)).store [] m) ts
            → (0, r', m', ts', d) ≡ takes_bit x r m ts place
        write-turn acc g p q =
            let t = turned e acc (x % 2) in
            written x place t k (step (Full acc) g)
            (p ∙ ap (λ (z : Eeprom). with_serial r (stores (turned z acc (x % 2)).store) (turned z acc (x % 2)).eeprom) c
            ∙ ap (λ (l : List ℕ). with_serial l (stores t.store) t.eeprom) (sym v.back) ∙ put-serial (cart_of r) (stores t.store) t.eeprom)
            (q ∙ ap (λ (z : Eeprom). with_count m (stored (turned z acc (x % 2)).store [] m) ts) c)

    -- a bit out, and what it changes
    module _ (place bit : ℕ) (chip : Eeprom) (d : Drawn) (c : chip ≡ e) (b : bit ≡ read_bit (uses_eeprom (cart_of r).kind) e m)
        (f : d ≡ drawn_by chip.phase chip.place) where
      drew : (y : Drawn) {r' : List ℕ} → d ≡ y → r' ≡ record_bytes (serialed (cart_of r) (cart_of r).dirty (drawn_from e y)) → (0, r', m, bit) ≡ gives_bit r m place
      unfolding questions accepted
      drew y g p =
          let a = ap (drawn_from e) (sym g ∙ f ∙ ap (λ (z : Eeprom). drawn_by z.phase z.place) c) ∙ after-drawn e in
          (λ i. (0, (p ∙ ap (λ (z : Eeprom). record_bytes (serialed (cart_of r) (cart_of r).dirty z)) a) i, m, b i))
          ∙ ap (value_at place) (done eeprom_read [] r m [] v (memory-yes r m [] v [] n))

      pub read-nothing : d ≡ drawn.Nothing → (0, r, m, bit) ≡ gives_bit r m place
      read-nothing g = drew drawn.Nothing g (sym v.back)

      pub read-place : (q : ℕ) {r' : List ℕ} → d ≡ drawn.Place q → r' ≡ with_place r q → (0, r', m, bit) ≡ gives_bit r m place
      read-place q g p = drew (drawn.Place q) g (p ∙ ap (λ (l : List ℕ). with_place l q) (sym v.back) ∙ put-place (cart_of r) q)

      pub read-end : {r' : List ℕ} → d ≡ drawn.Ended → r' ≡ with_ended r → (0, r', m, bit) ≡ gives_bit r m place
      read-end g p = drew drawn.Ended g (p ∙ ap with_ended (sym v.back) ∙ put_ended (cart_of r))

-- what a DMA announcement answers and leaves, by question 5
pub ruleset announcing = (dma-no, dma-yes)

-- what a bit in and a bit out answer and leave
pub ruleset bits_in = (write-3, write-16, write-4, whole-stretches)

pub ruleset bits_out = (read-3, read-nothing, read-end)
