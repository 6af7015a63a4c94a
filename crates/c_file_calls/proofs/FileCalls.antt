-- The file calls on a valid record's bytes. Assumes nothing.
use mathlib.Core.Path.{◌≡◌, refl, sym, ap, ◌∙◌}
use mathlib.Core.Logic.{◌≢◌}
use mathlib.Core.Bool.{Bool, true, false, cond}
use mathlib.Core.List.{List, [], ◌∷◌}
use mathlib.Core.Option.{Option, none, some}
use Prim.Native.Nat.{ℕ, ◌≤◌, ◌<◌}
use native.Mathlib.Omega.{arith}
use lib.Dec.{eqb, leb}
use lib.ListN.{length, get_or, take}
use borrow.Author.Tests.{eq-eqb, ne_eqb, le-leb, lt-leb}
use Rattle.lists.specs.Lists.{into}
use Rattle.lists.specs.Questions.{◌else◌, asked}
use Rattle.memory.specs.declared.Store.TheVariants.{File}
use Rattle.memory.specs.Memory.{stored, with_count}
use Rattle.kind.specs.Kind.{memory_size, tally_count}
use Rattle.file_sizes.specs.SaveFit.{save_fit, taken, kept_part}
use Rattle.cart.specs.Replies.{Reply}
use Rattle.chip_record.specs.ChipState.{chip_of}
use Rattle.cart.specs.Record.{State, counted}
use Rattle.cart.specs.Calls.{load_save, save_data, large_after, load, file_of, exported, question16, questions, accepted, import_save}
use Rattle.cart.specs.Replies.{export_replied}
use Rattle.file_calls.specs.Files.{file_length}
use Rattle.file_calls.proofs.Exports.{holds-is, exported-is}
use Rattle.c_record.specs.RecordBytes.{record_bytes, cart_of, Valid, state_of}
use Rattle.c_record.specs.Fields.{with_large}
use Rattle.c_record.specs.AtExit.{left, called, changed_at, export_at}
use Rattle.c_record.specs.Calls.{loads, exports, imports}
use Rattle.c_record.proofs.RecordBytes.{chip-at}
use Rattle.c_record.proofs.FieldBytes.{put-large}
use Rattle.c_record.proofs.Calls.{memory-no, tallies-no, tallies-yes, refused, done}

-- `large`, by its byte
pub large-read : (r : List ℕ) → eqb (get_or r 10 0) 1 ≡ (cart_of r).chip.eeprom.large
unfolding cart_of chip_of
large-read r = ap (λ (n : ℕ). eqb n 1) (sym (chip-at r 4 (omega arith)))

-- an export leaves the record and the memory
exported-at : (f : Option (List ℕ)) (d : List ℕ) (s : State) (place : ℕ)
    → let x = export_replied (exported f d s) in
    (0, record_bytes s.cart, s.memory, x.1, x.0.value) ≡ export_at place (left (exported f d s))
exported-at none d s place = refl
exported-at (some f) d s place = refl

-- what an accepted load leaves and answers
abbrev loaded : List ℕ → List ℕ → List ℕ → List ℕ → ℕ × List ℕ × List ℕ × List ℕ × ℕ
loaded f r m ts = changed_at 0 (left (counted (state_of r m ts) (accepted (load_save f) [] (state_of r m ts))))

module _ (r m : List ℕ) (v : Valid r) where
  pub load-valid : (f ts : List ℕ) (large : Bool) {n : ℕ} {r' m' ts' : List ℕ}
      → large ≡ large_after (cart_of r).kind (cart_of r).chip.eeprom.large (length f)
      → r' ≡ with_large r large
      → (n, m', ts') ≡ with_count m (stored File f m) ts
      → (0, r', m', ts', n) ≡ loaded f r m ts
  unfolding accepted load
  load-valid f ts large e p q =
      let b = p ∙ ap (λ (l : List ℕ). with_large l large) (sym v.back) ∙ put-large (cart_of r) large in
      (λ i. (0, b i, (q i).1, (q i).2, (q i).0)) ∙ rw e

  -- question 3 is answered no
  module _ (n : length m ≢ memory_size (cart_of r).kind) where
    pub load-no : (f ts : List ℕ) (place : ℕ) → (3, r, m, ts, place) ≡ loads f r m ts place
    unfolding questions
    load-no f ts place =
        ap (changed_at place) (refused (load_save f) [] r m ts v 3 (memory-no r m ts v (question16 (state_of r m ts) ∷ []) n) (λ z. omega (arith, z)))

    pub export-no : (d : List ℕ) (place : ℕ) → (3, r, m, d, place) ≡ exports d r m place
    unfolding questions
    export-no d place =
        ap (export_at place)
        (refused save_data d r m [] v 3 (rw (v.allowed, ne_eqb (length m) (memory_size (cart_of r).kind) n)) (λ z. omega (arith, z)))

    pub import-no : (f ts : List ℕ) (kept place : ℕ) → (3, r, m, ts, kept, place) ≡ imports f r m ts kept place
    unfolding called import_save
    import-no f ts kept place =
        rw (v.yes, v.allowed, ne_eqb (length m) (memory_size (cart_of r).kind) n) (λ i. (3, sym v.back i, m, ts, kept, place))

  -- and yes
  module _ (n : length m ≡ memory_size (cart_of r).kind) where
    -- the file that is exported has k bytes
    module _ (d : List ℕ) (place k : ℕ) (e : k ≡ file_length (cart_of r).kind (cart_of r).chip.eeprom.large) where
      room : cond (leb k (length d)) 0 13 ≡ asked (questions save_data d (state_of r m []))
      unfolding questions
      room =
          rw (v.allowed, eq-eqb (length m) (memory_size (cart_of r).kind) n, holds-is (state_of r m []) d (cart_of r).kind n, ← e)

      pub no_room : length d < k → (13, r, m, d, place) ≡ exports d r m place
      no_room l = ap (export_at place) (refused save_data d r m [] v 13 (rw (lt-leb k (length d) l) at room) (λ z. omega (arith, z)))

      pub export-yes : {d' : List ℕ} → k ≤ length d → d' ≡ into (take k m) d → (0, r, m, d', k) ≡ exports d r m place
      unfolding accepted
      export-yes l w =
          let s = state_of r m [] in
          (λ i. (0, sym v.back i, m, w i, k))
          ∙ ap (λ (k : ℕ). (0, record_bytes (cart_of r), m, into (take k m) d, k)) e
          ∙ ap (λ (x : Reply × List ℕ). (0, record_bytes (cart_of r), m, x.1, x.0.value)) (sym (exported-is s d (cart_of r).kind n))
          ∙ exported-at (file_of (cart_of r).kind s) d s place
          ∙ ap (export_at place) (done save_data d r m [] v (rw (le-leb k (length d) l) at room))

    -- question 16 is answered no
    module _ (ts : List ℕ) (h : length ts ≢ tally_count (cart_of r).kind) where
      pub load-16 : (f : List ℕ) (place : ℕ) → (16, r, m, ts, place) ≡ loads f r m ts place
      unfolding questions
      load-16 f place = ap (changed_at place) (refused (load_save f) [] r m ts v 16 (tallies-no r m ts v [] n h) (λ z. omega (arith, z)))

      pub import-16 : (f : List ℕ) (kept place : ℕ) → (16, r, m, ts, kept, place) ≡ imports f r m ts kept place
      unfolding called import_save
      import-16 f kept place =
          rw (v.yes, ← tallies-no r m ts v (taken (save_fit (cart_of r).kind (length f)) else 14 ∷ []) n h) (λ i. (16, sym v.back i, m, ts, kept, place))

    -- and yes
    module _ (ts : List ℕ) (h : length ts ≡ tally_count (cart_of r).kind) where
      pub load-yes : (f : List ℕ) (place : ℕ) → loaded f r m ts ≡ loads f r m ts place
      unfolding questions accepted
      load-yes f place = ap (changed_at place) (done (load_save f) [] r m ts v (tallies-yes r m ts v [] n h))

      pub no-fit : (f : List ℕ) (kept place : ℕ) → taken (save_fit (cart_of r).kind (length f)) ≡ false
          → (14, r, m, ts, kept, place) ≡ imports f r m ts kept place
      unfolding called import_save
      no-fit f kept place t =
          rw (v.yes, ← tallies-yes r m ts v (taken (save_fit (cart_of r).kind (length f)) else 14 ∷ []) n h, t) (λ i. (14, sym v.back i, m, ts, kept, place))

      -- the part of the file that is kept is loaded
      pub import-yes : (f part : List ℕ) (kept place : ℕ) {k : ℕ} {r' m' ts' : List ℕ}
          → taken (save_fit (cart_of r).kind (length f)) ≡ true
          → part ≡ kept_part (cart_of r).kind f
          → ◌≡◌ {A = ℕ × List ℕ × List ℕ × List ℕ × ℕ} (0, r', m', ts', k) (loaded part r m ts)
          → (0, r', m', ts', length part, k) ≡ imports f r m ts kept place
      unfolding called import_save accepted
      import-yes f part kept place t p e =
          rw (v.yes, ← tallies-yes r m ts v (taken (save_fit (cart_of r).kind (length f)) else 14 ∷ []) n h, t, ← p)
          (λ i. (0, (e i).1, (e i).2, (e i).3, length part, (e i).4))
