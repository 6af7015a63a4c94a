-- What a record tells in one number. Assumes nothing.
use mathlib.Core.Path.{◌≡◌, sym, ap, ◌∙◌}
use mathlib.Core.Logic.{◌≢◌}
use mathlib.Core.Bool.{false}
use mathlib.Core.List.{List, []}
use Prim.Native.Nat.{ℕ, ◌≤◌}
use native.Mathlib.Omega.{arith}
use lib.ListN.{length, get_or, set}
use borrow.Author.Tests.{eq-eqb, ne_eqb}
use Rattle.lists.specs.Lists.{low_first, bit}
use Rattle.lists.proofs.Bools.{either}
use Rattle.counts.specs.Tallies.{blank, first_in_use, in_use_number}
use Rattle.image.specs.Image.{Answer}
use Rattle.kind.specs.Kind.{tally_count, uses_eeprom, window_start}
use Rattle.cart.specs.declared.Cartridge.{Cartridge}
use Rattle.cart.specs.Calls.{take_save_dirty, questions, accepted, uses_eeprom_of, eeprom_window_start, is_blank, in_use}
use Rattle.c_record.specs.RecordBytes.{record_bytes, cart_of, is_record, Valid}
use Rattle.c_record.specs.AtExit.{flag_at, asked_at}
use Rattle.c_record.specs.Calls.{takes_flag, tells_eeprom, tells_window, tells_blank, tells_in_use}
use Rattle.c_record.proofs.Calls.{done}

pub asked-no : (ask : Cartridge → Answer) (r : List ℕ) (place : ℕ) → is_record r ≡ false → (2, place) ≡ asked_at ask r place
unfolding asked_at
asked-no ask r place h = rw h

module _ (r : List ℕ) (v : Valid r) where
  flag-bit : get_or r 5 0 ≡ bit (cart_of r).dirty
  unfolding record_bytes low_first
  flag-bit = ap (λ (l : List ℕ). get_or l 5 0) (sym v.back)

  pub flag-le : get_or r 5 0 ≤ 1
  flag-le = rw flag-bit (either (λ n. n ≤ 1) (cart_of r).dirty (omega arith) (omega arith))

  pub take-yes : (m : List ℕ) (place : ℕ) → (0, set r 5 0, m, get_or r 5 0) ≡ takes_flag r m place
  unfolding questions accepted record_bytes low_first
  take-yes m place =
      let b = ap (λ (l : List ℕ). set l 5 0) (sym v.back) in
      (λ i. (0, b i, m, flag-bit i)) ∙ ap (flag_at place) (done take_save_dirty [] r m [] v (rw v.allowed))

  pub uses-yes : (place : ℕ) {n : ℕ} → n ≡ bit (uses_eeprom (cart_of r).kind) → (0, n) ≡ tells_eeprom r place
  unfolding asked_at uses_eeprom_of
  uses-yes place e = rw (v.yes, v.allowed) (λ i. (0, e i))

  pub window-yes : (place : ℕ) {n : ℕ} → n ≡ window_start (cart_of r).len → (0, n) ≡ tells_window r place
  unfolding asked_at eeprom_window_start
  window-yes place e = rw (v.yes, v.allowed) (λ i. (0, e i))

  -- question 16 is answered no
  module _ (ts : List ℕ) (place : ℕ) (h : length ts ≢ tally_count (cart_of r).kind) where
    pub blank-16 : (16, place) ≡ tells_blank r ts place
    unfolding asked_at is_blank
    blank-16 = rw (v.yes, v.allowed, ne_eqb (length ts) (tally_count (cart_of r).kind) h)

    pub in-use-16 : (16, place) ≡ tells_in_use r ts place
    unfolding asked_at in_use
    in-use-16 = rw (v.yes, v.allowed, ne_eqb (length ts) (tally_count (cart_of r).kind) h)

  -- and yes
  module _ (ts : List ℕ) (place : ℕ) (h : length ts ≡ tally_count (cart_of r).kind) {n : ℕ} where
    pub blank-yes : n ≡ bit (blank ts) → (0, n) ≡ tells_blank r ts place
    unfolding asked_at is_blank
    blank-yes e = rw (v.yes, v.allowed, eq-eqb (length ts) (tally_count (cart_of r).kind) h) (λ i. (0, e i))

    pub in-use-yes : n ≡ in_use_number (first_in_use ts) → (0, n) ≡ tells_in_use r ts place
    unfolding asked_at in_use
    in-use-yes e = rw (v.yes, v.allowed, eq-eqb (length ts) (tally_count (cart_of r).kind) h) (λ i. (0, e i))
