-- The quick tests imply question 2. Assumes nothing.
use mathlib.Core.Path.{◌≡◌, refl}
use mathlib.Core.Logic.{◌≢◌}
use mathlib.Core.Bool.{Bool, true, false, cond, ◌&&◌}
use mathlib.Core.List.{List}
use Prim.Native.Nat.{ℕ, ◌+◌, ◌*◌, ◌≤◌, ◌<◌}
use native.Mathlib.Omega.{arith}
use lib.Dec.{leb, eqb}
use lib.ListN.{length, get_or, take}
use borrow.Author.Tests.{le-leb, lt-leb, lt-ltb, eqb-true, eqb-false, ne_eqb}
use Rattle.lists.specs.Lists.{low_value}
use Rattle.lists.specs.Questions.{asked}
use Rattle.lists.proofs.Bools.{split, cases, and_left, and_right}
use Rattle.image.specs.Image.{image_length}
use Rattle.part.specs.declared.Part.TheVariants.{Usual}
use Rattle.part.specs.Part.{part_of, part_fits}
use Rattle.flash.specs.Flash.{state_allowed}
use Rattle.eeprom.specs.declared.EepromPhase.{EepromPhase}
use Rattle.eeprom.specs.declared.EepromPhase.TheVariants.{Opcode, ReadAddress, WriteAddress, WriteData, ReadStop, WriteStop, Reading}
use Rattle.eeprom.specs.Eeprom.{width_allowed, w, count_limit}
use Rattle.eeprom.proofs.Sound.{limit-64}
use Rattle.eeprom.proofs.Allowed.{w_le}
use Rattle.chip_record.specs.ChipState.{phase_of, field_questions}
use Rattle.c_record.specs.RecordBytes.{chip_in, cart_of, is_record}
use Rattle.c_record.proofs.RecordBytes.{chip-at, low-four, valid-record}
use Rattle.quick_tests.specs.QuickTests.{is_known, FlashUsual, FieldsUsual, SerialRests, CountAllowed}

-- kind, part and image length
module _ (r : List ℕ) where
  pub unknown-kind : 5 < get_or r 4 0 → false ≡ is_known r
  unfolding is_known
  unknown-kind k = rw (lt-leb (get_or r 4 0) 5 k)

  pub unusual-part : get_or r 4 0 ≤ 5 → get_or r 24 0 ≢ 0 → false ≡ is_known r
  unfolding is_known
  unusual-part k p = rw (le-leb (get_or r 4 0) 5 k, ne_eqb (get_or r 24 0) 0 p)

  pub usual-part : {b : Bool} → get_or r 4 0 ≤ 5 → get_or r 24 0 ≡ 0 → b ≡ image_length (low_value (take 4 r)) → b ≡ is_known r
  unfolding is_known
  usual-part k p e = rw (le-leb (get_or r 4 0) 5 k, p) e

  zero-part : is_known r ≡ true → get_or r 24 0 ≡ 0
  unfolding is_known
  zero-part h =
      let a : Bool = leb (get_or r 4 0) 5 in
      let p : Bool = eqb (get_or r 24 0) 0 in
      eqb-true (get_or r 24 0) 0 (and_right a p (and_left (a && p) (image_length (low_value (take 4 r))) h))

  pub known_usual : is_known r ≡ true → (cart_of r).part ≡ Usual
  unfolding cart_of part_of
  known_usual h = rw (zero-part h) refl

-- what `known` shows, test by test
pub ruleset knows = (low-four, valid-record, unknown-kind, unusual-part, usual-part)

-- the count
w-positive : (width : ℕ) (large : Bool) → 0 < w width large
unfolding w
w-positive width true = split (λ n. 0 < n) (eqb width 0) (λ e. omega arith) (λ e. let z = eqb-false width 0 e in omega arith)
w-positive width false = split (λ n. 0 < n) (eqb width 0) (λ e. omega arith) (λ e. let z = eqb-false width 0 e in omega arith)

limit-positive : (p : EepromPhase) (n : ℕ) → 0 < n → 0 < count_limit p n
limit-positive Opcode n h = omega arith
limit-positive ReadAddress n h = h
limit-positive WriteAddress n h = h
limit-positive WriteData n h = omega arith
limit-positive ReadStop n h = omega arith
limit-positive WriteStop n h = omega arith
limit-positive Reading n h = omega arith

pub count-zero : (phase count width : ℕ) (large : Bool) → count ≡ 0 → phase ≤ 6 → CountAllowed phase count width large
count-zero phase count width large z p = (p, rw z (limit-positive (phase_of phase) (w width large) (w-positive width large)))

pub count-data : (phase count width : ℕ) (large : Bool) → phase ≡ 3 → count < 64 → CountAllowed phase count width large
unfolding phase_of
count-data phase count width large e l = (omega (arith, e), rw e l)

pub count-opcode : (phase count width : ℕ) (large : Bool) → phase ≡ 0 → count < 2 → CountAllowed phase count width large
unfolding phase_of
count-opcode phase count width large e l = (omega (arith, e), rw e l)

count-address : (phase count width : ℕ) (large : Bool) → phase ≢ 3 → phase ≢ 0 → phase ≤ 3 → count < w width large → CountAllowed phase count width large
unfolding phase_of
count-address phase count width large h z p l = (
  omega arith,
  cases (eqb phase 1) (λ e. rw (ne_eqb phase 0 z, e) l)
      (λ e. let k : phase ≡ 2 = omega (arith, eqb-false phase 1 e, h, z) in rw k l),
)

-- an address has six bits at least, and as many as were told
w-six : (width : ℕ) (large : Bool) → width_allowed width ≡ true → 6 ≤ w width large
unfolding width_allowed w
w-six width large e =
    cases (eqb width 0) (λ z. rw z (least large))
    (λ z. rw z (cases (eqb width 6) (λ s. omega (arith, eqb-true width 6 s)) (λ s. omega (arith, eqb-true width 14 (rw (z, s) at e)))))
  where
    least : (large : Bool) → 6 ≤ cond large 14 6
    least true = omega arith
    least false = omega arith

w-told : (width count : ℕ) (large : Bool) → count < width → count < w width large
unfolding w
w-told width count large l = rw (ne_eqb width 0 (λ z. omega (arith, z, l))) l

module _ (phase count width : ℕ) (large : Bool) (h : phase ≢ 3) (z : phase ≢ 0) (p : phase ≤ 3) where
  pub count-six : width_allowed width ≡ true → count < 6 → CountAllowed phase count width large
  count-six a l = count-address phase count width large h z p (omega (arith, l, w-six width large a))

  pub count-told : count < width → CountAllowed phase count width large
  count-told l = count-address phase count width large h z p (w-told width count large l)

-- the flash chip at rest
pub flash-zero : (r : List ℕ) → get_or r 6 0 ≡ 0 → get_or r 7 0 ≤ 1 → get_or r 8 0 ≤ 1 → FlashUsual r
unfolding state_allowed
flash-zero r s b i = record { state = rw s refl; bank = b; id = i }

-- the chip record, and the whole record
chip-usual : (r : List ℕ) → FieldsUsual r → CountAllowed (get_or r 11 0) (get_or r 12 0) (get_or r 9 0) (eqb (get_or r 10 0) 1) → asked (field_questions (chip_in r)) ≡ 0
unfolding field_questions
chip-usual r f k =
    let l = limit-64 (phase_of (get_or r 11 0)) (w (get_or r 9 0) (eqb (get_or r 10 0) 1)) (get_or r 12 0) (w_le (get_or r 9 0) (eqb (get_or r 10 0) 1) f.width) k.1 in
    rw (chip-at r 0 (omega arith), chip-at r 1 (omega arith), chip-at r 2 (omega arith), chip-at r 3 (omega arith), chip-at r 4 (omega arith), chip-at r 5 (omega arith), chip-at r 6 (omega arith), chip-at r 7 (omega arith), chip-at r 8 (omega arith), chip-at r 9 (omega arith))
    (rw (le-leb (get_or r 11 0) 6 k.0, f.flash.state, le-leb (get_or r 7 0) 1 f.flash.bank, le-leb (get_or r 8 0) 1 f.flash.id, le-leb (get_or r 10 0) 1 f.large, f.width, le-leb (get_or r 12 0) 64 (omega (arith, l)), le-leb (get_or r 13 0 + 256 * get_or r 14 0) 1023 f.block, le-leb (get_or r 15 0) 67 f.place, lt-ltb (get_or r 12 0) _ k.1) refl)

pub usual-record : (r : List ℕ) → FieldsUsual r → CountAllowed (get_or r 11 0) (get_or r 12 0) (get_or r 9 0) (eqb (get_or r 10 0) 1) → is_known r ≡ true → is_record r ≡ true
unfolding is_known is_record part_of part_fits
usual-record r f k h =
    let a : Bool = leb (get_or r 4 0) 5 in
    let p : Bool = eqb (get_or r 24 0) 0 in
    let b : Bool = image_length (low_value (take 4 r)) in
    rw (f.size, and_left a p (and_left (a && p) b h), zero-part r h, le-leb (get_or r 5 0) 1 f.flag, and_right (a && p) b h, chip-usual r f k) refl

-- the serial chip at rest
pub rests-record : (r : List ℕ) → length r ≡ 25 → get_or r 5 0 ≤ 1 → FlashUsual r → SerialRests r → is_known r ≡ true → is_record r ≡ true
unfolding width_allowed
rests-record r n f h s =
    usual-record r
    (record {
      size = n;
      flag = f;
      flash = h;
      width = rw s.width refl;
      large = s.large;
      block = omega (arith, s.block);
      place = omega (arith, s.place);
    })
    (count-zero (get_or r 11 0) (get_or r 12 0) (get_or r 9 0) (eqb (get_or r 10 0) 1) s.count (omega (arith, s.phase)))

-- what the tests of the other fields show
pub ruleset rests = (flash-zero, rests-record, usual-record)
