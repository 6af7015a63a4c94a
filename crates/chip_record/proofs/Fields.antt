-- A chip record's fields, tested one by one. Assumes nothing.
use mathlib.Core.Path.{◌≡◌, refl, sym, ◌∙◌}
use mathlib.Core.Bool.{Bool, true, false, cond, ◌&&◌}
use mathlib.Core.List.{List}
use Prim.Native.Nat.{ℕ, ◌+◌, ◌*◌, ◌/◌, ◌%◌, ◌≤◌, ◌<◌}
use native.Mathlib.Omega.{arith}
use lib.Dec.{ltb, leb, eqb}
use lib.ListN.{length, get_or, drop, length-drop}
use lib.Seq.{take_all}
use borrow.Author.Tests.{ltb-true, leb-true, le-leb}
use Rattle.lists.specs.Lists.{low_first, low_value}
use Rattle.lists.proofs.Bools.{and_left, and_right, bit_le, bit-back}
use Rattle.lists.proofs.Parts.{spelled, spells}
use Rattle.flash.specs.Flash.{state_allowed}
use Rattle.eeprom.specs.Eeprom.{width_allowed, w, w_of, count_limit}
use Rattle.eeprom.proofs.Sound.{limit-64}
use Rattle.eeprom.proofs.Allowed.{w_le}
use Rattle.chip_record.specs.declared.ChipRecord.{ChipRecord}
use Rattle.chip_record.specs.ChipState.{chip_bytes, field_questions, chip_allowed}
use Rattle.chip_record.proofs.ChipState.{phase-le, phase-back}

-- the questions about state, flags, width, places and count, where the count's own limit tells that it is at most 64
numbers : (s b w c k p l : Bool) → (w ≡ true → l ≡ true → c ≡ true)
    → eqb (cond s (cond (b && true && true) (cond w (cond (c && k && p) (cond l 0 12) 11) 10) 9) 8) 0 ≡ s && (b && (w && (k && (p && l))))
numbers false b w c k p l h = refl
numbers true false w c k p l h = refl
numbers true true false c k p l h = refl
numbers true true true true false p l h = refl
numbers true true true true true false l h = refl
numbers true true true true true true false h = refl
numbers true true true true true true true h = refl
numbers true true true false k p true h = let z : ◌≡◌ {A = Bool} false true = h refl refl in cc
numbers true true true false false p false h = refl
numbers true true true false true false false h = refl
numbers true true true false true true false h = refl

pub chip-fields : (c : ChipRecord)
    → chip_allowed c
    ≡ state_allowed c.flash.state
    && (leb c.flash.bank 1
    && (width_allowed c.eeprom.width
    && (leb c.eeprom.block 1023 && (leb c.eeprom.place 67 && ltb c.eeprom.count (count_limit c.eeprom.phase (w_of c.eeprom))))))
unfolding field_questions chip_bytes low_first
chip-fields c =
    let e = c.eeprom in
    let k : e.block % 256 + 256 * (e.block / 256) ≡ e.block = omega arith in
    rw (phase-le e.phase, bit_le c.flash.id, bit_le e.large, phase-back e.phase, bit-back e.large, k)
    (numbers (state_allowed c.flash.state) (leb c.flash.bank 1) (width_allowed e.width) (leb e.count 64) (leb e.block 1023) (leb e.place 67)
    (ltb e.count (count_limit e.phase (w_of e)))
    (λ x y.
    let m = limit-64 e.phase (w_of e) e.count (w_le e.width e.large x) (ltb-true e.count (count_limit e.phase (w_of e)) y) in
    le-leb e.count 64 (omega arith)))

-- bytes 10 to 17 of 18, as two numbers of four bytes
pub acc-value : (b : List ℕ) → length b ≡ 18
    → get_or b 10 0 + 256 * (get_or b 11 0 + 256 * (get_or b 12 0 + 256 * get_or b 13 0))
    + 4294967296 * (get_or b 14 0 + 256 * (get_or b 15 0 + 256 * (get_or b 16 0 + 256 * get_or b 17 0)))
    ≡ low_value (drop 10 b)
unfolding low_value
acc-value b n =
    let l : length (drop 10 b) ≡ 8 = simp length-drop (omega arith) in
    let d : drop 10 b ≡ spelled b 0 10 8 = sym (take_all 8 (drop 10 b) (omega arith)) ∙ spells b 0 8 10 (omega arith) in
    rw d (omega arith)

-- what an allowed record's fields are
pub record Bounds (c : ChipRecord) : Type 0 where
  pub state_ok : state_allowed c.flash.state ≡ true
  pub bank_ok : c.flash.bank ≤ 1
  pub width_ok : width_allowed c.eeprom.width ≡ true
  pub limit_ok : c.eeprom.count < count_limit c.eeprom.phase (w_of c.eeprom)
  pub count_ok : c.eeprom.count < 64
  pub block_ok : c.eeprom.block < 1024
  pub place_ok : c.eeprom.place < 68

pub chip-bounds : (c : ChipRecord) → chip_allowed c ≡ true → Bounds c
chip-bounds c h =
    let e = c.eeprom in
    let l : Bool = ltb e.count (count_limit e.phase (w_of e)) in
    let p : Bool = leb e.place 67 in
    let k : Bool = leb e.block 1023 in
    let w : Bool = width_allowed e.width in
    let b : Bool = leb c.flash.bank 1 in
    let s : Bool = state_allowed c.flash.state in
    let y = sym (chip-fields c) ∙ h in
    let y2 = and_right s (b && (w && (k && (p && l)))) y in
    let y3 = and_right b (w && (k && (p && l))) y2 in
    let t = and_left w (k && (p && l)) y3 in
    let y4 = and_right w (k && (p && l)) y3 in
    let y5 = and_right k (p && l) y4 in
    let m = ltb-true e.count (count_limit e.phase (w_of e)) (and_right p l y5) in
    record {
      state_ok = and_left s (b && (w && (k && (p && l)))) y;
      bank_ok = leb-true c.flash.bank 1 (and_left b (w && (k && (p && l))) y2);
      width_ok = t;
      limit_ok = m;
      count_ok = limit-64 e.phase (w_of e) e.count (w_le e.width e.large t) m;
      block_ok = omega (arith, leb-true e.block 1023 (and_left k (p && l) y4));
      place_ok = omega (arith, leb-true e.place 67 (and_left p l y5));
    }
