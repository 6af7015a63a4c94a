-- The 18 bytes and the chip record give each other back. Assumes nothing.
use mathlib.Core.Path.{◌≡◌, refl, sym, ◌∙◌}
use mathlib.Core.Bool.{Bool, true, ◌&&◌}
use mathlib.Core.List.{List}
use Prim.Native.Nat.{ℕ, ◌+◌, ◌*◌, ◌/◌, ◌%◌, ◌^◌, ◌<◌}
use native.Mathlib.Omega.{arith}
use lib.Dec.{leb, eqb}
use lib.ListN.{length, get_or, drop, length-drop}
use lib.Pow.{are_bytes}
use lib.Seq.{take_all}
use borrow.Author.Tests.{leb-true, eqb-true, eqb-false, le-leb, lt-ltb}
use Rattle.lists.specs.Lists.{low_first, low_value}
use Rattle.lists.specs.Questions.{asked}
use Rattle.lists.proofs.Bools.{split, and_left, and_right, bit_le, bit-back, bit-forth}
use Rattle.lists.proofs.Questions.{all_yes, yes-all}
use Rattle.lists.proofs.Digits.{low-back, low-forth, byte-lt, bytes_drop}
use Rattle.lists.proofs.Parts.{spelled, spells}
use Rattle.flash.proofs.Sound.{Sound as FlashSound}
use Rattle.eeprom.specs.declared.EepromPhase.{EepromPhase}
use Rattle.eeprom.specs.declared.EepromPhase.TheVariants.{Opcode, ReadAddress, WriteAddress, WriteData, ReadStop, WriteStop, Reading}
use Rattle.eeprom.specs.Eeprom.{by_phase, w_of, count_limit}
use Rattle.eeprom.proofs.Sound.{Sound as EepromSound, block-1024, count-64}
use Rattle.chip_record.specs.declared.ChipRecord.{ChipRecord}
use Rattle.chip_record.specs.ChipState.{phase_number, phase_of, chip_bytes, chip_of, field_questions}

pub phase-le : (p : EepromPhase) → leb (phase_number p) 6 ≡ true
phase-le Opcode = refl
phase-le ReadAddress = refl
phase-le WriteAddress = refl
phase-le WriteData = refl
phase-le ReadStop = refl
phase-le WriteStop = refl
phase-le Reading = refl

pub phase-back : (p : EepromPhase) → phase_of (phase_number p) ≡ p
unfolding phase_of
phase-back Opcode = refl
phase-back ReadAddress = refl
phase-back WriteAddress = refl
phase-back WriteData = refl
phase-back ReadStop = refl
phase-back WriteStop = refl
phase-back Reading = refl

-- a chip that a run from a fresh one can reach is allowed
pub chip-allowed : (c : ChipRecord) → FlashSound c.flash → EepromSound c.eeprom → asked (field_questions (chip_bytes c)) ≡ 0
unfolding field_questions chip_bytes low_first low_value
chip-allowed c f s =
    let e = c.eeprom in
    let o = s.serial_ok in
    let n = count-64 e s in
    let k = block-1024 e.large e.block o.block_ok in
    let r = o.place_ok in
    all_yes (field_questions (chip_bytes c)) (
      phase-le e.phase,
      (
        f.state_ok,
        (
          rw (le-leb c.flash.bank 1 f.bank_ok, bit_le c.flash.id, bit_le e.large),
          (
            s.width_ok,
            (
              rw (le-leb e.count 64 (omega arith), le-leb e.place 67 (omega arith), le-leb (e.block % 256 + 256 * (e.block / 256)) 1023 (omega arith)),
              (
                rw (phase-back e.phase, bit-back e.large) (lt-ltb e.count (count_limit e.phase (w_of e)) o.count_ok),
                tt,
              ),
            ),
          ),
        ),
      ),
    )

-- a record's own bytes are 18
pub own-size : (c : ChipRecord) → length (chip_bytes c) ≡ 18
unfolding chip_bytes low_first
own-size c = refl

-- what restore takes a record's 18 bytes for
pub chip-back : (c : ChipRecord) → c.eeprom.acc < 2 ^ 64 → chip_of (chip_bytes c) ≡ c
unfolding chip_of chip_bytes low_first
chip-back c a =
    let e = c.eeprom in
    let k : e.block % 256 + 256 * (e.block / 256) ≡ e.block = omega arith in
    λ i.
    record {
      flash = record { state = c.flash.state; bank = c.flash.bank; id = bit-back c.flash.id i };
      eeprom =
          record {
            width = e.width;
            large = bit-back e.large i;
            phase = phase-back e.phase i;
            count = e.count;
            block = k i;
            place = e.place;
            acc = low-back 8 e.acc a i;
          };
    }

phase-forth : (n : ℕ) → leb n 6 ≡ true → phase_number (phase_of n) ≡ n
unfolding phase_of
phase-forth n h =
    let P : EepromPhase → Type 0 = λ p. by_phase p 0 1 2 3 4 5 6 ≡ n in
    split P (eqb n 0) (λ e. sym (eqb-true n 0 e))
    (λ e0. split P (eqb n 1) (λ e. sym (eqb-true n 1 e))
    (λ e1. split P (eqb n 2) (λ e. sym (eqb-true n 2 e))
    (λ e2. split P (eqb n 3) (λ e. sym (eqb-true n 3 e))
    (λ e3. split P (eqb n 4) (λ e. sym (eqb-true n 4 e))
    (λ e4. split P (eqb n 5) (λ e. sym (eqb-true n 5 e))
    (λ e5.
    omega (arith, leb-true n 6 h, eqb-false n 0 e0, eqb-false n 1 e1, eqb-false n 2 e2, eqb-false n 3 e3, eqb-false n 4 e4, eqb-false n 5 e5)))))))

-- bytes that restore accepts are written back unchanged
pub bytes_back : (b : List ℕ) → are_bytes b ≡ true → length b ≡ 18 → asked (field_questions b) ≡ 0 → chip_bytes (chip_of b) ≡ b
unfolding chip_of chip_bytes field_questions
bytes_back b h n q =
    let a = yes-all (field_questions b) refl q in
    let f1 : Bool = leb (get_or b 1 0) 1 in
    let f2 : Bool = leb (get_or b 2 0) 1 in
    let flags = a.1.1.0 in
    let l : length (drop 10 b) ≡ 8 = simp length-drop (omega arith) in
    let d10 : drop 10 b ≡ spelled b 0 10 8 = sym (take_all 8 (drop 10 b) (omega arith)) ∙ spells b 0 8 10 (omega arith) in
    let b7 : get_or b 7 0 < 256 = byte-lt b 7 h in
    let lo : (get_or b 7 0 + 256 * get_or b 8 0) % 256 ≡ get_or b 7 0 = omega arith in
    let hi : (get_or b 7 0 + 256 * get_or b 8 0) / 256 ≡ get_or b 8 0 = omega arith in
    let c : low_first 8 (low_value (drop 10 b)) ≡ drop 10 b = low-forth 8 (drop 10 b) l (bytes_drop 10 b h) in
    rw (
      bit-forth (get_or b 2 0) (and_right f1 f2 (and_left (f1 && f2) (leb (get_or b 4 0) 1) flags)),
      bit-forth (get_or b 4 0) (and_right (f1 && f2) (leb (get_or b 4 0) 1) flags),
      phase-forth (get_or b 5 0) a.0,
      lo,
      hi,
      c,
      d10,
    )
    (sym (spells b 0 18 0 (omega arith)) ∙ take_all 18 b (omega arith))
