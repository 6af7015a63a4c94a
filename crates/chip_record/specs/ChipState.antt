-- The chip record as 18 bytes. Document 01, "The records", and questions 7 to 12.
use Rattle.std.specs.Prelude.{Bool, cond, ◌&&◌, List, [], ◌∷◌, ℕ, ◌+◌, ◌*◌, ◌/◌, ◌%◌, ltb, leb, eqb, get_or, drop}
use Rattle.lists.specs.Lists.{bit, low_first, low_value}
use Rattle.lists.specs.Questions.{Question, ◌else◌, asked}
use Rattle.flash.specs.Flash.{state_allowed}
use Rattle.eeprom.specs.declared.EepromPhase.{EepromPhase}
use Rattle.eeprom.specs.declared.EepromPhase.TheVariants.{Opcode, ReadAddress, WriteAddress, WriteData, ReadStop, WriteStop, Reading}
use Rattle.eeprom.specs.Eeprom.{by_phase, width_allowed, w, count_limit}
use Rattle.chip_record.specs.declared.ChipRecord.{ChipRecord}

-- "phase: 0 Opcode, 1 Address of a read, 2 Address of a write, 3 WriteData, 4 ReadStop, 5 WriteStop, 6 Reading"
abbrev pub phase_number : EepromPhase → ℕ
phase_number phase = by_phase phase 0 1 2 3 4 5 6

-- no number above 6 comes past question 7
unfoldable pub phase_of : ℕ → EepromPhase
phase_of n =
    cond (eqb n 0) Opcode
    (cond (eqb n 1) ReadAddress
    (cond (eqb n 2) WriteAddress
    (cond (eqb n 3) WriteData (cond (eqb n 4) ReadStop (cond (eqb n 5) WriteStop Reading)))))

abbrev pub chip_record_size : ℕ
chip_record_size = 18

-- "Chip record, as `chip_state` writes it"
unfoldable pub chip_bytes : ChipRecord → List ℕ
chip_bytes c =
    c.flash.state ∷ c.flash.bank ∷ bit c.flash.id
    ∷ c.eeprom.width ∷ bit c.eeprom.large ∷ phase_number c.eeprom.phase ∷ c.eeprom.count
    ∷ c.eeprom.block % 256 ∷ c.eeprom.block / 256 ∷ c.eeprom.place ∷ low_first 8 c.eeprom.acc

unfoldable pub chip_of : List ℕ → ChipRecord
chip_of b =
    record {
      flash = record { state = get_or b 0 0; bank = get_or b 1 0; id = eqb (get_or b 2 0) 1 };
      eeprom =
          record {
            width = get_or b 3 0;
            large = eqb (get_or b 4 0) 1;
            phase = phase_of (get_or b 5 0);
            count = get_or b 6 0;
            block = get_or b 7 0 + 256 * get_or b 8 0;
            place = get_or b 9 0;
            acc = low_value (drop 10 b);
          };
    }

-- 6: "Phase allowed? 7. Flash state? 8. Bytes 1, 2, 4? 9. Width? 10. Count at most 64, block and read place
-- allowed? 11. Count allowed for its phase? 12.": the fields, whose bytes question 2 asks about as well
unfoldable pub field_questions : List ℕ → List Question
field_questions b =
    leb (get_or b 5 0) 6 else 7
    ∷ state_allowed (get_or b 0 0) else 8
    ∷ (leb (get_or b 1 0) 1 && leb (get_or b 2 0) 1 && leb (get_or b 4 0) 1) else 9
    ∷ width_allowed (get_or b 3 0) else 10
    ∷ (leb (get_or b 6 0) 64 && leb (get_or b 7 0 + 256 * get_or b 8 0) 1023 && leb (get_or b 9 0) 67) else 11
    ∷ ltb (get_or b 6 0) (count_limit (phase_of (get_or b 5 0)) (w (get_or b 3 0) (eqb (get_or b 4 0) 1))) else 12
    ∷ []

-- 2: "each chip field allowed": the fields are such as restore takes
abbrev pub chip_allowed : ChipRecord → Bool
chip_allowed chip = eqb (asked (field_questions (chip_bytes chip))) 0
