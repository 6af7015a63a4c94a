-- Fields of a chip written among the bytes of a record.
use Rattle.std.specs.Prelude.{Bool, cond, List, ℕ, ◌/◌, ◌%◌, ◌^◌, get_or, set}
use Rattle.flash.specs.declared.Flash.{Flash}
use Rattle.eeprom.specs.declared.Eeprom.{Eeprom}
use Rattle.lists.specs.Lists.{bit}
use Rattle.chip_record.specs.ChipState.{phase_number}
use Rattle.c_record.specs.RecordBytes.{dirty_at}

-- where each field of the chip record is
abbrev pub flash_state_at : ℕ
flash_state_at = 6

abbrev pub bank_at : ℕ
bank_at = 7

abbrev pub id_at : ℕ
id_at = 8

abbrev pub width_at : ℕ
width_at = 9

abbrev pub large_at : ℕ
large_at = 10

abbrev pub phase_at : ℕ
phase_at = 11

abbrev pub count_at : ℕ
count_at = 12

abbrev pub block_at : ℕ
block_at = 13

abbrev pub place_at : ℕ
place_at = 15

-- the changed flag, set or as it is
abbrev pub flag_of : List ℕ → Bool → ℕ
flag_of r sets = cond sets 1 (get_or r dirty_at 0)

-- the flash chip but for its ID mode, with the flag; and the ID mode
abbrev pub with_flash : List ℕ → Bool → Flash → List ℕ
with_flash r sets f = set (set (set r flash_state_at f.state) bank_at f.bank) dirty_at (flag_of r sets)

abbrev pub with_id : List ℕ → Bool → List ℕ
with_id r id = set r id_at (bit id)

-- what a DMA announcement tells
abbrev pub with_width : List ℕ → ℕ → Bool → List ℕ
with_width r width large = set (set r width_at width) large_at (bit large)

abbrev pub with_large : List ℕ → Bool → List ℕ
with_large r large = set r large_at (bit large)

-- acc's eight bytes, low byte first
abbrev pub with_acc : List ℕ → ℕ → List ℕ
with_acc r acc =
    set (set (set (set (set (set (set (set r
    16 (acc % 256)) 17 (acc / 2 ^ 8 % 256)) 18 (acc / 2 ^ 16 % 256)) 19 (acc / 2 ^ 24 % 256))
    20 (acc / 2 ^ 32 % 256)) 21 (acc / 2 ^ 40 % 256)) 22 (acc / 2 ^ 48 % 256)) 23 (acc / 2 ^ 56 % 256)

-- a bit shifted in that more follow
abbrev pub with_shift : List ℕ → ℕ → ℕ → List ℕ
with_shift r count acc = with_acc (set r count_at count) acc

abbrev pub with_place : List ℕ → ℕ → List ℕ
with_place r place = set r place_at place

abbrev pub with_ended : List ℕ → List ℕ
with_ended r = with_acc (set (set (set r phase_at 0) count_at 0) place_at 0) 0

-- the EEPROM after a bit that ends a phase, and the flag
abbrev pub with_serial : List ℕ → Bool → Eeprom → List ℕ
with_serial r sets e =
    set
    (with_acc
    (set (set (set (set (set (set (set r
    width_at e.width) large_at (bit e.large)) phase_at (phase_number e.phase)) count_at e.count)
    block_at (e.block % 256)) 14 (e.block / 256)) place_at e.place)
    e.acc) dirty_at (flag_of r sets)
