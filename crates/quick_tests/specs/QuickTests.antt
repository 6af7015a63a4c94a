-- What quick tests show of a record's bytes, in front of question 2.
use Rattle.std.specs.Prelude.{◌≡◌, Bool, true, ◌&&◌, List, ℕ, ◌+◌, ◌*◌, ◌≤◌, ◌<◌, leb, eqb, length, get_or, take}
use Rattle.lists.specs.Lists.{low_value}
use Rattle.image.specs.Image.{image_length}
use Rattle.flash.specs.Flash.{state_allowed}
use Rattle.eeprom.specs.Eeprom.{width_allowed, w, count_limit}
use Rattle.chip_record.specs.ChipState.{phase_of}
use Rattle.c_record.specs.RecordBytes.{record_size, kind_at, dirty_at, part_at}
use Rattle.c_record.specs.Fields.{flash_state_at, bank_at, id_at, width_at, large_at, phase_at, count_at, block_at, place_at}

-- the usual part fits every kind
unfoldable pub is_known : List ℕ → Bool
is_known r =
    leb (get_or r kind_at 0) 5
    && eqb (get_or r part_at 0) 0
    && image_length (low_value (take 4 r))

pub record FlashUsual (r : List ℕ) : Type 0 where
  pub state : state_allowed (get_or r flash_state_at 0) ≡ true
  pub bank : get_or r bank_at 0 ≤ 1
  pub id : get_or r id_at 0 ≤ 1

-- no width told, and no command begun
pub record SerialRests (r : List ℕ) : Type 0 where
  pub width : get_or r width_at 0 ≡ 0
  pub large : get_or r large_at 0 ≤ 1
  pub phase : get_or r phase_at 0 ≡ 0
  pub count : get_or r count_at 0 ≡ 0
  pub block : get_or r block_at 0 + 256 * get_or r 14 0 ≡ 0
  pub place : get_or r place_at 0 ≡ 0

-- all but phase and count
pub record FieldsUsual (r : List ℕ) : Type 0 where
  pub size : length r ≡ record_size
  pub flag : get_or r dirty_at 0 ≤ 1
  pub flash : FlashUsual r
  pub width : width_allowed (get_or r width_at 0) ≡ true
  pub large : get_or r large_at 0 ≤ 1
  pub block : get_or r block_at 0 + 256 * get_or r 14 0 ≤ 1023
  pub place : get_or r place_at 0 ≤ 67

-- the count is below the limit of its phase
abbrev pub CountAllowed : ℕ → ℕ → ℕ → Bool → Type 0
CountAllowed phase count width large =
    (phase ≤ 6) × (count < count_limit (phase_of phase) (w width large))
