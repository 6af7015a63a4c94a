-- Every refusal number of the calls, and answers that no theorem speaks of, computed of the definitions. Assumes nothing.
use mathlib.Core.Path.{◌≡◌, refl}
use mathlib.Core.Bool.{true, false}
use mathlib.Core.List.{List, [], ◌∷◌, ◌++◌}
use Prim.Native.Nat.{ℕ}
use lib.ListN.{replicate}
use Rattle.lists.specs.Lists.{ascii, into, low_first}
use Rattle.counts.specs.Counts.{used}
use Rattle.counts.specs.Tallies.{retally, retallied, blank, first_in_use, none_in_use}
use Rattle.memory.specs.Memory.{erased, stored, filled}
use Rattle.image.specs.Image.{image_length}
use Rattle.kind.specs.declared.SaveType.{SaveType}
use Rattle.kind.specs.declared.SaveType.TheVariants.{None, Flash64, Flash128}
use Rattle.kind.specs.Kind.{begins, stands, detect_save_type}
use Rattle.part.specs.declared.Part.{Part}
use Rattle.part.specs.declared.Part.TheVariants.{Usual, Macronix64, Macronix128}
use Rattle.part.specs.Part.{part_of, part_fits}
use Rattle.file_sizes.specs.SaveFit.{chip_size, eeprom_fit, save_fit, kept_part}
use Rattle.flash.specs.Flash.{state_allowed}
use Rattle.eeprom.specs.Eeprom.{width_allowed, w, read_bit, after_read}
use Rattle.byte_step.specs.ByteStep.{read_byte, write_step}
use Rattle.chip_record.specs.ChipState.{phase_of, chip_bytes, chip_of, field_questions}
use Rattle.chip_record.specs.States.{state_bytes}
use Rattle.cart.specs.Record.{State, refused, record_allowed, fresh_cart, fresh, from_bytes}
use Rattle.cart.specs.Calls.{save_read, save_write, eeprom_write, eeprom_read, load_save, save_data, chip_state, take_save_dirty, chip_with, state_with, read_save, write_save, load, file_of, questions, accepted, step, restore, import_save, uses_eeprom_of, eeprom_window_start, is_blank, in_use}
use Rattle.cart.specs.Stretches.{with_tallies}
use Rattle.cart.specs.Cases.{plain, eeprom, chip, restored}

-- a record whose flash state is 3, a memory of one byte too many, and both
abbrev spoiled : State → State
spoiled s = chip_with s false (record { flash = record { state = 3; bank = 0; id = false }; eeprom = s.cart.chip.eeprom })

abbrev longer : State → State
longer s = state_with s s.cart.dirty s.cart.chip (0 ∷ s.memory)

-- one tally too many
abbrev uncounted : State → State
uncounted s = with_tallies (0 ∷ s.tallies) s

abbrev sram : List ℕ
sram = ascii "SRAM_V" ++ replicate 186 0

abbrev fresh192 : SaveType → Part → State
fresh192 kind part = record { cart = fresh_cart 192 kind part; memory = []; tallies = [] }

record Refusals : Type 0 where
  record2 : ((step chip_state [] (spoiled plain)).refusal ≡ 2) × ((step take_save_dirty [] (spoiled plain)).refusal ≡ 2) × ((restore [] (spoiled plain)).refusal ≡ 2)
  length2 : (step chip_state [] (record { cart = fresh_cart 191 None Usual; memory = []; tallies = [] })).refusal ≡ 2
  memory3 : ((step (save_read 0) [] (longer plain)).refusal ≡ 3) × ((step eeprom_read [] (longer plain)).refusal ≡ 3) × ((step save_data [] (longer plain)).refusal ≡ 3)
  first : (step (save_write 0 0) [] (longer (spoiled plain))).refusal ≡ 2
  open3 : from_bytes sram 0 [] [] ≡ refused 3 (record { cart = fresh_cart 0 None Usual; memory = []; tallies = [] }) []
  kind4 : (step (eeprom_write 0) [] plain).refusal ≡ 4
  state : (restored [] ≡ 6) × (restored (replicate 19 0) ≡ 6) × (restored (chip 9 0 0 0 0) ≡ 8) × (restored (chip 0 2 0 0 0) ≡ 9)
  state2 : (restored (chip 0 0 7 0 0 ++ (2 ∷ 3 ∷ [])) ≡ 17) × (restored (chip 0 0 0 0 0 ++ (2 ∷ 2 ∷ [])) ≡ 18)
  width10 : restored (replicate 3 0 ++ (7 ∷ replicate 14 0)) ≡ 10
  room13 : (step save_data (replicate 511 7) eeprom).refusal ≡ 13
  import14 : (import_save (replicate 513 0) eeprom).refusal ≡ 14
  -- a part of 64 KiB without flash, and one of 128 KiB on Flash64 and on Flash128; a named part without flash, and no part's number
  part2 : ((step chip_state [] (fresh192 None Macronix64)).refusal ≡ 2) × ((step chip_state [] (fresh192 Flash64 Macronix128)).refusal ≡ 2) × ((step chip_state [] (fresh192 Flash128 Macronix128)).refusal ≡ 0)
  part15 : ((from_bytes (replicate 192 0) 1 [] []).refusal ≡ 15) × ((from_bytes (replicate 192 0) 6 [] []).refusal ≡ 15)
  memory_first : (from_bytes sram 6 [] []).refusal ≡ 3
  -- 16 in each call that asks it; after 2 and 3, and before 4, 14 and 15
  tallies16 : ((step (save_write 0 0) [] (uncounted plain)).refusal ≡ 16) × ((step (load_save []) [] (uncounted plain)).refusal ≡ 16)
      × ((is_blank plain.cart (0 ∷ [])).refusal ≡ 16) × ((in_use plain.cart (0 ∷ [])).refusal ≡ 16)
  tallies2 : ((is_blank (spoiled plain).cart (0 ∷ [])).refusal ≡ 2) × ((in_use (spoiled plain).cart (0 ∷ [])).refusal ≡ 2)
  tallies3 : (step (save_write 0 0) [] (uncounted (longer plain))).refusal ≡ 3
  before4 : (step (eeprom_write 0) [] (uncounted plain)).refusal ≡ 16
  before14 : (import_save [] (uncounted plain)).refusal ≡ 16
  before15 : (from_bytes (replicate 192 0) 6 [] (0 ∷ [])).refusal ≡ 16

refusals : Refusals
unfolding low_first erased image_length begins stands detect_save_type part_of part_fits chip_size eeprom_fit save_fit kept_part state_allowed width_allowed w phase_of chip_bytes chip_of field_questions state_bytes record_allowed fresh_cart fresh from_bytes file_of questions accepted step restore import_save is_blank in_use
refusals =
    record {
      record2 = (refl, refl, refl);
      length2 = refl;
      memory3 = (refl, refl, refl);
      first = refl;
      open3 = refl;
      kind4 = refl;
      state = (refl, refl, refl, refl);
      state2 = (refl, refl);
      width10 = refl;
      room13 = refl;
      import14 = refl;
      part2 = (refl, refl, refl);
      part15 = (refl, refl);
      memory_first = refl;
      tallies16 = (refl, refl, refl, refl);
      tallies2 = (refl, refl);
      tallies3 = refl;
      before4 = refl;
      before14 = refl;
      before15 = refl;
    }

abbrev flagged : State
flagged = chip_with plain true plain.cart.chip

-- kind None reads FFh, has no file and is blank; an EEPROM's first stretch in use after a byte write; the file of 512 bytes into a destination of 513; an import with its footer; a byte write to an
-- EEPROM, which sets no flag; the flag taken; Reading on a kind without EEPROM
record Answers : Type 0 where
  none : ((step (save_read 5) [] plain).given ≡ 0xff ∷ []) × ((step save_data (7 ∷ []) plain).given ≡ []) × ((step save_data (7 ∷ []) plain).destination ≡ 7 ∷ [])
  blank : ((is_blank plain.cart []).value ≡ 1) × ((in_use plain.cart []).value ≡ none_in_use)
  stretch : ((is_blank eeprom.cart (step (save_write 8191 9) [] eeprom).next.tallies).value ≡ 0) × ((in_use eeprom.cart (step (save_write 8191 9) [] eeprom).next.tallies).value ≡ 1)
  export : ((step save_data (replicate 513 7) eeprom).given ≡ 512 ∷ []) × ((step save_data (replicate 513 7) eeprom).destination ≡ replicate 512 0xff ++ (7 ∷ []))
  imported : (import_save (replicate 528 1) eeprom).given ≡ 512 ∷ []
  byte : ((step (save_write 8195 9) [] eeprom).next.cart.dirty ≡ false) × ((step (save_read 3) [] (step (save_write 8195 9) [] eeprom).next).given ≡ 9 ∷ [])
  -- a fresh cartridge's state, its flag set; 18 bytes leave the flag, 20 bring it
  state : (step chip_state [] flagged).given ≡ chip 0 0 0 0 0 ++ (1 ∷ 2 ∷ [])
  flag : ((restore (chip 0 0 0 0 0) flagged).next.cart.dirty ≡ true) × ((restore (chip 0 0 0 0 0 ++ (0 ∷ 2 ∷ [])) flagged).next.cart.dirty ≡ false)
  taken : ((step take_save_dirty [] flagged).flag ≡ true) × ((step take_save_dirty [] flagged).next ≡ plain)
  reading : ((step eeprom_read [] (restore (chip 0 0 6 0 0) plain).next).given ≡ 0 ∷ []) × ((step eeprom_read [] (restore (replicate 5 0 ++ (6 ∷ (replicate 3 0 ++ (4 ∷ replicate 8 0)))) plain).next).given ≡ 1 ∷ [])
  window : ((eeprom_window_start (fresh_cart 16777216 None Usual)).value ≡ 0x0d000000) × ((eeprom_window_start (fresh_cart 16777217 None Usual)).value ≡ 0x0dffff00) × ((uses_eeprom_of plain.cart).value ≡ 0) × ((uses_eeprom_of eeprom.cart).value ≡ 1)

answers : Answers
unfolding used retally retallied blank first_in_use into low_first erased stored filled image_length begins stands detect_save_type part_of part_fits chip_size eeprom_fit save_fit kept_part state_allowed width_allowed w read_bit after_read phase_of chip_bytes chip_of field_questions state_bytes record_allowed fresh_cart fresh from_bytes read_byte write_step read_save write_save load file_of questions accepted step restore import_save uses_eeprom_of eeprom_window_start is_blank in_use
answers =
    record {
      none = (refl, refl, refl);
      blank = (refl, refl);
      stretch = (refl, refl);
      export = (refl, refl);
      imported = refl;
      byte = (refl, refl);
      state = refl;
      flag = (refl, refl);
      taken = (refl, refl);
      reading = (refl, refl);
      window = (refl, refl, refl, refl);
    }
