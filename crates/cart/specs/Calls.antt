-- The nine calls, restore and import. Document 01, "Questions at the door" and "The machine".
use Rattle.std.specs.Prelude.{Bool, true, false, cond, ◌&&◌, ◌||◌, List, [], ◌∷◌, ℕ, ltb, leb, length, take}
use Rattle.std.proofs.Math.Option.{Option, none, some}
use Rattle.lists.specs.Lists.{into, bit}
use Rattle.lists.specs.Questions.{Question, ◌else◌}
use Rattle.counts.specs.Tallies.{retallied, blank, first_in_use, in_use_number}
use Rattle.memory.specs.declared.Store.TheVariants.{File}
use Rattle.memory.specs.Memory.{Held, changed}
use Rattle.image.specs.Image.{Answer}
use Rattle.image.specs.Image.{answered}
use Rattle.kind.specs.declared.SaveType.{SaveType}
use Rattle.kind.specs.declared.SaveType.TheVariants.{None, Sram, Flash64, Flash128, Eeprom512, Eeprom8k}
use Rattle.kind.specs.Kind.{uses_eeprom, window_start}
use Rattle.file_sizes.specs.SaveFit.{save_fit, taken, kept_part}
use Rattle.flash.specs.declared.Flash.{Flash}
use Rattle.byte_step.specs.ByteStep.{read_byte, after_write}
use Rattle.eeprom.specs.declared.Eeprom.{Eeprom}
use Rattle.eeprom.specs.Eeprom.{told, begin_dma, dma_question, bit_in, read_bit, after_read}
use Rattle.chip_record.specs.declared.ChipRecord.{ChipRecord}
use Rattle.cart.specs.declared.Cartridge.{Cartridge}
use Rattle.chip_record.specs.ChipState.{chip_of}
use Rattle.chip_record.specs.States.{state_bytes, eighteen_of, flag_from, state_questions}
use Rattle.cart.specs.Record.{State, Outcome, guarded, outcome, outcome_of, counted}
use Rattle.cart.specs.Record.{record_question, memory_question, tally_question}

-- "nine calls: byte read, byte write, DMA, bit in, bit out, load, export, `chip_state`, `take_save_dirty`"
pub data Call : Type 0 where
  save_read : ℕ → Call
  save_write : ℕ → ℕ → Call
  eeprom_begin_dma : ℕ → Call
  eeprom_write : ℕ → Call
  eeprom_read : Call
  load_save : List ℕ → Call
  save_data : Call
  chip_state : Call
  take_save_dirty : Call

-- the state s with another flag and chip record
abbrev pub chip_with : State → Bool → ChipRecord → State
chip_with s dirty chip =
    record {
      cart = record { len = s.cart.len; kind = s.cart.kind; part = s.cart.part; dirty = dirty; chip = chip };
      memory = s.memory;
      tallies = s.tallies;
    }

-- and with another memory; 02, ticket 4: "a store adds its change" to the tallies
abbrev pub state_with : State → Bool → ChipRecord → List ℕ → State
state_with s dirty chip memory =
    record {
      cart = (chip_with s dirty chip).cart;
      memory = memory;
      tallies = retallied s.memory memory s.tallies;
    }

-- each chip with the memory and the flag, and the state after a step of it
abbrev pub flash_of : State → Held Flash
flash_of s = record { chip = s.cart.chip.flash; memory = s.memory; dirty = s.cart.dirty }

abbrev pub with_flash : State → Held Flash → State
with_flash s x = state_with s x.dirty (record { flash = x.chip; eeprom = s.cart.chip.eeprom }) x.memory

abbrev pub eeprom_of : State → Held Eeprom
eeprom_of s = record { chip = s.cart.chip.eeprom; memory = s.memory; dirty = s.cart.dirty }

abbrev pub with_eeprom : State → Held Eeprom → State
with_eeprom s x = state_with s x.dirty (record { flash = s.cart.chip.flash; eeprom = x.chip }) x.memory

abbrev pub with_chip : State → Eeprom → State
with_chip s e = chip_with s s.cart.dirty (record { flash = s.cart.chip.flash; eeprom = e })

-- Bytes (`save_read`, `save_write`), by the kind
unfoldable pub read_save : SaveType → State → ℕ → ℕ
read_save kind s a = read_byte kind s.cart.part s.cart.chip.flash s.memory a

unfoldable pub write_save : SaveType → State → ℕ → ℕ → State
write_save kind s a v = with_flash s (after_write kind (flash_of s) a v)

-- Files (`load_save`): "memory FFh, then the file's first bytes; longer than 512 on EEPROM sets large; None ignores
-- it. The flag stays."
abbrev pub large_after : SaveType → Bool → ℕ → Bool
large_after kind large file_length = large || uses_eeprom kind && ltb 512 file_length

unfoldable pub load : State → List ℕ → State
load s f =
    let e = s.cart.chip.eeprom in
    let large = large_after s.cart.kind e.large (length f) in
    with_eeprom s (changed (told e.width large e) File f false (eeprom_of s))

-- (`save_data`): "the memory; EEPROM kinds the first 512 bytes unless large; None answers no file"
abbrev pub eeprom_file : State → List ℕ
eeprom_file s = take (cond s.cart.chip.eeprom.large 8192 512) s.memory

unfoldable pub file_of : SaveType → State → Option (List ℕ)
file_of None s = none
file_of Sram s = some s.memory
file_of Flash64 s = some s.memory
file_of Flash128 s = some s.memory
file_of Eeprom512 s = some (eeprom_file s)
file_of Eeprom8k s = some (eeprom_file s)

-- 13: "Does the destination hold the output? .. Not put to kind None at export."
abbrev pub holds : Option (List ℕ) → List ℕ → Bool
holds none d = true
holds (some f) d = leb (length f) (length d)

abbrev pub exported : Option (List ℕ) → List ℕ → State → Outcome
exported none d s = outcome [] s d
exported (some f) d s = outcome (length f ∷ []) s (into f d)

-- which questions each call asks, in their order; the call is passed the destination d
abbrev pub question2 : State → Question
question2 s = record_question s.cart

abbrev pub question3 : State → Question
question3 s = memory_question s.cart.kind s.memory

abbrev pub question16 : State → Question
question16 s = tally_question s.cart.kind s.tallies

unfoldable pub questions : Call → List ℕ → State → List Question
questions (save_read a) d s = question2 s ∷ question3 s ∷ []
questions (save_write a v) d s = question2 s ∷ question3 s ∷ question16 s ∷ []
questions (eeprom_begin_dma words) d s = question2 s ∷ dma_question words s.cart.chip.eeprom ∷ []
questions (eeprom_write v) d s = question2 s ∷ question3 s ∷ question16 s ∷ uses_eeprom s.cart.kind else 4 ∷ []
questions eeprom_read d s = question2 s ∷ question3 s ∷ []
questions (load_save f) d s = question2 s ∷ question3 s ∷ question16 s ∷ []
questions save_data d s = question2 s ∷ question3 s ∷ holds (file_of s.cart.kind s) d else 13 ∷ []
questions chip_state d s = question2 s ∷ []
questions take_save_dirty d s = question2 s ∷ []

-- what a call does where no question is answered no; "`take_save_dirty` answers the flag and clears it"
unfoldable pub accepted : Call → List ℕ → State → Outcome
accepted (save_read a) d s = outcome (read_save s.cart.kind s a ∷ []) s d
accepted (save_write a v) d s = outcome [] (write_save s.cart.kind s a v) d
accepted (eeprom_begin_dma words) d s =
    outcome [] (with_chip s (begin_dma words s.cart.chip.eeprom)) d
accepted (eeprom_write v) d s = outcome [] (with_eeprom s (bit_in (eeprom_of s) v)) d
accepted eeprom_read d s =
    outcome (read_bit (uses_eeprom s.cart.kind) s.cart.chip.eeprom s.memory ∷ [])
    (with_chip s (after_read s.cart.chip.eeprom)) d
accepted (load_save f) d s = outcome [] (load s f) d
accepted save_data d s = exported (file_of s.cart.kind s) d s
accepted chip_state d s = outcome (state_bytes s.cart.chip s.cart.dirty) s d
accepted take_save_dirty d s =
    outcome_of 0 [] s.cart.dirty 0 (chip_with s false s.cart.chip) d

-- a call of the nine, with the number of places that it changed
unfoldable pub step : Call → List ℕ → State → Outcome
step c d s = guarded (questions c d s) d s (counted s (accepted c d s))

-- "Restore replaces the chip record alone." 02, ticket 5: with layout 2 the flag too
abbrev pub restore_questions : List ℕ → State → List Question
restore_questions b s = question2 s ∷ state_questions b

unfoldable pub restore : List ℕ → State → Outcome
restore b s =
    guarded (restore_questions b s) [] s
    (outcome [] (chip_with s (flag_from b s.cart.dirty) (chip_of (eighteen_of b))) [])

-- 14: "is the file's length one that `save_fit` takes for the record's kind?"; "import itself loads that part and
-- answers its length"
abbrev pub import_questions : List ℕ → State → List Question
import_questions f s =
    question2 s ∷ question3 s ∷ question16 s ∷ taken (save_fit s.cart.kind (length f)) else 14 ∷ []

unfoldable pub import_save : List ℕ → State → Outcome
import_save f s =
    let part = kept_part s.cart.kind f in
    guarded (import_questions f s) [] s (counted s (outcome (length part ∷ []) (load s part) []))

-- `uses_eeprom`, `eeprom_window_start`
unfoldable pub uses_eeprom_of : Cartridge → Answer
uses_eeprom_of c = answered (record_question c ∷ []) (bit (uses_eeprom c.kind))

unfoldable pub eeprom_window_start : Cartridge → Answer
eeprom_window_start c = answered (record_question c ∷ []) (window_start c.len)

-- 02, ticket 4: "Is it blank" and "the first stretch in use", or that there is none, "come from tallies alone"
abbrev pub tally_questions : Cartridge → List ℕ → List Question
tally_questions c tallies = record_question c ∷ tally_question c.kind tallies ∷ []

unfoldable pub is_blank : Cartridge → List ℕ → Answer
is_blank c tallies = answered (tally_questions c tallies) (bit (blank tallies))

unfoldable pub in_use : Cartridge → List ℕ → Answer
in_use c tallies = answered (tally_questions c tallies) (in_use_number (first_in_use tallies))
