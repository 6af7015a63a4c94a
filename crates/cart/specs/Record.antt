-- The cartridge record and its opening. Document 01, "The records", questions 2 and 3, and "The machine", Open.
use Rattle.std.specs.Prelude.{Bool, false, true, cond, ◌&&◌, List, [], ◌∷◌, ℕ, eqb, length, replicate}
use Rattle.lists.specs.Questions.{Question, ◌else◌, asked}
use Rattle.counts.specs.Counts.{differing}
use Rattle.memory.specs.Memory.{erased}
use Rattle.image.specs.Image.{image_length, image_question}
use Rattle.kind.specs.declared.SaveType.{SaveType}
use Rattle.kind.specs.declared.SaveType.TheVariants.{None}
use Rattle.kind.specs.Kind.{by_kind, memory_size, tally_count, detect_save_type}
use Rattle.part.specs.declared.Part.{Part}
use Rattle.part.specs.declared.Part.TheVariants.{Usual}
use Rattle.part.specs.Part.{part_of, part_fits, number_fits}
use Rattle.eeprom.specs.declared.EepromPhase.TheVariants.{Opcode}
use Rattle.chip_record.specs.declared.ChipRecord.{ChipRecord}
use Rattle.cart.specs.declared.Cartridge.{Cartridge}
use Rattle.chip_record.specs.ChipState.{chip_allowed}

-- a cartridge record with the memory and the tallies that are passed with it
pub record State : Type 0 where
  pub cart : Cartridge
  pub memory : List ℕ
  pub tallies : List ℕ

-- what a call returns and leaves: the number of a refusal or 0, the numbers that it answers, the answer of
-- `take_save_dirty`, how many places of the memory it changed, record, memory and tallies, and the destination that it
-- was passed
pub record Outcome : Type 0 where
  pub refusal : ℕ
  pub given : List ℕ
  pub flag : Bool
  pub changed : ℕ
  pub next : State
  pub destination : List ℕ

-- every outcome is made here
abbrev pub outcome_of : ℕ → List ℕ → Bool → ℕ → State → List ℕ → Outcome
outcome_of refusal given flag changed s d =
    record { refusal = refusal; given = given; flag = flag; changed = changed; next = s; destination = d }

abbrev pub outcome : List ℕ → State → List ℕ → Outcome
outcome given s d = outcome_of 0 given false 0 s d

-- "A no returns the number, the record as given, all buffers unchanged"
abbrev pub refused : ℕ → State → List ℕ → Outcome
refused number s d = outcome_of number [] false 0 s d

-- 02, ticket 2: "Every store .. also answers the number of memory places whose value differs from before."
abbrev pub counted : State → Outcome → Outcome
counted s o =
    outcome_of o.refusal o.given o.flag (differing s.memory o.next.memory) o.next o.destination

abbrev pub guarded : List Question → List ℕ → State → Outcome → Outcome
guarded qs d s o = cond (eqb (asked qs) 0) o (refused (asked qs) s d)

-- 2: "Is the record's image length in that range and each chip field allowed?" 02, ticket 1: "A record whose named part
-- does not have its kind's size is a no at question 2."
unfoldable pub record_allowed : Cartridge → Bool
record_allowed c = image_length c.len && part_fits c.part c.kind && chip_allowed c.chip

abbrev pub record_question : Cartridge → Question
record_question c = record_allowed c else 2

-- 3: "Has the save memory its kind's length?"
abbrev pub memory_question : SaveType → List ℕ → Question
memory_question kind memory = eqb (length memory) (memory_size kind) else 3

-- 02, ticket 4: "16 when the lent tallies are not as many as the kind has, asked after 3"
abbrev pub tally_question : SaveType → List ℕ → Question
tally_question kind tallies = eqb (length tallies) (tally_count kind) else 16

-- what 2 and 3 answer for a memory of n bytes, and what 2, 3 and 16 answer for k tallies besides
abbrev pub door_number : Cartridge → ℕ → ℕ
door_number c n = asked (record_question c ∷ eqb n (memory_size c.kind) else 3 ∷ [])

abbrev pub store_door_number : Cartridge → ℕ → ℕ → ℕ
store_door_number c n k =
    asked (record_question c ∷ eqb n (memory_size c.kind) else 3 ∷ eqb k (tally_count c.kind) else 16 ∷ [])

-- "flag and chip record 0, large 1 for Eeprom8k only"
abbrev pub fresh_chip : Bool → ChipRecord
fresh_chip large =
    record {
      flash = record { state = 0; bank = 0; id = false };
      eeprom = record { width = 0; large = large; phase = Opcode; count = 0; block = 0; place = 0; acc = 0 };
    }

abbrev pub is_large : SaveType → Bool
is_large kind = by_kind kind false false false false false true

unfoldable pub fresh_cart : ℕ → SaveType → Part → Cartridge
fresh_cart n kind part = record { len = n; kind = kind; part = part; dirty = false; chip = fresh_chip (is_large kind) }

-- Open (`from_bytes`), with a part: "Memory all FFh"; 02, ticket 4: "opening sets 0"; "A fresh cartridge is what an
-- accepted opening gives."
unfoldable pub fresh : List ℕ → Part → State
fresh image part =
    let kind = detect_save_type image in
    record {
      cart = fresh_cart (length image) kind part;
      memory = erased (memory_size kind);
      tallies = replicate (tally_count kind) 0;
    }

-- opening is given the part's number; "15 when a named part's size is not the kind's, asked last at opening"
abbrev pub open_questions : List ℕ → ℕ → List ℕ → List ℕ → List Question
open_questions image part memory tallies =
    let kind = detect_save_type image in
    image_question image ∷ memory_question kind memory ∷ tally_question kind tallies ∷ number_fits part kind else 15 ∷ []

-- "opening, given none, returns one of kind None with all else 0": the usual part
unfoldable pub from_bytes : List ℕ → ℕ → List ℕ → List ℕ → Outcome
from_bytes image part memory tallies =
    let none : State = record { cart = fresh_cart 0 None Usual; memory = memory; tallies = tallies } in
    guarded (open_questions image part memory tallies) [] none (outcome [] (fresh image (part_of part)) [])
