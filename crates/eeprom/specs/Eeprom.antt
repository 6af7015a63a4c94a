-- The serial EEPROM. Document 01, "The records" and "The machine", Serial EEPROM.
use Rattle.std.specs.Prelude.{Bool, true, false, cond, ◌||◌, not, List, ℕ, ◌+◌, ◌*◌, ◌-◌, ◌/◌, ◌%◌, ◌^◌, ltb, eqb, get_or}
use Rattle.lists.specs.Questions.{Question, ◌else◌}
use Rattle.memory.specs.declared.Store.TheVariants.{Nothing, Block}
use Rattle.memory.specs.Memory.{Held, applied}
use Rattle.eeprom.specs.declared.EepromPhase.{EepromPhase}
use Rattle.eeprom.specs.declared.EepromPhase.TheVariants.{Opcode, ReadAddress, WriteAddress, WriteData}
use Rattle.eeprom.specs.declared.EepromPhase.TheVariants.{ReadStop, WriteStop, Reading}
use Rattle.eeprom.specs.declared.Eeprom.{Eeprom}
use Rattle.eeprom.specs.declared.Shifted.{Shifted}
use Rattle.eeprom.specs.declared.Shifted.TheVariants.{More, Full}
use Rattle.eeprom.specs.declared.EepromStep.{EepromStep}
use Rattle.eeprom.specs.declared.Drawn.{Drawn}
use Rattle.eeprom.specs.declared.Drawn.TheVariants as drawn

-- DMA width: "0, 6, 14"
unfoldable pub width_allowed : ℕ → Bool
width_allowed width = eqb width 0 || eqb width 6 || eqb width 14

-- "W is byte 3, or, where that is 0, 14 if large is 1 and 6 if not."
unfoldable pub w : ℕ → Bool → ℕ
w width large = cond (eqb width 0) (cond large 14 6) width

abbrev pub w_of : Eeprom → ℕ
w_of e = w e.width e.large

-- a value for each phase, 0 to 6
abbrev pub by_phase : {A : Type 0} → EepromPhase → A → A → A → A → A → A → A → A
by_phase Opcode a b c d e f g = a
by_phase ReadAddress a b c d e f g = b
by_phase WriteAddress a b c d e f g = c
by_phase WriteData a b c d e f g = d
by_phase ReadStop a b c d e f g = e
by_phase WriteStop a b c d e f g = f
by_phase Reading a b c d e f g = g

-- count: "below 2 in phase 0, W in 1 and 2, 64 in 3; else 0"
abbrev pub count_limit : EepromPhase → ℕ → ℕ
count_limit phase w = by_phase phase 2 w w 64 1 1 1

abbrev pub is_opcode : EepromPhase → Bool
is_opcode phase = by_phase phase true false false false false false false

abbrev pub is_address : EepromPhase → Bool
is_address phase = by_phase phase false true true false false false false

abbrev pub is_data : EepromPhase → Bool
is_data phase = by_phase phase false false false true false false false

abbrev pub is_reading : EepromPhase → Bool
is_reading phase = by_phase phase false false false false false false true

-- `eeprom_begin_dma`: "9, 73 set byte 3 to 6; 17, 81 set it to 14 and large to 1; others do nothing"
abbrev pub told : ℕ → Bool → Eeprom → Eeprom
told width large e =
    record {
      width = width;
      large = large;
      phase = e.phase;
      count = e.count;
      block = e.block;
      place = e.place;
      acc = e.acc;
    }

unfoldable pub tells6 : ℕ → Bool
tells6 words = eqb words 9 || eqb words 73

unfoldable pub tells14 : ℕ → Bool
tells14 words = eqb words 17 || eqb words 81

unfoldable pub begin_dma : ℕ → Eeprom → Eeprom
begin_dma words e = cond (tells6 words) (told 6 e.large e) (cond (tells14 words) (told 14 true e) e)

-- 5: "with 9 or 73: is the phase other than 1 and 2, or the count below 6?"
unfoldable pub dma_question : ℕ → Eeprom → Question
dma_question words e = (not (tells6 words) || not (is_address e.phase) || ltb e.count 6) else 5

-- the chip with phase, count, block, read place and acc anew
abbrev pub serial : Eeprom → EepromPhase → ℕ → ℕ → ℕ → ℕ → Eeprom
serial e phase count block place acc =
    record {
      width = e.width;
      large = e.large;
      phase = phase;
      count = count;
      block = block;
      place = place;
      acc = acc;
    }

abbrev pub kept : Eeprom → EepromStep
kept e = record { eeprom = e; store = Nothing }

-- "acc = (2 × acc + b) mod 2^64, count + 1. At length 2, W or 64 ..": one bit, whatever the length
unfoldable pub shift_in : ℕ → ℕ → ℕ → ℕ → Shifted
shift_in acc count length b =
    cond (eqb (count + 1) length) (Full ((2 * acc + b) % 2 ^ 64)) (More ((2 * acc + b) % 2 ^ 64) (count + 1))

abbrev pub shifted : Eeprom → (ℕ → EepromStep) → Shifted → EepromStep
shifted e full (More acc count) = kept (serial e e.phase count e.block e.place acc)
shifted e full (Full acc) = full acc

-- "acc and count become 0": the start of a phase
abbrev pub entered : Eeprom → EepromPhase → ℕ → Eeprom
entered e phase block = serial e phase 0 block e.place 0

-- "Opcode, acc 3 goes to phase 1, 2 to phase 2, others to 0"
unfoldable pub opcode_phase : ℕ → EepromPhase
opcode_phase acc = cond (eqb acc 3) ReadAddress (cond (eqb acc 2) WriteAddress Opcode)

abbrev pub decoded : Eeprom → ℕ → EepromStep
decoded e acc = kept (entered e (opcode_phase acc) e.block)

unfoldable pub opcode_bit : Eeprom → ℕ → EepromStep
opcode_bit e b = shifted e (decoded e) (shift_in e.acc e.count 2 b)

-- "Address, block = acc mod 1,024"
abbrev pub addressed : EepromPhase → Eeprom → ℕ → EepromStep
addressed next e acc = kept (entered e next (acc % 1024))

-- "WriteData stores acc in the block's eight bytes .. goes to 5"
abbrev pub word_in : Eeprom → ℕ → EepromStep
word_in e acc = record { eeprom = entered e WriteStop e.block; store = Block e.block acc }

-- "read place, phase, acc, count become 0"
abbrev pub ended : Eeprom → Eeprom
ended e = serial e Opcode 0 e.block 0 0

-- What the last bit b of a phase leads to; acc is the whole number. "phase 1 goes to 4, phase 2 to 3"; "ReadStop: to 6,
-- read place 0. WriteStop: phase, acc, count 0."; "Reading: .. then b counts as an Opcode bit"
abbrev pub turned_in : EepromPhase → Eeprom → ℕ → ℕ → EepromStep
turned_in Opcode e acc b = decoded e acc
turned_in ReadAddress e acc b = addressed ReadStop e acc
turned_in WriteAddress e acc b = addressed WriteData e acc
turned_in WriteData e acc b = word_in e acc
turned_in ReadStop e acc b = kept (serial e Reading e.count e.block 0 e.acc)
turned_in WriteStop e acc b = kept (entered e Opcode e.block)
turned_in Reading e acc b = opcode_bit (ended e) b

unfoldable pub turned : Eeprom → ℕ → ℕ → EepromStep
turned e acc b = turned_in e.phase e acc b

-- `eeprom_write` "takes b". "Opcode, Address, WriteData: .. At length 2, W or 64 .."; in each other phase one bit
-- is all
unfoldable pub write_bit : Eeprom → ℕ → EepromStep
write_bit e b =
    let at : ℕ → EepromStep = λ length. shifted e (λ acc. turned e acc b) (shift_in e.acc e.count length b) in
    let last : EepromStep = turned e e.acc b in
    by_phase e.phase (at 2) (at (w_of e)) (at (w_of e)) (at 64) last last last

-- the chip with its memory takes a value: "b, bit 0 of its value"
unfoldable pub bit_in : Held Eeprom → ℕ → Held Eeprom
bit_in x v =
    let t = write_bit x.chip (v % 2) in
    applied t.eeprom t.store x

-- "the block's bit p − 4, highest bit of the first byte first"
unfoldable pub bit_of_block : List ℕ → ℕ → ℕ → ℕ
bit_of_block m block i = get_or m (8 * block + i / 8) 0 / 2 ^ (7 - i % 8) % 2

-- `eeprom_read`: "outside Reading answers 1 .. 0 for p below 4; then the block's bit .. (1 on kinds without EEPROM)"
unfoldable pub read_bit : Bool → Eeprom → List ℕ → ℕ
read_bit eeprom_kind e m =
    cond (is_reading e.phase)
    (cond (ltb e.place 4) 0 (cond eeprom_kind (bit_of_block m e.block (e.place - 4)) 1))
    1

-- what a bit out changes: "outside Reading .. does nothing"; "The place rises; after 67 .."
abbrev pub drawn_by : EepromPhase → ℕ → Drawn
drawn_by phase place = cond (is_reading phase) (cond (eqb place 67) drawn.Ended (drawn.Place (place + 1))) drawn.Nothing

-- ".. place, phase, acc and count become 0"
abbrev pub drawn_from : Eeprom → Drawn → Eeprom
drawn_from e drawn.Nothing = e
drawn_from e (drawn.Place place) = serial e e.phase e.count e.block place e.acc
drawn_from e drawn.Ended = ended e

unfoldable pub after_read : Eeprom → Eeprom
after_read e = drawn_from e (drawn_by e.phase e.place)
