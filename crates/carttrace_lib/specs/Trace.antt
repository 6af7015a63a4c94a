-- The program `carttrace`. Document 01, "Beside the machine".
use Rattle.std.specs.Prelude.{cond, List, [], ◌∷◌, ◌++◌, ℕ, ◌+◌, ◌*◌, eqb, length, replicate}
use Rattle.lists.specs.Lists.{into, bit}
use Rattle.memory.specs.Memory.{erased}
use Rattle.kind.specs.declared.SaveType.{SaveType}
use Rattle.kind.specs.Kind.{memory_size, tally_count}
use Rattle.part.specs.declared.Part.TheVariants.{Usual}
use Rattle.cart.specs.declared.Cartridge.{Cartridge}
use Rattle.cart.specs.Replies.{Reply}
use Rattle.chip_record.specs.ChipState.{chip_record_size}
use Rattle.chip_record.specs.States.{eighteen_of}
use Rattle.cart.specs.Record.{State, Outcome, fresh_cart}
use Rattle.cart.specs.Calls.{save_read, save_write, eeprom_begin_dma, eeprom_write, eeprom_read}
use Rattle.cart.specs.Calls.{chip_state, take_save_dirty, step}
use Rattle.cart.specs.Replies.{tallied}
use Rattle.state_calls.specs.StateAnswer.{StateAnswer}
use Rattle.frames.specs.declared.Frame.{Frame}
use Rattle.frames.specs.declared.Frame.TheVariants.{SaveRead, SaveWrite, EepromRead, EepromWrite}
use Rattle.frames.specs.declared.Frame.TheVariants.{BeginDma, TakeFlag, ChipState, Bad}
use Rattle.frames.specs.Frames.{FirstLine}
use Rattle.std.specs.Prelude.{Some, None}
use Rattle.frames.specs.Frames.{frame, first_line, line_of}
use Rattle.carttrace_lib.specs.declared.Played.{Played}

-- "It prints a line each"
pub record Printed : Type 0 where
  pub text : List ℕ
  pub next : State

-- "00 and the answer .., or the refusal number"; what a call answers is no byte where it is refused
abbrev pub printed : Outcome → Printed
printed o = record { text = line_of o.refusal o.given; next = o.next }

abbrev pub flag_printed : Outcome → Printed
flag_printed o =
    record { text = line_of o.refusal (cond (eqb o.refusal 0) (bit o.flag ∷ []) []); next = o.next }

-- 02, ticket 5: "The first eighteen bytes are .. all that `carttrace` prints."
abbrev pub state_printed : Outcome → Printed
state_printed o = record { text = line_of o.refusal (eighteen_of o.given); next = o.next }

-- "01 .. byte read; 02 .. write; 03 serial read; 04 .. serial write; 05 .. DMA; 06 take flag; 07 chip record"; "FF for
-- a bad line"
unfoldable pub play : Frame → State → Printed
play (SaveRead a) s = printed (step (save_read a) [] s)
play (SaveWrite a v) s = printed (step (save_write a v) [] s)
play EepromRead s = printed (step eeprom_read [] s)
play (EepromWrite v) s = printed (step (eeprom_write v) [] s)
play (BeginDma words) s = printed (step (eeprom_begin_dma words) [] s)
play TakeFlag s = flag_printed (step take_save_dirty [] s)
play ChipState s = state_printed (step chip_state [] s)
play Bad s = record { text = line_of 0xff []; next = s }

unfoldable pub play_all : List (List ℕ) → State → List ℕ
play_all [] s = []
play_all (line ∷ lines) s = let p = play (frame line) s in p.text ++ play_all lines p.next

-- "Line 1 is a fresh kind with image length 192", with the usual part
unfoldable pub fresh_kind : SaveType → State
fresh_kind kind = tallied (fresh_cart 192 kind Usual) (erased (memory_size kind)) (replicate (tally_count kind) 0)

-- "and ends if that is line 1. No input, no output."
abbrev pub play_from : FirstLine → List (List ℕ) → List ℕ
play_from None lines = line_of 0xff []
play_from (Some kind) lines = line_of 0 [] ++ play_all lines (fresh_kind kind)

unfoldable pub play_lines : List (List ℕ) → List ℕ
play_lines [] = []
play_lines (line ∷ lines) = play_from (first_line line) lines

-- "Each line ends with a line feed, the last one with or without": the lines of a text after the characters that began
-- its first line
abbrev pub last_line : List ℕ → List (List ℕ)
last_line [] = []
last_line (c ∷ line) = (c ∷ line) ∷ []

unfoldable pub lines_from : List ℕ → List ℕ → List (List ℕ)
lines_from line [] = last_line line
lines_from line (c ∷ text) = cond (eqb c 0x0a) (line ∷ lines_from [] text) (lines_from (line ++ (c ∷ [])) text)

unfoldable pub carttrace : List ℕ → List ℕ
carttrace input = play_lines (lines_from [] input)

-- what a call returned, as a line: its status alone, with its number, with the chip record
abbrev pub status_line : Reply → List ℕ
status_line r = line_of r.refusal []

abbrev pub value_line : Reply → List ℕ
value_line r = line_of r.refusal (cond (eqb r.refusal 0) (r.value ∷ []) [])

abbrev pub state_line : StateAnswer → List ℕ
state_line a = line_of a.refusal (cond (eqb a.refusal 0) (eighteen_of a.bytes) [])

-- no line is longer: a status, the chip record, a line feed
abbrev pub longest_line : ℕ
longest_line = 2 + 2 * chip_record_size + 1

-- a text at the front of the output, and its length; with the record; and what a frame leaves
abbrev pub written : List ℕ → List ℕ → ℕ × List ℕ
written text out = (length text, into text out)

abbrev pub played_with : Cartridge → ℕ → Played
played_with cart len = record { cart = cart; len = len }

abbrev pub left : Cartridge → List ℕ → List ℕ → Played × List ℕ
left cart text out = (played_with cart (length text), into text out)

abbrev pub shown : Printed → List ℕ → Played × List ℕ × List ℕ × List ℕ
shown p out =
    (played_with p.next.cart (length p.text), p.next.memory, p.next.tallies, into p.text out)
