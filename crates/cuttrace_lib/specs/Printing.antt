-- Answers as lines: a status and its answer each, FF for a bad line, nothing for a cut.
use Rattle.std.specs.Prelude.{◌≡◌, cond, List, [], ◌∷◌, ◌++◌, ℕ, ◌+◌, eqb, length, get_or, take, drop}
use Rattle.lists.specs.Lists.{into}
use Rattle.chip_record.specs.ChipState.{chip_record_size}
use Rattle.frames.specs.Frames.{line_of}
use Rattle.call_list.specs.declared.Item.{Item}
use Rattle.call_list.specs.declared.Item.TheVariants.{SaveRead, SaveWrite, EepromRead, EepromWrite, BeginDma}
use Rattle.call_list.specs.declared.Item.TheVariants.{TakeFlag, ChipState, LoadSave, SaveData, Cut, Bad}
use Rattle.call_list.specs.Items.{high32, item_room}
use Rattle.cuttrace_lib.specs.Lines.{line_item}

-- a text at the front of the output, and its length
abbrev pub Shows : List ℕ → ℕ → List ℕ → List ℕ → Type 0
Shows text n after before = (n ≡ length text) × (after ≡ into text before)

-- "00 and the answer .., or the refusal number"; a cut, which answers no byte, prints no line
unfoldable pub answer_text : List ℕ → List ℕ
answer_text [] = []
answer_text (status ∷ bytes) = line_of status (cond (eqb status 0) bytes [])

-- of a state the status and the chip record, as carttrace does; 02, ticket 5: "The first eighteen bytes are .. all that
-- `carttrace` prints."
abbrev pub state_text : List ℕ → List ℕ
state_text answer = answer_text (take (1 + chip_record_size) answer)

-- "FF for a bad line"
unfoldable pub item_text : Item → List ℕ → List ℕ
item_text (SaveRead a) answer = answer_text answer
item_text (SaveWrite a v) answer = answer_text answer
item_text EepromRead answer = answer_text answer
item_text (EepromWrite v) answer = answer_text answer
item_text (BeginDma words) answer = answer_text answer
item_text TakeFlag answer = answer_text answer
item_text ChipState answer = state_text answer
item_text (LoadSave n) answer = answer_text answer
item_text (SaveData n) answer = answer_text answer
item_text Cut answer = answer_text answer
item_text Bad answer = line_of 0xff []

-- a file after its status and its length: as many bytes as the length says
unfoldable pub file_text : List ℕ → List ℕ
file_text a = line_of (get_or a 0 0) (cond (eqb (get_or a 0 0) 0) (take (high32 a) (drop 5 a)) [])

-- the file and the chip record, for a memory of m bytes
unfoldable pub ending_text : ℕ → List ℕ → List ℕ
ending_text m a = file_text (take (5 + m) a) ++ state_text (drop (5 + m) a)

-- the answers to the lines, one after the other, and then the ending
unfoldable pub lines_text : ℕ → List (List ℕ) → List ℕ → List ℕ
lines_text m [] a = ending_text m a
lines_text m (line ∷ lines) a =
    let n = item_room (line_item line) in
    item_text (line_item line) (take n a) ++ lines_text m lines (drop n a)

-- how many bytes they take
unfoldable pub lines_room : List (List ℕ) → ℕ
lines_room [] = 0
lines_room (line ∷ lines) = item_room (line_item line) + lines_room lines
