-- What is asked of an encoded list before it is played. FFh: the bytes are no list. FEh: a byte write to an EEPROM
-- cartridge, which demand 3 leaves out. 13: the scratch does not hold the save memory, or the output does not hold the
-- answers and the ending.
use Rattle.std.specs.Prelude.{Bool, not, ◌&&◌, List, [], ◌∷◌, ℕ, ◌+◌, leb}
use Rattle.lists.specs.Questions.{Question, ◌else◌}
use Rattle.call_list.specs.Items.{Place, ending_room, good, byte_writes, room}

abbrev pub list_questions : List Place → Bool → ℕ → ℕ → ℕ → List Question
list_questions list eeprom memory scratch out =
    good list else 0xff
    ∷ not (byte_writes list && eeprom) else 0xfe
    ∷ leb memory scratch else 13
    ∷ leb (room list + ending_room memory) out else 13
    ∷ []
