-- The state that `chip_state` writes and restore takes. Document 01, question 6, and document 02, ticket 5.
use Rattle.std.specs.Prelude.{Bool, cond, not, ◌||◌, List, [], ◌∷◌, ◌++◌, ℕ, leb, eqb, length, get_or, take}
use Rattle.lists.specs.Lists.{bit}
use Rattle.lists.specs.Questions.{Question, ◌else◌}
use Rattle.chip_record.specs.declared.ChipRecord.{ChipRecord}
use Rattle.chip_record.specs.ChipState.{chip_record_size, chip_bytes, field_questions}

-- "Layout 2 is 20 bytes: the eighteen, the flag, and the layout number 2."
abbrev pub state_size : ℕ
state_size = 20

abbrev pub flag_at : ℕ
flag_at = 18

abbrev pub layout_at : ℕ
layout_at = 19

abbrev pub layout_number : ℕ
layout_number = 2

unfoldable pub state_bytes : ChipRecord → Bool → List ℕ
state_bytes chip dirty = chip_bytes chip ++ (bit dirty ∷ layout_number ∷ [])

-- "Old files of 18 bytes are still read .. length tells the two."
abbrev pub is_layout2 : List ℕ → Bool
is_layout2 b = eqb (length b) state_size

-- the eighteen, in either
abbrev pub eighteen_of : List ℕ → List ℕ
eighteen_of b = take chip_record_size b

-- old files "leave the flag"
abbrev pub flag_from : List ℕ → Bool → Bool
flag_from b dirty = cond (is_layout2 b) (eqb (get_or b flag_at 0) 1) dirty

-- 6: "18 bytes?"; "Question 6 takes both lengths."
abbrev pub length_question : List ℕ → Question
length_question b = (eqb (length b) chip_record_size || is_layout2 b) else 6

-- "17 when byte 19 is not 2"
abbrev pub layout_question : List ℕ → Question
layout_question b = (not (is_layout2 b) || eqb (get_or b layout_at 0) layout_number) else 17

-- "18 when byte 18 is above 1"
abbrev pub flag_question : List ℕ → Question
flag_question b = (not (is_layout2 b) || leb (get_or b flag_at 0) 1) else 18

-- 17 is "asked before 7", 18 "asked after 12"
abbrev pub state_questions : List ℕ → List Question
state_questions b =
    length_question b ∷ layout_question b ∷ (field_questions (eighteen_of b) ++ (flag_question b ∷ []))

-- what is kept of a state: "Where each cut carries layout 2 .. where one carries 18 bytes"
pub data Carried : Type 0 where
  eighteen : Carried
  twenty : Carried

abbrev pub carried : Carried → List ℕ → List ℕ
carried eighteen b = eighteen_of b
carried twenty b = b
