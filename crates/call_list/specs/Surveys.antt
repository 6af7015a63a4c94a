-- A list surveyed, item by item: whether all is items, whether a byte write is among them, and what the answers leave of
-- the output, if they fit.
use Rattle.std.specs.Prelude.{Bool, cond, ◌&&◌, ◌||◌, Option, None, Some, List, [], ◌∷◌, ℕ, ◌-◌, leb}
use Rattle.call_list.specs.declared.Item.{Item}
use Rattle.call_list.specs.declared.Survey.{Survey}
use Rattle.call_list.specs.Items.{Place, item_room, is_item, is_write}

abbrev pub survey_with : Bool → Bool → Option ℕ → Survey
survey_with good writes left = record { good = good; writes = writes; left = left }

-- what n bytes more leave of the room, if they fit
abbrev pub left_after : Option ℕ → ℕ → Option ℕ
left_after None n = None
left_after (Some r) n = cond (leb n r) (Some (r - n)) None

unfoldable pub surveyed : Survey → Item → Survey
surveyed s i = survey_with (s.good && is_item i) (s.writes || is_write i) (left_after s.left (item_room i))

unfoldable pub surveyed_all : Survey → List Place → Survey
surveyed_all s [] = s
surveyed_all s (p ∷ list) = surveyed_all (surveyed s p.item) list
