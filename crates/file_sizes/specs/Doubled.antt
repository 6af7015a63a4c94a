-- Doubled SRAM files: the half that import drops, and the questions of a file. Document 02, ticket 6.
use Rattle.std.specs.Prelude.{Bool, true, false, cond, ◌&&◌, ◌||◌, List, [], ◌∷◌, ℕ, eqb, length, take, drop}
use Rattle.lists.specs.Lists.{all_ff, begins}
use Rattle.lists.specs.Questions.{Question, ◌else◌}
use Rattle.kind.specs.declared.SaveType.{SaveType}
use Rattle.kind.specs.Kind.{by_kind}
use Rattle.file_sizes.specs.SaveFit.{chip_size, save_fit, taken}

-- the half that import keeps, and "the half it drops": "its bytes 32,768 to 65,535"
unfoldable pub lower_half : List ℕ → List ℕ
lower_half file = take 32768 file

unfoldable pub upper_half : List ℕ → List ℕ
upper_half file = take 32768 (drop 32768 file)

-- "on kind Sram a file of 65,536 or 65,552 bytes", chip size or 16 more
abbrev pub doubled : SaveType → ℕ → Bool
doubled kind file = by_kind kind false (chip_size 65536 file) false false false false

-- two lists are equal: as long, and one begins with the other
abbrev pub equal : List ℕ → List ℕ → Bool
equal a b = eqb (length a) (length b) && begins a b

-- "accepted all FFh, or equal to the lower half, with or without the footer"
unfoldable pub blank_or_copy : List ℕ → Bool
blank_or_copy file = all_ff (upper_half file) || equal (lower_half file) (upper_half file)

-- "19 when on kind Sram a file of 65,536 or 65,552 bytes has neither"
unfoldable pub drop_accepted : SaveType → List ℕ → Bool
drop_accepted kind file = cond (doubled kind (length file)) (blank_or_copy file) true

-- 01, question 14: "is the file's length one that `save_fit` takes for the record's kind?"; 19 is "asked after 14"
abbrev pub file_questions : SaveType → List ℕ → List Question
file_questions kind file = taken (save_fit kind (length file)) else 14 ∷ drop_accepted kind file else 19 ∷ []
