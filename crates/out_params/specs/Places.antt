-- What a call leaves in an out-parameter; and the answers by number of the calls on an image.
use Rattle.std.specs.Prelude.{cond, Option, Some, None, List, [], ◌∷◌, ℕ, leb, eqb}
use Rattle.lists.specs.Questions.{◌else◌}
use Rattle.image.specs.Image.{Answer}
use Rattle.image.specs.Image.{image_question, accepted, answered}
use Rattle.kind.specs.Kind.{kind_number, kind_of, memory_size, detect_save_type}
use Rattle.part.specs.Part.{part_of, id_word, number_fits}
use Rattle.file_sizes.specs.SaveFit.{save_fit_of, save_size_of}

-- an accepted call puts its value there; a refused one leaves what is there
abbrev pub placed : {A : Type 0} → ℕ → A → A → A
placed refusal value place = cond (eqb refusal 0) value place

abbrev pub told : ℕ → ℕ → ℕ → ℕ × ℕ
told refusal value place = (refusal, placed refusal value place)

-- what has one number for an answer
abbrev pub answered_at : Answer → ℕ → ℕ × ℕ
answered_at a place = told a.refusal a.value place

-- the title, with its destination and the place for its length
abbrev pub title_at : Answer × List ℕ → ℕ → ℕ × List ℕ × ℕ
title_at t place = (t.0.refusal, t.1, placed t.0.refusal t.0.value place)

-- the number of an image's kind
unfoldable pub kind_answer : List ℕ → Answer
kind_answer image = answered (image_question image ∷ []) (kind_number (detect_save_type image))

-- what `save_fit` keeps: no kind keeps 0 bytes of a file, so 0 stands for "none"
abbrev pub kept_length : Option ℕ → ℕ
kept_length (Some n) = n
kept_length None = 0

unfoldable pub fit_answer : List ℕ → ℕ → Answer
fit_answer image file = accepted (kept_length (save_fit_of image file))

unfoldable pub size_answer : List ℕ → Answer
size_answer image = accepted (save_size_of image)

-- the memory size by a kind's number; a number that is none is 2
unfoldable pub memory_size_answer : ℕ → Answer
memory_size_answer kind = answered (leb kind 5 else 2 ∷ []) (memory_size (kind_of kind))

-- the ID word of a part on a kind, both by number; a part that does not fit the kind is 15
unfoldable pub id_word_answer : ℕ → ℕ → Answer
id_word_answer part kind =
    answered (leb kind 5 else 2 ∷ number_fits part (kind_of kind) else 15 ∷ []) (id_word (part_of part) (kind_of kind))
