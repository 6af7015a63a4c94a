-- The search in a single reading. Document 02, ticket 3.
use Rattle.std.specs.Prelude.{Bool, cond, ◌||◌, List, [], ◌∷◌, ℕ, suc, length, take}
use Rattle.lists.specs.Lists.{ascii}
use Rattle.kind.specs.declared.SaveType.{SaveType}
use Rattle.kind.specs.Kind.{begins, sram_code, flash_code, kind_by, detect_save_type}
use Rattle.matcher.specs.declared.Matcher.{Matcher}
use Rattle.matcher.specs.declared.Found.{Found}

-- "where the game code decides"
abbrev pub code_decides : List ℕ → Bool
code_decides image = sram_code image || flash_code image

-- "the place just behind the first .. where there is one, and otherwise the image length"
unfoldable pub behind_first : List ℕ → List ℕ → ℕ
behind_first p [] = 0
behind_first p (c ∷ s) = cond (begins p (c ∷ s)) (length p) (suc (behind_first p s))

-- "That number is 0 where the game code decides, else the place just behind the first SRAM_V .."
unfoldable pub handed : List ℕ → ℕ
handed image = cond (code_decides image) 0 (behind_first (ascii "SRAM_V") image)

-- "A new search gives the same kind and the number of image bytes it handed to the matcher"
unfoldable pub found : List ℕ → Found
found image = record { kind = detect_save_type image; count = handed image }

-- "Header": all that is looked at of an image besides its markers
abbrev pub header_size : ℕ
header_size = 192

abbrev pub header_of : List ℕ → List ℕ
header_of image = take header_size image

-- the kind that "header, length and the matcher's steps" give
unfoldable pub kind_after : List ℕ → ℕ → Matcher → SaveType
kind_after header image_length m = kind_by header image_length m.sram m.flash64 m.flash128 m.eeprom
