-- What is claimed of the single reading.
use Rattle.std.specs.Prelude.{◌≡◌, false, ℕ, length, take}
use mathlib.Core.List.{List, [], ◌∷◌, ◌++◌, flatten}
use Rattle.matcher.specs.declared.Matcher.{Matcher}
use Rattle.matcher.specs.Matcher.{start, steps, seen}
use Rattle.matcher.specs.Reading.{reads, fed_all}
use Rattle.matcher.specs.Search.{code_decides, handed, found, header_of, kind_after}

pub record SingleReading : Type 0 where
  -- the matcher has seen the markers that stand in the bytes handed to it
  pub sees : (s : List ℕ) → steps start s ≡ seen s
  -- "Header, length and the matcher's steps over those bytes alone give the kind."
  pub alone : (image : List ℕ)
      → (found image).kind ≡ kind_after (header_of image) (length image) (steps start (take (found image).count image))
  -- where no game code decides, the reading hands over just so many bytes, "each at most once and from the front"
  pub reading : (image : List ℕ) → code_decides image ≡ false
      → reads start image ≡ record { matcher = steps start (take (handed image) image); count = handed image }

pub record InPieces : Type 0 where
  -- the matcher after two pieces is that of the joined piece, and so of any number of pieces, empty ones among them
  pub two : (m : Matcher) (a b : List ℕ) → fed_all m (a ∷ b ∷ []) ≡ reads m (a ++ b)
  pub all : (m : Matcher) (pieces : List (List ℕ)) → fed_all m pieces ≡ reads m (flatten pieces)
  -- so an image that comes in pieces has its kind, and the number where no game code decides
  pub kind : (image : List ℕ) (pieces : List (List ℕ)) → flatten pieces ≡ image
      → kind_after (header_of image) (length image) (fed_all start pieces).matcher ≡ (found image).kind
  pub number : (image : List ℕ) (pieces : List (List ℕ)) → flatten pieces ≡ image → code_decides image ≡ false
      → (fed_all start pieces).count ≡ handed image
