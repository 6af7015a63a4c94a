-- What is claimed of the calls on a matcher's bytes.
use Rattle.std.specs.Prelude.{◌≡◌, true, ℕ, ◌≤◌, length}
use mathlib.Core.List.{List, [], ◌∷◌, ◌++◌, flatten}
use Rattle.lists.specs.Lists.{bit}
use Rattle.image.specs.Image.{image_length}
use Rattle.kind.specs.Kind.{marker}
use Rattle.matcher.specs.declared.Matcher.{Matcher}
use Rattle.matcher.specs.Search.{header_of}
use Rattle.out_params.specs.Places.{kind_answer}
use Rattle.c_matcher_calls.specs.MatcherBytes.{matcher_bytes, matcher_of, is_matcher}
use Rattle.c_matcher_calls.specs.Calls.{starts, feeds, finishes}

-- the bytes after a call for each piece, in order; what the place for "done" holds does not matter to them
unfoldable pub fed_pieces : List ℕ → List (List ℕ) → List ℕ
fed_pieces b [] = b
fed_pieces b (piece ∷ pieces) = fed_pieces (feeds b piece 0).1 pieces

-- the kind told after these pieces is the image's
abbrev pub Ends : List ℕ → List (List ℕ) → List ℕ → Type 0
Ends image pieces header =
    image_length (length image) ≡ true → 192 ≤ length header → header_of header ≡ header_of image
    → finishes (fed_pieces starts.1 pieces) header (length image) ≡ kind_answer image

pub record PieceCalls : Type 0 where
  -- every matcher is written as 13 bytes and read back, and so are all bytes that question 2 accepts
  pub written : (m : Matcher) → length m.last ≡ 9
      → (is_matcher (matcher_bytes m) ≡ true) × (matcher_of (matcher_bytes m) ≡ m)
  pub read : (b : List ℕ) → is_matcher b ≡ true → matcher_bytes (matcher_of b) ≡ b
  -- start, then any pieces: each next piece is accepted, and told is whether SRAM_V stands in all that was fed
  pub next : (pieces : List (List ℕ)) (piece : List ℕ) (done : ℕ)
      → ((feeds (fed_pieces starts.1 pieces) piece done).0 ≡ 0)
      × ((feeds (fed_pieces starts.1 pieces) piece done).2 ≡ bit (marker (flatten pieces ++ piece) "SRAM_V"))
  -- at the end the kind is the whole image's, of any header that begins as the image does
  pub end : (image : List ℕ) (pieces : List (List ℕ)) (header : List ℕ)
      → flatten pieces ≡ image → Ends image pieces header
  -- and so it is before the end, where SRAM_V has been seen: the rest need not be fed
  pub early : (image : List ℕ) (pieces : List (List ℕ)) (rest header : List ℕ)
      → flatten pieces ++ rest ≡ image → marker (flatten pieces) "SRAM_V" ≡ true → Ends image pieces header
