-- The C calls of the single reading: the number of a refusal or 0, and what they leave in the places passed.
use Rattle.std.specs.Prelude.{List, [], ◌∷◌, ℕ}
use Rattle.lists.specs.Lists.{bit}
use Rattle.lists.specs.Questions.{◌else◌, asked}
use Rattle.image.specs.Image.{Answer}
use Rattle.image.specs.Image.{image_length, image_question, header_question, answered}
use Rattle.kind.specs.Kind.{kind_number}
use Rattle.matcher.specs.Matcher.{start}
use Rattle.matcher.specs.Reading.{reads}
use Rattle.matcher.specs.Search.{found, kind_after}
use Rattle.out_params.specs.Places.{placed}
use Rattle.c_matcher_calls.specs.MatcherBytes.{matcher_bytes, matcher_of, is_matcher}

-- the whole search: places for the kind's number and for the number of bytes
unfoldable pub searches : List ℕ → ℕ → ℕ → ℕ × ℕ × ℕ
searches image kind handed =
    let n = asked (image_question image ∷ []) in
    (n, placed n (kind_number (found image).kind) kind, placed n (found image).count handed)

-- the same in pieces: a matcher's bytes are written, whatever they were;
unfoldable pub starts : ℕ × List ℕ
starts = (0, matcher_bytes start)

-- a piece is fed, and a place tells whether SRAM_V has been seen: then no later byte counts;
unfoldable pub feeds : List ℕ → List ℕ → ℕ → ℕ × List ℕ × ℕ
feeds b piece done =
    let n = asked (is_matcher b else 2 ∷ []) in
    let m = (reads (matcher_of b) piece).matcher in
    (n, placed n (matcher_bytes m) b, placed n (bit m.sram) done)

-- and the kind is told of header and length
unfoldable pub finishes : List ℕ → List ℕ → ℕ → Answer
finishes b header n =
    answered (image_length n else 1 ∷ header_question header ∷ is_matcher b else 2 ∷ [])
    (kind_number (kind_after header n (matcher_of b)))
