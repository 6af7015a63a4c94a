-- The title. Document 01, "Beside the machine", and the Unicode Standard, chapter 3.
use Rattle.std.specs.Prelude.{Bool, false, cond, ◌&&◌, List, [], ◌∷◌, ◌++◌, Result, Ok, Err, ℕ, zero, suc, pred, leb, eqb, length, take, drop, slice_index, ◌<◌, ◌≡◌, ◌≢◌}
use Rattle.std.proofs.Math.Option.{Option, none, some}
use Rattle.std.proofs.Math.Seq.{slice}
use Rattle.lists.specs.Lists.{into}
use Rattle.lists.specs.Questions.{Question, ◌else◌, asked}
use Rattle.image.specs.Image.{Answer}
use Rattle.title.specs.declared.Shown.{Shown}
use Rattle.image.specs.Image.{header_question, answered}

unfoldable pub between : ℕ → ℕ → ℕ → Bool
between lo hi b = leb lo b && leb b hi

-- table 3-7, well-formed UTF-8 byte sequences: the ranges of the bytes that follow a first byte, or that no
-- sequence begins so
abbrev pub tail : ℕ → Bool
tail = between 0x80 0xbf

unfoldable pub following : ℕ → Option (List (ℕ → Bool))
following b =
    cond (between 0x00 0x7f b) (some [])
    (cond (between 0xc2 0xdf b) (some (tail ∷ []))
    (cond (eqb b 0xe0) (some (between 0xa0 0xbf ∷ tail ∷ []))
    (cond (between 0xe1 0xec b) (some (tail ∷ tail ∷ []))
    (cond (eqb b 0xed) (some (between 0x80 0x9f ∷ tail ∷ []))
    (cond (between 0xee 0xef b) (some (tail ∷ tail ∷ []))
    (cond (eqb b 0xf0) (some (between 0x90 0xbf ∷ tail ∷ tail ∷ []))
    (cond (between 0xf1 0xf3 b) (some (tail ∷ tail ∷ tail ∷ []))
    (cond (eqb b 0xf4) (some (between 0x80 0x8f ∷ tail ∷ tail ∷ []))
    none))))))))

-- definition D93b: a maximal subpart begins a well-formed sequence as far as it goes, or is one byte; n bytes have
-- gone so far
abbrev pub begins : List ℕ → (ℕ → Bool) → Bool
begins [] r = false
begins (b ∷ s) r = r b

unfoldable pub goes_on : ℕ → List (ℕ → Bool) → List ℕ → Result ℕ ℕ
goes_on n [] s = Ok n
goes_on n (r ∷ rs) s = cond (begins s r) (goes_on (suc n) rs (drop 1 s)) (Err n)

unfoldable pub front : Option (List (ℕ → Bool)) → List ℕ → Result ℕ ℕ
front none s = Err 1
front (some rs) s = goes_on 1 rs s

unfoldable pub sequence : List ℕ → Result ℕ ℕ
sequence [] = Ok 0
sequence (b ∷ s) = front (following b) s

abbrev pub size : Result ℕ ℕ → ℕ
size (Ok n) = n
size (Err n) = n

-- "each maximal subpart of an ill-formed subsequence replaced by EFh BFh BDh"
abbrev pub shown : Result ℕ ℕ → List ℕ → List ℕ
shown (Ok n) s = take n s
shown (Err n) s = 0xef ∷ 0xbf ∷ 0xbd ∷ []

-- what a text begins with, shown at the front of a destination: how many bytes of the text it is and how many are shown
abbrev pub showing : List ℕ → List ℕ → Shown × List ℕ
showing s destination =
    let front = shown (sequence s) s in
    (record { used = size (sequence s); len = length front }, into front destination)

-- the first argument: how many bytes belong to the sequence before
unfoldable pub replaced : ℕ → List ℕ → List ℕ
replaced k [] = []
replaced zero (b ∷ s) = shown (sequence (b ∷ s)) (b ∷ s) ++ replaced (pred (size (sequence (b ∷ s)))) s
replaced (suc k) (b ∷ s) = replaced k s

-- the last byte that is not zero is at place i
abbrev pub IsLastInUse : List ℕ → ℕ → Type 0
IsLastInUse s i = (i < length s) × (slice_index s i ≢ 0) × ((k : ℕ) → i < k → k < length s → slice_index s k ≡ 0)

-- "trailing zero bytes dropped"
abbrev pub unless_last0 : ℕ → List ℕ → List ℕ
unless_last0 b [] = cond (eqb b 0) [] (b ∷ [])
unless_last0 b (c ∷ s) = b ∷ c ∷ s

unfoldable pub trimmed : List ℕ → List ℕ
trimmed [] = []
trimmed (b ∷ s) = unless_last0 b (trimmed s)

-- "Title: bytes A0h–ABh"
unfoldable pub title_bytes : List ℕ → List ℕ
title_bytes image = trimmed (replaced 0 (slice 0xa0 0xac image))

-- "The answer is its length"; 13: "Does the destination hold the output (export, title)?"
abbrev pub title_questions : List ℕ → List ℕ → List Question
title_questions image destination =
    header_question image ∷ leb (length (title_bytes image)) (length destination) else 13 ∷ []

unfoldable pub header_title : List ℕ → List ℕ → Answer × List ℕ
header_title image destination = (
  answered (title_questions image destination) (length (title_bytes image)),
  cond (eqb (asked (title_questions image destination)) 0) (into (title_bytes image) destination) destination,
)
