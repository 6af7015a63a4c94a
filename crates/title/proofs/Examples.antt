-- Worked examples of the Unicode Standard, and titles, computed of the definitions. Assumes nothing.
use mathlib.Core.Path.{◌≡◌, refl}
use mathlib.Core.List.{List, [], ◌∷◌, ◌++◌}
use Prim.Native.Nat.{ℕ, zero, suc}
use lib.ListN.{replicate}
use Rattle.lists.specs.Lists.{ascii, into}
use Rattle.image.specs.Image.{accepted, refused}
use Rattle.title.specs.Title.{between, following, goes_on, front, sequence, replaced, trimmed, title_bytes, header_title}

-- U+FFFD in UTF-8, n times
abbrev marks : ℕ → List ℕ
marks zero = []
marks (suc n) = 0xef ∷ 0xbf ∷ 0xbd ∷ marks n

-- the Unicode Standard, tables 3-8 to 3-11: non-shortest forms, surrogates, other ill-formed sequences, truncated sequences
record Replaced : Type 0 where
  shortest : replaced 0 (0xc0 ∷ 0xaf ∷ 0xe0 ∷ 0x80 ∷ 0xbf ∷ 0xf0 ∷ 0x81 ∷ 0x82 ∷ 0x41 ∷ []) ≡ marks 8 ++ (0x41 ∷ [])
  surrogates : replaced 0 (0xed ∷ 0xa0 ∷ 0x80 ∷ 0xed ∷ 0xbf ∷ 0xbf ∷ 0xed ∷ 0xaf ∷ 0x41 ∷ []) ≡ marks 8 ++ (0x41 ∷ [])
  others : replaced 0 (0xf4 ∷ 0x91 ∷ 0x92 ∷ 0x93 ∷ 0xff ∷ 0x41 ∷ 0x80 ∷ 0xbf ∷ 0x42 ∷ []) ≡ marks 5 ++ (0x41 ∷ (marks 2 ++ (0x42 ∷ [])))
  truncated : replaced 0 (0xe1 ∷ 0x80 ∷ 0xe2 ∷ 0xf0 ∷ 0x91 ∷ 0x92 ∷ 0xf1 ∷ 0xbf ∷ 0x41 ∷ []) ≡ marks 4 ++ (0x41 ∷ [])
  well : replaced 0 (0xc3 ∷ 0xa9 ∷ 0xe2 ∷ 0x82 ∷ 0xac ∷ 0xf0 ∷ 0x9f ∷ 0x8e ∷ 0xae ∷ []) ≡ 0xc3 ∷ 0xa9 ∷ 0xe2 ∷ 0x82 ∷ 0xac ∷ 0xf0 ∷ 0x9f ∷ 0x8e ∷ 0xae ∷ []

replaced-examples : Replaced
unfolding between following goes_on front sequence replaced
replaced-examples = record { shortest = refl; surrogates = refl; others = refl; truncated = refl; well = refl }

-- zeros inside a title stay and those at its end go; twelve bytes that begin nothing give 36
record Titles : Type 0 where
  zeros : title_bytes (replicate 0xa0 0 ++ (ascii "AB" ++ (0 ∷ (ascii "C" ++ replicate 28 0)))) ≡ ascii "AB" ++ (0 ∷ ascii "C")
  empty : title_bytes (replicate 192 0) ≡ []
  longest : title_bytes (replicate 192 0xff) ≡ marks 12

title-examples : Titles
unfolding between following goes_on front sequence replaced trimmed title_bytes
title-examples = record { zeros = refl; empty = refl; longest = refl }

-- 191 bytes; a destination that is one byte short, and one that is a byte longer
record Destinations : Type 0 where
  short_image : (header_title (replicate 191 1) []).0 ≡ refused 1
  short : header_title (replicate 192 0x41) (replicate 11 0) ≡ (refused 13, replicate 11 0)
  whole : header_title (replicate 192 0x41) (replicate 13 7) ≡ (accepted 12, replicate 12 0x41 ++ (7 ∷ []))

destination-examples : Destinations
unfolding into between following goes_on front sequence replaced trimmed title_bytes header_title
destination-examples = record { short_image = refl; short = refl; whole = refl }
