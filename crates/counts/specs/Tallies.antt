-- A tally for each stretch of 4,096 bytes: how many of them are in use. Document 02, ticket 4.
use Rattle.std.specs.Prelude.{Bool, true, cond, ◌&&◌, List, [], ◌∷◌, ℕ, zero, suc, ◌+◌, ◌-◌, ◌/◌, ◌%◌, ◌<◌, eqb, get_or, take, drop}
use Rattle.std.proofs.Math.Option.{Option, none, some}
use Rattle.counts.specs.Counts.{used}

-- tallies are numbers of 16 bits
abbrev pub Words : List ℕ → Type 0
Words ts = (i : ℕ) → get_or ts i 0 < 65536

-- "a store adds its change, modulo 65,536": the bytes of its stretch that are in use before it, and after it
unfoldable pub retally : ℕ → ℕ → ℕ → ℕ
retally before after tally = (65536 + tally + after - before) % 65536

-- the tallies after a store that makes one memory of another
unfoldable pub retallied : List ℕ → List ℕ → List ℕ → List ℕ
retallied before after [] = []
retallied before after (t ∷ ts) =
    retally (used (take 4096 before)) (used (take 4096 after)) t
    ∷ retallied (drop 4096 before) (drop 4096 after) ts

-- "A tally of bytes other than FFh is kept for each 4,096 bytes of memory": those of n stretches
unfoldable pub tallies_of : ℕ → List ℕ → List ℕ
tallies_of zero m = []
tallies_of (suc n) m = used (take 4096 m) ∷ tallies_of n (drop 4096 m)

-- "Is it blank", from tallies alone; and by "the full reading"
unfoldable pub blank : List ℕ → Bool
blank [] = true
blank (t ∷ ts) = eqb t 0 && blank ts

unfoldable pub blank_memory : List ℕ → Bool
blank_memory [] = true
blank_memory (x ∷ m) = eqb x 0xff && blank_memory m

-- one further from the front
abbrev pub next : Option ℕ → Option ℕ
next none = none
next (some k) = some (suc k)

-- "the first stretch in use" (numbered from 0), or that there is none, from tallies alone
unfoldable pub first_in_use : List ℕ → Option ℕ
first_in_use [] = none
first_in_use (t ∷ ts) = cond (eqb t 0) (next (first_in_use ts)) (some 0)

-- and by the full reading: the first place whose byte is not FFh, and its stretch
unfoldable pub first_used : List ℕ → Option ℕ
first_used [] = none
first_used (x ∷ m) = cond (eqb x 0xff) (next (first_used m)) (some 0)

abbrev pub stretch_of : Option ℕ → Option ℕ
stretch_of none = none
stretch_of (some place) = some (place / 4096)

-- the answer as a number: no stretch has this one
abbrev pub none_in_use : ℕ
none_in_use = 0xffffffff

abbrev pub in_use_number : Option ℕ → ℕ
in_use_number none = none_in_use
in_use_number (some k) = k
