-- How many places of two memories differ, and how many bytes of one are in use.
use Rattle.std.specs.Prelude.{cond, List, [], ◌∷◌, ℕ, ◌+◌, eqb}

-- 02, ticket 2: "the number of memory places whose value differs from before"
abbrev pub differs : ℕ → ℕ → ℕ
differs x y = cond (eqb x y) 0 1

unfoldable pub differing : List ℕ → List ℕ → ℕ
differing [] after = 0
differing (x ∷ before) [] = 0
differing (x ∷ before) (y ∷ after) = differs x y + differing before after

-- 02, ticket 4: "bytes other than FFh"
unfoldable pub used : List ℕ → ℕ
used [] = 0
used (x ∷ m) = differs x 0xff + used m
