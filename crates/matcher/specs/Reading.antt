-- Bytes handed to a matcher from the front, until it has seen SRAM_V: no later byte can change the kind.
use Rattle.std.specs.Prelude.{◌≡◌, cond, List, [], ◌∷◌, ℕ, ◌+◌, ◌≤◌, ◌<◌, length, drop}
use Rattle.matcher.specs.declared.Matcher.{Matcher}
use Rattle.matcher.specs.declared.Fed.{Fed}
use Rattle.matcher.specs.Matcher.{step}

-- n bytes more
abbrev pub more : ℕ → Fed → Fed
more n f = record { matcher = f.matcher; count = n + f.count }

-- the matcher after a part, and how many of the part's bytes it was handed
unfoldable pub reads : Matcher → List ℕ → Fed
reads m [] = record { matcher = m; count = 0 }
reads m (b ∷ part) =
    cond m.sram (record { matcher = m; count = 0 })
    (more 1 (reads (step m b) part))

-- one part after another
unfoldable pub fed_all : Matcher → List (List ℕ) → Fed
fed_all m [] = record { matcher = m; count = 0 }
fed_all m (part ∷ parts) = more (reads m part).count (fed_all (reads m part).matcher parts)

-- at least one byte of the part was handed over, and the rest is still to be read
pub record Advanced (m : Matcher) (part : List ℕ) (f : Fed) : Type 0 where
  pub within : f.count ≤ length part
  pub some : 0 < f.count
  pub rest : more f.count (reads f.matcher (drop f.count part)) ≡ reads m part
