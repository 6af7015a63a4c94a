-- A part of one stretch that new bytes replace: what is counted of it.
use Rattle.std.specs.Prelude.{◌≡◌, List, ℕ, ◌+◌, ◌≤◌, length}
use Rattle.counts.specs.Counts.{differing, used}
use Rattle.counts.specs.Tallies.{retally}
use Rattle.memory.specs.declared.parts.Change.{Change}

-- how many places change, the part, and its stretch's tally after it
abbrev pub noted : List ℕ → List ℕ → ℕ → ℕ × List ℕ × ℕ
noted old new tally = (differing old new, new, retally (used old) (used new) tally)

-- the change of two parts
abbrev pub plus : Change → Change → Change
plus c d = record { changed = c.changed + d.changed; before = c.before + d.before; after = c.after + d.after }

-- `before` and `after` leave out bytes that stay: only their difference is that of the bytes in use
pub record Replaced (old new : List ℕ) (c : Change) : Type 0 where
  pub count : c.changed ≡ differing old new
  pub balance : c.after + used old ≡ c.before + used new
  pub most-before : c.before ≤ length old
  pub most-after : c.after ≤ length old
