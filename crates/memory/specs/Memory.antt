-- The save memory: erased bytes, what each store leaves, how many places it changes, and the tallies after it.
use Rattle.std.specs.Prelude.{◌≡◌, Bool, true, false, ◌||◌, List, [], ◌++◌, ℕ, ◌+◌, ◌*◌, ◌-◌, ◌/◌, ◌≤◌, ◌<◌, length, take, set, replicate}
use Rattle.lists.specs.Lists.{digits, with_part}
use Rattle.counts.specs.Counts.{differing}
use Rattle.counts.specs.Tallies.{retallied}
use Rattle.memory.specs.declared.Store.{Store}
use Rattle.memory.specs.declared.Store.TheVariants.{Nothing, Byte, Block, Sector, Chip, File}

-- n bytes FFh
unfoldable pub erased : ℕ → List ℕ
erased n = replicate n 0xff

-- 01, Files: "memory FFh, then the file's first bytes"
unfoldable pub filled : ℕ → List ℕ → List ℕ
filled n file = take n file ++ erased (n - length file)

-- what each store leaves of a memory; `file` is what the call was passed. 01, Serial EEPROM: "stores acc in the
-- block's eight bytes, highest first"; Bytes: "fills A's 4,096-byte sector with FFh, 10h the whole chip"
unfoldable pub stored : Store → List ℕ → List ℕ → List ℕ
stored Nothing file m = m
stored (Byte a v) file m = set m a v
stored (Block k d) file m = with_part m (8 * k) (digits 256 8 d)
stored (Sector a) file m = with_part m (a / 4096 * 4096) (erased 4096)
stored Chip file m = erased (length m)
stored File file m = filled (length m) file

-- a store's answer (02, ticket 2), what it leaves, and the tallies after it (02, ticket 4)
abbrev pub with_count : List ℕ → List ℕ → List ℕ → ℕ × List ℕ × List ℕ
with_count before after tallies = (differing before after, after, retallied before after tallies)

-- there is a tally for each 4,096 bytes of a memory of n bytes
abbrev pub Tallied : ℕ → List ℕ → Type 0
Tallied n tallies = n ≡ 4096 * length tallies

-- what is stored lies within a memory of n bytes
abbrev pub Fits : Store → ℕ → Type 0
Fits Nothing n = Unit
Fits (Byte a v) n = a < n
Fits (Block k d) n = 8 * k + 8 ≤ n
Fits (Sector a) n = a / 4096 * 4096 + 4096 ≤ n
Fits Chip n = n ≤ 131072
Fits File n = n ≤ 131072

-- the most places that a store changes in a memory of n bytes
abbrev pub most : Store → ℕ → ℕ
most Nothing n = 0
most (Byte a v) n = 1
most (Block k d) n = 8
most (Sector a) n = 4096
most Chip n = n
most File n = n

-- "sets the flag": a chip's step that stores; "The flag stays" at a load
abbrev pub stores : Store → Bool
stores Nothing = false
stores (Byte a v) = true
stores (Block k d) = true
stores (Sector a) = true
stores Chip = true
stores File = false

-- a chip with the memory and the changed flag beside it
pub record Held (A : Type 0) : Type 0 where
  pub chip : A
  pub memory : List ℕ
  pub dirty : Bool

-- Every change of a save memory: the chip after the step, what is stored, and whether that sets the flag.
abbrev pub changed : {A : Type 0} → A → Store → List ℕ → Bool → Held A → Held A
changed chip store file sets x =
    record { chip = chip; memory = stored store file x.memory; dirty = sets || x.dirty }

-- by a chip's own step, which is passed no file
abbrev pub applied : {A : Type 0} → A → Store → Held A → Held A
applied chip store x = changed chip store [] (stores store) x
