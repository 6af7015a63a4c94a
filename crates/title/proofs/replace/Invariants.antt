-- `title::replace` meets its contract. The invariant: what is written, with the replacement of what is left, is the whole. Assumes nothing.
use mathlib.Core.Path.{◌≡◌}
use mathlib.Core.List.{◌++◌}
use Prim.Native.Nat.{◌+◌, ◌*◌, ◌≤◌}
use lib.ListN.{length, take}
use Rattle.title.specs.Title.{replaced}
use Rattle.title.proofs.replace.Given as goal

abbrev pub invariant-loop-t : goal.invariant-loop-t
invariant-loop-t l = (l.n + 3 * length l.t ≤ length l.out) × (length l.out ≡ length l.initial.out) × (take l.n l.out ++ replaced 0 l.t ≡ replaced 0 l.s)

abbrev pub decreases-loop-t : goal.decreases-loop-t
decreases-loop-t l = length l.t
