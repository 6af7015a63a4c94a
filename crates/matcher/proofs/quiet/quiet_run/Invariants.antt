-- `matcher::quiet::quiet_run` meets its contract. The invariant: no pair up to place n. Assumes nothing.
use mathlib.Core.Path.{◌≡◌}
use mathlib.Core.Logic.{◌≢◌}
use mathlib.Core.Bool.{false}
use Prim.Native.Nat.{◌+◌, ◌-◌, ◌≤◌}
use lib.ListN.{length, take}
use Rattle.matcher.specs.Quiet.{pairs}
use Rattle.matcher.proofs.quiet.quiet_run.Given as goal

abbrev pub invariant-loop-n : goal.invariant-loop-n
invariant-loop-n l = (l.n + 1 ≤ length l.part) × (l.n ≢ 0 → 32 ≤ l.n) × (pairs l.before (take (l.n + 1) l.part) ≡ false)

abbrev pub decreases-loop-n : goal.decreases-loop-n
decreases-loop-n l = length l.part - l.n
