use Prim.Native.Nat.{◌-◌}
use lib.ListN.{length}
use Rattle.replay.proofs.Runs.{Ran}
use Rattle.replay.proofs.running.run.Given as goal

abbrev pub invariant-loop-i : goal.invariant-loop-i
invariant-loop-i l =
    Ran l.image l.part l.list l.initial.memory l.initial.tallies l.initial.scratch l.initial.out l.memory l.tallies l.scratch l.out l.cart l.at l.i

abbrev pub decreases-loop-i : goal.decreases-loop-i
decreases-loop-i l = length l.list - l.i
