-- `memory::leaves::load` meets its contract, stretch by stretch. Assumes nothing.
use mathlib.Core.Path.{◌≡◌}
use lib.ListN.{length}
use Rattle.memory.proofs.Loads.{Loaded}
use Rattle.memory.proofs.leaves.load.Given as goal

abbrev pub invariant-loop-k : goal.invariant-loop-k
invariant-loop-k l =
    (length l.memory ≡ length l.initial.memory)
    × Loaded l.k l.initial.memory l.file l.initial.tallies l.memory l.tallies l.changed
