use Prim.Native.Nat.{◌+◌, ◌-◌}
use lib.ListN.{length}
use Rattle.cuttrace_lib.proofs.Prints.{Printed}
use Rattle.cuttrace_lib.proofs.printing.print_lines.Given as goal

abbrev pub invariant-loop-i : goal.invariant-loop-i
invariant-loop-i l = Printed l.text l.memory l.answers l.initial.room l.initial.out l.room l.out l.len l.at l.i

abbrev pub decreases-loop-i : goal.decreases-loop-i
decreases-loop-i l = length l.text + 1 - l.i
