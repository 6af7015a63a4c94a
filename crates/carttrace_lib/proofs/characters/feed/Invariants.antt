use Rattle.carttrace_lib.specs.Session.{buffers}
use Rattle.carttrace_lib.proofs.Feeding.{Fed}
use Rattle.carttrace_lib.proofs.characters.feed.Given as goal

abbrev pub invariant-loop-c : goal.invariant-loop-c
invariant-loop-c l = Fed l.input (buffers l.initial.memory l.initial.tallies) l.initial.out l.initial.s (buffers l.memory l.tallies) l.out l.s l.len l.c-index
