use mathlib.Core.Path.{◌≡◌}
use lib.ListN.{drop}
use Rattle.frames.specs.Frames.{pushed_all}
use Rattle.cuttrace_lib.proofs.setup.first_kind.Given as goal

abbrev pub invariant-loop-c : goal.invariant-loop-c
invariant-loop-c l = pushed_all l.initial.l l.line ≡ pushed_all l.l (drop l.c-index l.line)
