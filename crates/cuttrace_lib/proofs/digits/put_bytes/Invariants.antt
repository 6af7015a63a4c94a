use mathlib.Core.Path.{◌≡◌}
use Prim.Native.Nat.{◌*◌}
use lib.ListN.{length, take, drop}
use Rattle.cuttrace_lib.specs.Lines.{unhex}
use Rattle.cuttrace_lib.proofs.Unhex.{joined}
use Rattle.cuttrace_lib.proofs.digits.put_bytes.Given as goal

abbrev pub invariant-loop-i : goal.invariant-loop-i
invariant-loop-i l = (length l.room ≡ length l.initial.room) × (unhex l.line ≡ joined (take l.i l.room) (unhex (drop (2 * l.i) l.line)))
