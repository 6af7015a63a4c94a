-- `memory::parts::replace` meets its contract, short part by short part. Assumes nothing.
use mathlib.Core.Path.{◌≡◌}
use Prim.Native.Nat.{◌*◌}
use lib.ListN.{length}
use Rattle.memory.proofs.Replaced.{Below}
use Rattle.memory.proofs.parts.replace.Given as goal

abbrev pub invariant-loop-k : goal.invariant-loop-k
invariant-loop-k l = (length l.part ≡ length l.initial.part) × Below (128 * l.k) l.initial.part l.bytes l.part l.total
