-- `matcher::quiet::pair_in` meets its contract. The invariant: a pair so far or in what is left, is a pair in all. Assumes nothing.
use mathlib.Core.Path.{◌≡◌}
use mathlib.Core.Bool.{◌||◌}
use Prim.Native.Nat.{◌+◌}
use lib.ListN.{get_or, drop}
use Rattle.matcher.specs.Quiet.{pairs}
use Rattle.matcher.proofs.quiet.pair_in.Given as goal

abbrev pub invariant-loop-i : goal.invariant-loop-i
invariant-loop-i l = l.hit || pairs (get_or l.w l.i 0) (drop (l.i + 1) l.w) ≡ pairs (get_or l.w 0 0) (drop 1 l.w)
