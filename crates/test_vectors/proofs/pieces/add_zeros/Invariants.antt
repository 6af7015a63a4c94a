use Rattle.std.proofs.Common.{◌≡◌, ◌+◌, ◌*◌, ◌≤◌, length}
use Rattle.test_vectors.proofs.pieces.add_zeros.Given as goal

abbrev pub invariant-loop : goal.invariant-loop
invariant-loop l = (length l.piece ≡ 4096) × (l.now.count ≤ l.fn.before.count + 4096 * l.counter)
