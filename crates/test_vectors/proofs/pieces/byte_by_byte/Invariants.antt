use Rattle.std.proofs.Common.{◌≤◌}
use Rattle.test_vectors.proofs.pieces.byte_by_byte.Given as goal

abbrev pub invariant-loop-byte : goal.invariant-loop-byte
invariant-loop-byte l = l.now.count ≤ l.byte-index
