-- `test_vectors::pieces::add_piece` meets its contract. Assumes nothing.
use mathlib.Core.Path.{◌≡◌}
use mathlib.Core.List.{List}
use Prim.Native.Nat.{ℕ, ◌≤◌}
use native.Mathlib.Omega.{arith}
use lib.ListN.{length}
use Rattle.matcher.specs.declared.Matcher.{Matcher}
use Rattle.matcher.specs.declared.Fed.{Fed}
use Rattle.matcher.specs.Reading.{reads}
use Rattle.matcher.proofs.Reading.{reads-within}
use Rattle.test_vectors.proofs.pieces.add_piece.Goals as goal

-- no more bytes are handed over than the piece has
within : (m : Matcher) (piece : List ℕ) {f : Fed} → f ≡ reads m piece → f.count ≤ length piece
within m piece e = rw e (reads-within m piece)

pub overflow_add-result : goal.overflow_add-result
overflow_add-result c = omega (arith, within _ _ c.feed-more.ensures)

pub returns : goal.returns
returns c = omega (arith, within _ _ c.feed-more.ensures)
