-- Bytes that are all FFh. Assumes nothing.
use mathlib.Core.Path.{◌≡◌, refl, ap₂}
use mathlib.Core.Bool.{true}
use mathlib.Core.List.{List, [], ◌∷◌}
use Prim.Native.Nat.{ℕ, zero, suc}
use Rattle.std.specs.List.{list_all}
use lib.Dec.{eqb}
use lib.ListN.{length}
use borrow.Author.Tests.{eqb-true}
use Rattle.lists.specs.Lists.{erased, all_ff}
use Rattle.lists.proofs.Bools.{and_left, and_right}

-- the library's test of each byte
pub all-ff : (s : List ℕ) → list_all (λ b. eqb b 255) s ≡ all_ff s
unfolding all_ff
all-ff [] = refl
all-ff (b ∷ s) = rw (all-ff s)

-- such bytes are an erased memory's, and those are such
pub ff-erased : (s : List ℕ) → all_ff s ≡ true → s ≡ erased (length s)
unfolding all_ff erased
ff-erased [] e = refl
ff-erased (b ∷ s) e =
    ap₂ (λ (x : ℕ) (l : List ℕ). x ∷ l) (eqb-true b 255 (and_left (eqb b 255) (all_ff s) e))
    (ff-erased s (and_right (eqb b 255) (all_ff s) e))

pub erased-ff : (n : ℕ) → all_ff (erased n) ≡ true
unfolding all_ff erased
erased-ff zero = refl
erased-ff (suc n) = erased-ff n
