-- What the search answers fits a `u32`. Assumes nothing.
use mathlib.Core.Path.{◌≡◌, ap}
use mathlib.Core.Bool.{true}
use mathlib.Core.List.{List}
use Prim.Native.Nat.{ℕ, ◌≤◌}
use native.Mathlib.Omega.{arith}
use lib.Dec.{leb}
use lib.ListN.{length}
use borrow.Author.Tests.{leb-true}
use Rattle.lists.proofs.Bools.{and_right}
use Rattle.image.specs.Image.{image_length}
use Rattle.matcher.specs.declared.Found.{Found}
use Rattle.matcher.specs.Search.{found}
use Rattle.matcher.proofs.Deciding.{handed-le}

-- the number fits a `u32`
pub small : (image : List ℕ) → image_length (length image) ≡ true → (f : Found) → f ≡ found image → f.count ≤ 33554432
unfolding image_length found
small image e f p =
    let l = leb-true (length image) 33554432 (and_right (leb 192 (length image)) (leb (length image) 33554432) e) in
    omega (arith, ap (λ (x : Found). x.count) p, handed-le image)
