-- Where a marker stands. Assumes nothing.
use mathlib.Core.Path.{◌≡◌, refl, ap, ◌∙◌}
use mathlib.Core.Bool.{Bool, true, false, ◌||◌}
use mathlib.Core.List.{List, [], ◌∷◌}
use Prim.Native.Nat.{ℕ, suc, ◌+◌, ◌-◌, ◌<◌}
use native.Mathlib.Numerals.{add-one}
use lib.ListN.{length, get_or, take, drop}
use lib.Seq.{drop-cons}
use Rattle.lists.proofs.Parts.{rest}
use Rattle.lists.specs.Lists as Lists
use Rattle.kind.specs.Kind.{begins, stands}

-- `begins` of `lists` is the same, and tells where a text begins from place i on
same-begins : (p s : List ℕ) → Lists.begins p s ≡ begins p s
unfolding begins Lists.begins
same-begins [] s = refl
same-begins (b ∷ p) [] = refl
same-begins (b ∷ p) (c ∷ s) = rw (same-begins p s)

pub tested : (p s : List ℕ) (i : ℕ) {r : Bool} → r ≡ Lists.begins p (take (length s - i) (drop i s)) → r ≡ begins p (drop i s)
tested p s i e = e ∙ rw (rest i s) (same-begins p (drop i s))

-- the marker does not begin at place i
pub stands_on : (p s : List ℕ) (i : ℕ) → i < length s → begins p (drop i s) ≡ false → stands p (drop i s) ≡ stands p (drop (i + 1) s)
unfolding stands
stands_on p s i h e = rw (add-one i) (stand (rw (drop-cons s i 0 h) at e))
  where
    stand : begins p (get_or s i 0 ∷ drop (suc i) s) ≡ false → stands p (drop i s) ≡ stands p (drop (suc i) s)
    stand e = rw (drop-cons s i 0 h, e)

-- or it does
pub stands_here : (p s : List ℕ) (i : ℕ) → i < length s → begins p (drop i s) ≡ true → stands p (drop i s) ≡ true
unfolding stands
stands_here p s i h e = rw (drop-cons s i 0 h) (ap (λ (t : Bool). t || stands p (drop (suc i) s)) (rw (drop-cons s i 0 h) at e))
