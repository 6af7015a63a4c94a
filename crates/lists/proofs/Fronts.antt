-- Where one list begins with another. Assumes nothing.
use mathlib.Core.Path.{◌≡◌, refl, sym, ap, ap₂, ◌∙◌}
use mathlib.Core.Bool.{Bool, true, false, cond, true≢false}
use mathlib.Core.List.{List, [], ◌∷◌}
use Prim.Native.Nat.{ℕ, ◌-◌}
use native.Mathlib.Omega.{arith}
use lib.Dec.{eqb}
use lib.Pointwise.{pointwise}
use lib.ListN.{length, get_or, take, drop}
use lib.Seq.{take_all}
use borrow.Author.Tests.{eq-eqb, ne_eqb, eqb-true}
use Rattle.std.specs.List.{starts_with}
use Rattle.lists.specs.Lists.{begins}
use Rattle.lists.proofs.Bools.{split, cases}

-- the library's test
pub starts-begins : (p s : List ℕ) → pointwise eqb p (take (length p) s) ≡ begins p s
unfolding begins
starts-begins [] s = refl
starts-begins (b ∷ p) [] = refl
starts-begins (b ∷ p) (c ∷ s) = rw (starts-begins p s) (cases (eqb b c) (λ e. rw e) (λ e. rw e))

-- the first bytes apart from the others
pub none-begins : (p s : List ℕ) → eqb (length p) 0 ≡ true → true ≡ begins p s
unfolding begins
none-begins [] s e = refl
none-begins (b ∷ p) s e = let z = eqb-true (length (b ∷ p)) 0 e in absurd (omega arith)

pub nothing-begins : (p s : List ℕ) → eqb (length p) 0 ≡ false → eqb (length s) 0 ≡ true → false ≡ begins p s
unfolding begins
nothing-begins [] s e f = absurd (true≢false e)
nothing-begins (b ∷ p) [] e f = refl
nothing-begins (b ∷ p) (c ∷ s) e f = let z = eqb-true (length (c ∷ s)) 0 f in absurd (omega arith)

pub other-first : (p s : List ℕ) → eqb (length p) 0 ≡ false → eqb (length s) 0 ≡ false → (get_or s 0 0 ≡ get_or p 0 0 → ⊥) → false ≡ begins p s
unfolding begins
other-first [] s e f h = absurd (true≢false e)
other-first (b ∷ p) [] e f h = absurd (true≢false f)
other-first (b ∷ p) (c ∷ s) e f h =
    sym (ap (λ (t : Bool). cond t (begins p s) false) (ne_eqb b c (λ q. h (sym q))))

pub same-first : (p s : List ℕ) → eqb (length p) 0 ≡ false → eqb (length s) 0 ≡ false → get_or s 0 0 ≡ get_or p 0 0
    → starts_with eqb (take (length s - 1) (drop 1 s)) (take (length p - 1) (drop 1 p)) ≡ begins p s
unfolding begins
same-first [] s e f h = absurd (true≢false e)
same-first (b ∷ p) [] e f h = absurd (true≢false f)
same-first (b ∷ p) (c ∷ s) e f h =
    rw (take_all (length (c ∷ s) - 1) s (omega arith), take_all (length (b ∷ p) - 1) p (omega arith))
    (starts-begins p s ∙ sym (ap (λ (t : Bool). cond t (begins p s) false) (eq-eqb b c (sym h))))

-- of lists that are as long, one begins with the other where they are the same
pub fronts-same : (a b : List ℕ) → length a ≡ length b → begins a b ≡ true → b ≡ a
unfolding begins
fronts-same [] [] l e = refl
fronts-same [] (y ∷ b) l e = absurd (omega arith)
fronts-same (x ∷ a) [] l e = absurd (omega arith)
fronts-same (x ∷ a) (y ∷ b) l e =
    split (λ (t : Bool). t ≡ true → y ∷ b ≡ x ∷ a) (eqb x y)
    (λ q t. ap₂ (λ (z : ℕ) (u : List ℕ). z ∷ u) (sym (eqb-true x y q)) (fronts-same a b (omega arith) t))
    (λ q t. absurd (true≢false (sym t))) e

pub begins-self : (a : List ℕ) → begins a a ≡ true
unfolding begins
begins-self [] = refl
begins-self (x ∷ a) = rw (eq-eqb x x refl, begins-self a)
