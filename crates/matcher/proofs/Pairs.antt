-- The pair _V in bytes read on. Assumes nothing.
use mathlib.Core.Path.{◌≡◌, refl, sym, ◌∙◌}
use mathlib.Core.Bool.{Bool, false, ◌&&◌, ◌||◌, or_assoc, or-false}
use mathlib.Core.List.{List, [], ◌∷◌}
use Prim.Native.Nat.{ℕ, zero, suc, ◌+◌, ◌≤◌, ◌<◌}
use native.Mathlib.Nat.{zero-add, suc-add}
use native.Mathlib.Numerals.{add-one}
use native.Mathlib.Omega.{arith}
use lib.Dec.{eqb}
use lib.ListN.{length, get_or, take, drop, drop_of_length-le}
use lib.Seq.{drop-cons}
use Rattle.lists.proofs.Bools.{or-true}
use Rattle.matcher.specs.Quiet.{pairs, Quiet}

-- one place more, and the end
pub pairs-on : (hit : Bool) (a : ℕ) (w : List ℕ) (i : ℕ) → i < length w
    → (hit || (eqb 0x5f a && eqb 0x56 (get_or w i 0))) || pairs (get_or w i 0) (drop (i + 1) w) ≡ hit || pairs a (drop i w)
unfolding pairs
pairs-on hit a w i h = rw (drop-cons w i 0 h, add-one i) (or_assoc hit (eqb 0x5f a && eqb 0x56 (get_or w i 0)) (pairs (get_or w i 0) (drop (suc i) w)))

pub pairs_end : (hit : Bool) (a : ℕ) (w : List ℕ) (i : ℕ) → length w ≤ i → hit ≡ hit || pairs a (drop i w)
unfolding pairs
pairs_end hit a w i h = rw (drop_of_length-le w h) (sym (or-false hit))

-- bytes without the pair, and more of them
join : (a : ℕ) (s : List ℕ) (n k : ℕ) → n < length s → pairs a (take (suc n) s) ≡ false → pairs (get_or s n 0) (take k (drop (suc n) s)) ≡ false → pairs a (take (suc (n + k)) s) ≡ false
unfolding pairs
join a [] n k h p q = absurd (omega arith)
join a (b ∷ s) zero k h p q = rw (zero-add k) (rw q p)
join a (b ∷ s) (suc n) k h p q =
    let o = or-true (eqb 0x5f a && eqb 0x56 b) (pairs b (take (suc n) s)) p in
    rw (suc-add n k) (rw o.0 (join b s n k (omega arith) o.1 q))

pub pairs-join : (a : ℕ) (s : List ℕ) (n k : ℕ) → n < length s → pairs a (take (n + 1) s) ≡ false → pairs (get_or s n 0) (take k (drop (n + 1) s)) ≡ false → pairs a (take (n + k + 1) s) ≡ false
pairs-join a s n k h p q = rw (add-one (n + k)) (join a s n k h (rw (add-one n) at p) (rw (add-one n) at q))

-- the 33 bytes from place n on
pub window : (s : List ℕ) (n e : ℕ) → n < length s → e ≡ 33
    → pairs (get_or (take e (drop n s)) 0 0) (drop 1 (take e (drop n s))) ≡ pairs (get_or s n 0) (take 32 (drop (n + 1) s))
window s n e h k = rw (k, drop-cons s n 0 h, add-one n)

-- the first byte alone, and no byte
pub pairs_first : (a : ℕ) (s : List ℕ) → 0 < length s → eqb 0x5f a && eqb 0x56 (get_or s 0 0) ≡ false → pairs a (take 1 s) ≡ false
unfolding pairs
pairs_first a [] h p = absurd (omega arith)
pairs_first a (b ∷ s) h p = or-false _ ∙ p

pub quiet_none : (a : ℕ) (s : List ℕ) → Quiet a s 0
unfolding pairs
quiet_none a s = record { within = omega arith; enough = λ h. absurd (h refl); calm = refl }
