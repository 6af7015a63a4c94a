-- How many places differ, and how many bytes are in use. Assumes nothing.
use mathlib.Core.Path.{◌≡◌, refl, sym, ap, ap₂, ◌∙◌}
use mathlib.Core.List.{List, [], ◌∷◌, ◌++◌}
use Prim.Native.Nat.{ℕ, zero, suc, ◌+◌, ◌*◌, ◌-◌, ◌≤◌, ◌<◌}
use native.Mathlib.Numerals.{add-one}
use native.Mathlib.Omega.{arith}
use Rattle.std.specs.List.{sum_by, zip}
use Rattle.std.specs.Simd.{first_chunks}
use Rattle.std.proofs.lemmas.List.Sums.{sum_by-cons}
use lib.Dec.{eqb}
use lib.ListN.{length, get_or, set, take, drop, replicate, length-take, length-drop, take-append-drop, drop_of_length-le}
use lib.Seq.{drop-drop, drop-cons, set_split}
use borrow.Author.Tests.{eq-eqb, eqb-true}
use Rattle.lists.specs.Lists.{with_part}
use Rattle.lists.proofs.Bools.{either, cases}
use Rattle.counts.specs.Counts.{differs, differing, used}

differs-same : (x : ℕ) → differs x x ≡ 0
differs-same x = rw (eq-eqb x x refl)

pub differs-1 : (x y : ℕ) → differs x y ≤ 1
differs-1 x y = either (λ (n : ℕ). n ≤ 1) (eqb x y) (omega arith) (omega arith)

differs-0 : (x y : ℕ) → differs x y ≡ 0 → x ≡ y
differs-0 x y e = cases (eqb x y) (λ t. eqb-true x y t) (λ f. let z : differs x y ≡ 1 = rw f in absurd (omega arith))

-- as sums over the places
pub differing-sum : (l k : List ℕ) → sum_by (λ (p : ℕ × ℕ). differs p.0 p.1) (zip l k) ≡ differing l k
unfolding differing
differing-sum [] k = refl
differing-sum (x ∷ l) [] = refl
differing-sum (x ∷ l) (y ∷ k) = rw (sum_by-cons, differing-sum l k)

pub used-sum : (l : List ℕ) → sum_by (λ (b : ℕ). differs b 255) l ≡ used l
unfolding used
used-sum [] = refl
used-sum (x ∷ l) = rw (sum_by-cons, used-sum l)

-- at most as many as there are places
pub differing-le : (l k : List ℕ) → differing l k ≤ length l
unfolding differing
differing-le [] k = omega arith
differing-le (x ∷ l) [] = omega arith
differing-le (x ∷ l) (y ∷ k) = omega (arith, differs-1 x y, differing-le l k)

-- none in the same memory, and in no other of its length
pub differing-same : (l : List ℕ) → differing l l ≡ 0
unfolding differing
differing-same [] = refl
differing-same (x ∷ l) = omega (arith, differs-same x, differing-same l)

pub differing-0 : (l k : List ℕ) → length k ≡ length l → differing l k ≡ 0 → k ≡ l
unfolding differing
differing-0 [] [] h e = refl
differing-0 [] (y ∷ k) h e = absurd (omega arith)
differing-0 (x ∷ l) [] h e = absurd (omega arith)
differing-0 (x ∷ l) (y ∷ k) h e =
    ap₂ (λ (z : ℕ) (j : List ℕ). z ∷ j) (sym (differs-0 x y (omega arith))) (differing-0 l k (omega arith) (omega arith))

-- of two parts
pub differing-append : (a b c d : List ℕ) → length a ≡ length c → differing (a ++ b) (c ++ d) ≡ differing a c + differing b d
unfolding differing
differing-append [] b [] d e = omega arith
differing-append [] b (y ∷ c) d e = absurd (omega arith)
differing-append (x ∷ a) b [] d e = absurd (omega arith)
differing-append (x ∷ a) b (y ∷ c) d e = omega (arith, differing-append a b c d (omega arith))

-- a memory as what lies before a part, the part, and what lies after it
pub parts : (m : List ℕ) (a n : ℕ) → take a m ++ (take n (drop a m) ++ drop (a + n) m) ≡ m
parts m a n = rw (← drop-drop n a m, take-append-drop n (drop a m), take-append-drop a m)

-- the places that a new part changes
pub differing-part : (m : List ℕ) (a : ℕ) (ys : List ℕ) → a + length ys ≤ length m
    → differing m (with_part m a ys) ≡ differing (take (length ys) (drop a m)) ys
unfolding with_part
differing-part m a ys h =
    let old : List ℕ = take (length ys) (drop a m) in
    let b : List ℕ = drop (a + length ys) m in
    let l : length old ≡ length ys = simp (length-take, length-drop) (omega arith) in
    ap (λ (l : List ℕ). differing l (take a m ++ (ys ++ b))) (sym (parts m a (length ys)))
    ∙ differing-append (take a m) (old ++ b) (take a m) (ys ++ b) refl
    ∙ ap₂ ◌+◌ (differing-same (take a m)) (differing-append old b ys b l ∙ ap (λ (n : ℕ). differing old ys + n) (differing-same b))
    ∙ omega arith

-- a byte is a part of one
pub set-part : (m : List ℕ) (a v : ℕ) → a < length m → set m a v ≡ with_part m a (v ∷ [])
unfolding with_part
set-part m a v h = rw (set_split m a v h, add-one a)

pub byte_of : (m : List ℕ) (a : ℕ) → a < length m → take 1 (drop a m) ≡ get_or m a 0 ∷ []
byte_of m a h = rw (drop-cons m a 0 h)

pub differing-set : (m : List ℕ) (a v : ℕ) → a < length m → differing m (set m a v) ≡ differs (get_or m a 0) v
unfolding differing
differing-set m a v h =
    ap (differing m) (set-part m a v h) ∙ differing-part m a (v ∷ []) (omega arith)
    ∙ ap (λ (l : List ℕ). differing l (v ∷ [])) (byte_of m a h) ∙ omega arith

-- from place i on: as far as place e, and to the end
pub differing-on : (l k : List ℕ) (i e : ℕ) → i ≤ e → length l ≡ length k
    → differing (drop i l) (drop i k) ≡ differing (take (e - i) (drop i l)) (take (e - i) (drop i k)) + differing (drop e l) (drop e k)
differing-on l k i e h g =
    let q : i + (e - i) ≡ e = omega arith in
    let n : length (take (e - i) (drop i l)) ≡ length (take (e - i) (drop i k)) = simp (length-take, length-drop) (omega arith) in
    ap₂ differing (sym (take-append-drop (e - i) (drop i l))) (sym (take-append-drop (e - i) (drop i k)))
    ∙ differing-append (take (e - i) (drop i l)) (drop (e - i) (drop i l)) (take (e - i) (drop i k)) (drop (e - i) (drop i k)) n
    ∙ rw (drop-drop (e - i) i l, drop-drop (e - i) i k, q)

pub differing-end : (l k : List ℕ) (i : ℕ) → length l ≤ i → differing (drop i l) (drop i k) ≡ 0
unfolding differing
differing-end l k i h = rw (drop_of_length-le l h)

-- the bytes in use, likewise
pub used_le : (l : List ℕ) → used l ≤ length l
unfolding used
used_le [] = omega arith
used_le (x ∷ l) = omega (arith, differs-1 x 255, used_le l)

pub used-append : (l k : List ℕ) → used (l ++ k) ≡ used l + used k
unfolding used
used-append [] k = omega arith
used-append (x ∷ l) k = omega (arith, used-append l k)

pub used-on : (l : List ℕ) (i e : ℕ) → i ≤ e → used (drop i l) ≡ used (take (e - i) (drop i l)) + used (drop e l)
used-on l i e h =
    let q : i + (e - i) ≡ e = omega arith in
    ap used (sym (take-append-drop (e - i) (drop i l))) ∙ used-append (take (e - i) (drop i l)) (drop (e - i) (drop i l))
    ∙ rw (drop-drop (e - i) i l, q)

pub used-end : (l : List ℕ) (i : ℕ) → length l ≤ i → used (drop i l) ≡ 0
unfolding used
used-end l i h = rw (drop_of_length-le l h)

-- of k parts of 128 and what is left
pub used-parts : (k : ℕ) (l : List ℕ) → sum_by used (first_chunks 128 k l) + used (drop (k * 128) l) ≡ used l
used-parts zero l = omega arith
used-parts (suc k) l =
    let e : 128 + k * 128 ≡ suc k * 128 = omega arith in
    let h = rw (drop-drop (k * 128) 128 l, e) at (used-parts k (drop 128 l)) in
    rw sum_by-cons (omega (arith, h, used-append (take 128 l) (drop 128 l), ap used (take-append-drop 128 l)))

-- FFh everywhere: none is in use, and as many differ from it as are in use
pub used-blank : (n : ℕ) → used (replicate n 255) ≡ 0
unfolding used
used-blank zero = refl
used-blank (suc n) = omega (arith, used-blank n)

pub differing-blank : (l : List ℕ) (n : ℕ) → n ≡ length l → differing l (replicate n 255) ≡ used l
unfolding differing used
differing-blank [] n e = refl
differing-blank (x ∷ l) zero e = absurd (omega arith)
differing-blank (x ∷ l) (suc n) e = ap (λ (k : ℕ). differs x 255 + k) (differing-blank l n (omega arith))
