-- Where a marker stands, from either end. Assumes nothing.
use mathlib.Core.Path.{◌≡◌, refl, sym, ap, ◌∙◌}
use mathlib.Core.Bool.{Bool, true, false, not, ◌&&◌, or-true}
use mathlib.Core.List.{List, [], ◌∷◌, ◌++◌, append_assoc, reverse, reverse-append, reverse-reverse}
use Prim.Native.Nat.{ℕ, zero, suc, ◌+◌, ◌≤◌, ◌<◌}
use native.Mathlib.Omega.{arith}
use lib.Dec.{eqb}
use lib.ListN.{length, take, drop, length-append, length-reverse, take-append-drop, replicate}
use borrow.Author.Tests.{eqb-true, eq-eqb, not-true}
use Rattle.lists.proofs.Bools.{cases, and_left, and_right}
use Rattle.lists.proofs.Bools.{or-true as neither}
use Rattle.kind.specs.Kind.{begins, stands}
use Rattle.matcher.specs.Search.{behind_first}

-- what lies behind a text's front
begins-front : (p s t : List ℕ) → length p ≤ length s → begins p (s ++ t) ≡ begins p s
unfolding begins
begins-front [] s t h = refl
begins-front (b ∷ p) [] t h = absurd (omega arith)
begins-front (b ∷ p) (c ∷ s) t h = rw (begins-front p s t (omega arith))

begins-take : (p s : List ℕ) (n : ℕ) → length p ≤ n → begins p (take n s) ≡ begins p s
unfolding begins
begins-take [] s n h = refl
begins-take (b ∷ p) s zero h = absurd (omega arith)
begins-take (b ∷ p) [] (suc n) h = refl
begins-take (b ∷ p) (c ∷ s) (suc n) h = rw (begins-take p s n (omega arith))

pub begins-part : (a n : ℕ) (p s : List ℕ) → a + length p ≤ n → begins p (drop a (take n s)) ≡ begins p (drop a s)
begins-part zero n p s h = begins-take p s n (omega arith)
begins-part (suc a) zero p s h = absurd (omega arith)
begins-part (suc a) (suc n) p [] h = refl
begins-part (suc a) (suc n) p (c ∷ s) h = begins-part a n p s (omega arith)

-- a marker has no byte 0, and so does not begin in zeros
abbrev pub plain : List ℕ → Bool
plain [] = true
plain (b ∷ p) = not (eqb b 0) && plain p

begins-zeros : (p r : List ℕ) (k : ℕ) → plain p ≡ true → begins p (r ++ replicate k 0) ≡ begins p r
unfolding begins
begins-zeros [] r k h = refl
begins-zeros (b ∷ p) [] zero h = refl
begins-zeros (b ∷ p) [] (suc k) h = rw (not-true (eqb b 0) (and_left (not (eqb b 0)) (plain p) h))
begins-zeros (b ∷ p) (c ∷ r) k h = rw (begins-zeros p r k (and_right (not (eqb b 0)) (plain p) h))

-- nine last bytes, zeros at first, are enough to see a marker's end
pub enough : (q : List ℕ) (b : ℕ) (r : List ℕ) → length q ≤ 10 → plain q ≡ true → begins q (b ∷ take 9 (r ++ replicate 9 0)) ≡ begins q (b ∷ r)
enough q b r h k = begins-take q (b ∷ (r ++ replicate 9 0)) 10 h ∙ begins-zeros q (b ∷ r) 9 k

-- a text that begins with p, and one in which p stands
pub begins-own : (p t : List ℕ) → begins p (p ++ t) ≡ true
unfolding begins
begins-own [] t = refl
begins-own (b ∷ p) t = rw (eq-eqb b b refl) (begins-own p t)

pub begins-split : (p s : List ℕ) → begins p s ≡ true → s ≡ p ++ drop (length p) s
unfolding begins
begins-split [] s h = refl
begins-split (b ∷ p) [] h = let e : ◌≡◌ {A = Bool} false true = h in cc
begins-split (b ∷ p) (c ∷ s) h =
    cases (eqb b c) (λ e. rw (eqb-true b c e) (ap (λ (l : List ℕ). c ∷ l) (begins-split p s (rw e at h))))
    (λ e. let z : ◌≡◌ {A = Bool} false true = rw e at h in cc)

record Standing (p s : List ℕ) : Type 0 where
  pub front : List ℕ
  pub behind : List ℕ
  pub is : s ≡ front ++ (p ++ behind)

standing : (p s : List ℕ) → stands p s ≡ true → Standing p s
unfolding stands
standing p [] h = record { front = []; behind = []; is = let e : ◌≡◌ {A = Bool} false true = h in cc }
standing p (c ∷ s) h =
    cases (begins p (c ∷ s))
    (λ e. record { front = []; behind = drop (length p) (c ∷ s); is = begins-split p (c ∷ s) e })
    (λ e. let w = standing p s (rw e at h) in record { front = c ∷ w.front; behind = w.behind; is = ap (λ (l : List ℕ). c ∷ l) w.is })

stands-in : (p u v : List ℕ) → 0 < length p → stands p (u ++ (p ++ v)) ≡ true
unfolding stands
stands-in [] u v h = absurd (omega arith)
stands-in (b ∷ p) [] v h = rw (begins-own (b ∷ p) v)
stands-in (b ∷ p) (c ∷ u) v h = rw (stands-in (b ∷ p) u v h) (or-true (begins (b ∷ p) (c ∷ (u ++ ((b ∷ p) ++ v)))))

pub stands-front : (p s : List ℕ) (n : ℕ) → 0 < length p → stands p (take n s) ≡ true → stands p s ≡ true
stands-front p s n h e =
    let w = standing p (take n s) e in
    let k : s ≡ w.front ++ (p ++ (w.behind ++ drop n s)) =
    sym (take-append-drop n s) ∙ ap (λ (l : List ℕ). l ++ drop n s) w.is ∙ append_assoc w.front (p ++ w.behind) (drop n s) ∙ ap (λ (l : List ℕ). w.front ++ l) (append_assoc p w.behind (drop n s)) in
    ap (stands p) k ∙ stands-in p w.front (w.behind ++ drop n s) h

-- read from the other end
backward : (p s : List ℕ) → 0 < length p → stands p s ≡ true → stands (reverse p) (reverse s) ≡ true
backward p s h e =
    let w = standing p s e in
    let k : reverse s ≡ reverse w.behind ++ (reverse p ++ reverse w.front) =
    ap (λ (l : List ℕ). reverse l) w.is ∙ reverse-append w.front (p ++ w.behind) ∙ ap (λ (l : List ℕ). l ++ reverse w.front) (reverse-append p w.behind) ∙ append_assoc (reverse w.behind) (reverse p) (reverse w.front) in
    ap (stands (reverse p)) k ∙ stands-in (reverse p) (reverse w.behind) (reverse w.front) (omega (arith, length-reverse p))

pub same : (a b : Bool) → (a ≡ true → b ≡ true) → (b ≡ true → a ≡ true) → a ≡ b
same true b f g = sym (f refl)
same false true f g = g refl
same false false f g = refl

pub stands-reverse : (p s : List ℕ) → 0 < length p → stands (reverse p) (reverse s) ≡ stands p s
stands-reverse p s h =
    same (stands (reverse p) (reverse s)) (stands p s)
    (λ e. sym (ap (λ (l : List ℕ). stands l (reverse (reverse s))) (reverse-reverse p) ∙ ap (stands p) (reverse-reverse s)) ∙ backward (reverse p) (reverse s) (omega (arith, length-reverse p)) e)
    (λ e. backward p s h e)

-- the place behind the first: none stands in the text, and the first one ends with the byte b
pub behind-none : (p s : List ℕ) → stands p s ≡ false → behind_first p s ≡ length s
unfolding stands behind_first
behind-none p [] h = refl
behind-none p (c ∷ s) h =
    let o = neither (begins p (c ∷ s)) (stands p s) h in
    rw o.0 (ap suc (behind-none p s o.1))

behind-own : (p t : List ℕ) → 0 < length p → behind_first p (p ++ t) ≡ length p
unfolding behind_first
behind-own [] t h = absurd (omega arith)
behind-own (b ∷ p) t h = rw (begins-own (b ∷ p) t)

pub behind-end : (p u x : List ℕ) (b : ℕ) (s : List ℕ) → 0 < length p → x ++ (b ∷ []) ≡ u ++ p → stands p x ≡ false → behind_first p (x ++ (b ∷ s)) ≡ length x + 1
unfolding stands behind_first
behind-end p [] x b s h e k =
    ap (behind_first p) (sym (append_assoc x (b ∷ []) s) ∙ ap (λ (l : List ℕ). l ++ s) e) ∙ behind-own p s h ∙ omega (arith, ap length e, length-append x (b ∷ []))
behind-end p (c ∷ u) [] b s h e k = absurd (omega (arith, ap length e, length-append u p))
behind-end p (c ∷ u) (d ∷ x) b s h e k =
    let o = neither (begins p (d ∷ x)) (stands p x) k in
    let t : x ++ (b ∷ []) ≡ u ++ p = cc in
    let l : length p ≤ length (d ∷ x) = omega (arith, ap length t, length-append x (b ∷ []), length-append u p) in
    rw (begins-front p (d ∷ x) (b ∷ s) l ∙ o.0) (ap suc (behind-end p u x b s h t o.1) ∙ omega arith)
