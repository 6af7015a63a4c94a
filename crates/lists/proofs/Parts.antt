-- Lists with a part replaced. Assumes nothing.
use mathlib.Core.Path.{◌≡◌, refl, sym, ap, subst, ◌∙◌}
use mathlib.Core.Bool.{cond, ◌&&◌}
use mathlib.Core.List.{List, [], ◌∷◌, ◌++◌, append-nil}
use Prim.Native.Nat.{ℕ, zero, suc, ◌+◌, ◌-◌, ◌≤◌, ◌<◌}
use native.Mathlib.Nat.{zero-add, suc-add, add-suc, sub-zero, zero-sub, suc-sub-suc}
use native.Mathlib.Numerals.{add-one}
use native.Mathlib.Omega.{arith}
use lib.Dec.{eqb, leb, ltb}
use lib.ListN.{length, get_or, set, take, drop, replicate, length-append, length-take, length-drop, take-append-drop}
use lib.Seq.{sets, sets-eq, drop-length, take-nil, take_all, slice, slice-cons, slice_empty, drop_at, drop-append-le, take-append-le, drop-cons, get_or-set_same, get_or-set_other, drop-append-add, get_or-append-add, get_or-take, get_or-drop, drop-drop, length-take-le, take-append_seam}
use borrow.Author.Tests.{leb-true, leb-false, ltb-true, ltb-false, eqb-true, eqb-false, eq-eqb, ne_eqb}
use Rattle.lists.proofs.Bools.{cases}
use Rattle.lists.specs.Lists.{fold, with_part, into}

pub length_part : (m : List ℕ) (a : ℕ) (ys : List ℕ) → a + length ys ≤ length m → length (with_part m a ys) ≡ length m
unfolding with_part
length_part m a ys h = simp (length-append, length-take, length-drop) (omega arith)

-- the part from the middle up to place e, lent and given back as ys
pub mid-part : (m : List ℕ) (a e : ℕ) (ys : List ℕ) → e ≡ a + length ys → take a m ++ (ys ++ drop (e - a) (drop a m)) ≡ with_part m a ys
unfolding with_part
mid-part m a e ys h =
    let k : a + (e - a) ≡ a + length ys = omega arith in
    rw (drop-drop (e - a) a m, k)

-- stores to every place of a list
pub set_all : (vs l : List ℕ) → length l ≡ length vs → sets l 0 vs ≡ vs
set_all vs l h =
    let z : 0 + length vs ≡ length l = omega arith in
    sets-eq vs l 0 (omega arith) ∙ rw (z, drop-length l) (append-nil vs)

-- what lies behind the part stays
pub drop-part : (m : List ℕ) (a : ℕ) (ys : List ℕ) (i : ℕ) → a ≤ length m → a + length ys ≤ i → drop i (with_part m a ys) ≡ drop i m
unfolding with_part
drop-part m a ys i h k =
    let p : length (take a m) ≡ a = length-take-le a m h in
    let q : i ≡ length (take a m) + (length ys + (i - a - length ys)) = omega arith in
    let y : a + length ys + (i - a - length ys) ≡ i = omega arith in
    subst (λ (j : ℕ). drop j (take a m ++ (ys ++ drop (a + length ys) m)) ≡ drop i m) (sym q)
    (drop-append-add (take a m) (ys ++ drop (a + length ys) m) (length ys + (i - a - length ys))
    ∙ drop-append-add ys (drop (a + length ys) m) (i - a - length ys)
    ∙ drop-drop (i - a - length ys) (a + length ys) m
    ∙ ap (λ (j : ℕ). drop j m) y)

-- a turn of a loop that copies
copy-suc : (i : ℕ) (f d : List ℕ) → i < length f → i < length d → set (take i f ++ drop i d) i (get_or f i 0) ≡ take (suc i) f ++ drop (suc i) d
copy-suc i [] d h k = absurd (omega arith)
copy-suc i (x ∷ f) [] h k = absurd (omega arith)
copy-suc zero (x ∷ f) (y ∷ d) h k = refl
copy-suc (suc i) (x ∷ f) (y ∷ d) h k = ap (λ (l : List ℕ). x ∷ l) (copy-suc i f d (omega arith) (omega arith))

pub copy_more : (i : ℕ) (f d : List ℕ) → i < length f → i < length d → set (take i f ++ drop i d) i (get_or f i 0) ≡ take (i + 1) f ++ drop (i + 1) d
copy_more i f d h k = rw (add-one i) (copy-suc i f d h k)

-- one more byte of the output, and more output behind the first
pub put_next : (xs m : List ℕ) (e a : ℕ) → e ≡ length xs → e < length m → set (into xs m) e a ≡ into (xs ++ (a ∷ [])) m
unfolding into
put_next [] [] e a h k = absurd (omega arith)
put_next [] (y ∷ m) e a h k = rw h
put_next (x ∷ xs) [] e a h k = absurd (omega arith)
put_next (x ∷ xs) (y ∷ m) zero a h k = absurd (omega arith)
put_next (x ∷ xs) (y ∷ m) (suc e) a h k = ap (λ (l : List ℕ). x ∷ l) (put_next xs m e a (omega arith) (omega arith))

pub into_more : (xs ys m : List ℕ) (n : ℕ) → n ≡ length xs → n ≤ length m → take n (into xs m) ++ into ys (drop n (into xs m)) ≡ into (xs ++ ys) m
unfolding into
into_more [] ys m n h k = rw h
into_more (x ∷ xs) ys [] n h k = absurd (omega arith)
into_more (x ∷ xs) ys (y ∷ m) zero h k = absurd (omega arith)
into_more (x ∷ xs) ys (y ∷ m) (suc n) h k = ap (λ (l : List ℕ). x ∷ l) (into_more xs ys m n (omega arith) (omega arith))

pub into-again : (xs ys m : List ℕ) → length xs ≤ length m → into (xs ++ ys) (into xs m) ≡ into (xs ++ ys) m
unfolding into
into-again [] ys m h = refl
into-again (x ∷ xs) ys [] h = absurd (omega arith)
into-again (x ∷ xs) ys (y ∷ m) h = ap (λ (l : List ℕ). x ∷ l) (into-again xs ys m (omega arith))

pub length-into : (xs m : List ℕ) → length xs ≤ length m → length (into xs m) ≡ length m
unfolding into
length-into xs m h = simp (length-append, length-drop) (omega arith)

-- the output is what stands at the destination's front
pub front_of : (f d : List ℕ) → take (length f) (into f d) ≡ f
unfolding into
front_of f d = take-append_seam f (drop (length f) d)

-- the n elements of l from place b + i on, by their places
abbrev pub spelled : List ℕ → ℕ → ℕ → ℕ → List ℕ
spelled l b i zero = []
spelled l b i (suc n) = get_or l (b + i) 0 ∷ spelled l b (suc i) n

pub spells : (l : List ℕ) (b n i : ℕ) → b + i + n ≤ length l → take n (drop (b + i) l) ≡ spelled l b i n
spells l b zero i h = refl
spells l b (suc n) i h = rw (drop-cons l (b + i) 0 (omega arith), ← add-suc b i, spells l b n (suc i) (omega arith))

-- a part of what lies before the part, and the part itself
part_left : (p q : List ℕ) (n i : ℕ) → i + n ≤ length p → take n (drop i (p ++ q)) ≡ take n (drop i p)
part_left p q n i h =
    let hi : i ≤ length p = omega arith in
    let hn : n ≤ length (drop i p) = simp length-drop (omega arith) in
    rw (drop-append-le i p q hi, take-append-le n (drop i p) q hn)

pub part-before : (m : List ℕ) (a : ℕ) (ys : List ℕ) (n i : ℕ) → a ≤ length m → i + n ≤ a → take n (drop i (with_part m a ys)) ≡ take n (drop i m)
unfolding with_part
part-before m a ys n i h k =
    let e : length (take a m) ≡ a = length-take-le a m h in
    part_left (take a m) (ys ++ drop (a + length ys) m) n i (omega arith)
    ∙ sym (part_left (take a m) (drop a m) n i (omega arith))
    ∙ ap (λ (l : List ℕ). take n (drop i l)) (take-append-drop a m)

pub part_same : (m : List ℕ) (a : ℕ) (ys : List ℕ) → a ≤ length m → take (length ys) (drop a (with_part m a ys)) ≡ ys
unfolding with_part
part_same m a ys h =
    rw (drop_at (take a m) (ys ++ drop (a + length ys) m) a (length-take-le a m h)) (take-append_seam ys (drop (a + length ys) m))

-- what stands at place p behind a new part: within it and outside it
left_at : (xs ys : List ℕ) (i : ℕ) → i < length xs → get_or (xs ++ ys) i 0 ≡ get_or xs i 0
left_at [] ys i h = absurd (omega arith)
left_at (x ∷ xs) ys zero h = refl
left_at (x ∷ xs) ys (suc i) h = left_at xs ys i (omega arith)

right-at : (xs ys : List ℕ) (n i : ℕ) → length xs ≡ n → n ≤ i → get_or (xs ++ ys) i 0 ≡ get_or ys (i - n) 0
right-at xs ys n i e h =
    let q : i ≡ length xs + (i - n) = omega arith in
    ap (λ (k : ℕ). get_or (xs ++ ys) k 0) q ∙ get_or-append-add xs ys (i - n) 0

pub part_at : (m : List ℕ) (a : ℕ) (ys : List ℕ) (p : ℕ) → a + length ys ≤ length m
    → get_or (with_part m a ys) p 0 ≡ cond (leb a p && ltb p (a + length ys)) (get_or ys (p - a) 0) (get_or m p 0)
unfolding with_part
part_at m a ys p h =
    let l : length (take a m) ≡ a = length-take-le a m (omega arith) in
    cases (leb a p)
    (λ e.
    let b : a ≤ p = leb-true a p e in
    right-at (take a m) (ys ++ drop (a + length ys) m) a p l b
    ∙ cases (ltb p (a + length ys))
    (λ f. rw (e, f) (left_at ys (drop (a + length ys) m) (p - a) (omega (arith, ltb-true p (a + length ys) f, b))))
    (λ f.
    let c : length ys ≤ p - a = omega (arith, ltb-false p (a + length ys) f) in
    let q : a + length ys + (p - a - length ys) ≡ p = omega (arith, c, b) in
    rw (e, f)
    (right-at ys (drop (a + length ys) m) (length ys) (p - a) refl c
    ∙ get_or-drop (a + length ys) m (p - a - length ys) 0
    ∙ ap (λ (k : ℕ). get_or m k 0) q)))
    (λ e.
    let b : p < a = leb-false a p e in
    rw e (left_at (take a m) (ys ++ drop (a + length ys) m) p (omega arith) ∙ get_or-take a m p 0 b))

-- what stands at place p behind a store
pub set_at : (m : List ℕ) (q v p : ℕ) → q < length m → get_or (set m q v) p 0 ≡ cond (eqb p q) v (get_or m p 0)
set_at m q v p h =
    cases (eqb p q) (λ t. rw t (rw (eqb-true p q t) (get_or-set_same m q v 0 h))) (λ t. rw t (get_or-set_other m q p v 0 (eqb-false p q t)))

pub eqb-add : (n a b : ℕ) → eqb (n + a) (n + b) ≡ eqb a b
eqb-add n a b =
    cases (eqb a b) (λ t. rw t (rw (eqb-true a b t) (eq-eqb (n + b) (n + b) refl)))
    (λ t. rw t (ne_eqb (n + a) (n + b) (λ e. eqb-false a b t (omega arith))))

-- all that lies behind place a
pub rest : (a : ℕ) (l : List ℕ) → take (length l - a) (drop a l) ≡ drop a l
rest a l = take_all (length l - a) (drop a l) (omega (arith, length-drop a l))

pub length_rest : (a : ℕ) (l : List ℕ) → length (take (length l - a) (drop a l)) ≡ length l - a
length_rest a l = rw (rest a l) (length-drop a l)

-- and behind that nothing
pub past-rest : (a : ℕ) (l : List ℕ) → drop (length l - a) (drop a l) ≡ []
past-rest a l = ap (λ (n : ℕ). drop n (drop a l)) (sym (length-drop a l)) ∙ drop-length (drop a l)

-- the k elements from place a on, as a part of the front
pub slice-part : (a k : ℕ) (l : List ℕ) → slice a (a + k) l ≡ take k (drop a l)
slice-part zero k l = rw zero-add
slice-part (suc a) k [] = rw (suc-add, take-nil k)
slice-part (suc a) k (x ∷ l) = rw suc-add (slice-part a k l)

-- a left fold over the places from i to t, one place at a time, and over none
pub fold_on : (f : ℕ → ℕ → ℕ) (x : ℕ) (l : List ℕ) (i t : ℕ) → i < t → t ≤ length l → fold f x (slice i t l) ≡ fold f (f x (get_or l i 0)) (slice (i + 1) t l)
unfolding fold
fold_on f x l i t h k = rw (slice-cons i t l 0 h k, add-one i)

pub fold_end : (f : ℕ → ℕ → ℕ) (x : ℕ) (l : List ℕ) (i t : ℕ) → i ≡ t → fold f x (slice i t l) ≡ x
unfolding fold
fold_end f x l i t e = rw (e, slice_empty t l)

-- what lies from place i on of the same value everywhere
pub drop-replicate : (i n x : ℕ) → drop i (replicate n x) ≡ replicate (n - i) x
drop-replicate zero n x = ap (λ (k : ℕ). replicate k x) (sym (sub-zero n))
drop-replicate (suc i) zero x = ap (λ (k : ℕ). replicate k x) (sym (zero-sub (suc i)))
drop-replicate (suc i) (suc n) x = drop-replicate i n x ∙ ap (λ (k : ℕ). replicate k x) (sym (suc-sub-suc n i))
