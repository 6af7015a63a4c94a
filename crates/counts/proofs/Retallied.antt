-- Tallies that a store changes. Assumes nothing.
use mathlib.Core.Path.{◌≡◌, refl, sym, ap, ap₂, subst, ◌∙◌}
use mathlib.Core.List.{List, [], ◌∷◌, ◌++◌}
use Prim.Native.Nat.{ℕ, zero, suc, ◌+◌, ◌*◌, ◌-◌, ◌/◌, ◌%◌, ◌≤◌, ◌<◌}
use native.Mathlib.Omega.{arith}
use lib.Dec.{ltb}
use lib.ListN.{length, get_or, set, take, drop, replicate, length-take, length-drop}
use lib.Seq.{drop-append-le, take-append-add, length-take-le, drop-drop}
use borrow.Author.Tests.{ltb-true, ltb-false}
use Rattle.lists.specs.Lists.{with_part}
use Rattle.lists.proofs.Bools.{cases}
use Rattle.lists.proofs.Parts.{drop-part, part-before, slice-part, drop-replicate}
use Rattle.counts.specs.Counts.{differs, used}
use Rattle.counts.specs.Tallies.{Words, retally, retallied, tallies_of}
use Rattle.counts.proofs.Counts.{parts, set-part, byte_of, used_le, used-append}

used-take-le : (n : ℕ) (m : List ℕ) → used (take n m) ≤ n
used-take-le n m = omega (arith, used_le (take n m), length-take n m)

pub length-retallied : (ts before after : List ℕ) → length (retallied before after ts) ≡ length ts
unfolding retallied
length-retallied [] before after = refl
length-retallied (t ∷ ts) before after = ap suc (length-retallied ts (drop 4096 before) (drop 4096 after))

-- a memory that stays leaves them
retally-same : (n t : ℕ) → t < 65536 → retally n n t ≡ t
unfolding retally
retally-same n t h = omega arith

pub retallied-same : (m ts : List ℕ) → Words ts → retallied m m ts ≡ ts
unfolding retallied
retallied-same m [] w = refl
retallied-same m (t ∷ ts) w =
    ap₂ (λ (x : ℕ) (l : List ℕ). x ∷ l) (retally-same (used (take 4096 m)) t (w 0)) (retallied-same (drop 4096 m) ts (λ i. w (suc i)))

-- two stores, one after the other
retally-again : (a b c t : ℕ) → a ≤ 4096 → b ≤ 4096 → c ≤ 4096 → retally b c (retally a b t) ≡ retally a c t
unfolding retally
retally-again a b c t h k l = omega arith

pub retallied-again : (a b c ts : List ℕ) → retallied b c (retallied a b ts) ≡ retallied a c ts
unfolding retallied
retallied-again a b c [] = refl
retallied-again a b c (t ∷ ts) =
    ap₂ (λ (x : ℕ) (l : List ℕ). x ∷ l)
    (retally-again (used (take 4096 a)) (used (take 4096 b)) (used (take 4096 c)) t (used-take-le 4096 a) (used-take-le 4096 b) (used-take-le 4096 c))
    (retallied-again (drop 4096 a) (drop 4096 b) (drop 4096 c) ts)

-- they stay numbers of 16 bits
retally-lt : (a b t : ℕ) → retally a b t < 65536
unfolding retally
retally-lt a b t = omega arith

pub words-retallied : (ts before after : List ℕ) → Words (retallied before after ts)
unfolding retallied
words-retallied [] before after i = omega arith
words-retallied (t ∷ ts) before after zero = retally-lt (used (take 4096 before)) (used (take 4096 after)) t
words-retallied (t ∷ ts) before after (suc i) = words-retallied ts (drop 4096 before) (drop 4096 after) i

-- tallies that are right stay right, whatever was stored
retally-right : (b a : ℕ) → b ≤ 4096 → a ≤ 4096 → retally b a b ≡ a
unfolding retally
retally-right b a h k = omega arith

pub tallies-kept : (n : ℕ) (before after : List ℕ) → retallied before after (tallies_of n before) ≡ tallies_of n after
unfolding retallied tallies_of
tallies-kept zero before after = refl
tallies-kept (suc n) before after =
    ap₂ (λ (t : ℕ) (ts : List ℕ). t ∷ ts)
    (retally-right (used (take 4096 before)) (used (take 4096 after)) (used-take-le 4096 before) (used-take-le 4096 after))
    (tallies-kept n (drop 4096 before) (drop 4096 after))

pub length-tallies : (n : ℕ) (m : List ℕ) → length (tallies_of n m) ≡ n
unfolding tallies_of
length-tallies zero m = refl
length-tallies (suc n) m = ap suc (length-tallies n (drop 4096 m))

pub words-tallies : (n : ℕ) (m : List ℕ) → Words (tallies_of n m)
unfolding tallies_of
words-tallies zero m i = omega arith
words-tallies (suc n) m zero = omega (arith, used-take-le 4096 m)
words-tallies (suc n) m (suc i) = words-tallies n (drop 4096 m) i

-- "opening sets 0"
used-front-blank : (k n : ℕ) → used (take k (replicate n 255)) ≡ 0
unfolding used
used-front-blank zero n = refl
used-front-blank (suc k) zero = refl
used-front-blank (suc k) (suc n) = omega (arith, used-front-blank k n)

pub tallies-blank : (n k : ℕ) → tallies_of n (replicate k 255) ≡ replicate n 0
unfolding tallies_of
tallies-blank zero k = refl
tallies-blank (suc n) k =
    ap₂ (λ (t : ℕ) (ts : List ℕ). t ∷ ts) (used-front-blank 4096 k) (ap (tallies_of n) (drop-replicate 4096 k 255) ∙ tallies-blank n (k - 4096))

-- a part anew: its change of the bytes in use, in each front that holds it
module _ (m : List ℕ) (a : ℕ) (ys : List ℕ) (fits : a + length ys ≤ length m) where
  abbrev old : List ℕ
  old = take (length ys) (drop a m)

  length-old : length old ≡ length ys
  length-old = simp (length-take, length-drop) (omega arith)

  take_part : (zs : List ℕ) (j : ℕ) → length zs ≡ length ys → a + length ys ≤ j
      → take j (take a m ++ (zs ++ drop (a + length ys) m)) ≡ take a m ++ (zs ++ take (j - a - length ys) (drop (a + length ys) m))
  take_part zs j e h =
      let b : List ℕ = drop (a + length ys) m in
      let r : ℕ = j - a - length ys in
      let l : length (take a m) ≡ a = length-take-le a m (omega arith) in
      let q : j ≡ length (take a m) + (length zs + r) = omega arith in
      subst (λ (i : ℕ). take i (take a m ++ (zs ++ b)) ≡ take a m ++ (zs ++ take r b)) (sym q)
      (take-append-add (take a m) (zs ++ b) (length zs + r) ∙ ap (λ (l : List ℕ). take a m ++ l) (take-append-add zs b r))

  used-three : (zs : List ℕ) (j : ℕ) → length zs ≡ length ys → a + length ys ≤ j
      → used (take j (take a m ++ (zs ++ drop (a + length ys) m))) ≡ used (take a m) + (used zs + used (take (j - a - length ys) (drop (a + length ys) m)))
  used-three zs j e h =
      let r : List ℕ = take (j - a - length ys) (drop (a + length ys) m) in
      ap used (take_part zs j e h) ∙ used-append (take a m) (zs ++ r) ∙ ap (λ (n : ℕ). used (take a m) + n) (used-append zs r)

  used-front : (j : ℕ) → a + length ys ≤ j → used (take j (with_part m a ys)) + used old ≡ used (take j m) + used ys
  unfolding with_part
  used-front j h =
      let p = used-three ys j refl h in
      let q : used (take j m) ≡ used (take a m) + (used old + used (take (j - a - length ys) (drop (a + length ys) m))) =
      ap (λ (l : List ℕ). used (take j l)) (sym (parts m a (length ys))) ∙ used-three old j length-old h
      in
      omega arith

  -- what lies from place j on, j at most a
  drop-front : (j : ℕ) → j ≤ a → drop j (with_part m a ys) ≡ with_part (drop j m) (a - j) ys
  unfolding with_part
  drop-front j h =
      let k : j ≤ length (take a m) = simp length-take (omega arith) in
      let e : a ≡ j + (a - j) = omega arith in
      let f : j + (a - j + length ys) ≡ a + length ys = omega arith in
      let s : drop j (take a m) ≡ take (a - j) (drop j m) = ap (λ (i : ℕ). drop j (take i m)) e ∙ slice-part j (a - j) m in
      rw (drop-append-le j (take a m) (ys ++ drop (a + length ys) m) k, s, drop-drop (a - j + length ys) j m, f)

-- a tally changes by what was counted, wherever it was counted
pub retally-by : (b a b' a' t : ℕ) → b ≤ 4096 → b' ≤ 4096 → a + b' ≡ b + a' → retally b a t ≡ retally b' a' t
unfolding retally
retally-by b a b' a' t h k e = omega arith

-- a part within one stretch changes one tally
pub retallied-part : (ts m : List ℕ) (a : ℕ) (ys : List ℕ) → a + length ys ≤ length m → a % 4096 + length ys ≤ 4096 → Words ts
    → retallied m (with_part m a ys) ts ≡ set ts (a / 4096) (retally (used (take (length ys) (drop a m))) (used ys) (get_or ts (a / 4096) 0))
unfolding retallied
retallied-part [] m a ys f g w = refl
retallied-part (t ∷ ts) m a ys f g w =
    cases (ltb a 4096)
    (λ e.
    let h : a < 4096 = ltb-true a 4096 e in
    let z : a / 4096 ≡ 0 = omega arith in
    let d : drop 4096 (with_part m a ys) ≡ drop 4096 m = drop-part m a ys 4096 (omega arith) (omega arith) in
    rw (z, d)
    (ap₂ (λ (x : ℕ) (l : List ℕ). x ∷ l)
    (retally-by (used (take 4096 m)) (used (take 4096 (with_part m a ys))) (used (take (length ys) (drop a m))) (used ys) t (used-take-le 4096 m) (omega (arith, used-take-le (length ys) (drop a m)))
    (used-front m a ys f 4096 (omega arith)))
    (retallied-same (drop 4096 m) ts (λ i. w (suc i)))))
    (λ e.
    let h : 4096 ≤ a = ltb-false a 4096 e in
    let z : a / 4096 ≡ suc ((a - 4096) / 4096) = omega arith in
    let b : take 4096 (with_part m a ys) ≡ take 4096 m = part-before m a ys 4096 0 (omega arith) (omega arith) in
    let d : drop 4096 (with_part m a ys) ≡ with_part (drop 4096 m) (a - 4096) ys = drop-front m a ys f 4096 h in
    let x : 4096 + (a - 4096) ≡ a = omega arith in
    let y : drop (a - 4096) (drop 4096 m) ≡ drop a m = drop-drop (a - 4096) 4096 m ∙ ap (λ (i : ℕ). drop i m) x in
    let l : a - 4096 + length ys ≤ length (drop 4096 m) = simp length-drop (omega arith) in
    let i = retallied-part ts (drop 4096 m) (a - 4096) ys l (omega arith) (λ j. w (suc j)) in
    rw (z, b, d, i, y, retally-same (used (take 4096 m)) t (w 0)))

pub retallied-set : (ts m : List ℕ) (a v : ℕ) → a < length m → Words ts
    → retallied m (set m a v) ts ≡ set ts (a / 4096) (retally (differs (get_or m a 0) 255) (differs v 255) (get_or ts (a / 4096) 0))
unfolding used
retallied-set ts m a v h w =
    let x : ℕ = get_or m a 0 in
    let u : differs x 255 + 0 ≡ differs x 255 = omega arith in
    let y : differs v 255 + 0 ≡ differs v 255 = omega arith in
    rw (set-part m a v h) (rw (byte_of m a h, u, y) at (retallied-part ts m a (v ∷ []) (omega arith) (omega arith) w))

-- each tally by itself
pub retallied-at : (ts before after : List ℕ) (k : ℕ) → k < length ts
    → get_or (retallied before after ts) k 0 ≡ retally (used (take 4096 (drop (k * 4096) before))) (used (take 4096 (drop (k * 4096) after))) (get_or ts k 0)
unfolding retallied
retallied-at [] before after k h = absurd (omega arith)
retallied-at (t ∷ ts) before after zero h = refl
retallied-at (t ∷ ts) before after (suc k) h =
    let e : 4096 + k * 4096 ≡ suc k * 4096 = omega arith in
    retallied-at ts (drop 4096 before) (drop 4096 after) k (omega arith)
    ∙ rw (drop-drop (k * 4096) 4096 before, drop-drop (k * 4096) 4096 after, e)
