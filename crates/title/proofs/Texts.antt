-- A text, sequence by sequence, and without the zeros at its end. Assumes nothing.
use mathlib.Core.Path.{◌≡◌, refl, sym, ap, ◌∙◌}
use mathlib.Core.List.{List, [], ◌∷◌, ◌++◌, append_assoc, append-nil}
use Prim.Native.Nat.{ℕ, zero, suc, pred, ◌+◌, ◌*◌, ◌-◌, ◌≤◌, ◌<◌}
use native.Mathlib.Omega.{arith}
use lib.ListN.{length, get_or, take, drop, length-append, length-take, length-drop}
use lib.Seq.{take-append_seam, take-append-add, length-take-le}
use borrow.Author.Tests.{ne_eqb}
use Rattle.lists.specs.Lists.{into}
use Rattle.lists.proofs.Parts.{rest}
use Rattle.std.specs.Prelude.{Result}
use Rattle.std.specs.Prelude.{Ok, Err}
use Rattle.title.specs.declared.Shown.{Shown}
use Rattle.title.specs.Title.{sequence, size, shown, showing, replaced, trimmed, IsLastInUse}
use Rattle.title.proofs.Sequences.{sequence-size}

-- a text is what its first sequence shows, then the rest
skips : (k : ℕ) (s : List ℕ) → replaced k s ≡ replaced 0 (drop k s)
unfolding replaced
skips zero s = refl
skips (suc k) [] = refl
skips (suc k) (b ∷ s) = skips k s

first_then : (t : List ℕ) → 0 < length t → replaced 0 t ≡ shown (sequence t) t ++ replaced 0 (drop (size (sequence t)) t)
unfolding replaced
first_then [] h = absurd (omega arith)
first_then (b ∷ s) h =
    let k : suc (pred (size (sequence (b ∷ s)))) ≡ size (sequence (b ∷ s)) = omega (arith, sequence-size (b ∷ s) h) in
    ap (λ (l : List ℕ). shown (sequence (b ∷ s)) (b ∷ s) ++ l) (skips (pred (size (sequence (b ∷ s)))) s ∙ ap (λ (j : ℕ). replaced 0 (drop j (b ∷ s))) k)

-- at most three bytes are shown for each that is taken
pub shown-length : (q : Result ℕ ℕ) (s : List ℕ) → 1 ≤ size q → size q ≤ length s → length (shown q s) ≤ 3 * size q
shown-length (Ok n) s l h = omega (arith, length-take-le n s h)
shown-length (Err n) s l h = omega arith

-- a turn: the first sequence of t is shown behind the n bytes of `out` that are written, in the part that is lent from there
module _ (out t : List ℕ) (n : ℕ) (ht : 0 < length t) (room : n + 3 * length t ≤ length out) (r : Shown) (ys : List ℕ)
    (e : (r, ys) ≡ showing t (take (length out - n) (drop n out))) where
  pub used-least : 1 ≤ r.used
  used-least = rw (ap (λ p. p.0.used) e) (sequence-size t ht).0

  pub used-most : r.used ≤ length t
  used-most = rw (ap (λ p. p.0.used) e) (sequence-size t ht).1

  pub len-most : r.len ≤ 3 * r.used
  len-most = rw (ap (λ p. p.0) e) (shown-length (sequence t) t (sequence-size t ht).0 (sequence-size t ht).1)

  -- what is lent, put back
  abbrev behind : List ℕ
  behind = take n out ++ (ys ++ drop (length out - n) (drop n out))

  pub behind-length : length behind ≡ length out
  unfolding into
  behind-length =
      let f = shown (sequence t) t in
      let d = take (length out - n) (drop n out) in
      let l : length f ≤ 3 * size (sequence t) = shown-length (sequence t) t (sequence-size t ht).0 (sequence-size t ht).1 in
      let q : ys ≡ f ++ drop (length f) d = ap (λ p. p.1) e in
      rw q (simp (length-append, length-take, length-drop) (omega (arith, sequence-size t ht)))

  pub turn : (s : List ℕ) → take n out ++ replaced 0 t ≡ replaced 0 s
      → take (n + r.len) behind ++ replaced 0 (take (length t - r.used) (drop r.used t)) ≡ replaced 0 s
  unfolding into
  turn s i =
      let f = shown (sequence t) t in
      let d = take (length out - n) (drop n out) in
      let h : length (take n out) ≡ n = length-take-le n out (omega arith) in
      let w : take (n + length f) (take n out ++ ((f ++ drop (length f) d) ++ drop (length out - n) (drop n out))) ≡ take n out ++ f =
      rw (append_assoc f (drop (length f) d) (drop (length out - n) (drop n out)))
      (ap (λ (k : ℕ). take (k + length f) (take n out ++ (f ++ (drop (length f) d ++ drop (length out - n) (drop n out))))) (sym h)
      ∙ take-append-add (take n out) (f ++ (drop (length f) d ++ drop (length out - n) (drop n out))) (length f)
      ∙ ap (λ (l : List ℕ). take n out ++ l) (take-append_seam f (drop (length f) d ++ drop (length out - n) (drop n out)))) in
      rw (ap (λ p. p.0) e, ap (λ p. p.1) e, w, rest (size (sequence t)) t)
      (append_assoc (take n out) f (replaced 0 (drop (size (sequence t)) t)) ∙ ap (λ (l : List ℕ). take n out ++ l) (sym (first_then t ht)) ∙ i)

pub none_left : (l t : List ℕ) → length t ≤ 0 → l ≡ l ++ replaced 0 t
unfolding replaced
none_left l [] h = sym (append-nil l)
none_left l (b ∷ t) h = absurd (omega arith)

-- zeros alone go; else what is before the last byte that is not zero stays, and that byte
pub trim_none : (s : List ℕ) → ((k : ℕ) → k < length s → get_or s k 0 ≡ 0) → [] ≡ trimmed s
unfolding trimmed
trim_none [] h = refl
trim_none (b ∷ s) h =
    let z : b ≡ 0 = h 0 (omega arith) in
    let t = trim_none s (λ k l. h (suc k) (omega arith)) in
    rw (z, ← t) refl

pub trim_last : (s : List ℕ) (i : ℕ) → IsLastInUse s i → take (i + 1) s ≡ trimmed s
unfolding trimmed
trim_last [] i h = absurd (omega (arith, h.0))
trim_last (b ∷ s) zero h =
    let t = trim_none s (λ k l. h.2 (suc k) (omega arith) (omega arith)) in
    rw (← t, ne_eqb b 0 h.1) refl
trim_last (b ∷ []) (suc i) h = absurd (omega (arith, h.0))
trim_last (b ∷ c ∷ s) (suc i) h =
    let t = trim_last (c ∷ s) i (omega (arith, h.0), h.1, λ k m l. h.2 (suc k) (omega arith) (omega arith)) in
    let e : suc i + 1 ≡ suc (i + 1) = omega arith in
    let f : i + 1 ≡ suc i = omega arith in
    rw (e, ← t, f) refl
