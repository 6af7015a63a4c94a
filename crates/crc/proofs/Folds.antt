-- A left fold over a list, part by part. Assumes nothing.
use mathlib.Core.Path.{◌≡◌, refl, sym, ap, ◌∙◌}
use mathlib.Core.List.{List, [], ◌∷◌, ◌++◌}
use Prim.Native.Nat.{ℕ, ◌+◌, ◌-◌, ◌%◌, ◌<◌, ◌≤◌}
use native.Mathlib.Numerals.{add-one}
use native.Mathlib.Omega.{arith}
use lib.ListN.{length, take, drop, get_or, drop_of_length-le, length-append}
use lib.Seq.{take-add, drop-cons, drop-append-add}
use Rattle.lists.specs.Lists.{fold}

pub fold-append : (f : ℕ → ℕ → ℕ) (x : ℕ) (s t : List ℕ) → fold f x (s ++ t) ≡ fold f (fold f x s) t
unfolding fold
fold-append f x [] t = refl
fold-append f x (b ∷ s) t = fold-append f (f x b) s t

-- the first i, and n more
pub fold-take : (f : ℕ → ℕ → ℕ) (x : ℕ) (s : List ℕ) (i n : ℕ)
    → fold f (fold f x (take i s)) (take n (drop i s)) ≡ fold f x (take (i + n) s)
fold-take f x s i n = sym (ap (fold f x) (take-add i n s) ∙ fold-append f x (take i s) (take n (drop i s)))

-- one byte of those that are left
pub fold_next : (f : ℕ → ℕ → ℕ) (x : ℕ) (s : List ℕ) (i : ℕ) → i < length s
    → fold f (f x (get_or s i 0)) (drop (i + 1) s) ≡ fold f x (drop i s)
unfolding fold
fold_next f x s i h = rw (add-one i, drop-cons s i 0 h)

pub fold_end : (f : ℕ → ℕ → ℕ) (x : ℕ) (s : List ℕ) (i : ℕ) → length s ≤ i → fold f x (drop i s) ≡ x
unfolding fold
fold_end f x s i h = rw (drop_of_length-le s h)

-- what fills no block is behind every whole block
pub remainder-kept : (block left : List ℕ) → length block ≡ 32768
    → drop (length (block ++ left) - length (block ++ left) % 32768) (block ++ left) ≡ drop (length left - length left % 32768) left
remainder-kept block left h =
    let e : length (block ++ left) - length (block ++ left) % 32768 ≡ length block + (length left - length left % 32768)
    = omega (arith, length-append block left) in
    ap (λ (n : ℕ). drop n (block ++ left)) e ∙ drop-append-add block left (length left - length left % 32768)
