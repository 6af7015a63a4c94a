-- An answer put together from pieces of the output. Assumes nothing.
use mathlib.Core.Path.{◌≡◌, ap, ◌∙◌}
use mathlib.Core.List.{List, [], ◌∷◌, ◌++◌, append-nil}
use Prim.Native.Nat.{ℕ, ◌+◌, ◌-◌, ◌≤◌}
use native.Mathlib.Omega.{arith}
use lib.ListN.{length, take, drop, set, length-take, length-drop}
use lib.Seq.{take_at, drop_at, length-take-le}
use Rattle.lists.proofs.Parts.{past-rest}

-- a piece passed from a on to the end
pub tail-put : (a : ℕ) (out ys : List ℕ) → take a out ++ (ys ++ drop (length out - a) (drop a out)) ≡ take a out ++ ys
tail-put a out ys =
    rw (past-rest a out, append-nil ys)

-- a first byte stored, and then all that follows it
pub byte-and-rest : (out o : List ℕ) (r : ℕ) → 1 ≤ length out → let out' = set out 0 r in take 1 out' ++ (o ++ drop (length out' - 1) (drop 1 out')) ≡ r ∷ o
byte-and-rest [] o r h = absurd (omega arith)
byte-and-rest (b ∷ out) o r h = tail-put 1 (r ∷ out) o

-- the tail stored first, then the front
pub front-of-tail : (out f d : List ℕ) → 5 ≤ length out → let out' = take 5 out ++ (d ++ drop (length out - 5) (drop 5 out)) in f ++ drop 5 out' ≡ f ++ d
front-of-tail out f d h =
    ap (λ (l : List ℕ). f ++ drop 5 l) (tail-put 5 out d) ∙ ap (λ (l : List ℕ). f ++ l) (drop_at (take 5 out) d 5 (length-take-le 5 out h))

-- the front stored first, then the tail
pub tail-of-front : (out f d : List ℕ) (a : ℕ) → length f ≡ a
    → let out' = f ++ drop a out in take a out' ++ (d ++ drop (length out' - a) (drop a out')) ≡ f ++ d
tail-of-front out f d a h = tail-put a (f ++ drop a out) d ∙ ap (λ (l : List ℕ). l ++ d) (take_at f (drop a out) a h)

-- the length of a piece passed from a to e
pub piece-length : (a e n : ℕ) (l : List ℕ) → e ≡ a + n → e ≤ length l → length (take (e - a) (drop a l)) ≡ n
piece-length a e n l h k = simp (length-take, length-drop) (omega (arith, h, k))
