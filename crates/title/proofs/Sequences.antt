-- What a text begins with. Assumes nothing.
use mathlib.Core.Path.{◌≡◌, refl, sym, ap}
use mathlib.Core.Logic.{◌≢◌}
use mathlib.Core.Bool.{Bool, true, false}
use mathlib.Core.Option.{Option, none, some}
use mathlib.Core.List.{List, [], ◌∷◌}
use Prim.Native.Nat.{ℕ, suc, ◌+◌, ◌-◌, ◌≤◌, ◌<◌}
use native.Mathlib.Omega.{arith}
use lib.ListN.{length, get_or, take, drop, replicate, drop_of_length-le}
use lib.Seq.{length-take-le, drop-cons, drop-drop}
use Rattle.lists.specs.Lists.{into}
use Rattle.lists.proofs.Bools.{split}
use Rattle.std.specs.Prelude.{Result}
use Rattle.std.specs.Prelude.{Ok, Err}
use Rattle.title.specs.Title.{tail, following, begins, goes_on, front, sequence, size, showing}

pub begins-at : (s : List ℕ) (i : ℕ) (r : ℕ → Bool) → i < length s → begins (drop i s) r ≡ r (get_or s i 0)
begins-at s i r h = rw (drop-cons s i 0 h)

pub begins-past : (s : List ℕ) (i : ℕ) (r : ℕ → Bool) → length s ≤ i → begins (drop i s) r ≡ false
begins-past s i r h = rw (drop_of_length-le s h)

pub sequence-at : (s : List ℕ) → length s ≢ 0 → sequence s ≡ front (following (get_or s 0 0)) (drop 1 s)
unfolding sequence
sequence-at [] h = absurd (h refl)
sequence-at (b ∷ s) h = refl

pub sequence-none : (s : List ℕ) → length s ≡ 0 → sequence s ≡ Ok 0
unfolding sequence
sequence-none [] h = refl
sequence-none (b ∷ s) h = absurd (omega arith)

-- a sequence of 1 + n bytes, as far as its bytes go
module _ (s : List ℕ) (n : ℕ) (r : ℕ → Bool) where
  abbrev Begins : Result ℕ ℕ → Type 0
  Begins q = q ≡ goes_on 1 (r ∷ replicate (n - 1) tail) (drop 1 s)

  pub ill-1 : begins (drop 1 s) r ≡ false → Begins (Err 1)
  unfolding goes_on
  ill-1 a = rw a

  pub well-2 : begins (drop 1 s) r ≡ true → n ≡ 1 → Begins (Ok 2)
  unfolding goes_on
  well-2 a e = rw (a, e)

  pub ill-2 : begins (drop 1 s) r ≡ true → 2 ≤ n → begins (drop 2 s) tail ≡ false → Begins (Err 2)
  unfolding goes_on
  ill-2 a h b = let e : n - 1 ≡ suc (n - 2) = omega arith in rw (a, e, drop-drop 1 1 s, b)

  pub well-3 : begins (drop 1 s) r ≡ true → begins (drop 2 s) tail ≡ true → n ≡ 2 → Begins (Ok 3)
  unfolding goes_on
  well-3 a b e = rw (a, e, drop-drop 1 1 s, b)

  module _ (a : begins (drop 1 s) r ≡ true) (b : begins (drop 2 s) tail ≡ true) (e : n ≡ 3) where
    pub ill-3 : begins (drop 3 s) tail ≡ false → Begins (Err 3)
    unfolding goes_on
    ill-3 d = rw (a, e, drop-drop 1 1 s, b, drop-drop 1 2 s, d)

    pub well-4 : begins (drop 3 s) tail ≡ true → Begins (Ok 4)
    unfolding goes_on
    well-4 d = rw (a, e, drop-drop 1 1 s, b, drop-drop 1 2 s, d)

-- what a text begins with is within the text
goes-size : (n : ℕ) (rs : List (ℕ → Bool)) (s : List ℕ) → (n ≤ size (goes_on n rs s)) × (size (goes_on n rs s) ≤ n + length s)
unfolding goes_on
goes-size n [] s = (omega arith, omega arith)
goes-size n (r ∷ rs) [] = (omega arith, omega arith)
goes-size n (r ∷ rs) (b ∷ s) =
    let i = goes-size (suc n) rs s in
    split (λ q. (n ≤ size q) × (size q ≤ n + suc (length s))) (r b) (λ e. (omega arith, omega arith)) (λ e. (omega arith, omega arith))

front-size : (o : Option (List (ℕ → Bool))) (s : List ℕ) → (1 ≤ size (front o s)) × (size (front o s) ≤ suc (length s))
unfolding front
front-size none s = (omega arith, omega arith)
front-size (some rs) s = let i = goes-size 1 rs s in (i.0, omega arith)

pub sequence-size : (s : List ℕ) → 0 < length s → (1 ≤ size (sequence s)) × (size (sequence s) ≤ length s)
unfolding sequence
sequence-size [] h = absurd (omega arith)
sequence-size (b ∷ s) h = front-size (following b) s

pub well-fits : (s : List ℕ) (n : ℕ) → 0 < length s → sequence s ≡ Ok n → n ≤ length s
well-fits s n h e = let b = sequence-size s h in let k : size (sequence s) ≡ n = ap size e in omega arith

-- and is shown, or the three bytes are
pub shows-well : (s d : List ℕ) (n : ℕ) {out : List ℕ} → 0 < length s → sequence s ≡ Ok n → out ≡ into (take n s) d → (record { used = n; len = n }, out) ≡ showing s d
shows-well s d n h e f = rw (f, e) (ap (λ (k : ℕ). (record { used = n; len = k }, into (take n s) d)) (sym (length-take-le n s (well-fits s n h e))))

pub shows-ill : (s d : List ℕ) (n : ℕ) {out : List ℕ} → sequence s ≡ Err n → out ≡ into (0xef ∷ 0xbf ∷ 0xbd ∷ []) d → (record { used = n; len = 3 }, out) ≡ showing s d
shows-ill s d n e f = rw (f, e)
