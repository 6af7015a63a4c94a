-- A line's bytes, two digits at a time. Assumes nothing.
use mathlib.Core.Path.{◌≡◌, refl, sym, ap, ◌∙◌}
use mathlib.Core.Bool.{true, false}
use mathlib.Core.List.{List, [], ◌∷◌, ◌++◌, append-nil, append_assoc}
use mathlib.Core.Option.{Option, none, some}
use Prim.Native.Nat.{ℕ, zero, suc, ◌+◌, ◌*◌, ◌/◌, ◌≤◌, ◌<◌}
use native.Mathlib.Numerals.{add-one}
use native.Mathlib.Omega.{arith}
use lib.Dec.{ltb}
use lib.ListN.{length, get_or, set, take, drop}
use lib.Seq.{drop-cons, drop-length, take-suc-set}
use borrow.Author.Tests.{lt-ltb, le-ltb}
use Rattle.lists.proofs.Bools.{either}
use Rattle.cuttrace_lib.specs.Lines.{byte_of, also, unhex}

-- some bytes in front of the others, if these are bytes
abbrev pub joined : List ℕ → Option (List ℕ) → Option (List ℕ)
joined xs none = none
joined xs (some ys) = some (xs ++ ys)

joined-also : (xs : List ℕ) (b : ℕ) (o : Option (List ℕ)) → joined xs (also b o) ≡ joined (xs ++ (b ∷ [])) o
joined-also xs b none = refl
joined-also xs b (some ys) = ap some (sym (append_assoc xs (b ∷ []) ys))

-- an odd number of digits
pub unhex-odd : (l : List ℕ) (k : ℕ) → length l ≡ suc (2 * k) → unhex l ≡ none
unfolding unhex
unhex-odd [] k h = absurd (omega arith)
unhex-odd (a ∷ []) k h = refl
unhex-odd (a ∷ b ∷ l) zero h = absurd (omega arith)
unhex-odd (a ∷ b ∷ l) (suc k) h =
    rw (unhex-odd l k (omega arith)) (either (λ (o : Option (List ℕ)). o ≡ none) (ltb (byte_of a b) 256) refl refl)

two-more : (l : List ℕ) (i : ℕ) → 2 * i + 1 < length l → drop (2 * i) l ≡ (get_or l (2 * i) 0 ∷ get_or l (2 * i + 1) 0 ∷ drop (2 * (i + 1)) l)
two-more l i h =
    let e : 2 * (i + 1) ≡ suc (2 * i + 1) = omega arith in
    rw (e) (drop-cons l (2 * i) 0 (omega arith) ∙ ap (λ (r : List ℕ). get_or l (2 * i) 0 ∷ r) (rw (← add-one (2 * i)) (drop-cons l (2 * i + 1) 0 h)))

-- a turn of the loop, a turn that ends it, and its end
pub unhex-more : (l room : List ℕ) (i b : ℕ) → 2 * i + 1 < length l → i < length room → b ≡ byte_of (get_or l (2 * i) 0) (get_or l (2 * i + 1) 0) → b < 256
    → unhex l ≡ joined (take i room) (unhex (drop (2 * i) l)) → unhex l ≡ joined (take (i + 1) (set room i b)) (unhex (drop (2 * (i + 1)) l))
unfolding unhex
unhex-more l room i b h k e f w =
    let t : ltb (byte_of (get_or l (2 * i) 0) (get_or l (2 * i + 1) 0)) 256 ≡ true = lt-ltb (byte_of (get_or l (2 * i) 0) (get_or l (2 * i + 1) 0)) 256 (omega (arith, e, f)) in
    w ∙ rw (two-more l i h, t, add-one i, take-suc-set room i b k, ← e) (joined-also (take i room) b (unhex (drop (2 * suc i) l)))

pub unhex-stopped : (l room : List ℕ) (i b : ℕ) → 2 * i + 1 < length l → b ≡ byte_of (get_or l (2 * i) 0) (get_or l (2 * i + 1) 0) → 256 ≤ b
    → unhex l ≡ joined (take i room) (unhex (drop (2 * i) l)) → unhex l ≡ none
unfolding unhex
unhex-stopped l room i b h e f w =
    let t : ltb (byte_of (get_or l (2 * i) 0) (get_or l (2 * i + 1) 0)) 256 ≡ false = le-ltb (byte_of (get_or l (2 * i) 0) (get_or l (2 * i + 1) 0)) 256 (omega (arith, e, f)) in
    w ∙ rw (two-more l i h, t)

pub unhex-all : (l room : List ℕ) (i : ℕ) → 2 * i ≡ length l → unhex l ≡ joined (take i room) (unhex (drop (2 * i) l)) → unhex l ≡ some (take (length l / 2) room)
unfolding unhex
unhex-all l room i h w =
    let e : length l / 2 ≡ i = omega arith in
    w ∙ rw (h, drop-length l, e) (ap some (append-nil (take i room)))
