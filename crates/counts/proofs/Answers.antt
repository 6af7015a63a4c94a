-- What right tallies answer is what a full reading answers. Assumes nothing.
use mathlib.Core.Path.{◌≡◌, refl, sym, ap, ap₂, ◌∙◌}
use mathlib.Core.Bool.{Bool, true, false, not}
use mathlib.Core.List.{List, [], ◌∷◌, ◌++◌}
use mathlib.Core.Option.{Option, none, some}
use Prim.Native.Nat.{ℕ, zero, suc, ◌+◌, ◌*◌, ◌≤◌, ◌<◌}
use native.Mathlib.Omega.{arith}
use Rattle.std.proofs.Common.{Option as Found, None, Some}
use Rattle.std.proofs.lemmas.Iterator.Adapters.{position_from-zero}
use Rattle.std.specs.List.{position, position_from}
use lib.Dec.{eqb}
use lib.ListN.{length, take, drop, replicate, length-drop, take-append-drop}
use lib.Seq.{length-take-le}
use borrow.Author.Tests.{ne_eqb, eqb-true, eqb-false}
use Rattle.lists.proofs.Bools.{cases, and_left, and_right}
use Rattle.counts.specs.Counts.{used}
use Rattle.counts.specs.Tallies.{tallies_of, blank, blank_memory, next, first_in_use, first_used, stretch_of, none_in_use, in_use_number}

-- n places further
abbrev pub ahead : ℕ → Option ℕ → Option ℕ
ahead n none = none
ahead n (some k) = some (n + k)

pub ahead-0 : (o : Option ℕ) → ahead 0 o ≡ o
ahead-0 none = refl
ahead-0 (some k) = ap some (omega arith)

pub ahead-next : (n : ℕ) (o : Option ℕ) → ahead n (next o) ≡ ahead (n + 1) o
ahead-next n none = refl
ahead-next n (some k) = ap some (omega arith)

next-ahead : (n : ℕ) (o : Option ℕ) → next (ahead n o) ≡ ahead (suc n) o
next-ahead n none = refl
next-ahead n (some k) = ap some (omega arith)

-- there is one, and it is below n
abbrev Below : ℕ → Option ℕ → Type 0
Below n none = ⊥
Below n (some k) = k < n

below_next : (n : ℕ) (o : Option ℕ) → Below n o → Below (suc n) (next o)
below_next n none b = b
below_next n (some k) b = omega arith

-- the first byte in use of two parts
first-none : (l k : List ℕ) → used l ≡ 0 → first_used (l ++ k) ≡ ahead (length l) (first_used k)
unfolding used first_used
first-none [] k h = sym (ahead-0 (first_used k))
first-none (x ∷ l) k h =
    cases (eqb x 255)
    (λ e. rw e (ap next (first-none l k (omega (arith, rw e at h))) ∙ next-ahead (length l) (first_used k)))
    (λ e. absurd (omega (arith, rw e at h)))

first_some : (l k : List ℕ) → 0 < used l → Below (length l) (first_used (l ++ k))
unfolding used first_used
first_some [] k h = absurd (omega arith)
first_some (x ∷ l) k h =
    cases (eqb x 255)
    (λ e. rw e (below_next (length l) (first_used (l ++ k)) (first_some l k (omega (arith, rw e at h)))))
    (λ e. rw e (omega arith))

stretch-0 : (o : Option ℕ) → Below 4096 o → stretch_of o ≡ some 0
stretch-0 none b = absurd b
stretch-0 (some k) b = ap some (omega arith)

stretch-next : (o : Option ℕ) → stretch_of (ahead 4096 o) ≡ next (stretch_of o)
stretch-next none = refl
stretch-next (some k) = ap some (omega arith)

pub first-is : (n : ℕ) (m : List ℕ) → length m ≡ 4096 * n → first_in_use (tallies_of n m) ≡ stretch_of (first_used m)
unfolding tallies_of first_in_use first_used
first-is zero [] h = refl
first-is zero (x ∷ m) h = absurd (omega arith)
first-is (suc n) m h =
    let l : length (take 4096 m) ≡ 4096 = length-take-le 4096 m (omega arith) in
    let d : length (drop 4096 m) ≡ 4096 * n = simp length-drop (omega arith) in
    let s : first_used m ≡ first_used (take 4096 m ++ drop 4096 m) = ap first_used (sym (take-append-drop 4096 m)) in
    cases (eqb (used (take 4096 m)) 0)
    (λ e.
    let z = first-none (take 4096 m) (drop 4096 m) (eqb-true (used (take 4096 m)) 0 e) in
    rw (e, s, z, l) (ap next (first-is n (drop 4096 m) d) ∙ sym (stretch-next (first_used (drop 4096 m)))))
    (λ e.
    let z : used (take 4096 m) ≡ 0 → ⊥ = eqb-false (used (take 4096 m)) 0 e in
    let b = rw l at (first_some (take 4096 m) (drop 4096 m) (omega arith)) in
    rw (e, s) (sym (stretch-0 (first_used (take 4096 m ++ drop 4096 m)) b)))

-- blank is that there is none
abbrev is_none : Option ℕ → Bool
is_none none = true
is_none (some k) = false

none-next : (o : Option ℕ) → is_none (next o) ≡ is_none o
none-next none = refl
none-next (some k) = refl

none-stretch : (o : Option ℕ) → is_none (stretch_of o) ≡ is_none o
none-stretch none = refl
none-stretch (some k) = refl

blank_none : (ts : List ℕ) → blank ts ≡ is_none (first_in_use ts)
unfolding blank first_in_use
blank_none [] = refl
blank_none (t ∷ ts) = cases (eqb t 0) (λ e. rw e (blank_none ts ∙ sym (none-next (first_in_use ts)))) (λ e. rw e)

memory-none : (m : List ℕ) → blank_memory m ≡ is_none (first_used m)
unfolding blank_memory first_used
memory-none [] = refl
memory-none (x ∷ m) = cases (eqb x 255) (λ e. rw e (memory-none m ∙ sym (none-next (first_used m)))) (λ e. rw e)

pub blank-is : (n : ℕ) (m : List ℕ) → length m ≡ 4096 * n → blank (tallies_of n m) ≡ blank_memory m
blank-is n m h =
    blank_none (tallies_of n m) ∙ ap is_none (first-is n m h) ∙ none-stretch (first_used m) ∙ sym (memory-none m)

-- a blank memory is an erased one
pub blank-erased : (m : List ℕ) → blank_memory m ≡ true → m ≡ replicate (length m) 255
unfolding blank_memory
blank-erased [] e = refl
blank-erased (x ∷ m) e =
    ap₂ (λ (y : ℕ) (l : List ℕ). y ∷ l) (eqb-true x 255 (and_left (eqb x 255) (blank_memory m) e)) (blank-erased m (and_right (eqb x 255) (blank_memory m) e))

-- the library's search of the tallies: its answer as a number, from stretch i on
abbrev pub number : Found ℕ → ℕ
number None = none_in_use
number (Some k) = k

abbrev pub in_use : ℕ → Bool
in_use tally = not (eqb tally 0)

position-number : (i : ℕ) (ts : List ℕ) → number (position_from in_use i ts) ≡ in_use_number (ahead i (first_in_use ts))
unfolding first_in_use
position-number i [] = refl
position-number i (t ∷ ts) =
    cases (eqb t 0)
    (λ e. rw (e, ahead-next i (first_in_use ts)) (position-number (i + 1) ts))
    (λ e. rw e (omega arith))

pub first-number : {r : Found ℕ} (ts : List ℕ) → r ≡ position in_use ts → number r ≡ in_use_number (first_in_use ts)
first-number ts e =
    ap number (e ∙ position_from-zero in_use ts) ∙ position-number 0 ts ∙ ap in_use_number (ahead-0 (first_in_use ts))

-- no stretch has the number that says that there is none
abbrev Within : ℕ → Option ℕ → Type 0
Within n none = Unit
Within n (some k) = k < n

within-next : (n : ℕ) (o : Option ℕ) → Within n o → Within (suc n) (next o)
within-next n none w = tt
within-next n (some k) w = omega arith

within : (ts : List ℕ) → Within (length ts) (first_in_use ts)
unfolding first_in_use
within [] = tt
within (t ∷ ts) = cases (eqb t 0) (λ e. rw e (within-next (length ts) (first_in_use ts) (within ts))) (λ e. rw e (omega arith))

number-none : (n : ℕ) (o : Option ℕ) → n ≤ 32 → Within n o → eqb (in_use_number o) none_in_use ≡ is_none o
number-none n none h w = refl
number-none n (some k) h w = ne_eqb k none_in_use (λ e. absurd (omega arith))

pub blank-number : (ts : List ℕ) → length ts ≤ 32 → eqb (in_use_number (first_in_use ts)) none_in_use ≡ blank ts
blank-number ts h = number-none (length ts) (first_in_use ts) h (within ts) ∙ sym (blank_none ts)
