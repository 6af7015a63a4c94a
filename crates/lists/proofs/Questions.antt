-- Laws of the questions. Assumes nothing.
use mathlib.Core.Path.{◌≡◌, refl}
use mathlib.Core.Logic.{◌≢◌}
use mathlib.Core.Bool.{Bool, true, ◌&&◌}
use mathlib.Core.List.{List, [], ◌∷◌, ◌++◌}
use Prim.Native.Nat.{ℕ}
use native.Mathlib.Omega.{arith}
use lib.Dec.{ltb}
use borrow.Author.Tests.{ltb-true}
use Rattle.lists.specs.Questions.{Question, asked, FirstNo, here, later}
use Rattle.lists.proofs.Bools.{split, and_left, and_right}

-- every question is answered yes
abbrev pub AllYes : List Question → Type 0
AllYes [] = Unit
AllYes (q ∷ qs) = (q.yes ≡ true) × AllYes qs

pub all_yes : (qs : List Question) → AllYes qs → asked qs ≡ 0
all_yes [] a = refl
all_yes (q ∷ qs) a = rw a.0 (all_yes qs a.1)

-- no question has the number 0
abbrev pub numbered : List Question → Bool
numbered [] = true
numbered (q ∷ qs) = ltb 0 q.number && numbered qs

pub yes-all : (qs : List Question) → numbered qs ≡ true → asked qs ≡ 0 → AllYes qs
yes-all [] n h = tt
yes-all (q ∷ qs) n h =
    split (λ k. k ≡ 0 → AllYes (q ∷ qs)) q.yes (λ e k. (e, yes-all qs (and_right (ltb 0 q.number) (numbered qs) n) k))
    (λ e k. let p = ltb-true 0 q.number (and_left (ltb 0 q.number) (numbered qs) n) in absurd (omega arith))
    h

pub refused-first : (qs : List Question) → asked qs ≢ 0 → FirstNo qs (asked qs)
refused-first [] h = absurd (h refl)
refused-first (q ∷ qs) h =
    split (λ n. n ≢ 0 → FirstNo (q ∷ qs) n) q.yes (λ e k. later e (refused-first qs k)) (λ e k. here e) h

-- more questions behind these: the first no stands, and where there is none, theirs does
pub asked-no : (qs more : List Question) (n : ℕ) → n ≡ asked qs → n ≢ 0 → n ≡ asked (qs ++ more)
asked-no [] more n e h = absurd (h e)
asked-no (q ∷ qs) more n e h =
    split (λ k. n ≡ k → n ≡ asked ((q ∷ qs) ++ more)) q.yes (λ y f. rw y (asked-no qs more n f h)) (λ y f. rw y f) e

pub asked-yes : (qs more : List Question) → AllYes qs → asked (qs ++ more) ≡ asked more
asked-yes [] more a = refl
asked-yes (q ∷ qs) more a = rw a.0 (asked-yes qs more a.1)
