-- Document 01, "Questions at the door".
use Rattle.std.specs.Prelude.{◌≡◌, Bool, true, false, cond, List, [], ◌∷◌, ℕ}

infix 68 ◌else◌
-- a question: whether it is answered yes, and the number that a no returns
pub record Question : Type 0 where
  pub yes : Bool
  pub number : ℕ

abbrev pub ◌else◌ : Bool → ℕ → Question
◌else◌ b n = record { yes = b; number = n }

-- the number of the first question that is answered no, and 0 where there is none
abbrev pub asked : List Question → ℕ
asked [] = 0
asked (q ∷ qs) = cond q.yes (asked qs) q.number

-- "in this order": a refusal is the number of a question answered no, and all before it are answered yes
pub data FirstNo : List Question → ℕ → Type 0 where
  here : {q : Question} {qs : List Question} → q.yes ≡ false → FirstNo (q ∷ qs) q.number
  later : {q : Question} {n : ℕ} {qs : List Question} → q.yes ≡ true → FirstNo qs n → FirstNo (q ∷ qs) n
