-- How `chip_state` returns the machine's answer: a refusal's number and zeros, or 0 and the bytes; the record stays.
use Rattle.std.specs.Prelude.{List, [], ◌∷◌, ℕ, replicate, Result, Ok, Err}
use Rattle.chip_record.specs.States.{state_size}
use Rattle.cart.specs.Record.{State, Outcome}
use Rattle.refusal.specs.declared.Refusal.{Refusal}
use Rattle.refusal.specs.Refusals.{refusal_number}

pub record StateAnswer : Type 0 where
  pub refusal : ℕ
  pub bytes : List ℕ

abbrev pub state_answer : ℕ → List ℕ → StateAnswer
state_answer refusal bytes = record { refusal = refusal; bytes = bytes }

abbrev pub state_answer_from : Result (List ℕ) Refusal → StateAnswer
state_answer_from (Ok b) = state_answer 0 b
state_answer_from (Err r) = state_answer (refusal_number r) (replicate state_size 0)

abbrev pub or_zeros : List ℕ → List ℕ
or_zeros [] = replicate state_size 0
or_zeros (b ∷ l) = b ∷ l

abbrev pub state_answered : Outcome → StateAnswer × State
state_answered o = (state_answer o.refusal (or_zeros o.given), o.next)
