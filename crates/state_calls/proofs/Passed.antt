-- Questions asked and passed on by `?`. Assumes nothing.
use Rattle.std.proofs.Common.{◌≡◌, ℕ, List, Result, Ok, Err, ap, sym, refl, length, replicate}
use borrow.Author.Tests.{eqb-true}
use Rattle.std.specs.Result.{IsErrAnd}
use Rattle.refusal.specs.declared.Refusal.{Refusal}
use Rattle.refusal.specs.Refusals.{refusal_number}
use Rattle.chip_record.specs.States.{state_size}
use Rattle.lists.specs.Questions.{asked}
use Rattle.lists.proofs.Questions.{yes-all}
use Rattle.kind.specs.Kind.{tally_count}
use Rattle.cart.specs.declared.Cartridge.{Cartridge}
use Rattle.cart.specs.Calls.{tally_questions}
use Rattle.state_calls.specs.StateAnswer.{state_answer, state_answer_from}

pub passed-state : (t : Result (List ℕ) Refusal) (e : Refusal) → IsErrAnd t (λ f. f ≡ e)
    → state_answer_from t ≡ state_answer (refusal_number e) (replicate state_size 0)
passed-state (Ok x) e h = absurd h
passed-state (Err f) e h = ap (λ (r : Refusal). state_answer (refusal_number r) (replicate state_size 0)) h

-- the tallies that question 16 takes
pub tallies-right : (c : Cartridge) (tallies : List ℕ) → 0 ≡ asked (tally_questions c tallies) → length tallies ≡ tally_count c.kind
tallies-right c tallies q = eqb-true (length tallies) (tally_count c.kind) (yes-all (tally_questions c tallies) refl (sym q)).1.0
