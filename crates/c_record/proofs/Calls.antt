-- From the machine's call to the call on a record's bytes. Assumes nothing.
use mathlib.Core.Path.{◌≡◌, refl, sym, ap, ◌∙◌}
use mathlib.Core.Logic.{◌≢◌}
use mathlib.Core.Bool.{false}
use mathlib.Core.List.{List, ◌∷◌}
use Prim.Native.Nat.{ℕ}
use lib.ListN.{length}
use borrow.Author.Tests.{eq-eqb, ne_eqb}
use Rattle.lists.specs.Questions.{Question, asked}
use Rattle.kind.specs.Kind.{memory_size, tally_count}
use Rattle.cart.specs.Record.{State, Outcome, counted}
use Rattle.cart.specs.Calls.{Call, question2, question3, question16, questions, accepted, step}
use Rattle.cart.proofs.Replies.{step-no, step-yes}
use Rattle.c_record.specs.RecordBytes.{cart_of, is_record, Valid, state_of}
use Rattle.c_record.specs.AtExit.{left, untouched, called}

module _ (call : State → Outcome) (d r m ts : List ℕ) where
  pub no_record : is_record r ≡ false → untouched 2 d r m ts ≡ called call d r m ts
  unfolding called
  no_record h = rw h

  pub of-record : Valid r → left (call (state_of r m ts)) ≡ called call d r m ts
  unfolding called
  of-record v = rw v.yes

-- questions 2, 3 and 16 of a valid record with memory and tallies, and more after them
module _ (r m ts : List ℕ) (v : Valid r) (more : List Question) where
  pub memory-no : length m ≢ memory_size (cart_of r).kind → 3 ≡ asked (question2 (state_of r m ts) ∷ question3 (state_of r m ts) ∷ more)
  memory-no h = rw (v.allowed, ne_eqb (length m) (memory_size (cart_of r).kind) h)

  pub memory-yes : length m ≡ memory_size (cart_of r).kind → asked more ≡ asked (question2 (state_of r m ts) ∷ question3 (state_of r m ts) ∷ more)
  memory-yes e = rw (v.allowed, eq-eqb (length m) (memory_size (cart_of r).kind) e)

  abbrev pub asked16 : List Question
  asked16 = question2 (state_of r m ts) ∷ question3 (state_of r m ts) ∷ question16 (state_of r m ts) ∷ more

  pub tallies-no : length m ≡ memory_size (cart_of r).kind → length ts ≢ tally_count (cart_of r).kind → 16 ≡ asked asked16
  tallies-no e h =
      rw (v.allowed, eq-eqb (length m) (memory_size (cart_of r).kind) e, ne_eqb (length ts) (tally_count (cart_of r).kind) h)

  pub tallies-yes : length m ≡ memory_size (cart_of r).kind → length ts ≡ tally_count (cart_of r).kind → asked more ≡ asked asked16
  tallies-yes e h =
      rw (v.allowed, eq-eqb (length m) (memory_size (cart_of r).kind) e, eq-eqb (length ts) (tally_count (cart_of r).kind) h)

-- one of the nine calls on a valid record, its questions asked
module _ (q : Call) (d r m ts : List ℕ) (v : Valid r) where
  pub refused : (n : ℕ) → n ≡ asked (questions q d (state_of r m ts)) → n ≢ 0 → untouched n d r m ts ≡ called (step q d) d r m ts
  refused n e h =
      (λ i. untouched n d (sym v.back i) m ts) ∙ ap left (sym (step-no q d (state_of r m ts) n e h)) ∙ of-record (step q d) d r m ts v

  pub done : 0 ≡ asked (questions q d (state_of r m ts)) → left (counted (state_of r m ts) (accepted q d (state_of r m ts))) ≡ called (step q d) d r m ts
  done e = ap left (sym (step-yes q d (state_of r m ts) 0 e refl)) ∙ of-record (step q d) d r m ts v
