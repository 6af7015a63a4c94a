-- A call's answer, where its questions are answered. Assumes nothing.
use Rattle.std.proofs.Common.{◌≡◌, ℕ, suc, ◌+◌, ◌*◌, List, get_or, sym, ap, Result, Ok, Err, ◌∙◌, add-one, arith}
use native.Mathlib.Numerals.{add-two, add-three}
use borrow.Author.Tests.{ne_eqb}
use Rattle.std.specs.Result.{IsErrAnd}
use Rattle.lists.specs.Lists.{low_value}
use Rattle.lists.specs.Questions.{Question, asked}
use Rattle.refusal.specs.declared.Refusal.{Refusal}
use Rattle.refusal.specs.Refusals.{refusal_number}
use Rattle.refusal.proofs.Passed.{not-0}
use Rattle.lists.proofs.Digits.{low-at}
use Rattle.image.specs.Image.{accepted, refused, answer_of, answered, read_at}

-- a refusal that a `?` passes on, and an accepted call
pub answered-no : (qs : List Question) (v : ℕ) (t : Result ℕ Refusal) (e : Refusal) → IsErrAnd t (λ f. f ≡ e) → refusal_number e ≡ asked qs → answer_of t ≡ answered qs v
answered-no qs v (Ok x) e h q = absurd h
answered-no qs v (Err f) e h q = ap (λ (r : Refusal). refused (refusal_number r)) h ∙ rw (← q, ne_eqb (refusal_number e) 0 (not-0 e))

pub answered-yes : (qs : List Question) (v x : ℕ) → 0 ≡ asked qs → x ≡ v → accepted x ≡ answered qs v
answered-yes qs v x q h = ap accepted h ∙ rw (← q)

-- the number of one, two, four bytes
pub read-1 : (image : List ℕ) (a : ℕ) → get_or image a 0 ≡ read_at 1 image a
unfolding read_at low_value
read-1 image a = sym (low-at image a 0 ∙ omega arith)

pub read-2 : (image : List ℕ) (a : ℕ) → get_or image a 0 + 256 * get_or image (a + 1) 0 ≡ read_at 2 image a
unfolding read_at low_value
read-2 image a = rw (add-one, low-at image a 1, low-at image (suc a) 0) (omega arith)

pub read-4 : (image : List ℕ) (a : ℕ)
    → get_or image a 0 + 256 * (get_or image (a + 1) 0 + 256 * (get_or image (a + 2) 0 + 256 * get_or image (a + 3) 0)) ≡ read_at 4 image a
unfolding read_at low_value
read-4 image a =
    rw (add-one, add-two, add-three, low-at image a 3, low-at image (suc a) 2, low-at image (suc (suc a)) 1, low-at image (suc (suc (suc a))) 0) (omega arith)
