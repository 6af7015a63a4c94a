-- A call's outcome, its questions answered. Assumes nothing.
use mathlib.Core.Path.{◌≡◌, refl, sym, ap, ◌∙◌}
use Rattle.std.proofs.Common.{Result, Ok, Err}
use Rattle.std.specs.Result.{IsErrAnd}
use Rattle.refusal.specs.declared.Refusal.{Refusal}
use Rattle.refusal.specs.Refusals.{refusal_number}
use Rattle.cart.specs.declared.Accepted.{Accepted}
use Rattle.cart.specs.Replies.{reply_from, refused as refused_reply}
use mathlib.Core.Logic.{◌≢◌}
use mathlib.Core.Bool.{true}
use mathlib.Core.List.{List, [], ◌∷◌, ◌++◌}
use Prim.Native.Nat.{ℕ}
use lib.Dec.{eqb}
use borrow.Author.Tests.{ne_eqb, eqb-true}
use Rattle.lists.specs.Questions.{Question, ◌else◌, asked}
use Rattle.lists.proofs.Questions.{AllYes, yes-all, asked-no, asked-yes}
use Rattle.memory.specs.declared.Store.TheVariants.{Nothing}
use Rattle.kind.specs.Kind.{memory_size, tally_count}
use Rattle.cart.specs.declared.Cartridge.{Cartridge}
use Rattle.cart.specs.Calls.{Call, questions, accepted, step}
use Rattle.cart.specs.Record.{State, Outcome, guarded, refused, counted, record_allowed, record_question, door_number, store_door_number}
use Rattle.cart.specs.Counts.{store_of}
use Rattle.cart.proofs.Counts.{accepted-kept}

-- what a `?` passes on
pub passed-reply : (c : Cartridge) (t : Result Accepted Refusal) (e : Refusal) → IsErrAnd t (λ f. f ≡ e) → reply_from c t ≡ refused_reply (refusal_number e) c
passed-reply c (Ok x) e h = absurd h
passed-reply c (Err f) e h = ap (λ (r : Refusal). refused_reply (refusal_number r) c) h

module _ (qs : List Question) (d : List ℕ) (s : State) (o : Outcome) where
  -- the number is n
  pub guarded-no : (n : ℕ) → n ≡ asked qs → n ≢ 0 → guarded qs d s o ≡ refused n s d
  guarded-no n e h = rw (← e, ne_eqb n 0 h)

  -- or there is none
  pub guarded-yes : (n : ℕ) → n ≡ asked qs → n ≡ 0 → guarded qs d s o ≡ o
  guarded-yes n e h = rw (sym e ∙ h)

-- of one of the nine calls
module _ (q : Call) (d : List ℕ) (s : State) (n : ℕ) (e : n ≡ asked (questions q d s)) where
  pub step-no : n ≢ 0 → step q d s ≡ refused n s d
  unfolding step
  step-no h = guarded-no (questions q d s) d s (counted s (accepted q d s)) n e h

  pub step-yes : n ≡ 0 → step q d s ≡ counted s (accepted q d s)
  unfolding step
  step-yes h = guarded-yes (questions q d s) d s (counted s (accepted q d s)) n e h

  -- a call that is no store has changed no place
  pub step_kept : store_of q s ≡ Nothing → n ≡ 0 → step q d s ≡ accepted q d s
  step_kept k h = step-yes h ∙ accepted-kept q d s k

-- question 2, with more behind it
module _ (c : Cartridge) where
  pub record-no : (more : List Question) (k : ℕ) → k ≡ asked (record_question c ∷ []) → k ≢ 0 → k ≡ asked (record_question c ∷ more)
  record-no more k e h = asked-no (record_question c ∷ []) more k e h

  pub record-yes : 0 ≡ asked (record_question c ∷ []) → record_allowed c ≡ true
  record-yes e = (yes-all (record_question c ∷ []) refl (sym e)).0

-- questions 2 and 3, with more behind them: answered no with the number k, or yes
module _ (c : Cartridge) (n : ℕ) where
  abbrev pub door : List Question
  door = record_question c ∷ eqb n (memory_size c.kind) else 3 ∷ []

  pub door-no : (more : List Question) (k : ℕ) → k ≡ door_number c n → k ≢ 0 → k ≡ asked (door ++ more)
  door-no more k e h = asked-no door more k e h

  pub door-all : (k : ℕ) → k ≡ door_number c n → k ≡ 0 → AllYes door
  door-all k e z = yes-all door refl (sym e ∙ z)

  pub door-yes : (k : ℕ) → k ≡ door_number c n → k ≡ 0 → (record_allowed c ≡ true) × (n ≡ memory_size c.kind)
  door-yes k e z = let y = door-all k e z in (y.0, eqb-true n (memory_size c.kind) y.1.0)

  pub door-more : (more : List Question) (k : ℕ) → k ≡ door_number c n → k ≡ 0 → asked (door ++ more) ≡ asked more
  door-more more k e z = asked-yes door more (door-all k e z)

-- questions 2, 3 and 16, likewise
module _ (c : Cartridge) (n k : ℕ) where
  abbrev pub store_door : List Question
  store_door = record_question c ∷ eqb n (memory_size c.kind) else 3 ∷ eqb k (tally_count c.kind) else 16 ∷ []

  pub store-door-no : (more : List Question) (r : ℕ) → r ≡ store_door_number c n k → r ≢ 0 → r ≡ asked (store_door ++ more)
  store-door-no more r e h = asked-no store_door more r e h

  pub store-door-all : (r : ℕ) → r ≡ store_door_number c n k → r ≡ 0 → AllYes store_door
  store-door-all r e z = yes-all store_door refl (sym e ∙ z)

  pub store-door-yes : (r : ℕ) → r ≡ store_door_number c n k → r ≡ 0
      → (record_allowed c ≡ true) × (n ≡ memory_size c.kind) × (k ≡ tally_count c.kind)
  store-door-yes r e z =
      let y = store-door-all r e z in
      (y.0, eqb-true n (memory_size c.kind) y.1.0, eqb-true k (tally_count c.kind) y.1.1.0)

  pub store-door-more : (more : List Question) (r : ℕ) → r ≡ store_door_number c n k → r ≡ 0 → asked (store_door ++ more) ≡ asked more
  store-door-more more r e z = asked-yes store_door more (store-door-all r e z)
