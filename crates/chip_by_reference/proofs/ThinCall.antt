-- The thin call is the plain one. Assumes nothing.
use mathlib.Core.Path.{◌≡◌, refl, sym}
use mathlib.Core.Logic.{◌≢◌}
use mathlib.Core.Bool.{Bool}
use mathlib.Core.List.{List, []}
use Prim.Native.Nat.{ℕ}
use lib.Dec.{eqb}
use Rattle.lists.specs.Questions.{asked}
use Rattle.lists.proofs.Bools.{split, either}
use Rattle.kind.specs.declared.SaveType.{SaveType}
use Rattle.part.specs.declared.Part.{Part}
use Rattle.chip_record.specs.declared.ChipRecord.{ChipRecord}
use Rattle.cart.specs.Record.{State, Outcome}
use Rattle.cart.specs.Calls.{eeprom_write, questions, accepted, step}
use Rattle.cart.specs.Replies.{tallied, store_replied}
use Rattle.chip_by_reference.specs.Lent.{cart_from, plain_call, apart, together}
use Rattle.chip_by_reference.specs.Claims.{ThinCall}

module _ (len : ℕ) (kind : SaveType) (part : Part) (dirty : Bool) (chip : ChipRecord) (m ts : List ℕ) (v : ℕ) where
  abbrev s : State
  s = tallied (cart_from len kind part dirty chip) m ts

  abbrev allowed : Bool
  allowed = eqb (asked (questions (eeprom_write v) [] s)) 0

  -- accepted, the image's length, the kind and the part stay, and no number is answered; refused, all stays
  same-plain : together len kind part (apart (plain_call len kind part dirty chip m ts v)) ≡ plain_call len kind part dirty chip m ts v
  unfolding step accepted
  same-plain = either (λ (o : Outcome). together len kind part (apart (store_replied o)) ≡ store_replied o) allowed refl refl

  refused-leaves : (n : ℕ) → n ≢ 0 → (step (eeprom_write v) [] s).refusal ≡ n
      → apart (plain_call len kind part dirty chip m ts v) ≡ (record { refusal = n; changed = 0; dirty = dirty }, chip, m, ts)
  unfolding step accepted
  refused-leaves n h =
      split (λ (o : Outcome). o.refusal ≡ n → apart (store_replied o) ≡ (record { refusal = n; changed = 0; dirty = dirty }, chip, m, ts)) allowed (λ t e. absurd (h (sym e))) (λ t e. rw e)

pub thin-call : (len : ℕ) (kind : SaveType) (part : Part) (dirty : Bool) (chip : ChipRecord) (m ts : List ℕ) (v : ℕ) → ThinCall len kind part dirty chip m ts v
thin-call len kind part dirty chip m ts v =
    record { same_plain = same-plain len kind part dirty chip m ts v; refused_leaves = refused-leaves len kind part dirty chip m ts v }
