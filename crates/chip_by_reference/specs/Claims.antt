-- What is claimed of the thin call. Its contract is the plain call's, taken apart (`apart`).
use Rattle.std.specs.Prelude.{◌≡◌, ◌≢◌, Bool, List, ℕ}
use Rattle.kind.specs.declared.SaveType.{SaveType}
use Rattle.part.specs.declared.Part.{Part}
use Rattle.chip_record.specs.declared.ChipRecord.{ChipRecord}
use Rattle.chip_by_reference.specs.Lent.{plain_call, apart, together}

pub record ThinCall (len : ℕ) (kind : SaveType) (part : Part) (dirty : Bool)
    (chip : ChipRecord) (m ts : List ℕ) (v : ℕ) : Type 0 where
  -- "its other answers those of the plain call": nothing that the plain call answers is lost
  pub same_plain : together len kind part (apart (plain_call len kind part dirty chip m ts v))
      ≡ plain_call len kind part dirty chip m ts v
  -- "A no returns the number, the record as given, all buffers unchanged"
  pub refused_leaves : (n : ℕ) → n ≢ 0 → (plain_call len kind part dirty chip m ts v).0.refusal ≡ n
      → apart (plain_call len kind part dirty chip m ts v) ≡ (record { refusal = n; changed = 0; dirty = dirty }, chip, m, ts)
