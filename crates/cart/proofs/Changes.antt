-- What every call, import and restore keeps: each leaves the state, or the state with another chip record, or with
-- another memory besides, whose tallies follow it. Assumes nothing.
use mathlib.Core.Bool.{Bool}
use mathlib.Core.List.{List}
use mathlib.Core.Option.{Option, none, some}
use Prim.Native.Nat.{ℕ}
use lib.Dec.{eqb}
use Rattle.lists.specs.Questions.{asked}
use Rattle.lists.proofs.Bools.{either}
use Rattle.kind.specs.declared.SaveType.{SaveType}
use Rattle.chip_record.specs.declared.ChipRecord.{ChipRecord}
use Rattle.cart.specs.Record.{State, Outcome}
use Rattle.cart.specs.Calls.{Call, save_read, save_write, eeprom_begin_dma, eeprom_write, eeprom_read, load_save, save_data, chip_state, take_save_dirty}
use Rattle.cart.specs.Calls.{chip_with, state_with, write_save, load, file_of, exported, accepted, step, restore_questions, restore, import_questions, import_save}
use Rattle.cart.proofs.Sound.{step-next}

module _ (P : State → Type 0)
    (chip : (s : State) (dirty : Bool) (c : ChipRecord) → P s → P (chip_with s dirty c))
    (memory : (s : State) (dirty : Bool) (c : ChipRecord) (m : List ℕ) → P s → P (state_with s dirty c m)) where
  write_keeps : (kind : SaveType) (s : State) (a v : ℕ) → P s → P (write_save kind s a v)
  unfolding write_save
  write_keeps kind s a v p = memory s _ _ _ p

  pub load-keeps : (f : List ℕ) (s : State) → P s → P (load s f)
  unfolding load
  load-keeps f s p = memory s _ _ _ p

  export-keeps : (f : Option (List ℕ)) (d : List ℕ) (s : State) → P s → P (exported f d s).next
  export-keeps none d s p = p
  export-keeps (some f) d s p = p

  pub accepted-keeps : (c : Call) (d : List ℕ) (s : State) → P s → P (accepted c d s).next
  unfolding accepted
  accepted-keeps (save_read a) d s p = p
  accepted-keeps (save_write a v) d s p = write_keeps s.cart.kind s a v p
  accepted-keeps (eeprom_begin_dma words) d s p = chip s _ _ p
  accepted-keeps (eeprom_write v) d s p = memory s _ _ _ p
  accepted-keeps eeprom_read d s p = chip s _ _ p
  accepted-keeps (load_save f) d s p = load-keeps f s p
  accepted-keeps save_data d s p = export-keeps (file_of s.cart.kind s) d s p
  accepted-keeps chip_state d s p = p
  accepted-keeps take_save_dirty d s p = chip s _ _ p

  pub step_keeps : (c : Call) (d : List ℕ) (s : State) → P s → P (step c d s).next
  step_keeps c d s p = step-next P c d s (λ y. accepted-keeps c d s p) p

  pub restore-keeps : (b : List ℕ) (s : State) → P s → P (restore b s).next
  unfolding restore
  restore-keeps b s p =
      either (λ (o : Outcome). P o.next) (eqb (asked (restore_questions b s)) 0) (chip s _ _ p) p

  pub import-keeps : (f : List ℕ) (s : State) → P s → P (import_save f s).next
  unfolding import_save
  import-keeps f s p =
      either (λ (o : Outcome). P o.next) (eqb (asked (import_questions f s)) 0) (load-keeps _ s p) p
