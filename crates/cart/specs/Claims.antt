-- What is claimed of a state's bytes, of the changed flag and of the part.
use Rattle.std.specs.Prelude.{◌≡◌, ◌≢◌, Bool, true, false, cond, List, [], ◌∷◌, ◌++◌, ℕ, ◌^◌, ◌<◌, eqb, length, get_or}
use Rattle.std.proofs.Math.Pow.{are_bytes}
use Rattle.lists.specs.Lists.{bit}
use Rattle.lists.specs.Questions.{FirstNo}
use Rattle.part.specs.declared.Part.{Part}
use Rattle.part.specs.Part.{part_of, part_fits}
use Rattle.chip_record.specs.declared.ChipRecord.{ChipRecord}
use Rattle.chip_record.specs.ChipState.{chip_record_size}
use Rattle.chip_record.specs.States.{state_size, flag_at, layout_number, eighteen_of}
use Rattle.cart.specs.Record.{State, Outcome, outcome_of, outcome, record_allowed, from_bytes}
use Rattle.cart.specs.Calls.{Call, save_read, load_save, chip_state, take_save_dirty}
use Rattle.cart.specs.Calls.{chip_with, restore_questions, step, restore, import_save}

-- demand 2: "Each record that `chip_state` writes is restored to itself; bytes that restore accepts are written
-- back unchanged."
pub record StateBytes : Type 0 where
  -- whatever flag and chip record the cartridge had meanwhile
  pub restores_itself : (s : State) (dirty : Bool) (chip : ChipRecord)
      → record_allowed s.cart ≡ true → s.cart.chip.eeprom.acc < 2 ^ 64
      → let t = chip_with s dirty chip in record_allowed t.cart ≡ true
      → restore (step chip_state [] s).given t ≡ outcome [] s []
  -- the first eighteen bytes alone leave the flag that it has
  pub eighteen_restore : (s : State) (dirty : Bool) (chip : ChipRecord)
      → record_allowed s.cart ≡ true → s.cart.chip.eeprom.acc < 2 ^ 64
      → let t = chip_with s dirty chip in record_allowed t.cart ≡ true
      → restore (eighteen_of (step chip_state [] s).given) t ≡ outcome [] (chip_with s dirty s.cart.chip) []
  pub writes_back : (b : List ℕ) (s : State) → are_bytes b ≡ true → (restore b s).refusal ≡ 0
      → length b ≡ state_size → (step chip_state [] (restore b s).next).given ≡ b
  -- old files "come back unchanged as the first eighteen of the twenty"; the others are the flag, as it was, and the 2
  pub writes_back_old : (b : List ℕ) (s : State) → are_bytes b ≡ true → (restore b s).refusal ≡ 0
      → length b ≡ chip_record_size
      → (step chip_state [] (restore b s).next).given ≡ b ++ (bit s.cart.dirty ∷ layout_number ∷ [])
  -- what restore refuses, it refuses with the first number that applies, and leaves the state
  pub refuses_first : (b : List ℕ) (s : State) → (restore b s).refusal ≢ 0
      → FirstNo (restore_questions b s) (restore b s).refusal × ((restore b s).next ≡ s)

-- no call but `take_save_dirty` clears the flag, and a load and an import leave it; restore sets it from layout 2
pub record FlagKept : Type 0 where
  pub stays : (c : Call) (d : List ℕ) (s : State) → c ≢ take_save_dirty → s.cart.dirty ≡ true
      → (step c d s).next.cart.dirty ≡ true
  pub load : (f d : List ℕ) (s : State) → (step (load_save f) d s).next.cart.dirty ≡ s.cart.dirty
  pub restored : (b : List ℕ) (s : State) → (restore b s).refusal ≡ 0
      → (restore b s).next.cart.dirty ≡ cond (eqb (length b) state_size) (eqb (get_or b flag_at 0) 1) s.cart.dirty
  pub imported : (f : List ℕ) (s : State) → (import_save f s).next.cart.dirty ≡ s.cart.dirty

-- a state, and an outcome's, with another part
abbrev pub with_part : Part → State → State
with_part p s =
    let c = s.cart in
    record {
      cart = record { len = c.len; kind = c.kind; part = p; dirty = c.dirty; chip = c.chip };
      memory = s.memory;
      tallies = s.tallies;
    }

abbrev pub outcome_with : Part → Outcome → Outcome
outcome_with p o =
    outcome_of o.refusal o.given o.flag o.changed (with_part p o.next) o.destination

-- the part is the one that opening was given: no call, restore or import touches it; and whichever part fits, each call
-- but a byte read in ID mode answers and does the same
pub record PartKept : Type 0 where
  pub opened : (image : List ℕ) (part : ℕ) (memory tallies : List ℕ) → (from_bytes image part memory tallies).refusal ≡ 0
      → (from_bytes image part memory tallies).next.cart.part ≡ part_of part
  pub stays : (c : Call) (d : List ℕ) (s : State) → (step c d s).next.cart.part ≡ s.cart.part
  pub restored : (b : List ℕ) (s : State) → (restore b s).next.cart.part ≡ s.cart.part
  pub imported : (f : List ℕ) (s : State) → (import_save f s).next.cart.part ≡ s.cart.part
  pub unseen : (p : Part) (c : Call) (d : List ℕ) (s : State)
      → part_fits p s.cart.kind ≡ part_fits s.cart.part s.cart.kind
      → ((a : ℕ) → c ≡ save_read a → s.cart.chip.flash.id ≡ false)
      → step c d (with_part p s) ≡ outcome_with p (step c d s)
