-- What is claimed of the tallies. Document 02, ticket 4.
use Rattle.std.specs.Prelude.{◌≡◌, Bool, true, false, List, [], ◌∷◌, ℕ, length}
use Rattle.std.proofs.Math.Pow.{are_bytes}
use Rattle.lists.specs.Lists.{bit}
use Rattle.counts.specs.Tallies.{Words, retallied, tallies_of, blank_memory, first_used, stretch_of, in_use_number}
use Rattle.image.specs.Image.{Answer}
use Rattle.image.specs.Image.{answered}
use Rattle.kind.specs.Kind.{tally_count}
use Rattle.cart.specs.Record.{State, Outcome, outcome_of, outcome, from_bytes}
use Rattle.cart.specs.Calls.{Call, save_read, save_write, eeprom_begin_dma, eeprom_write, eeprom_read}
use Rattle.cart.specs.Calls.{load_save, save_data, chip_state, take_save_dirty}
use Rattle.cart.specs.Calls.{chip_with, step, restore, import_save, is_blank, in_use}

-- The invariant: each tally is its stretch's count of bytes other than FFh. An opening gives such tallies, and every
-- call leaves such ones: a store adds to each the difference of the counts after it and before it.
abbrev pub TalliesRight : State → Type 0
TalliesRight s = s.tallies ≡ tallies_of (tally_count s.cart.kind) s.memory

-- "every list of calls from a fresh cartridge, refused calls and restores among them": a call of the nine with its
-- destination, an import, a restore of any bytes; and the flag set by the host, as it may
pub data Act : Type 0 where
  calls : Call → List ℕ → Act
  imports : List ℕ → Act
  restores : (b : List ℕ) → are_bytes b ≡ true → Act
  flags : Bool → Act

abbrev pub act : Act → State → Outcome
act (calls c d) s = step c d s
act (imports f) s = import_save f s
act (restores b e) s = restore b s
act (flags dirty) s = outcome [] (chip_with s dirty s.cart.chip) []

-- "each call gets record, memory and tallies as the last one left them"
unfoldable pub acts : List Act → State → State
acts [] s = s
acts (a ∷ list) s = acts list (act a s).next

-- "the full reading"
abbrev pub blank_by_reading : List ℕ → Answer
blank_by_reading memory = answered [] (bit (blank_memory memory))

abbrev pub in_use_by_reading : List ℕ → Answer
in_use_by_reading memory = answered [] (in_use_number (stretch_of (first_used memory)))

-- which of the nine calls are passed the tallies; the outcome of the others with tallies beside it
abbrev pub takes_tallies : Call → Bool
takes_tallies (save_read a) = false
takes_tallies (save_write a v) = true
takes_tallies (eeprom_begin_dma words) = false
takes_tallies (eeprom_write v) = true
takes_tallies eeprom_read = false
takes_tallies (load_save f) = true
takes_tallies save_data = false
takes_tallies chip_state = false
takes_tallies take_save_dirty = false

abbrev pub with_tallies : List ℕ → State → State
with_tallies tallies s = record { cart = s.cart; memory = s.memory; tallies = tallies }

abbrev pub beside_tallies : List ℕ → Outcome → Outcome
beside_tallies tallies o =
    outcome_of o.refusal o.given o.flag o.changed (with_tallies tallies o.next) o.destination

pub record Stretches : Type 0 where
  -- both answers are those of the full reading, after every list
  pub reads : (image : List ℕ) (part : ℕ) (memory tallies : List ℕ) (list : List Act)
      → (from_bytes image part memory tallies).refusal ≡ 0
      → let s = acts list (from_bytes image part memory tallies).next in
      (is_blank s.cart s.tallies ≡ blank_by_reading s.memory)
      × (in_use s.cart s.tallies ≡ in_use_by_reading s.memory)
      × TalliesRight s
  -- whatever tallies a call gets, they change as the memory does: "a store adds its change, modulo 65,536"
  pub changes : (a : Act) (s : State) → Words s.tallies
      → (act a s).next.tallies ≡ retallied s.memory (act a s).next.memory s.tallies
  -- nothing but the tallies depends on their values: as many others give the same answers, record and memory
  pub harmless : (ts : List ℕ) (a : Act) (s : State) → length ts ≡ length s.tallies
      → beside_tallies [] (act a (with_tallies ts s)) ≡ beside_tallies [] (act a s)
  -- a call that is not passed the tallies does the same whatever they are, and leaves them
  pub apart : (ts : List ℕ) (c : Call) (d : List ℕ) (s : State) → takes_tallies c ≡ false
      → step c d (with_tallies ts s) ≡ beside_tallies ts (step c d s)
  pub restored_apart : (ts b : List ℕ) (s : State) → restore b (with_tallies ts s) ≡ beside_tallies ts (restore b s)
