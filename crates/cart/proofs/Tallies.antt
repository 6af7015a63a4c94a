-- Tallies after a call: as many as before, numbers of 16 bits, and right if they were. Assumes nothing.
use mathlib.Core.Path.{◌≡◌, sym, ap, ◌∙◌}
use mathlib.Core.Bool.{Bool, true}
use mathlib.Core.List.{List}
use Prim.Native.Nat.{ℕ}
use lib.Dec.{eqb}
use lib.ListN.{length}
use borrow.Author.Tests.{eq-eqb}
use Rattle.counts.specs.Tallies.{Words, retallied}
use Rattle.counts.proofs.Retallied.{length-retallied, words-retallied, retallied-same, retallied-again, tallies-kept, length-tallies, words-tallies, tallies-blank}
use Rattle.kind.specs.Kind.{tally_count, memory_size, detect_save_type}
use Rattle.memory.specs.Memory.{erased}
use Rattle.part.specs.declared.Part.{Part}
use Rattle.chip_record.specs.declared.ChipRecord.{ChipRecord}
use Rattle.cart.specs.Record.{State, fresh_cart, fresh}
use Rattle.cart.specs.Calls.{Call, chip_with, state_with, accepted, step, restore, import_save}
use Rattle.cart.specs.Stretches.{TalliesRight, with_tallies}
use Rattle.cart.proofs.Changes.{accepted-keeps, step_keeps, restore-keeps, import-keeps}

-- as many as the kind has
pub record Fit (s : State) : Type 0 where
  pub count : length s.tallies ≡ tally_count s.cart.kind
  pub words : Words s.tallies

pub fit-chip : (s : State) (dirty : Bool) (c : ChipRecord) → Fit s → Fit (chip_with s dirty c)
fit-chip s dirty c f = record { count = f.count; words = f.words }

pub fit-memory : (s : State) (dirty : Bool) (c : ChipRecord) (m : List ℕ) → Fit s → Fit (state_with s dirty c m)
fit-memory s dirty c m f =
    record {
      count = length-retallied s.tallies s.memory m ∙ f.count;
      words = words-retallied s.tallies s.memory m;
    }

pub fit-step : (c : Call) (d : List ℕ) (s : State) → Fit s → Fit (step c d s).next
fit-step c d s f = step_keeps Fit fit-chip fit-memory c d s f

-- question 16 is answered yes
pub tallies-fit : (s : State) → Fit s → eqb (length s.tallies) (tally_count s.cart.kind) ≡ true
tallies-fit s f = eq-eqb (length s.tallies) (tally_count s.cart.kind) f.count

-- right ones stay right
right-chip : (s : State) (dirty : Bool) (c : ChipRecord) → TalliesRight s → TalliesRight (chip_with s dirty c)
right-chip s dirty c r = r

pub right-memory : (s : State) (dirty : Bool) (c : ChipRecord) (m : List ℕ) → TalliesRight s → TalliesRight (state_with s dirty c m)
right-memory s dirty c m r = ap (retallied s.memory m) r ∙ tallies-kept (tally_count s.cart.kind) s.memory m

pub right-accepted : (c : Call) (d : List ℕ) (s : State) → TalliesRight s → TalliesRight (accepted c d s).next
right-accepted c d s r = accepted-keeps TalliesRight right-chip right-memory c d s r

pub right-step : (c : Call) (d : List ℕ) (s : State) → TalliesRight s → TalliesRight (step c d s).next
right-step c d s r = step_keeps TalliesRight right-chip right-memory c d s r

pub right-restore : (b : List ℕ) (s : State) → TalliesRight s → TalliesRight (restore b s).next
right-restore b s r = restore-keeps TalliesRight right-chip right-memory b s r

pub right-import : (f : List ℕ) (s : State) → TalliesRight s → TalliesRight (import_save f s).next
right-import f s r = import-keeps TalliesRight right-chip right-memory f s r

pub right-fresh : (image : List ℕ) (part : Part) → TalliesRight (fresh image part)
unfolding fresh fresh_cart erased
right-fresh image part =
    let kind = detect_save_type image in
    sym (tallies-blank (tally_count kind) (memory_size kind))

pub right-fit : (s : State) → TalliesRight s → Fit s
right-fit s r =
    record {
      count = ap length r ∙ length-tallies (tally_count s.cart.kind) s.memory;
      words = rw r (words-tallies (tally_count s.cart.kind) s.memory);
    }

-- a memory that stays, and one after another
pub tallies-stay : (s : State) → Words s.tallies → with_tallies (retallied s.memory s.memory s.tallies) s ≡ s
tallies-stay s w = ap (λ (ts : List ℕ). with_tallies ts s) (retallied-same s.memory s.tallies w)

-- t is what a store makes of s, by way of the memory m
pub tallies-again : (s : State) (m : List ℕ) (t : State)
    → with_tallies (retallied m t.memory (retallied s.memory m s.tallies)) t ≡ with_tallies (retallied s.memory t.memory s.tallies) t
tallies-again s m t = ap (λ (ts : List ℕ). with_tallies ts t) (retallied-again s.memory m t.memory s.tallies)
