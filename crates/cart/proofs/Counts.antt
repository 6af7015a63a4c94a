-- How many places a call changed. Assumes nothing.
use mathlib.Core.Path.{◌≡◌, refl, sym, ap, subst, ◌∙◌}
use mathlib.Core.List.{List, []}
use mathlib.Core.Option.{Option, none, some}
use Prim.Native.Nat.{ℕ, ◌%◌, ◌≤◌}
use native.Mathlib.Omega.{arith}
use lib.Dec.{eqb}
use lib.ListN.{length}
use borrow.Author.Tests.{eqb-true, eqb-false}
use Rattle.lists.specs.Questions.{Question, asked}
use Rattle.lists.proofs.Bools.{split, either}
use Rattle.lists.proofs.Questions.{AllYes}
use Rattle.memory.specs.declared.Store.{Store}
use Rattle.memory.specs.declared.Store.TheVariants.{Nothing}
use Rattle.counts.specs.Counts.{differing}
use Rattle.memory.specs.Memory.{stored, Fits, most}
use Rattle.memory.proofs.Memory.{length-filled}
use Rattle.counts.proofs.Counts.{differing-le, differing-same, differing-0}
use Rattle.memory.proofs.Counts.{length-stored, most-stored}
use Rattle.kind.specs.Kind.{memory_size}
use Rattle.kind.proofs.Sizes.{memory-small}
use Rattle.file_sizes.specs.SaveFit.{kept_part}
use Rattle.byte_step.proofs.Fits.{step_fits}
use Rattle.eeprom.specs.Eeprom.{bit_in}
use Rattle.eeprom.proofs.Fits.{write-fits}
use Rattle.cart.specs.Record.{State, Outcome, guarded, counted, outcome, outcome_of}
use Rattle.cart.specs.Calls.{Call, save_read, save_write, eeprom_begin_dma, eeprom_write, eeprom_read, load_save, save_data, chip_state, take_save_dirty}
use Rattle.cart.specs.Calls.{write_save, load, file_of, exported, questions, accepted, step, import_questions, import_save}
use Rattle.cart.specs.Counts.{store_of, passed, Counts}
use Rattle.cart.proofs.Bounds.{allowed-bounds}
use Rattle.cart.proofs.Sound.{eeprom-size, step-next}
use Rattle.cart.proofs.Recoverable.{exported-next}

-- an accepted call makes its store
accepted-stored : (c : Call) (d : List ℕ) (s : State) → (accepted c d s).next.memory ≡ stored (store_of c s) (passed c) s.memory
unfolding accepted store_of stored write_save bit_in load
accepted-stored (save_read a) d s = refl
accepted-stored (save_write a v) d s = refl
accepted-stored (eeprom_begin_dma words) d s = refl
accepted-stored (eeprom_write v) d s = refl
accepted-stored eeprom_read d s = refl
accepted-stored (load_save f) d s = refl
accepted-stored save_data d s = ap (λ (t : State). t.memory) (exported-next (file_of s.cart.kind s) d s)
accepted-stored chip_state d s = refl
accepted-stored take_save_dirty d s = refl

-- and the store lies within the memory
accepted-fits : (c : Call) (d : List ℕ) (s : State) → AllYes (questions c d s) → Fits (store_of c s) (length s.memory)
unfolding store_of questions
accepted-fits (save_read a) d s y = tt
accepted-fits (save_write a v) d s y =
    step_fits s.cart.kind s.cart.chip.flash (length s.memory) a v (eqb-true (length s.memory) (memory_size s.cart.kind) y.1.0)
accepted-fits (eeprom_begin_dma words) d s y = tt
accepted-fits (eeprom_write v) d s y =
    let n = eqb-true (length s.memory) (memory_size s.cart.kind) y.1.0 in
    let b = (allowed-bounds s.cart y.0).block_ok in
    write-fits (length s.memory) s.cart.chip.eeprom (v % 2) (omega (arith, n, b, eeprom-size s.cart.kind y.1.1.1.0))
accepted-fits eeprom_read d s y = tt
accepted-fits (load_save f) d s y =
    omega (arith, eqb-true (length s.memory) (memory_size s.cart.kind) y.1.0, memory-small s.cart.kind)
accepted-fits save_data d s y = tt
accepted-fits chip_state d s y = tt
accepted-fits take_save_dirty d s y = tt

-- an accepted call has no refusal's number, and counts nothing itself
export-0 : (f : Option (List ℕ)) (d : List ℕ) (s : State) → ((exported f d s).refusal ≡ 0) × ((exported f d s).changed ≡ 0)
export-0 none d s = (refl, refl)
export-0 (some f) d s = (refl, refl)

pub accepted-0 : (c : Call) (d : List ℕ) (s : State) → ((accepted c d s).refusal ≡ 0) × ((accepted c d s).changed ≡ 0)
unfolding accepted
accepted-0 (save_read a) d s = (refl, refl)
accepted-0 (save_write a v) d s = (refl, refl)
accepted-0 (eeprom_begin_dma words) d s = (refl, refl)
accepted-0 (eeprom_write v) d s = (refl, refl)
accepted-0 eeprom_read d s = (refl, refl)
accepted-0 (load_save f) d s = (refl, refl)
accepted-0 save_data d s = export-0 (file_of s.cart.kind s) d s
accepted-0 chip_state d s = (refl, refl)
accepted-0 take_save_dirty d s = (refl, refl)

-- so a call that is no store has its own outcome
pub accepted-kept : (c : Call) (d : List ℕ) (s : State) → store_of c s ≡ Nothing → counted s (accepted c d s) ≡ accepted c d s
unfolding stored
accepted-kept c d s e =
    let o : Outcome = accepted c d s in
    let m : o.next.memory ≡ s.memory = accepted-stored c d s ∙ ap (λ (t : Store). stored t (passed c) s.memory) e in
    let n : differing s.memory o.next.memory ≡ o.changed = ap (differing s.memory) m ∙ differing-same s.memory ∙ sym (accepted-0 c d s).1 in
    λ i. outcome_of o.refusal o.given o.flag (n i) o.next o.destination

-- a call makes a store that lies within the memory, or leaves the memory
step-memory : (P : List ℕ → Type 0) (c : Call) (d : List ℕ) (s : State)
    → (Fits (store_of c s) (length s.memory) → P (stored (store_of c s) (passed c) s.memory)) → P s.memory → P (step c d s).next.memory
step-memory P c d s f p =
    step-next (λ (t : State). P t.memory) c d s (λ y. subst P (sym (accepted-stored c d s)) (f (accepted-fits c d s y))) p

length-kept : (c : Call) (d : List ℕ) (s : State) → length (step c d s).next.memory ≡ length s.memory
length-kept c d s =
    step-memory (λ (m : List ℕ). length m ≡ length s.memory) c d s (length-stored (store_of c s) (passed c) s.memory) refl

makes : (c : Call) (d : List ℕ) (s : State) → (step c d s).refusal ≡ 0 → (step c d s).next.memory ≡ stored (store_of c s) (passed c) s.memory
unfolding step
makes c d s =
    let n : ℕ = asked (questions c d s) in
    split (λ (o : Outcome). o.refusal ≡ 0 → o.next.memory ≡ stored (store_of c s) (passed c) s.memory) (eqb n 0)
    (λ e h. accepted-stored c d s)
    (λ e h. absurd (eqb-false n 0 e h))

-- the count is that of the memories before and after, refused or not
guarded-count : (qs : List Question) (d : List ℕ) (s : State) (o : Outcome)
    → (guarded qs d s (counted s o)).changed ≡ differing s.memory (guarded qs d s (counted s o)).next.memory
guarded-count qs d s o =
    either (λ (r : Outcome). r.changed ≡ differing s.memory r.next.memory) (eqb (asked qs) 0) refl (sym (differing-same s.memory))

step_count : (c : Call) (d : List ℕ) (s : State) → (step c d s).changed ≡ differing s.memory (step c d s).next.memory
unfolding step
step_count c d s = guarded-count (questions c d s) d s (accepted c d s)

step-most : (c : Call) (d : List ℕ) (s : State) → (step c d s).changed ≤ most (store_of c s) (length s.memory)
step-most c d s =
    subst (λ (n : ℕ). n ≤ most (store_of c s) (length s.memory)) (sym (step_count c d s))
    (step-memory (λ (m : List ℕ). differing s.memory m ≤ most (store_of c s) (length s.memory)) c d s
    (most-stored (store_of c s) (passed c) s.memory)
    (omega (arith, differing-same s.memory)))

no_store : (c : Call) (d : List ℕ) (s : State) → store_of c s ≡ Nothing → (step c d s).changed ≡ 0
no_store c d s e = let h : (step c d s).changed ≤ 0 = rw e at (step-most c d s) in omega arith

-- import loads a part of the file
import-count : (f : List ℕ) (s : State) → (import_save f s).changed ≡ differing s.memory (import_save f s).next.memory
unfolding import_save
import-count f s =
    let part : List ℕ = kept_part s.cart.kind f in
    guarded-count (import_questions f s) [] s (outcome _ (load s part) [])

import-length : (f : List ℕ) (s : State) → length (import_save f s).next.memory ≡ length s.memory
unfolding import_save load stored
import-length f s =
    either (λ (o : Outcome). length o.next.memory ≡ length s.memory) (eqb (asked (import_questions f s)) 0)
    (length-filled (length s.memory) (kept_part s.cart.kind f))
    refl

pub counts : Counts
counts =
    record {
      called = step_count;
      imported = import-count;
      called_none = λ c d s e. differing-0 s.memory (step c d s).next.memory (length-kept c d s) (sym (step_count c d s) ∙ e);
      imported_none = λ f s e. differing-0 s.memory (import_save f s).next.memory (import-length f s) (sym (import-count f s) ∙ e);
      makes = makes;
      no_store = no_store;
      most = step-most;
      imported_most = λ f s. omega (arith, import-count f s, differing-le s.memory (import_save f s).next.memory);
    }
