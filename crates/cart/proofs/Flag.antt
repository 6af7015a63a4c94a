-- The changed flag. Assumes nothing.
use mathlib.Core.Path.{◌≡◌, refl}
use mathlib.Core.Logic.{◌≢◌}
use mathlib.Core.Bool.{Bool, true, false, cond, ◌||◌}
use mathlib.Core.List.{List, []}
use mathlib.Core.Option.{Option, none, some}
use Prim.Native.Nat.{ℕ, ◌%◌}
use lib.Dec.{eqb}
use lib.ListN.{length, get_or}
use borrow.Author.Tests.{eqb-false}
use Rattle.lists.specs.Questions.{Question, asked}
use Rattle.lists.proofs.Bools.{split, either}
use Rattle.memory.specs.Memory.{stores}
use Rattle.kind.specs.declared.SaveType.{SaveType}
use Rattle.byte_step.specs.ByteStep.{write_step}
use Rattle.eeprom.specs.Eeprom.{write_bit, bit_in}
use Rattle.cart.specs.Record.{State, Outcome, guarded, counted}
use Rattle.cart.specs.Calls.{Call, save_read, save_write, eeprom_begin_dma, eeprom_write, eeprom_read, load_save, save_data, chip_state, take_save_dirty}
use Rattle.cart.specs.Calls.{write_save, load, file_of, exported, questions, accepted, step, restore_questions, restore, import_questions, import_save}
use Rattle.cart.specs.Claims.{FlagKept}

or_right : (a b : Bool) → b ≡ true → a || b ≡ true
or_right true b e = refl
or_right false b e = e

write-stays : (kind : SaveType) (s : State) (a v : ℕ) → s.cart.dirty ≡ true → (write_save kind s a v).cart.dirty ≡ true
unfolding write_save
write-stays kind s a v h = or_right (write_step kind s.cart.chip.flash (length s.memory) a v).sets s.cart.dirty h

export-stays : (f : Option (List ℕ)) (d : List ℕ) (s : State) → s.cart.dirty ≡ true → (exported f d s).next.cart.dirty ≡ true
export-stays none d s h = h
export-stays (some f) d s h = h

accepted-stays : (c : Call) (d : List ℕ) (s : State) → c ≢ take_save_dirty → s.cart.dirty ≡ true → (accepted c d s).next.cart.dirty ≡ true
unfolding accepted bit_in load
accepted-stays (save_read a) d s n h = h
accepted-stays (save_write a v) d s n h = write-stays s.cart.kind s a v h
accepted-stays (eeprom_begin_dma words) d s n h = h
accepted-stays (eeprom_write v) d s n h = or_right (stores (write_bit s.cart.chip.eeprom (v % 2)).store) s.cart.dirty h
accepted-stays eeprom_read d s n h = h
accepted-stays (load_save f) d s n h = h
accepted-stays save_data d s n h = export-stays (file_of s.cart.kind s) d s h
accepted-stays chip_state d s n h = h
accepted-stays take_save_dirty d s n h = absurd (n refl)

stays : (c : Call) (d : List ℕ) (s : State) → c ≢ take_save_dirty → s.cart.dirty ≡ true → (step c d s).next.cart.dirty ≡ true
unfolding step
stays c d s n h =
    either (λ (o : Outcome). o.next.cart.dirty ≡ true) (eqb (asked (questions c d s)) 0) (accepted-stays c d s n h) h

-- a call that leaves the flag where it is accepted leaves it
leaves : (qs : List Question) (d : List ℕ) (s : State) (o : Outcome) → o.next.cart.dirty ≡ s.cart.dirty → (guarded qs d s o).next.cart.dirty ≡ s.cart.dirty
leaves qs d s o h = either (λ (r : Outcome). r.next.cart.dirty ≡ s.cart.dirty) (eqb (asked qs) 0) h refl

-- a restore that is accepted
restored : (b : List ℕ) (s : State) → (restore b s).refusal ≡ 0 → (restore b s).next.cart.dirty ≡ cond (eqb (length b) 20) (eqb (get_or b 18 0) 1) s.cart.dirty
unfolding restore
restored b s =
    split (λ (o : Outcome). o.refusal ≡ 0 → o.next.cart.dirty ≡ cond (eqb (length b) 20) (eqb (get_or b 18 0) 1) s.cart.dirty) (eqb (asked (restore_questions b s)) 0) (λ e z. refl)
    (λ e z. absurd (eqb-false (asked (restore_questions b s)) 0 e z))

pub flag-kept : FlagKept
unfolding step accepted load restore import_save
flag-kept =
    record {
      stays = stays;
      load = λ f d s. leaves (questions (load_save f) d s) d s (counted s (accepted (load_save f) d s)) refl;
      restored = restored;
      imported = λ f s. leaves (import_questions f s) [] s _ refl;
    }
