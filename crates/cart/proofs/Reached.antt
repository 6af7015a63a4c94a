-- Where GBATEK's claims hold: usable states, and those that calls reach from a fresh cartridge. Assumes nothing.
use mathlib.Core.Path.{◌≡◌, subst}
use mathlib.Core.Bool.{true}
use mathlib.Core.List.{List, [], ◌∷◌}
use Prim.Native.Nat.{ℕ, ◌^◌, ◌<◌}
use native.Mathlib.Omega.{arith}
use lib.Dec.{eqb}
use lib.Pow.{are_bytes}
use borrow.Author.Tests.{eqb-true}
use Rattle.lists.specs.Questions.{asked}
use Rattle.lists.proofs.Bools.{split, either}
use Rattle.part.specs.Part.{part_of}
use Rattle.file_sizes.specs.SaveFit.{kept_part}
use Rattle.cart.specs.Record.{State, Outcome, fresh, from_bytes}
use Rattle.cart.specs.Calls.{Call, restore_questions, import_questions, step, restore, import_save}
use Rattle.cart.specs.Gbatek.{calls, Usable, Reached, UsableStates}
use Rattle.cart.proofs.Sound.{Sound, record-allowed, opened, sound-fresh, sound-step}
use Rattle.cart.proofs.Tallies.{Fit, fit-step, right-fresh, right-fit}
use Rattle.cart.proofs.Usable.{usable-step, usable-load}
use Rattle.cart.proofs.Parts.{listed-64, listed-128}
use Rattle.cart.proofs.Restore.{state-yes, restored-allowed}

sound-calls : (cs : List Call) (s : State) → Sound s → Sound (calls cs s).last
unfolding calls
sound-calls [] s k = k
sound-calls (c ∷ cs) s k = sound-calls cs (step c [] s).next (sound-step c [] s k)

reached-sound : (s : State) → Reached s → Sound s
reached-sound s r =
    let e = opened r.image r.part r.memory r.tallies r.opens in
    let f : Sound (from_bytes r.image r.part r.memory r.tallies).next = rw e (sound-fresh r.image r.part r.memory r.tallies r.opens) in
    subst Sound r.leads (sound-calls r.list (from_bytes r.image r.part r.memory r.tallies).next f)

fit-calls : (cs : List Call) (s : State) → Fit s → Fit (calls cs s).last
unfolding calls
fit-calls [] s f = f
fit-calls (c ∷ cs) s f = fit-calls cs (step c [] s).next (fit-step c [] s f)

reached-fit : (s : State) → Reached s → Fit s
reached-fit s r =
    let e = opened r.image r.part r.memory r.tallies r.opens in
    let t : State = fresh r.image (part_of r.part) in
    let f : Fit (from_bytes r.image r.part r.memory r.tallies).next = rw e (right-fit t (right-fresh r.image (part_of r.part))) in
    subst Fit r.leads (fit-calls r.list (from_bytes r.image r.part r.memory r.tallies).next f)

-- acc holds only the bits shifted in since the count was 0
acc-0 : (s : State) → Sound s → s.cart.chip.eeprom.count ≡ 0 → s.cart.chip.eeprom.acc ≡ 0
acc-0 s k c =
    let h : s.cart.chip.eeprom.acc < 2 ^ 0 = rw c at k.eeprom_ok.serial_ok.acc_ok in
    omega arith

restored : (b : List ℕ) (s : State) → are_bytes b ≡ true → Usable s → Usable (restore b s).next
unfolding restore
restored b s a u =
    let n : ℕ = asked (restore_questions b s) in
    split (λ (o : Outcome). Usable o.next) (eqb n 0)
    (λ e.
    record {
      valid = restored-allowed b s a u.valid (state-yes b s (eqb-true n 0 e));
      memory_ok = u.memory_ok;
      tallies_ok = u.tallies_ok;
      words = u.words;
    })
    (λ e. u)

imported : (f : List ℕ) (s : State) → Usable s → Usable (import_save f s).next
unfolding import_save
imported f s u =
    either (λ (o : Outcome). Usable o.next) (eqb (asked (import_questions f s)) 0) (usable-load (kept_part s.cart.kind f) s u) u

pub usable-states : UsableStates
usable-states =
    record {
      stays = usable-step;
      restored = restored;
      imported = imported;
      listed64 = listed-64;
      listed128 = listed-128;
      reached = λ s r.
          let k = reached-sound s r in
          let f = reached-fit s r in
          record { valid = record-allowed s k; memory_ok = k.memory_ok; tallies_ok = f.count; words = f.words };
      acc0 = λ s r. acc-0 s (reached-sound s r);
    }
