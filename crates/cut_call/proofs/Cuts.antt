-- What the calls of a cut leave. Assumes nothing.
use mathlib.Core.Path.{◌≡◌, refl, sym, ap, ◌∙◌}
use mathlib.Core.Bool.{true}
use mathlib.Core.List.{List, [], ◌++◌}
use mathlib.Core.Option.{Option, none, some}
use Prim.Native.Nat.{ℕ, ◌≤◌}
use native.Mathlib.Omega.{arith}
use lib.Dec.{eqb}
use lib.ListN.{length, take, replicate}
use Rattle.std.proofs.Common.{Result, Ok, Err}
use Rattle.std.specs.Result.{result_unwrap_or}
use Rattle.refusal.specs.declared.Refusal.{Refusal}
use lib.Seq.{length-take-le, take-append-le}
use borrow.Author.Tests.{eq-eqb, ne_eqb, leb-true}
use Rattle.lists.proofs.Parts.{front_of, length-into}
use Rattle.kind.specs.Kind.{memory_size}
use Rattle.cart.specs.declared.Cartridge.{Cartridge}
use Rattle.cart.specs.Replies.{Reply}
use Rattle.chip_record.specs.ChipState.{chip_bytes}
use Rattle.chip_record.specs.States.{state_size, state_bytes}
use Rattle.cart.specs.Record.{State, Outcome, record_allowed}
use Rattle.cart.specs.Calls.{save_data, chip_state, file_of, holds, exported, step, restore}
use Rattle.cart.specs.Cut.{file_left, bytes_left, reloaded}
use Rattle.cart.specs.Replies.{state, tallied, first, replied, export_replied}
use Rattle.cart.proofs.Resume.{file-fits, export-accepted, state-accepted, file-left, bytes_left_lem, Long, file-long}
use Rattle.cart.proofs.Stretches.{restored-apart}
use Rattle.state_calls.specs.StateAnswer.{state_answer_from, or_zeros}
use Rattle.cut_call.specs.Loads.{loaded_from}

-- what the code loads from: the front of the destination, as long as the export answers
abbrev kept : Outcome → List ℕ
kept o = take (first o.given) o.destination

reload-is : (f : Option (List ℕ)) (d : List ℕ) (s t : State) → Long f → loaded_from (kept (exported f d s)) t ≡ reloaded f t
unfolding Long
reload-is none d s t h = refl
reload-is (some f) d s t h = rw (front_of f d, ne_eqb (length f) 0 h)

-- the export's length is the destination's at most
given-fits : (f : Option (List ℕ)) (d : List ℕ) (s : State) → holds f d ≡ true → first (exported f d s).given ≤ length d
given-fits none d s h = omega arith
given-fits (some f) d s h = leb-true (length f) (length d) h

length_exported : (f : Option (List ℕ)) (d : List ℕ) (s : State) → holds f d ≡ true → length (exported f d s).destination ≡ length d
length_exported none d s h = refl
length_exported (some f) d s h = length-into f d (leb-true (length f) (length d) h)

-- r and d' is what an export into the front of the scratch answered and left
module _ (scratch d' : List ℕ) (cart : Cartridge) (m : List ℕ) (r : Reply) (a : record_allowed cart ≡ true) (b : length m ≡ memory_size cart.kind) (n : length m ≤ length scratch)
    (e : ◌≡◌ {A = Reply × List ℕ} (r, d') (export_replied (step save_data (take (length m) scratch) (state cart m)))) where
  abbrev d : List ℕ
  d = take (length m) scratch

  abbrev s : State
  s = state cart m

  y : eqb (length m) (memory_size cart.kind) ≡ true
  y = eq-eqb _ _ b

  k : length m ≤ length d
  k = omega (arith, length-take-le (length m) scratch n)

  o : step save_data d s ≡ exported (file_of cart.kind s) d s
  o = export-accepted d s a y k

  pub value-fits : r.value ≤ length d'
  value-fits =
      let h = file-fits cart.kind s d k in
      let l : length d' ≡ length d = (λ i. length (e i).1) ∙ ap (λ (x : Outcome). length x.destination) o ∙ length_exported (file_of cart.kind s) d s h in
      let v : r.value ≡ first (exported (file_of cart.kind s) d s).given = (λ i. (e i).0.value) ∙ ap (λ (x : Outcome). first x.given) o in
      omega (arith, v, l, given-fits (file_of cart.kind s) d s h)

  -- what lies at the front of the scratch then is the file
  pub reloads : (rest : List ℕ) (t : State) → loaded_from (take r.value (d' ++ rest)) t ≡ reloaded (file_left s) t
  reloads rest t =
      ap (λ (f : List ℕ). loaded_from f t) (take-append-le r.value d' rest value-fits)
      ∙ (λ i. loaded_from (take (e i).0.value (e i).1) t)
      ∙ ap (λ (x : Outcome). loaded_from (kept x) t) o
      ∙ reload-is (file_of cart.kind s) d s t (file-long cart.kind s b)
      ∙ ap (λ (f : Option (List ℕ)). reloaded f t) (sym (file-left s a y))

pub bytes-or : (t : Result (List ℕ) Refusal) → (state_answer_from t).bytes ≡ result_unwrap_or t (replicate state_size 0)
bytes-or (Ok b) = refl
bytes-or (Err r) = refl

pub bytes-are : (s : State) → record_allowed s.cart ≡ true → or_zeros (step chip_state [] s).given ≡ bytes_left s
unfolding state_bytes chip_bytes
bytes-are s a = ap (λ (o : Outcome). or_zeros o.given) (state-accepted s a) ∙ sym (bytes_left_lem s a)

-- a restore leaves the tallies that it is not passed
pub restored-with : (b : List ℕ) (c : Cartridge) (m ts : List ℕ) {r : Reply} → (r, m) ≡ replied (restore b (state c m))
    → tallied r.cart m ts ≡ (restore b (tallied c m ts)).next
restored-with b c m ts e =
    (λ i. tallied (e i).0.cart (e i).1 ts) ∙ ap (λ (o : Outcome). o.next) (sym (restored-apart ts (state c m) b))
