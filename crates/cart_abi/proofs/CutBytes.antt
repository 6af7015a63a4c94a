-- Demand 3 of the exported calls: what a host holds between them are the machine's states, as bytes. Assumes nothing.
use mathlib.Core.Path.{◌≡◌, refl, sym, ap, ap₂, subst, ◌∙◌}
use mathlib.Core.Bool.{Bool, true, false, cond, ◌&&◌}
use mathlib.Core.List.Memᴰ
use mathlib.Core.List.{List, [], ◌∷◌, map}
use mathlib.Core.Option.{Option, none, some}
use Prim.Native.Nat.{ℕ, ◌^◌, ◌≤◌, ◌<◌}
use native.Mathlib.Nat.{pow-succ'}
use native.Mathlib.Omega.{arith}
use lib.Dec.{eqb}
use lib.ListN.{length, drop, length-take, length-drop}
use lib.Pow.{are_bytes}
use borrow.Author.Tests.{eq-eqb, ne_eqb}
use Rattle.lists.specs.Lists.{low_value}
use Rattle.lists.specs.Questions.{asked}
use Rattle.lists.proofs.Bools.{split, and_left, and_right}
use Rattle.lists.proofs.Parts.{front_of}
use Rattle.lists.proofs.Digits.{bytes_drop, bytes_take, byte-lt}
use Rattle.kind.specs.Kind.{memory_size, uses_eeprom, detect_save_type}
use Rattle.part.specs.Part.{part_of}
use Rattle.file_sizes.specs.SaveFit.{kept_part}
use Rattle.cart.specs.declared.Cartridge.{Cartridge}
use Rattle.chip_record.specs.ChipState.{chip_of}
use Rattle.cart.specs.Record.{State, Outcome, record_allowed, fresh, from_bytes}
use Rattle.cart.specs.Calls as machine
use Rattle.cart.specs.Calls.{Call, step, restore, load, file_of, exported, import_questions}
use Rattle.cart.specs.Cut as uncut_machine
use Rattle.chip_record.specs.States.{Carried, carried}
use Rattle.cart.specs.Cut.{flag_left_out}
use Rattle.cart.specs.Resume.{Open, with_flag, flag_of}
use Rattle.cart.specs.Replies.{tallied, first}
use Rattle.cart.specs.Stretches.{takes_tallies, with_tallies, beside_tallies}
use Rattle.cart.proofs.Sound.{Sound, record-allowed, memory-fits, sound-fresh, opened}
use Rattle.cart.proofs.Tallies.{Fit, right-fit}
use Rattle.cart.proofs.Stretches.{stretches}
use Rattle.cart.proofs.Recoverable.{Recoverable, NoByteWrite, recoverable-step, recoverable-fresh}
use Rattle.cart.proofs.Resume.{Long, file-long, export-accepted, state-accepted, file-left, bytes_left_lem, load-allowed, load-next, acc_lt, resumed-is, open-fresh}
use Rattle.cart.proofs.CutRuns.{quiet, unflagged, either-quiet, recoverable-flag, state_seen, outcome_seen, step-seen, next-seen, quiet-seen, flag-seen, file-same, bytes_same}
use Rattle.out_params.specs.Places.{placed}
use Rattle.c_record.specs.RecordBytes.{record_bytes, chip_in, cart_of, is_record, state_of}
use Rattle.c_record.specs.AtExit.{AtExit, left, called, plain, value_at, changed_at, import_at, flag_at, state_at, export_at}
use Rattle.c_record.proofs.RecordBytes.{yes, record-and-bytes}
use Rattle.cart_abi.specs.Host.{ExportedCall, save_read, save_write, eeprom_begin_dma, eeprom_write, eeprom_read, load_save, save_data, chip_state, take_save_dirty, import_save}
use Rattle.cart_abi.specs.Host.{Bytes, Found, found, found_state, found_flag, Made, plainly, valued, stored, imported, filed, stated, flagged, make}
use Rattle.cart_abi.specs.CutBytes as bytes
use Rattle.cart_abi.specs.CutBytes.{Target, anew, in_place, Buffers, Turn, before, outcome_of, found_of, machine_run, calls_of, uncut, all_carry, all_carry_flag, found_seen, seen, NoByteWrites, ExportedCutRuns}

abbrev bytes_of : State → Bytes
bytes_of s = record { bytes = record_bytes s.cart; memory = s.memory; tallies = s.tallies }

-- a call on the bytes of an allowed record is the machine's
at-allowed : (call : State → Outcome) (d : List ℕ) (s : State) → record_allowed s.cart ≡ true → s.cart.chip.eeprom.acc < 2 ^ 64
    → called call d (record_bytes s.cart) s.memory s.tallies ≡ left (call s)
unfolding called
at-allowed call d s a h =
    let w = record-and-bytes.written s.cart a h in
    rw w.0 (ap (λ (c : Cartridge). left (call (tallied c s.memory s.tallies))) w.1)

at-record : (call : State → Outcome) (d : List ℕ) (s : State) → Sound s → called call d (record_bytes s.cart) s.memory s.tallies ≡ left (call s)
at-record call d s k = at-allowed call d s (record-allowed s k) (acc_lt s k)

-- and, passed no tallies, with the host's beside it
abbrev beside : List ℕ → AtExit → AtExit
beside ts x =
    record { answer = x.answer; bytes = x.bytes; memory = x.memory; tallies = ts; destination = x.destination; given = x.given; flag = x.flag; changed = x.changed }

at-apart : (call : State → Outcome) (d : List ℕ) (s : State) → record_allowed s.cart ≡ true → s.cart.chip.eeprom.acc < 2 ^ 64
    → call s ≡ beside_tallies s.tallies (call (with_tallies [] s))
    → beside s.tallies (called call d (record_bytes s.cart) s.memory []) ≡ left (call s)
at-apart call d s a h e = ap (beside s.tallies) (at-allowed call d (with_tallies [] s) a h) ∙ ap left (sym e)

untallied : (c : Call) (d : List ℕ) (s : State) → takes_tallies c ≡ false → Sound s
    → beside s.tallies (called (step c d) d (record_bytes s.cart) s.memory []) ≡ left (step c d s)
untallied c d s e k = at-apart (step c d) d s (record-allowed s k) (acc_lt s k) (stretches.apart s.tallies c d (with_tallies [] s) e)

-- what a host finds, and goes on with
abbrev both : Made → Found × Bytes
both m = (m.found, m.next)

make-is : (c : ExportedCall) (s : State) → Sound s → both (make c (bytes_of s)) ≡ (found_of c (outcome_of c s), bytes_of (outcome_of c s).next)
unfolding make
make-is (save_read a p) s k = ap (λ (x : AtExit). both (valued x.tallies (value_at p x))) (untallied (machine.save_read a) [] s refl k)
make-is (save_write a v p) s k = ap (λ (x : AtExit). both (stored (changed_at p x))) (at-record (step (machine.save_write a v) []) [] s k)
make-is (eeprom_begin_dma words) s k = ap (λ (x : AtExit). both (plainly x.tallies (plain x))) (untallied (machine.eeprom_begin_dma words) [] s refl k)
make-is (eeprom_write v p) s k = ap (λ (x : AtExit). both (stored (changed_at p x))) (at-record (step (machine.eeprom_write v) []) [] s k)
make-is (eeprom_read p) s k = ap (λ (x : AtExit). both (valued x.tallies (value_at p x))) (untallied machine.eeprom_read [] s refl k)
make-is (load_save f p) s k = ap (λ (x : AtExit). both (stored (changed_at p x))) (at-record (step (machine.load_save f) []) [] s k)
make-is (save_data d p) s k = ap (λ (x : AtExit). both (filed x.tallies (export_at p x))) (untallied machine.save_data d s refl k)
make-is (chip_state p) s k = ap (λ (x : AtExit). both (stated x.tallies (state_at p x))) (untallied machine.chip_state [] s refl k)
make-is (take_save_dirty p) s k = ap (λ (x : AtExit). both (flagged x.tallies (flag_at p x))) (untallied machine.take_save_dirty [] s refl k)
make-is (import_save f q p) s k = ap (λ (x : AtExit). both (imported (import_at q p x))) (at-record (machine.import_save f) [] s k)

-- what is compared without the flag is found of an outcome without it
first-quiet : (l : List ℕ) → first (flag_left_out l) ≡ first l
first-quiet [] = refl
first-quiet (n ∷ l) = refl

placed-quiet : (b : Bool) (g p : List ℕ) → flag_left_out (cond b g p) ≡ cond b (flag_left_out g) (flag_left_out p)
placed-quiet true g p = refl
placed-quiet false g p = refl

abbrev quietly : ExportedCall → Outcome → Found
quietly (save_read a p) o = found_of (save_read a p) o
quietly (save_write a v p) o = found_of (save_write a v p) o
quietly (eeprom_begin_dma words) o = found_of (eeprom_begin_dma words) o
quietly (eeprom_write v p) o = found_of (eeprom_write v p) o
quietly (eeprom_read p) o = found_of (eeprom_read p) o
quietly (load_save f p) o = found_of (load_save f p) o
quietly (save_data d p) o = found_of (save_data d p) o
quietly (chip_state p) o = found_of (chip_state (flag_left_out p)) o
quietly (take_save_dirty p) o = found_flag o.refusal 0
quietly (import_save f k p) o = found_of (import_save f k p) o

found-quiet : (c : ExportedCall) (o : Outcome) → found_seen false (found_of c o) ≡ quietly c (unflagged o)
found-quiet (save_read a p) o = ap (λ (v : ℕ). found o.refusal (placed o.refusal v p) 0 []) (sym (first-quiet o.given))
found-quiet (save_write a v p) o = refl
found-quiet (eeprom_begin_dma words) o = refl
found-quiet (eeprom_write v p) o = refl
found-quiet (eeprom_read p) o = ap (λ (v : ℕ). found o.refusal (placed o.refusal v p) 0 []) (sym (first-quiet o.given))
found-quiet (load_save f p) o = refl
found-quiet (save_data d p) o = ap (λ (v : ℕ). found o.refusal (placed o.refusal v p) 0 o.destination) (sym (first-quiet o.given))
found-quiet (chip_state p) o = ap (found_state o.refusal) (placed-quiet (eqb o.refusal 0) o.given p)
found-quiet (take_save_dirty p) o = refl
found-quiet (import_save f k p) o =
    ap (λ (v : ℕ). found o.refusal (placed o.refusal v k) (placed o.refusal o.changed p) []) (sym (first-quiet o.given))

found-seen : (flags : Bool) (c : ExportedCall) (o q : Outcome) → outcome_seen flags o ≡ outcome_seen flags q → found_seen flags (found_of c o) ≡ found_seen flags (found_of c q)
found-seen true c o q e = ap (λ (x : Outcome). found_seen true (found_of c x)) e
found-seen false c o q e = found-quiet c o ∙ ap (quietly c) e ∙ sym (found-quiet c q)

-- an import is a load, or it is refused
recoverable-import : (image : List ℕ) (part : ℕ) (f : List ℕ) (s : State) → Recoverable image part s → Recoverable image part (machine.import_save f s).next
unfolding machine.import_save
recoverable-import image part f s r =
    let kept : List ℕ = kept_part s.cart.kind f in
    let k = r.sound in
    split (λ (o : Outcome). Recoverable image part o.next) (eqb (asked (import_questions f s)) 0)
    (λ e. subst (Recoverable image part) (load-next kept s (record-allowed s k) (memory-fits s k) (right-fit s r.right)) (recoverable-step image part (machine.load_save kept) [] s (λ a v p. cc) r))
    (λ e. r)

import-quiet : (f : List ℕ) (s : State) → unflagged (machine.import_save f (quiet s)) ≡ unflagged (machine.import_save f s)
unfolding machine.import_save record_allowed load
import-quiet f s = either-quiet (eqb (asked (import_questions f s)) 0) _ _ _ _ refl refl

import-same : (f : List ℕ) (s t : State) → quiet s ≡ quiet t → unflagged (machine.import_save f s) ≡ unflagged (machine.import_save f t)
import-same f s t e = sym (import-quiet f s) ∙ ap (λ (z : State). unflagged (machine.import_save f z)) e ∙ import-quiet f t

-- the machine's call is one of the nine, or import
data Way (image : List ℕ) : (State → Outcome) → Type 0 where
  nine : (c : Call) (d : List ℕ) → NoByteWrite (detect_save_type image) c → Way image (step c d)
  import : (f : List ℕ) → Way image (machine.import_save f)

way : (image : List ℕ) (c : ExportedCall) → ((a v p : ℕ) → save_write a v p ≡ c → uses_eeprom (detect_save_type image) ≡ false) → Way image (outcome_of c)
way image (save_read a p) n = nine (machine.save_read a) [] (λ a v e. cc)
way image (save_write a v p) n = nine (machine.save_write a v) [] (λ b w e. n a v p refl)
way image (eeprom_begin_dma words) n = nine (machine.eeprom_begin_dma words) [] (λ a v e. cc)
way image (eeprom_write v p) n = nine (machine.eeprom_write v) [] (λ a v e. cc)
way image (eeprom_read p) n = nine machine.eeprom_read [] (λ a v e. cc)
way image (load_save f p) n = nine (machine.load_save f) [] (λ a v e. cc)
way image (save_data d p) n = nine machine.save_data d (λ a v e. cc)
way image (chip_state p) n = nine machine.chip_state [] (λ a v e. cc)
way image (take_save_dirty p) n = nine machine.take_save_dirty [] (λ a v e. cc)
way image (import_save f q p) n = import f

way_same : (flags : Bool) {image : List ℕ} {call : State → Outcome} → Way image call → (s t : State) → state_seen flags s ≡ state_seen flags t
    → outcome_seen flags (call s) ≡ outcome_seen flags (call t)
way_same flags (nine c d n) s t e = step-seen flags c d s t e
way_same true (import f) s t e = ap (machine.import_save f) e
way_same false (import f) s t e = import-same f s t e

way-stands : {image : List ℕ} (part : ℕ) {call : State → Outcome} → Way image call → (s : State) → Recoverable image part s → Recoverable image part (call s).next
way-stands {image} part (nine c d n) s r = recoverable-step image part c d s n r
way-stands {image} part (import f) s r = recoverable-import image part f s r

-- where a host goes on after a cut
low-lt : (l : List ℕ) → are_bytes l ≡ true → low_value l < 256 ^ length l
unfolding low_value
low-lt [] h = omega arith
low-lt (b ∷ l) h = omega (arith, pow-succ' 256 (length l), byte-lt (b ∷ l) 0 h, low-lt l (bytes_drop 1 (b ∷ l) h))

acc-bytes : (r : List ℕ) → are_bytes r ≡ true → is_record r ≡ true → (cart_of r).chip.eeprom.acc < 2 ^ 64
unfolding cart_of chip_of
acc-bytes r b h =
    let l : List ℕ = drop 10 (chip_in r) in
    let e = (yes r h).size_ok in
    let n : length l ≡ 8 = simp (length-drop, length-take) (omega arith) in
    subst (λ (k : ℕ). low_value l < 256 ^ k) n (low-lt l (bytes_drop 10 (chip_in r) (bytes_take 18 (drop 6 r) (bytes_drop 6 r b))))

record Begun (image : List ℕ) (part : ℕ) (b : Bytes) : Type 0 where
  at : State
  is : b ≡ bytes_of at
  is_open : Open image part at
  acc_ok : at.cart.chip.eeprom.acc < 2 ^ 64

begun-is : (image : List ℕ) (part : ℕ) (y : Target image part) → Begun image part (bytes.begun y)
begun-is image part (anew m ts h) =
    let k = sound-fresh image part m ts h in
    let s : State = fresh image (part_of part) in
    record { at = s; is = ap (λ (o : Outcome). bytes_of o.next) (opened image part m ts h); is_open = open-fresh image part k; acc_ok = acc_lt s k }
begun-is image part (in_place b o) =
    let y = record-and-bytes.read b.bytes o.bytes_ok o.valid in
    record {
      at = state_of b.bytes b.memory b.tallies;
      is = λ i. record { bytes = sym y.1 i; memory = b.memory; tallies = b.tallies };
      is_open = o.is_open;
      acc_ok = acc-bytes b.bytes o.bytes_ok o.valid;
    }

module _ (t : State) (a : record_allowed t.cart ≡ true) (b : eqb (length t.memory) (memory_size t.cart.kind) ≡ true) (k : Fit t) (c : t.cart.chip.eeprom.acc < 2 ^ 64) where
  reloaded-is : (p : ℕ) (o : Option (List ℕ)) → bytes.reloaded p o (bytes_of t) ≡ bytes_of (uncut_machine.reloaded o t)
  reloaded-is p none = refl
  reloaded-is p (some f) = ap (λ (x : AtExit). (stored (changed_at p x)).next) (at-allowed (step (machine.load_save f) []) [] t a c)

  reloaded-kept : (o : Option (List ℕ))
      → (record_allowed (uncut_machine.reloaded o t).cart ≡ true) × ((uncut_machine.reloaded o t).cart.chip.eeprom.acc < 2 ^ 64)
  unfolding load
  reloaded-kept none = (a, c)
  reloaded-kept (some f) =
      let n = load-next f t a b k in
      (ap (λ (z : State). record_allowed z.cart) n ∙ load-allowed f t a, subst (λ (z : State). z.cart.chip.eeprom.acc < 2 ^ 64) (sym n) c)

restored-is : (b : List ℕ) (t : State) → record_allowed t.cart ≡ true → t.cart.chip.eeprom.acc < 2 ^ 64 → bytes.restored b (bytes_of t) ≡ bytes_of (restore b t).next
restored-is b t a c =
    ap (λ (x : AtExit). (plainly x.tallies (plain x)).next) (at-apart (restore b) [] t a c (stretches.restored_apart t.tallies b (with_tallies [] t)))

file-in : (f : Option (List ℕ)) (d : List ℕ) (p : ℕ) (s : State) → Long f
    → let e = export_at p (left (exported f d s)) in bytes.file_in e.4 e.3 ≡ f
unfolding Long
file-in none d p s h = refl
file-in (some f) d p s h = rw (ne_eqb (length f) 0 h) (ap some (front_of f d))

module _ (image : List ℕ) (part : ℕ) (x : Buffers image part) (s : State) (r : Recoverable image part s) where
  holds-file : length s.memory ≤ length x.destination
  holds-file =
      let n : length s.memory ≡ memory_size (detect_save_type image) = r.sound.memory_ok ∙ ap memory_size r.kind_is in
      omega (arith, x.holds)

  file-is : bytes.file_left x (bytes_of s) ≡ uncut_machine.file_left s
  unfolding bytes.file_left
  file-is =
      let d = x.destination in
      let k = r.sound in
      ap (λ (y : AtExit). let e = export_at x.file_length y in bytes.file_in e.4 e.3)
      (untallied machine.save_data d s refl k ∙ ap left (export-accepted d s (record-allowed s k) (memory-fits s k) holds-file))
      ∙ file-in (file_of s.cart.kind s) d x.file_length s (file-long s.cart.kind s k.memory_ok)
      ∙ sym (file-left s (record-allowed s k) (memory-fits s k))

  state-is : bytes.state_left x (bytes_of s) ≡ uncut_machine.bytes_left s
  unfolding bytes.state_left
  state-is =
      let k = r.sound in
      ap (λ (y : AtExit). (state_at x.state y).3) (untallied machine.chip_state [] s refl k ∙ ap left (state-accepted s (record-allowed s k)))
      ∙ sym (bytes_left_lem s (record-allowed s k))

  -- the cartridge in which the host goes on, and the flag that it has then
  abbrev target : State
  target = (begun-is image part x.target).at

  abbrev flag : Bool
  flag = flag_of x.carries s target

  cut-is : bytes.cut image part x (bytes_of s) ≡ bytes_of (with_flag flag s)
  unfolding bytes.cut
  cut-is =
      let y = begun-is image part x.target in
      let t : State = target in
      let v : Carried = x.carries in
      let a = y.is_open.allowed in
      let m = eq-eqb _ _ y.is_open.memory_ok in
      let f : Option (List ℕ) = uncut_machine.file_left s in
      let b : List ℕ = carried v (uncut_machine.bytes_left s) in
      let u = right-fit t y.is_open.tallies_ok in
      let k = reloaded-kept t a m u y.acc_ok f in
      ap₂ (λ (l : List ℕ) (o : Option (List ℕ)). bytes.restored (carried v l) (bytes.reloaded x.changed o (bytes.begun x.target))) state-is file-is
      ∙ ap (λ (z : Bytes). bytes.restored b (bytes.reloaded x.changed f z)) y.is
      ∙ ap (bytes.restored b) (reloaded-is t a m u y.acc_ok x.changed f)
      ∙ restored-is b (uncut_machine.reloaded f t) k.0 k.1
      ∙ ap bytes_of (resumed-is image part v s t r y.is_open)

-- cuts, one after the other: the bytes of a state that is s, or differs from it in the flag alone
record After (image : List ℕ) (part : ℕ) (flags : Bool) (b : Bytes) (s : State) : Type 0 where
  at : State
  is : b ≡ bytes_of at
  alike : state_seen flags at ≡ state_seen flags s
  stands : Recoverable image part at

cuts_are : (image : List ℕ) (part : ℕ) (flags : Bool) (xs : List (Buffers image part)) (s : State) → (flags ≡ true → all_carry xs ≡ true) → Recoverable image part s
    → After image part flags (bytes.cuts image part xs (bytes_of s)) s
unfolding bytes.cuts
cuts_are image part flags [] s p r = record { at = s; is = refl; alike = refl; stands = r }
cuts_are image part flags (x ∷ xs) s p r =
    let f : Bool = flag image part x s r in
    let k = flag-seen flags x.carries (map (λ (y : Buffers image part). y.carries) xs) s (target image part x s r) p in
    let i = cuts_are image part flags xs (with_flag f s) k.1 (recoverable-flag image part f s r) in
    record { at = i.at; is = ap (bytes.cuts image part xs) (cut-is image part x s r) ∙ i.is; alike = i.alike ∙ k.0; stands = i.stands }

-- the host goes through the list with its cuts from s, the machine without from t
runs-are : (image : List ℕ) (part : ℕ) (flags : Bool) (list : List (Turn image part)) (end : Buffers image part) (s t : State) → (flags ≡ true → all_carry_flag list ≡ true)
    → NoByteWrites image (calls_of list)
    → state_seen flags s ≡ state_seen flags t → Recoverable image part s → Recoverable image part t
    → seen flags (bytes.run image part list end (bytes_of s)) ≡ seen flags (machine_run (calls_of list) t)
unfolding bytes.run machine_run
runs-are image part flags [] end s t p n q r u =
    let z = quiet-seen flags s t q in
    let f = file-is image part end s r ∙ file-same s t r.sound u.sound z in
    let b =
    ap (λ (l : List ℕ). cond flags l (flag_left_out l)) (state-is image part end s r)
    ∙ bytes_same flags s t r.sound u.sound q
    in
    λ i. record { calls = []; file = f i; state = b i; tallies = (z i).tallies }
runs-are image part flags (x ∷ list) end s t p n q r u =
    let c : ExportedCall = x.call in
    let o : State → Outcome = outcome_of c in
    let w = way image c (λ a v k e. n a v k (Memᴰ.head e)) in
    let e : outcome_seen flags (o s) ≡ outcome_seen flags (o t) = way_same flags w s t q in
    let f = found-seen flags c (o s) (o t) e in
    let here : Bool = all_carry x.cuts_behind in
    let more : Bool = all_carry_flag list in
    let a = cuts_are image part flags x.cuts_behind (o s).next (λ z. and_left here more (p z)) (way-stands part w s r) in
    let i : seen flags (bytes.run image part list end (bytes.cuts image part x.cuts_behind (bytes_of (o s).next))) ≡ seen flags (machine_run (calls_of list) (o t).next) =
    ap (λ (b : Bytes). seen flags (bytes.run image part list end b)) a.is
    ∙ runs-are image part flags list end a.at (o t).next (λ z. and_right here more (p z)) (λ b v k m. n b v k (Memᴰ.tail m)) (a.alike ∙ next-seen flags (o s) (o t) e) a.stands (way-stands part w t u)
    in
    ap (λ (m : Found × Bytes). seen flags (before m.0 (bytes.run image part list end (bytes.cuts image part x.cuts_behind m.1)))) (make-is c s r.sound)
    ∙ (λ j. record { calls = f j ∷ (i j).calls; file = (i j).file; state = (i j).state; tallies = (i j).tallies })

with-cuts : (image : List ℕ) (part : ℕ) (memory tallies : List ℕ) (flags : Bool) (xs : List (Buffers image part)) (list : List (Turn image part)) (end : Buffers image part)
    → (flags ≡ true → all_carry xs && all_carry_flag list ≡ true)
    → (from_bytes image part memory tallies).refusal ≡ 0 → NoByteWrites image (calls_of list)
    → seen flags (bytes.run image part list end (bytes.cuts image part xs (bytes.opened image part memory tallies)))
    ≡ seen flags (machine_run (calls_of list) (from_bytes image part memory tallies).next)
with-cuts image part memory tallies flags xs list end p h n =
    let s : State = (from_bytes image part memory tallies).next in
    let r : Recoverable image part s = rw (opened image part memory tallies h) (recoverable-fresh image part memory tallies h) in
    let a = cuts_are image part flags xs s (λ z. and_left (all_carry xs) (all_carry_flag list) (p z)) r in
    ap (λ (b : Bytes). seen flags (bytes.run image part list end b)) a.is
    ∙ runs-are image part flags list end a.at s (λ z. and_right (all_carry xs) (all_carry_flag list) (p z)) n a.alike a.stands r

calls-uncut : {image : List ℕ} {part : ℕ} (list : List (Turn image part)) → calls_of (uncut list) ≡ calls_of list
calls-uncut [] = refl
calls-uncut (x ∷ list) = ap (λ (l : List ExportedCall). x.call ∷ l) (calls-uncut list)

uncut-carries : {image : List ℕ} {part : ℕ} (list : List (Turn image part)) → all_carry_flag (uncut list) ≡ true
uncut-carries [] = refl
uncut-carries (x ∷ list) = uncut-carries list

without-cuts : (image : List ℕ) (part : ℕ) (memory tallies : List ℕ) (flags : Bool) (list : List (Turn image part)) (end : Buffers image part)
    → (from_bytes image part memory tallies).refusal ≡ 0 → NoByteWrites image (calls_of list)
    → seen flags (bytes.run image part (uncut list) end (bytes.opened image part memory tallies)) ≡ seen flags (machine_run (calls_of list) (from_bytes image part memory tallies).next)
unfolding bytes.cuts
without-cuts image part memory tallies flags list end h n =
    let e = calls-uncut list in
    with-cuts image part memory tallies flags [] (uncut list) end (λ z. uncut-carries list) h (subst (NoByteWrites image) (sym e) n)
    ∙ ap (λ (l : List ExportedCall). seen flags (machine_run l (from_bytes image part memory tallies).next)) e

pub exported-cut-runs : ExportedCutRuns
exported-cut-runs =
    record {
      as_machine = λ image part memory tallies xs list end h n.
          with-cuts image part memory tallies (all_carry xs && all_carry_flag list) xs list end (λ z. z) h n;
      as_uncut = λ image part memory tallies xs list end h n.
          with-cuts image part memory tallies (all_carry xs && all_carry_flag list) xs list end (λ z. z) h n
          ∙ sym (without-cuts image part memory tallies (all_carry xs && all_carry_flag list) list end h n);
    }
