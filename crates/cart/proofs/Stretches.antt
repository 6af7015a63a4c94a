-- What tallies answer is what the full reading answers, after every list of calls, imports and restores. Assumes nothing.
use mathlib.Core.Path.{◌≡◌, refl, sym, ap, ◌∙◌}
use mathlib.Core.Bool.{Bool, true, false, cond}
use mathlib.Core.List.{List, [], ◌∷◌}
use mathlib.Core.Option.{Option, none, some}
use Prim.Native.Nat.{ℕ, ◌*◌}
use lib.Dec.{eqb}
use lib.ListN.{length, replicate}
use Rattle.lists.specs.Lists.{bit}
use Rattle.lists.specs.Questions.{asked}
use Rattle.lists.proofs.Questions.{all_yes}
use Rattle.counts.specs.Tallies.{Words, retallied, blank, first_in_use, in_use_number}
use Rattle.counts.proofs.Retallied.{retallied-same, retallied-again}
use Rattle.counts.proofs.Answers.{first-is, blank-is}
use Rattle.image.specs.Image.{answered}
use Rattle.kind.specs.declared.SaveType.{SaveType}
use Rattle.kind.specs.declared.SaveType.TheVariants.{None, Sram, Flash64, Flash128, Eeprom512, Eeprom8k}
use Rattle.kind.specs.Kind.{tally_count}
use Rattle.kind.proofs.Sizes.{whole-stretches}
use Rattle.part.specs.Part.{part_of}
use Rattle.chip_record.specs.declared.ChipRecord.{ChipRecord}
use Rattle.cart.specs.Record.{State, Outcome, counted, record_allowed, fresh, from_bytes}
use Rattle.cart.specs.Calls.{Call, save_read, save_write, eeprom_begin_dma, eeprom_write, eeprom_read, load_save, save_data, chip_state, take_save_dirty}
use Rattle.cart.specs.Calls.{chip_with, state_with, read_save, write_save, load, file_of, exported, questions, accepted, step, restore_questions, restore, import_questions, import_save, tally_questions, is_blank, in_use}
use Rattle.cart.specs.Cut.{file_in, file_left, bytes_left}
use Rattle.cart.specs.Gbatek.{Usable}
use Rattle.cart.specs.Stretches.{TalliesRight, Act, calls, imports, restores, flags, act, acts, blank_by_reading, in_use_by_reading, takes_tallies, with_tallies, beside_tallies, Stretches}
use Rattle.cart.proofs.Sound.{record-allowed, opened, sound-fresh}
use Rattle.cart.proofs.Changes.{step_keeps, restore-keeps, import-keeps}
use Rattle.cart.proofs.Tallies.{right-step, right-restore, right-import, right-fresh, right-fit}
use Rattle.cart.proofs.Usable.{tallies-yes}
use Rattle.cart.proofs.Recoverable.{clash}
use Rattle.cart.proofs.Reached.{usable-states}

-- the invariant, through a list
act-right : (a : Act) (s : State) → TalliesRight s → TalliesRight (act a s).next
act-right (calls c d) s r = right-step c d s r
act-right (imports f) s r = right-import f s r
act-right (restores b e) s r = right-restore b s r
act-right (flags dirty) s r = r

usable-flag : (dirty : Bool) (s : State) → Usable s → Usable (chip_with s dirty s.cart.chip)
unfolding record_allowed
usable-flag dirty s u = record { valid = u.valid; memory_ok = u.memory_ok; tallies_ok = u.tallies_ok; words = u.words }

act-usable : (a : Act) (s : State) → Usable s → Usable (act a s).next
act-usable (calls c d) s u = usable-states.stays c d s u
act-usable (imports f) s u = usable-states.imported f s u
act-usable (restores b e) s u = usable-states.restored b s e u
act-usable (flags dirty) s u = usable-flag dirty s u

acts-keep : (list : List Act) (s : State) → Usable s → TalliesRight s → Usable (acts list s) × TalliesRight (acts list s)
unfolding acts
acts-keep [] s u r = (u, r)
acts-keep (a ∷ list) s u r = acts-keep list (act a s).next (act-usable a s u) (act-right a s r)

-- right tallies of a usable state answer as the memory does
module _ (s : State) (u : Usable s) (r : TalliesRight s) where
  abbrev n : ℕ
  n = tally_count s.cart.kind

  whole : length s.memory ≡ 4096 * n
  whole = u.memory_ok ∙ whole-stretches s.cart.kind

  yes : asked (tally_questions s.cart s.tallies) ≡ 0
  yes = all_yes (tally_questions s.cart s.tallies) (u.valid, (tallies-yes s u, tt))

  blank-read : is_blank s.cart s.tallies ≡ blank_by_reading s.memory
  unfolding is_blank
  blank-read = rw yes (ap (λ (b : Bool). answered [] (bit b)) (ap blank r ∙ blank-is n s.memory whole))

  in-use-read : in_use s.cart s.tallies ≡ in_use_by_reading s.memory
  unfolding in_use
  in-use-read = rw yes (ap (λ (o : Option ℕ). answered [] (in_use_number o)) (ap first_in_use r ∙ first-is n s.memory whole))

reads : (image : List ℕ) (part : ℕ) (memory tallies : List ℕ) (list : List Act) → (from_bytes image part memory tallies).refusal ≡ 0
    → let s = acts list (from_bytes image part memory tallies).next in
    (is_blank s.cart s.tallies ≡ blank_by_reading s.memory) × (in_use s.cart s.tallies ≡ in_use_by_reading s.memory) × TalliesRight s
reads image part memory tallies list h =
    let o = opened image part memory tallies h in
    let k = sound-fresh image part memory tallies h in
    let f = right-fresh image (part_of part) in
    let t = right-fit (fresh image (part_of part)) f in
    let u : Usable (fresh image (part_of part)) = record { valid = record-allowed (fresh image (part_of part)) k; memory_ok = k.memory_ok; tallies_ok = t.count; words = t.words } in
    let s : State = acts list (from_bytes image part memory tallies).next in
    let i : Usable s × TalliesRight s = rw o (acts-keep list (fresh image (part_of part)) u f) in
    (blank-read s i.0 i.1, in-use-read s i.0 i.1, i.1)

-- any tallies change as the memory does
module _ (s : State) where
  abbrev Follows : State → Type 0
  Follows t = t.tallies ≡ retallied s.memory t.memory s.tallies

  chips : (t : State) (dirty : Bool) (c : ChipRecord) → Follows t → Follows (chip_with t dirty c)
  chips t dirty c q = q

  memories : (t : State) (dirty : Bool) (c : ChipRecord) (m : List ℕ) → Follows t → Follows (state_with t dirty c m)
  memories t dirty c m q = ap (retallied t.memory m) q ∙ retallied-again s.memory t.memory m s.tallies

  changed : (a : Act) → Follows s → Follows (act a s).next
  changed (calls c d) p = step_keeps Follows chips memories c d s p
  changed (imports f) p = import-keeps Follows chips memories f s p
  changed (restores b e) p = restore-keeps Follows chips memories b s p
  changed (flags dirty) p = p

  changes : (a : Act) → Words s.tallies → Follows (act a s).next
  changes a w = changed a (sym (retallied-same s.memory s.tallies w))

-- calls that are not passed the tallies
module _ (ts : List ℕ) (s : State) where
  file-apart : (kind : SaveType) → file_of kind (with_tallies ts s) ≡ file_of kind s
  unfolding file_of
  file-apart None = refl
  file-apart Sram = refl
  file-apart Flash64 = refl
  file-apart Flash128 = refl
  file-apart Eeprom512 = refl
  file-apart Eeprom8k = refl

  export-apart : (f : Option (List ℕ)) (d : List ℕ) → exported f d (with_tallies ts s) ≡ beside_tallies ts (exported f d s)
  export-apart none d = refl
  export-apart (some f) d = refl

  questions-apart : (c : Call) (d : List ℕ) → takes_tallies c ≡ false → questions c d (with_tallies ts s) ≡ questions c d s
  unfolding questions
  questions-apart (save_read a) d e = refl
  questions-apart (save_write a v) d e = clash e refl
  questions-apart (eeprom_begin_dma words) d e = refl
  questions-apart (eeprom_write v) d e = clash e refl
  questions-apart eeprom_read d e = refl
  questions-apart (load_save f) d e = clash e refl
  questions-apart save_data d e = rw (file-apart s.cart.kind)
  questions-apart chip_state d e = refl
  questions-apart take_save_dirty d e = refl

  accepted-apart : (c : Call) (d : List ℕ) → takes_tallies c ≡ false → accepted c d (with_tallies ts s) ≡ beside_tallies ts (accepted c d s)
  unfolding accepted read_save
  accepted-apart (save_read a) d e = refl
  accepted-apart (save_write a v) d e = clash e refl
  accepted-apart (eeprom_begin_dma words) d e = refl
  accepted-apart (eeprom_write v) d e = clash e refl
  accepted-apart eeprom_read d e = refl
  accepted-apart (load_save f) d e = clash e refl
  accepted-apart save_data d e =
      ap (λ (f : Option (List ℕ)). exported f d (with_tallies ts s)) (file-apart s.cart.kind) ∙ export-apart (file_of s.cart.kind s) d
  accepted-apart chip_state d e = refl
  accepted-apart take_save_dirty d e = refl

  either-apart : (b : Bool) (x y : Outcome) → cond b (beside_tallies ts x) (beside_tallies ts y) ≡ beside_tallies ts (cond b x y)
  either-apart true x y = refl
  either-apart false x y = refl

  apart : (c : Call) (d : List ℕ) → takes_tallies c ≡ false → step c d (with_tallies ts s) ≡ beside_tallies ts (step c d s)
  unfolding step
  apart c d e =
      rw (questions-apart c d e, accepted-apart c d e) (either-apart (eqb (asked (questions c d s)) 0) (counted s (accepted c d s)) _)

  -- what a cut leaves
  pub file-left-apart : file_left (with_tallies ts s) ≡ file_left s
  unfolding file_left
  file-left-apart = ap (λ (o : Outcome). file_in o.given o.destination) (apart save_data (replicate (length s.memory) 0) refl)

  pub bytes-left-apart : bytes_left (with_tallies ts s) ≡ bytes_left s
  unfolding bytes_left
  bytes-left-apart = ap (λ (o : Outcome). o.given) (apart chip_state [] refl)

  pub restored-apart : (b : List ℕ) → restore b (with_tallies ts s) ≡ beside_tallies ts (restore b s)
  unfolding restore
  restored-apart b = either-apart (eqb (asked (restore_questions b s)) 0) _ _

  -- as many others, passed
  module _ (e : length ts ≡ length s.tallies) where
    questions-many : (c : Call) (d : List ℕ) → questions c d (with_tallies ts s) ≡ questions c d s
    unfolding questions
    questions-many (save_read a) d = refl
    questions-many (save_write a v) d = rw e
    questions-many (eeprom_begin_dma words) d = refl
    questions-many (eeprom_write v) d = rw e
    questions-many eeprom_read d = refl
    questions-many (load_save f) d = rw e
    questions-many save_data d = rw (file-apart s.cart.kind)
    questions-many chip_state d = refl
    questions-many take_save_dirty d = refl

    accepted-many : (c : Call) (d : List ℕ) → beside_tallies [] (accepted c d (with_tallies ts s)) ≡ beside_tallies [] (accepted c d s)
    unfolding accepted read_save write_save load
    accepted-many (save_read a) d = refl
    accepted-many (save_write a v) d = refl
    accepted-many (eeprom_begin_dma words) d = refl
    accepted-many (eeprom_write v) d = refl
    accepted-many eeprom_read d = refl
    accepted-many (load_save f) d = refl
    accepted-many save_data d = ap (beside_tallies []) (unfold accepted read_save write_save load in accepted-apart save_data d refl)
    accepted-many chip_state d = refl
    accepted-many take_save_dirty d = refl

    either-many : (b : Bool) (x x' y y' : Outcome) → beside_tallies [] x ≡ beside_tallies [] x' → beside_tallies [] y ≡ beside_tallies [] y'
        → beside_tallies [] (cond b x y) ≡ beside_tallies [] (cond b x' y')
    either-many true x x' y y' p q = p
    either-many false x x' y y' p q = q

    called-harmless : (c : Call) (d : List ℕ) → beside_tallies [] (step c d (with_tallies ts s)) ≡ beside_tallies [] (step c d s)
    unfolding step
    called-harmless c d =
        rw (questions-many c d)
        (either-many (eqb (asked (questions c d s)) 0) (counted s (accepted c d (with_tallies ts s))) (counted s (accepted c d s)) _ _
        (ap (counted s) (accepted-many c d)) refl)

    imported-harmless : (f : List ℕ) → beside_tallies [] (import_save f (with_tallies ts s)) ≡ beside_tallies [] (import_save f s)
    unfolding import_save load
    imported-harmless f = rw e (either-many (eqb (asked (import_questions f s)) 0) _ _ _ _ refl refl)

    harmless : (a : Act) → beside_tallies [] (act a (with_tallies ts s)) ≡ beside_tallies [] (act a s)
    harmless (calls c d) = called-harmless c d
    harmless (imports f) = imported-harmless f
    harmless (restores b q) = ap (beside_tallies []) (restored-apart b)
    harmless (flags dirty) = refl

pub stretches : Stretches
stretches =
    record {
      reads = reads;
      changes = λ a s. changes s a;
      harmless = λ ts a s e. harmless ts s e a;
      apart = λ ts c d s. apart ts s c d;
      restored_apart = λ ts b s. restored-apart ts s b;
    }
