-- What a cut leaves, and what a cartridge of the same image makes of it. Assumes nothing.
use mathlib.Core.Path.{◌≡◌, refl, sym, ap, ap₂, ◌∙◌}
use mathlib.Core.Logic.{◌≢◌}
use mathlib.Core.Bool.{Bool, true, false, ◌&&◌, ◌||◌}
use mathlib.Core.List.{List, [], ◌∷◌, Memᴰ}
use mathlib.Core.Option.{Option, none, some}
use Prim.Native.Nat.{ℕ, ◌^◌, ◌≤◌, ◌<◌}
use native.Mathlib.Omega.{arith}
use lib.Dec.{ltb, leb, eqb}
use lib.ListN.{length, take, replicate, length-take, length-replicate}
use lib.Pow.{pow_mono}
use lib.Seq.{take_all}
use borrow.Author.Tests.{le-leb, lt-ltb, ltb-true, eq-eqb}
use Rattle.lists.specs.Questions.{asked}
use Rattle.lists.proofs.Bools.{split, cases, and_left, and_right}
use Rattle.lists.proofs.Parts.{front_of}
use Rattle.memory.specs.Memory.{filled, stored}
use Rattle.memory.proofs.Memory.{filled-whole, filled-front}
use Rattle.image.specs.Image.{image_length}
use Rattle.kind.specs.declared.SaveType.{SaveType}
use Rattle.kind.specs.declared.SaveType.TheVariants.{None, Sram, Flash64, Flash128, Eeprom512, Eeprom8k}
use Rattle.counts.specs.Tallies.{tallies_of}
use Rattle.kind.specs.Kind.{memory_size, tally_count, uses_eeprom, detect_save_type}
use Rattle.part.specs.Part.{part_of, part_fits}
use Rattle.flash.specs.Flash.{state_allowed}
use Rattle.eeprom.specs.declared.EepromPhase.{EepromPhase}
use Rattle.eeprom.specs.declared.EepromPhase.TheVariants.{Opcode, ReadAddress, WriteAddress, WriteData, ReadStop, WriteStop, Reading}
use Rattle.eeprom.specs.Eeprom.{width_allowed, w, w_of, count_limit, told}
use Rattle.eeprom.proofs.Sound as eeprom
use Rattle.chip_record.specs.declared.ChipRecord.{ChipRecord}
use Rattle.chip_record.specs.States.{state_bytes, flag_from, state_questions, Carried, eighteen, twenty, carried}
use Rattle.cart.specs.Record.{State, Outcome, outcome, record_allowed, fresh, fresh_cart, from_bytes}
use Rattle.chip_record.specs.ChipState.{chip_allowed}
use Rattle.cart.specs.Calls.{Call, save_write, load_save, save_data, chip_state, state_with, load, eeprom_file, file_of, exported, holds, questions, accepted, step, restore}
use Rattle.cart.specs.Counts.{store_of}
use Rattle.cart.specs.Cut.{file_in, file_left, bytes_left, reloaded, resumed, cut}
use Rattle.cart.specs.Gbatek.{calls}
use Rattle.cart.specs.Resume.{Open, with_flag, flag_of, Resumes}
use Rattle.chip_record.proofs.ChipState.{chip-allowed}
use Rattle.chip_record.proofs.Layouts.{own-questions, own-restored, own-flag, old-flag}
use Rattle.chip_record.proofs.Fields.{chip-fields}
use Rattle.cart.proofs.Sound.{Sound, record-allowed, memory-fits, step-accepted, sound-fresh, opened, eeprom-size}
use Rattle.cart.proofs.Tallies.{Fit, tallies-fit, tallies-stay, right-memory, right-fresh, right-fit}
use Rattle.cart.proofs.Restore.{restoring, restore-accepted}
use Rattle.cart.proofs.Recoverable.{Recoverable, recoverable-step, recoverable-fresh}
use Rattle.cart.proofs.Counts.{accepted-kept}

-- what a cut leaves: the file and the state
eeprom-file-le : (s : State) → length (eeprom_file s) ≤ length s.memory
eeprom-file-le s = simp length-take (omega arith)

pub file-fits : (kind : SaveType) (s : State) (d : List ℕ) → length s.memory ≤ length d → holds (file_of kind s) d ≡ true
unfolding file_of
file-fits None s d e = refl
file-fits Sram s d e = le-leb (length s.memory) (length d) (omega arith)
file-fits Flash64 s d e = le-leb (length s.memory) (length d) (omega arith)
file-fits Flash128 s d e = le-leb (length s.memory) (length d) (omega arith)
file-fits Eeprom512 s d e = le-leb (length (eeprom_file s)) (length d) (omega (arith, eeprom-file-le s))
file-fits Eeprom8k s d e = le-leb (length (eeprom_file s)) (length d) (omega (arith, eeprom-file-le s))

file-in : (f : Option (List ℕ)) (d : List ℕ) (s : State) → file_in (exported f d s).given (exported f d s).destination ≡ f
file-in none d s = refl
file-in (some f) d s = ap some (front_of f d)

-- an export into a destination as long as the memory at least, of a state that questions 2 and 3 let by
pub export-accepted : (d : List ℕ) (s : State) → record_allowed s.cart ≡ true → eqb (length s.memory) (memory_size s.cart.kind) ≡ true → length s.memory ≤ length d
    → step save_data d s ≡ exported (file_of s.cart.kind s) d s
unfolding questions accepted store_of
export-accepted d s a b e = step-accepted save_data d s (a, (b, (file-fits s.cart.kind s d e, tt))) ∙ accepted-kept save_data d s refl

pub state-accepted : (s : State) → record_allowed s.cart ≡ true → step chip_state [] s ≡ outcome (state_bytes s.cart.chip s.cart.dirty) s []
unfolding questions accepted store_of
state-accepted s a = step-accepted chip_state [] s (a, tt) ∙ accepted-kept chip_state [] s refl

pub file-left : (s : State) → record_allowed s.cart ≡ true → eqb (length s.memory) (memory_size s.cart.kind) ≡ true → file_left s ≡ file_of s.cart.kind s
unfolding file_left
file-left s a b =
    let d : List ℕ = replicate (length s.memory) 0 in
    ap (λ (o : Outcome). file_in o.given o.destination) (export-accepted d s a b (simp length-replicate (omega arith)))
    ∙ file-in (file_of s.cart.kind s) d s

pub bytes_left_lem : (s : State) → record_allowed s.cart ≡ true → bytes_left s ≡ state_bytes s.cart.chip s.cart.dirty
unfolding bytes_left
bytes_left_lem s a = ap (λ (o : Outcome). o.given) (state-accepted s a)

-- the file gives the memory back, whatever the memory m was
abbrev memory_from : List ℕ → Option (List ℕ) → List ℕ
memory_from m none = m
memory_from m (some f) = filled (length m) f

eeprom-back : (image : List ℕ) (part : ℕ) (s : State) → uses_eeprom s.cart.kind ≡ true → Recoverable image part s → filled (memory_size s.cart.kind) (eeprom_file s) ≡ s.memory
eeprom-back image part s u r =
    let n : ℕ = memory_size s.cart.kind in
    let m = r.sound.memory_ok in
    let e = eeprom-size s.cart.kind u in
    split (λ (k : ℕ). filled n (take k s.memory) ≡ s.memory) s.cart.chip.eeprom.large
    (λ l. ap (filled n) (take_all 8192 s.memory (omega arith)) ∙ filled-whole n s.memory m)
    (λ l. filled-front n 512 s.memory m (omega arith) (r.tail u l))

both-empty : (l m : List ℕ) → length l ≡ 0 → length m ≡ 0 → l ≡ m
both-empty [] [] e f = refl
both-empty [] (x ∷ m) e f = absurd (omega arith)
both-empty (x ∷ l) m e f = absurd (omega arith)

module _ (image : List ℕ) (part : ℕ) (s : State) (r : Recoverable image part s) (m : List ℕ) where
  -- of the length n
  whole_back : (n : ℕ) → memory_size s.cart.kind ≡ n → length m ≡ n → filled (length m) s.memory ≡ s.memory
  whole_back n e l = filled-whole (length m) s.memory (r.sound.memory_ok ∙ e ∙ sym l)

  serial-back : uses_eeprom s.cart.kind ≡ true → length m ≡ memory_size s.cart.kind → filled (length m) (eeprom_file s) ≡ s.memory
  serial-back u l = ap (λ (n : ℕ). filled n (eeprom_file s)) l ∙ eeprom-back image part s u r

  memory-back : (kind : SaveType) → s.cart.kind ≡ kind → length m ≡ memory_size kind → memory_from m (file_of kind s) ≡ s.memory
  unfolding file_of
  memory-back None e l = both-empty m s.memory l (r.sound.memory_ok ∙ ap memory_size e)
  memory-back Sram e l = whole_back 32768 (ap memory_size e) l
  memory-back Flash64 e l = whole_back 65536 (ap memory_size e) l
  memory-back Flash128 e l = whole_back 131072 (ap memory_size e) l
  memory-back Eeprom512 e l = serial-back (ap uses_eeprom e) (l ∙ ap memory_size (sym e))
  memory-back Eeprom8k e l = serial-back (ap uses_eeprom e) (l ∙ ap memory_size (sym e))

-- a file has bytes
unfoldable pub Long : Option (List ℕ) → Type 0
Long none = Unit
Long (some f) = length f ≢ 0

eeprom-long : (s : State) → length s.memory ≡ 8192 → length (eeprom_file s) ≢ 0
eeprom-long s e =
    split (λ (k : ℕ). length (take k s.memory) ≢ 0) s.cart.chip.eeprom.large
    (λ l z. omega (arith, length-take 8192 s.memory))
    (λ l z. omega (arith, length-take 512 s.memory))

pub file-long : (kind : SaveType) (s : State) → length s.memory ≡ memory_size kind → Long (file_of kind s)
unfolding file_of Long
file-long None s e = tt
file-long Sram s e = λ z. omega arith
file-long Flash64 s e = λ z. omega arith
file-long Flash128 s e = λ z. omega arith
file-long Eeprom512 s e = eeprom-long s e
file-long Eeprom8k s e = eeprom-long s e

-- a load leaves a record that is allowed: a chip that it makes large has longer addresses
wider : (large b : Bool) (width n : ℕ) → n < w width large → n < w width (large || b)
unfolding w
wider true b width n h = h
wider false false width n h = h
wider false true width n h = cases (eqb width 0) (λ z. rw z (omega (arith, rw z at h))) (λ z. rw z (rw z at h))

count_kept : (p : EepromPhase) (large b : Bool) (width n : ℕ) → n < count_limit p (w width large) → n < count_limit p (w width (large || b))
count_kept Opcode l b width n h = h
count_kept ReadAddress l b width n h = wider l b width n h
count_kept WriteAddress l b width n h = wider l b width n h
count_kept WriteData l b width n h = h
count_kept ReadStop l b width n h = h
count_kept WriteStop l b width n h = h
count_kept Reading l b width n h = h

last-yes : (a b c d e x y : Bool) → (x ≡ true → y ≡ true) → a && (b && (c && (d && (e && x)))) ≡ true → a && (b && (c && (d && (e && y)))) ≡ true
last-yes true true true true true x y f h = f h
last-yes true true true true false x y f h = h
last-yes true true true false e x y f h = h
last-yes true true false d e x y f h = h
last-yes true false c d e x y f h = h
last-yes false b c d e x y f h = h

large-allowed : (c : ChipRecord) (b : Bool) → chip_allowed c ≡ true
    → chip_allowed (record { flash = c.flash; eeprom = told c.eeprom.width (c.eeprom.large || b) c.eeprom }) ≡ true
large-allowed c b h =
    let e = c.eeprom in
    let n : ℕ = count_limit e.phase (w e.width (e.large || b)) in
    chip-fields (record { flash = c.flash; eeprom = told e.width (e.large || b) e })
    ∙ last-yes (state_allowed c.flash.state) (leb c.flash.bank 1) (width_allowed e.width) (leb e.block 1023) (leb e.place 67) (ltb e.count (count_limit e.phase (w_of e))) (ltb e.count n)
    (λ t. lt-ltb e.count n (count_kept e.phase e.large b e.width e.count (ltb-true e.count (count_limit e.phase (w_of e)) t)))
    (sym (chip-fields c) ∙ h)

pub load-allowed : (f : List ℕ) (t : State) → record_allowed t.cart ≡ true → record_allowed (load t f).cart ≡ true
unfolding record_allowed load
load-allowed f t a =
    let l : Bool = image_length t.cart.len in
    let p : Bool = part_fits t.cart.part t.cart.kind in
    let c : ChipRecord = t.cart.chip in
    let b = and_left (l && p) (chip_allowed c) a in
    rw (and_left l p b, and_right l p b)
    (large-allowed c (uses_eeprom t.cart.kind && ltb 512 (length f)) (and_right (l && p) (chip_allowed c) a))

-- loading: some chip record that is allowed, and the memory that the file holds
pub load-next : (f : List ℕ) (t : State) → record_allowed t.cart ≡ true → eqb (length t.memory) (memory_size t.cart.kind) ≡ true → Fit t → (step (load_save f) [] t).next ≡ load t f
unfolding questions accepted
load-next f t a b k = ap (λ (o : Outcome). o.next) (step-accepted (load_save f) [] t (a, (b, (tallies-fit t k, tt))))

record Loaded (t : State) (o : Option (List ℕ)) : Type 0 where
  chip : ChipRecord
  is : reloaded o t ≡ state_with t t.cart.dirty chip (memory_from t.memory o)
  allowed : record_allowed (reloaded o t).cart ≡ true

loaded : (o : Option (List ℕ)) (t : State) → record_allowed t.cart ≡ true → eqb (length t.memory) (memory_size t.cart.kind) ≡ true → Fit t → Loaded t o
unfolding load stored
loaded none t a b k = record { chip = t.cart.chip; is = sym (tallies-stay t k.words); allowed = a }
loaded (some f) t a b k =
    let n = load-next f t a b k in
    record { chip = (load t f).cart.chip; is = n; allowed = ap (λ (z : State). record_allowed z.cart) n ∙ load-allowed f t a }

-- restoring
restore-next : (b : List ℕ) (t : State) → record_allowed t.cart ≡ true → asked (state_questions b) ≡ 0 → (restore b t).next ≡ restoring b t
restore-next b t a e = ap (λ (o : Outcome). o.next) (restore-accepted b t (rw a e))

pub acc_lt : (s : State) → Sound s → s.cart.chip.eeprom.acc < 2 ^ 64
acc_lt s k =
    let e = s.cart.chip.eeprom in
    let n : e.count ≤ 64 = omega (arith, eeprom.count-64 e k.eeprom_ok) in
    omega (arith, pow_mono n, k.eeprom_ok.serial_ok.acc_ok)

-- the flag that the state of s leaves in a cartridge like t
flag-left : (v : Carried) (s t : State) → flag_from (carried v (state_bytes s.cart.chip s.cart.dirty)) t.cart.dirty ≡ flag_of v s t
flag-left eighteen s t = old-flag s.cart.chip s.cart.dirty t.cart.dirty
flag-left twenty s t = own-flag s.cart.chip s.cart.dirty t.cart.dirty

-- the state s made anew of a cartridge of the image
pub resumed-is : (image : List ℕ) (part : ℕ) (v : Carried) (s t : State) → Recoverable image part s → Open image part t → resumed v s t ≡ with_flag (flag_of v s t) s
resumed-is image part v s t r q =
    let k = r.sound in
    let a = record-allowed s k in
    let b : List ℕ = carried v (state_bytes s.cart.chip s.cart.dirty) in
    let kind : SaveType = detect_save_type image in
    let o : Option (List ℕ) = file_of kind s in
    let x = loaded o t q.allowed (eq-eqb _ _ q.memory_ok) (right-fit t q.tallies_ok) in
    let c = own-restored v s.cart.chip s.cart.dirty (acc_lt s k) in
    let g = flag-left v s t in
    let m = memory-back image part s r t.memory kind r.kind_is (q.memory_ok ∙ ap memory_size q.kind_is) in
    let ts =
    right-memory t t.cart.dirty x.chip (memory_from t.memory o) q.tallies_ok
    ∙ ap₂ (λ (i : SaveType) (l : List ℕ). tallies_of (tally_count i) l) (q.kind_is ∙ sym r.kind_is) m
    in
    ap₂ (λ (l : List ℕ) (f : Option (List ℕ)). (restore (carried v l) (reloaded f t)).next) (bytes_left_lem s a) (file-left s a (memory-fits s k) ∙ ap (λ (i : SaveType). file_of i s) r.kind_is)
    ∙ restore-next b (reloaded o t) x.allowed (own-questions v s.cart.chip s.cart.dirty (chip-allowed s.cart.chip k.flash_ok k.eeprom_ok))
    ∙ ap (restoring b) x.is
    ∙ (λ i.
    record {
      cart = record { len = (q.len_is ∙ sym r.len_is) i; kind = (q.kind_is ∙ sym r.kind_is) i; part = (q.part_is ∙ sym r.part_is) i; dirty = g i; chip = c i };
      memory = m i;
      tallies = (ts ∙ sym r.right) i;
    })

pub open-fresh : (image : List ℕ) (part : ℕ) → Sound (fresh image (part_of part)) → Open image part (fresh image (part_of part))
unfolding fresh fresh_cart
open-fresh image part k =
    record { len_is = refl; kind_is = refl; part_is = refl; allowed = unfold fresh fresh_cart in record-allowed (fresh image (part_of part)) k; memory_ok = k.memory_ok; tallies_ok = right-fresh image (part_of part) }

-- a cut loses nothing, or, with the eighteen, the flag alone
pub cut-is : (image : List ℕ) (part : ℕ) (memory tallies : List ℕ) (v : Carried) (s : State) → (from_bytes image part memory tallies).refusal ≡ 0 → Recoverable image part s
    → cut image part memory tallies v s ≡ with_flag (flag_of v s (fresh image (part_of part))) s
unfolding cut
cut-is image part memory tallies v s h r =
    ap (λ (o : Outcome). resumed v s o.next) (opened image part memory tallies h)
    ∙ resumed-is image part v s (fresh image (part_of part)) r (open-fresh image part (sound-fresh image part memory tallies h))

-- after a list of calls
recoverable-calls : (image : List ℕ) (part : ℕ) (list : List Call) (s : State)
    → ((a v : ℕ) → Memᴰ (save_write a v) list → uses_eeprom (detect_save_type image) ≡ false)
    → Recoverable image part s → Recoverable image part (calls list s).last
unfolding calls
recoverable-calls image part [] s n r = r
recoverable-calls image part (c ∷ list) s n r =
    recoverable-calls image part list (step c [] s).next (λ a v p. n a v (Memᴰ.tail p))
    (recoverable-step image part c [] s (λ a v p. n a v (Memᴰ.head p)) r)

pub resumes : Resumes
resumes image part memory tallies list v t h n q =
    let s0 : State = (from_bytes image part memory tallies).next in
    let s : State = (calls list s0).last in
    let r0 : Recoverable image part s0 = rw (opened image part memory tallies h) (recoverable-fresh image part memory tallies h) in
    let r : Recoverable image part s = recoverable-calls image part list s0 n r0 in
    let e = resumed-is image part v s t r q in
    (e, e ∙ ap (with_flag (flag_of v s t)) (sym (cut-is image part memory tallies v s h r)))
