-- Demand 3: a list of calls with its cuts shows what the list without them shows. Assumes nothing.
use mathlib.Core.Path.{◌≡◌, refl, sym, ap, subst, ◌∙◌}
use mathlib.Core.Bool.{Bool, true, false, cond}
use mathlib.Core.List.{List, [], ◌∷◌, map, Memᴰ}
use mathlib.Core.Option.{Option, none, some}
use Prim.Native.Nat.{ℕ}
use lib.Dec.{eqb}
use Rattle.lists.specs.Lists.{low_first}
use Rattle.lists.specs.Questions.{asked}
use Rattle.lists.proofs.Bools.{and_left, and_right}
use Rattle.kind.specs.declared.SaveType.{SaveType}
use Rattle.kind.specs.declared.SaveType.TheVariants.{None, Sram, Flash64, Flash128, Eeprom512, Eeprom8k}
use Rattle.kind.specs.Kind.{uses_eeprom, detect_save_type}
use Rattle.eeprom.specs.Eeprom.{bit_in}
use Rattle.part.specs.Part.{part_of}
use Rattle.chip_record.specs.ChipState.{chip_bytes}
use Rattle.chip_record.specs.States.{state_bytes, Carried, eighteen, twenty}
use Rattle.cart.specs.Record.{State, Outcome, outcome, outcome_of, counted, record_allowed, fresh, from_bytes}
use Rattle.cart.specs.Calls.{Call, save_write, load_save, save_data, chip_state, save_read, eeprom_begin_dma, eeprom_write, eeprom_read, take_save_dirty, read_save, write_save, load, file_of, exported, questions, accepted, step}
use Rattle.cart.specs.Resume.{with_flag, flag_of}
use Rattle.cart.specs.Cut.{file_left, bytes_left, cut, cuts, Turn, Shown, shown, Compared, run, uncut, carries_flag, all_carry_flag, flag_left_out, answer_seen, seen, CutRuns}
use Rattle.cart.proofs.Sound.{Sound, record-allowed, memory-fits, opened}
use Rattle.cart.proofs.Recoverable.{Recoverable, NoByteWrite, clash, recoverable-step, recoverable-fresh}
use Rattle.cart.proofs.Resume.{file-left, bytes_left_lem, cut-is}

-- the state without its flag, and what of an outcome does not show it
abbrev pub quiet : State → State
quiet s = with_flag false s

abbrev pub unflagged : Outcome → Outcome
unflagged o = outcome_of o.refusal (flag_left_out o.given) false o.changed (quiet o.next) o.destination

-- no call looks at the flag
file-quiet : (kind : SaveType) (s : State) → file_of kind (quiet s) ≡ file_of kind s
unfolding file_of
file-quiet None s = refl
file-quiet Sram s = refl
file-quiet Flash64 s = refl
file-quiet Flash128 s = refl
file-quiet Eeprom512 s = refl
file-quiet Eeprom8k s = refl

read-quiet : (kind : SaveType) (s : State) (a : ℕ) → read_save kind (quiet s) a ≡ read_save kind s a
unfolding read_save
read-quiet kind s a = refl

write-quiet : (kind : SaveType) (s : State) (a v : ℕ) → quiet (write_save kind (quiet s) a v) ≡ quiet (write_save kind s a v)
unfolding write_save
write-quiet kind s a v = refl

export-quiet : (f : Option (List ℕ)) (d : List ℕ) (s : State) → unflagged (exported f d (quiet s)) ≡ unflagged (exported f d s)
export-quiet none d s = refl
export-quiet (some f) d s = refl

questions-quiet : (c : Call) (d : List ℕ) (s : State) → questions c d (quiet s) ≡ questions c d s
unfolding questions record_allowed
questions-quiet (save_read a) d s = refl
questions-quiet (save_write a v) d s = refl
questions-quiet (eeprom_begin_dma words) d s = refl
questions-quiet (eeprom_write v) d s = refl
questions-quiet eeprom_read d s = refl
questions-quiet (load_save f) d s = refl
questions-quiet save_data d s = rw (file-quiet s.cart.kind s)
questions-quiet chip_state d s = refl
questions-quiet take_save_dirty d s = refl

accepted-quiet : (c : Call) (d : List ℕ) (s : State) → unflagged (accepted c d (quiet s)) ≡ unflagged (accepted c d s)
unfolding accepted bit_in load state_bytes chip_bytes low_first
accepted-quiet (save_read a) d s = ap (λ (v : ℕ). outcome (v ∷ []) (quiet s) d) (read-quiet s.cart.kind s a)
accepted-quiet (save_write a v) d s = ap (λ (t : State). outcome [] t d) (write-quiet s.cart.kind s a v)
accepted-quiet (eeprom_begin_dma words) d s = refl
accepted-quiet (eeprom_write v) d s = refl
accepted-quiet eeprom_read d s = refl
accepted-quiet (load_save f) d s = refl
accepted-quiet save_data d s =
    ap (λ (f : Option (List ℕ)). unflagged (exported f d (quiet s))) (file-quiet s.cart.kind s) ∙ export-quiet (file_of s.cart.kind s) d s
accepted-quiet chip_state d s = refl
accepted-quiet take_save_dirty d s = refl

pub either-quiet : (b : Bool) (x y x' y' : Outcome) → unflagged x ≡ unflagged x' → unflagged y ≡ unflagged y' → unflagged (cond b x y) ≡ unflagged (cond b x' y')
either-quiet true x y x' y' p q = p
either-quiet false x y x' y' p q = q

step-quiet : (c : Call) (d : List ℕ) (s : State) → unflagged (step c d (quiet s)) ≡ unflagged (step c d s)
unfolding step
step-quiet c d s =
    rw (questions-quiet c d s)
    (either-quiet (eqb (asked (questions c d s)) 0) (counted (quiet s) (accepted c d (quiet s))) _ (counted s (accepted c d s)) _ (ap (counted s) (accepted-quiet c d s)) refl)

pub step_same : (c : Call) (d : List ℕ) (s t : State) → quiet s ≡ quiet t → unflagged (step c d s) ≡ unflagged (step c d t)
step_same c d s t e = sym (step-quiet c d s) ∙ ap (λ (z : State). unflagged (step c d z)) e ∙ step-quiet c d t

-- nor does it matter to what a cut leaves
pub recoverable-flag : (image : List ℕ) (part : ℕ) (dirty : Bool) (s : State) → Recoverable image part s → Recoverable image part (with_flag dirty s)
recoverable-flag image part dirty s r =
    record {
      sound = record { len_ok = r.sound.len_ok; part_ok = r.sound.part_ok; memory_ok = r.sound.memory_ok; flash_ok = r.sound.flash_ok; eeprom_ok = r.sound.eeprom_ok };
      len_is = r.len_is;
      kind_is = r.kind_is;
      part_is = r.part_is;
      tail = r.tail;
      right = r.right;
    }

-- a state and an outcome with their flag, and without it
abbrev pub state_seen : Bool → State → State
state_seen true s = s
state_seen false s = quiet s

abbrev pub outcome_seen : Bool → Outcome → Outcome
outcome_seen true o = o
outcome_seen false o = unflagged o

pub step-seen : (flags : Bool) (c : Call) (d : List ℕ) (s t : State) → state_seen flags s ≡ state_seen flags t → outcome_seen flags (step c d s) ≡ outcome_seen flags (step c d t)
step-seen true c d s t e = ap (step c d) e
step-seen false c d s t e = step_same c d s t e

pub next-seen : (flags : Bool) (o p : Outcome) → outcome_seen flags o ≡ outcome_seen flags p → state_seen flags o.next ≡ state_seen flags p.next
next-seen true o p e = ap (λ (x : Outcome). x.next) e
next-seen false o p e = ap (λ (x : Outcome). x.next) e

answer-seen : (flags : Bool) (o p : Outcome) → outcome_seen flags o ≡ outcome_seen flags p → answer_seen flags (shown o) ≡ answer_seen flags (shown p)
answer-seen true o p e = ap (λ (x : Outcome). shown x) e
answer-seen false o p e = ap (λ (x : Outcome). shown x) e

pub quiet-seen : (flags : Bool) (s t : State) → state_seen flags s ≡ state_seen flags t → quiet s ≡ quiet t
quiet-seen true s t e = ap quiet e
quiet-seen false s t e = e

-- any number of cuts; where the flag is seen, each carries it
pub flag-seen : (flags : Bool) (v : Carried) (vs : List Carried) (s t : State) → (flags ≡ true → carries_flag (v ∷ vs) ≡ true)
    → (state_seen flags (with_flag (flag_of v s t) s) ≡ state_seen flags s) × (flags ≡ true → carries_flag vs ≡ true)
flag-seen false v vs s t p = (refl, λ z. clash {A = carries_flag vs ≡ true} refl z)
flag-seen true eighteen vs s t p = clash {b = false} refl (p refl)
flag-seen true twenty vs s t p = (refl, p)

cuts-kept : (image : List ℕ) (part : ℕ) (memory tallies : List ℕ) (flags : Bool) (vs : List Carried) (s : State) → (flags ≡ true → carries_flag vs ≡ true)
    → (from_bytes image part memory tallies).refusal ≡ 0 → Recoverable image part s
    → (state_seen flags (cuts image part memory tallies vs s) ≡ state_seen flags s) × Recoverable image part (cuts image part memory tallies vs s)
unfolding cuts
cuts-kept image part memory tallies flags [] s p h r = (refl, r)
cuts-kept image part memory tallies flags (v ∷ vs) s p h r =
    let f : Bool = flag_of v s (fresh image (part_of part)) in
    let q : cut image part memory tallies v s ≡ with_flag f s = cut-is image part memory tallies v s h r in
    let k = flag-seen flags v vs s (fresh image (part_of part)) p in
    let i = cuts-kept image part memory tallies flags vs (with_flag f s) k.1 h (recoverable-flag image part f s r) in
    (ap (λ (z : State). state_seen flags (cuts image part memory tallies vs z)) q ∙ i.0 ∙ k.0, subst (λ (z : State). Recoverable image part (cuts image part memory tallies vs z)) (sym q) i.1)

-- what is left at the end
state-quiet : (s : State) → flag_left_out (state_bytes (quiet s).cart.chip (quiet s).cart.dirty) ≡ flag_left_out (state_bytes s.cart.chip s.cart.dirty)
unfolding state_bytes chip_bytes low_first
state-quiet s = refl

pub bytes_same : (flags : Bool) (s t : State) → Sound s → Sound t → state_seen flags s ≡ state_seen flags t
    → cond flags (bytes_left s) (flag_left_out (bytes_left s)) ≡ cond flags (bytes_left t) (flag_left_out (bytes_left t))
bytes_same true s t k l e = ap bytes_left e
bytes_same false s t k l e =
    ap flag_left_out (bytes_left_lem s (record-allowed s k)) ∙ sym (state-quiet s) ∙ ap (λ (z : State). flag_left_out (state_bytes z.cart.chip z.cart.dirty)) e ∙ state-quiet t
    ∙ sym (ap flag_left_out (bytes_left_lem t (record-allowed t l)))

pub file-same : (s t : State) → Sound s → Sound t → quiet s ≡ quiet t → file_left s ≡ file_left t
file-same s t k l e =
    file-left s (record-allowed s k) (memory-fits s k) ∙ sym (file-quiet s.cart.kind s) ∙ ap (λ (z : State). file_of z.cart.kind z) e
    ∙ file-quiet t.cart.kind t ∙ sym (file-left t (record-allowed t l) (memory-fits t l))

abbrev NoByteWrites : SaveType → List Turn → Type 0
NoByteWrites kind list = (a v : ℕ) → Memᴰ (save_write a v) (map (λ t. t.call) list) → uses_eeprom kind ≡ false

-- s goes through the list with its cuts, t without
runs_same : (image : List ℕ) (part : ℕ) (memory tallies : List ℕ) (flags : Bool) (list : List Turn) (s t : State) → (flags ≡ true → all_carry_flag list ≡ true)
    → (from_bytes image part memory tallies).refusal ≡ 0 → NoByteWrites (detect_save_type image) list
    → state_seen flags s ≡ state_seen flags t → Recoverable image part s → Recoverable image part t
    → seen flags (run image part memory tallies list s) ≡ seen flags (run image part memory tallies (uncut list) t)
unfolding run cuts
runs_same image part memory tallies flags [] s t p h n e r q =
    let u = quiet-seen flags s t e in
    let f = file-same s t r.sound q.sound u in
    let b = bytes_same flags s t r.sound q.sound e in
    λ i. record { calls = []; file = f i; bytes = b i; tallies = (u i).tallies }
runs_same image part memory tallies flags (x ∷ list) s t p h n e r q =
    let c : Call = x.call in
    let d : List ℕ = x.destination in
    let vs : List Carried = x.cuts_behind in
    let w : NoByteWrite (detect_save_type image) c = λ a v m. n a v (Memᴰ.head m) in
    let o = step-seen flags c d s t e in
    let k = cuts-kept image part memory tallies flags vs (step c d s).next (λ z. and_left (carries_flag vs) (all_carry_flag list) (p z)) h (recoverable-step image part c d s w r) in
    let a = answer-seen flags (step c d s) (step c d t) o in
    let i = runs_same image part memory tallies flags list (cuts image part memory tallies vs (step c d s).next) (step c d t).next
    (λ z. and_right (carries_flag vs) (all_carry_flag list) (p z)) h (λ b v m. n b v (Memᴰ.tail m))
    (k.0 ∙ next-seen flags (step c d s) (step c d t) o)
    k.1
    (recoverable-step image part c d t w q)
    in
    λ j. record { calls = a j ∷ (i j).calls; file = (i j).file; bytes = (i j).bytes; tallies = (i j).tallies }

-- where all is compared
answers-seen : (l : List Shown) → map (answer_seen true) l ≡ l
answers-seen [] = refl
answers-seen (x ∷ l) = ap (λ (k : List Shown). x ∷ k) (answers-seen l)

pub all_seen : (r : Compared) → seen true r ≡ r
all_seen r = ap (λ (l : List Shown). record { calls = l; file = r.file; bytes = r.bytes; tallies = r.tallies }) (answers-seen r.calls)

-- Demand 3
pub cut-runs : CutRuns
cut-runs image part memory tallies list h n =
    let r : Recoverable image part (from_bytes image part memory tallies).next = rw (opened image part memory tallies h) (recoverable-fresh image part memory tallies h) in
    runs_same image part memory tallies (all_carry_flag list) list (from_bytes image part memory tallies).next (from_bytes image part memory tallies).next (λ z. z) h n refl r r
