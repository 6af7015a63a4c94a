-- A replay's output is what the runs of demand 3 show. Assumes nothing.
use mathlib.Core.Path.{◌≡◌, refl, sym, ap, subst, ◌∙◌}
use mathlib.Core.Bool.{Bool, true, false, ◌&&◌, ◌||◌}
use mathlib.Core.List.{List, [], ◌∷◌, ◌++◌, map, append_assoc, Memᴰ}
use mathlib.Core.Option.{Option, none, some}
use Prim.Native.Nat.{ℕ}
use native.Mathlib.Omega.{arith}
use lib.Dec.{eqb}
use lib.ListN.{length, take, drop, replicate, length-replicate}
use borrow.Author.Tests.{eqb-true}
use Rattle.lists.specs.Lists.{into}
use Rattle.lists.specs.Questions.{asked}
use Rattle.lists.proofs.Bools.{cases}
use Rattle.kind.specs.Kind.{memory_size, uses_eeprom, detect_save_type}
use Rattle.cart.specs.Record.{State, Outcome, from_bytes}
use Rattle.cart.specs.Calls.{Call, save_read, save_write, eeprom_begin_dma, eeprom_write, eeprom_read, load_save, save_data, chip_state, take_save_dirty, exported, file_of, step}
use Rattle.chip_record.specs.ChipState.{chip_bytes}
use Rattle.chip_record.specs.States.{state_bytes, Carried}
use Rattle.cart.specs.Cut.{file_left, bytes_left, cuts, Turn, Compared, run, uncut, shown, carries_flag, all_carry_flag, seen}
use Rattle.cart.proofs.Sound.{record-allowed, memory-fits}
use Rattle.cart.proofs.Recoverable.{Recoverable, recoverable-step}
use Rattle.cart.proofs.Resume.{export-accepted, state-accepted, file-left, bytes_left_lem}
use Rattle.cart.proofs.CutRuns.{all_seen, cut-runs}
use Rattle.call_list.specs.declared.Item.{Item}
use Rattle.call_list.specs.declared.Item.TheVariants.{SaveRead, SaveWrite, EepromRead, EepromWrite, BeginDma, TakeFlag, ChipState, LoadSave, SaveData, Cut, Bad}
use Rattle.call_list.specs.Items.{Place, items, is_write, byte_writes}
use Rattle.replay.specs.Replay.{Answered, file_answer, own_tallies, replay_questions, play, play_all, not_cut, ending, record_answer, uncut_run}
use Rattle.replay.specs.Replay as replay
use Rattle.replay.specs.Claims.{cut_or, cuts_in_front, turn, turn_or, turns, shown_bytes, calls_bytes, file_bytes, encoded, ReplayRuns}
use Rattle.replay.proofs.Same.{is_byte_write, no_write, fresh-stands}
use Rattle.replay.proofs.Runs.{both_false, writes_more}
use Rattle.replay.proofs.Whole.{opens-own, opens-here, next-fresh, no-byte-write, memory-length}

file-bytes : (n : ℕ) (f : Option (List ℕ)) (s : State) → (file_answer (exported f (replicate n 0) s)).bytes ≡ file_bytes n f
file-bytes n none s = refl
file-bytes n (some f) s = refl

ending-is : (image : List ℕ) (part : ℕ) (s : State) → Recoverable image part s → ending s ≡ file_bytes (length s.memory) (file_left s) ++ (0 ∷ bytes_left s)
unfolding ending state_bytes chip_bytes
ending-is image part s r =
    let n : ℕ = length s.memory in
    let a = record-allowed s r.sound in
    let b = memory-fits s r.sound in
    let f : (file_answer (step save_data (replicate n 0) s)).bytes ≡ file_bytes n (file_left s) =
    ap (λ (o : Outcome). (file_answer o).bytes) (export-accepted (replicate n 0) s a b (simp length-replicate (omega arith))) ∙ file-bytes n (file_of s.cart.kind s) s ∙ ap (file_bytes n) (sym (file-left s a b)) in
    let g : (record_answer (step chip_state [] s)).bytes ≡ 0 ∷ bytes_left s = ap (λ (o : Outcome). (record_answer o).bytes) (state-accepted s a) ∙ ap (λ (l : List ℕ). 0 ∷ l) (sym (bytes_left_lem s a)) in
    λ i. f i ++ g i

-- how many bytes a recoverable state's memory has
memory-is : (image : List ℕ) (part : ℕ) (s : State) → Recoverable image part s → length s.memory ≡ memory_size (detect_save_type image)
memory-is image part s r = r.sound.memory_ok ∙ ap memory_size r.kind_is

-- what is left to show
abbrev shown_from : List ℕ → ℕ → List ℕ → List ℕ → List Turn → State → List ℕ
shown_from image part memory tallies list s = encoded (memory_size (detect_save_type image)) list (run image part memory tallies (uncut list) s)

-- a call in front of a list
call-more : (image : List ℕ) (part : ℕ) (memory tallies : List ℕ) (c : Call) (d : List ℕ) (k : List Carried) (list : List Turn) (s : State) (rest : Answered)
    → let o = step c d s in
    rest.bytes ++ ending rest.next ≡ shown_from image part memory tallies list o.next
    → (shown_bytes c (shown o) ++ rest.bytes) ++ ending rest.next ≡ shown_from image part memory tallies (turn c d k ∷ list) s
unfolding encoded calls_bytes run cuts
call-more image part memory tallies c d k list s rest e =
    let o = step c d s in
    let b : List ℕ = shown_bytes c (shown o) in
    let r = run image part memory tallies (uncut list) o.next in
    append_assoc b rest.bytes (ending rest.next) ∙ ap (λ (l : List ℕ). b ++ l) e
    ∙ sym (append_assoc b (calls_bytes (map (λ t. t.call) list) r.calls) (file_bytes (memory_size (detect_save_type image)) r.file ++ (0 ∷ r.bytes)))

-- an item in front of a list that is known to be shown
abbrev Shows : List ℕ → ℕ → List ℕ → List ℕ → List Place → Type 0
Shows image part memory tallies list = (t : State) → Recoverable image part t → let r = play_all not_cut list t in r.bytes ++ ending r.next ≡ shown_from image part memory tallies (turns list) t

module _ (image : List ℕ) (part : ℕ) (memory tallies : List ℕ) (list : List Place) (k : List Carried) (s : State) (r : Recoverable image part s) (h : Shows image part memory tallies list) where
  call-shown : (c : Call) (d : List ℕ) → is_byte_write c && uses_eeprom (detect_save_type image) ≡ false
      → let o = step c d s in
      let rest = play_all not_cut list o.next in
      (shown_bytes c (shown o) ++ rest.bytes) ++ ending rest.next
      ≡ shown_from image part memory tallies (turn c d k ∷ turns list) s
  call-shown c d w =
      let o = step c d s in
      call-more image part memory tallies c d k (turns list) s (play_all not_cut list o.next) (h o.next (recoverable-step image part c d s (no_write (detect_save_type image) c w) r))

  item-shown : (i : Item) (l : List ℕ) → is_write i && uses_eeprom (detect_save_type image) ≡ false
      → let a = play not_cut i l s in
      let rest = play_all not_cut list a.next in
      (a.bytes ++ rest.bytes) ++ ending rest.next ≡ shown_from image part memory tallies (turn_or i l k (turns list)) s
  unfolding play
  item-shown (SaveRead a) l w = call-shown (save_read a) [] refl
  item-shown (SaveWrite a v) l w = call-shown (save_write a v) [] w
  item-shown EepromRead l w = call-shown eeprom_read [] refl
  item-shown (EepromWrite v) l w = call-shown (eeprom_write v) [] refl
  item-shown (BeginDma words) l w = call-shown (eeprom_begin_dma words) [] refl
  item-shown TakeFlag l w = call-shown take_save_dirty [] refl
  item-shown ChipState l w = call-shown chip_state [] refl
  item-shown (LoadSave n) l w = call-shown (load_save (take n (drop 5 l))) [] refl
  item-shown (SaveData n) l w = call-shown save_data (replicate n 0) refl
  item-shown Cut l w = h s r
  item-shown Bad l w = h s r

ending-shown : (image : List ℕ) (part : ℕ) (memory tallies : List ℕ) (s : State) → Recoverable image part s → ending s ≡ shown_from image part memory tallies [] s
unfolding encoded calls_bytes run
ending-shown image part memory tallies s r = ending-is image part s r ∙ ap (λ (n : ℕ). file_bytes n (file_left s) ++ (0 ∷ bytes_left s)) (memory-is image part s r)

-- the list whole
answers-shown : (image : List ℕ) (part : ℕ) (memory tallies : List ℕ) (list : List Place) → byte_writes list && uses_eeprom (detect_save_type image) ≡ false → Shows image part memory tallies list
unfolding play_all turns
answers-shown image part memory tallies [] w s r = ending-shown image part memory tallies s r
answers-shown image part memory tallies (p ∷ list) w s r =
    let e : Bool = uses_eeprom (detect_save_type image) in
    let b = both_false (is_write p.item) (byte_writes list) e (writes_more p list e w) in
    item-shown image part memory tallies list (cuts_in_front list) s r (answers-shown image part memory tallies list b.1) p.item p.bytes b.0

-- a byte write among the calls is one among the items
any_write : List Call → Bool
any_write [] = false
any_write (c ∷ calls) = is_byte_write c || any_write calls

mem-any : {a v : ℕ} {calls : List Call} → Memᴰ (save_write a v) calls → any_write calls ≡ true
unfolding any_write
mem-any (Memᴰ.head {x = c} {xs = calls} e) = let w : is_byte_write c ≡ true = ap is_byte_write (sym e) in rw w
mem-any (Memᴰ.tail {x = c} {xs = calls} d) = cases (is_byte_write c) (λ t. rw t) (λ t. rw t (mem-any d))

turns-write : (i : Item) (l : List ℕ) (k : List Carried) (list : List Turn) → any_write (map (λ t. t.call) (turn_or i l k list)) ≡ (is_write i || any_write (map (λ t. t.call) list))
unfolding any_write
turns-write (SaveRead a) l k list = refl
turns-write (SaveWrite a v) l k list = refl
turns-write EepromRead l k list = refl
turns-write (EepromWrite v) l k list = refl
turns-write (BeginDma words) l k list = refl
turns-write TakeFlag l k list = refl
turns-write ChipState l k list = refl
turns-write (LoadSave n) l k list = refl
turns-write (SaveData n) l k list = refl
turns-write Cut l k list = refl
turns-write Bad l k list = refl

writes-alike : (list : List Place) → any_write (map (λ t. t.call) (turns list)) ≡ byte_writes list
unfolding turns byte_writes any_write
writes-alike [] = refl
writes-alike (p ∷ list) = turns-write p.item p.bytes (cuts_in_front list) (turns list) ∙ ap (λ (b : Bool). is_write p.item || b) (writes-alike list)

no_writes : (image : List ℕ) (list : List Place) → byte_writes list && uses_eeprom (detect_save_type image) ≡ false
    → (a v : ℕ) → Memᴰ (save_write a v) (map (λ t. t.call) (turns list)) → uses_eeprom (detect_save_type image) ≡ false
no_writes image list w a v m = let b : byte_writes list ≡ true = sym (writes-alike list) ∙ mem-any m in rw b at w

-- each cut carries layout 2, and so all is compared
cut-carries : (i : Item) (k : List Carried) → carries_flag k ≡ true → carries_flag (cut_or i k) ≡ true
cut-carries (SaveRead a) k e = refl
cut-carries (SaveWrite a v) k e = refl
cut-carries EepromRead k e = refl
cut-carries (EepromWrite v) k e = refl
cut-carries (BeginDma words) k e = refl
cut-carries TakeFlag k e = refl
cut-carries ChipState k e = refl
cut-carries (LoadSave n) k e = refl
cut-carries (SaveData n) k e = refl
cut-carries Cut k e = e
cut-carries Bad k e = refl

front-carries : (list : List Place) → carries_flag (cuts_in_front list) ≡ true
unfolding cuts_in_front
front-carries [] = refl
front-carries (p ∷ list) = cut-carries p.item (cuts_in_front list) (front-carries list)

turn-carries : (i : Item) (l : List ℕ) (k : List Carried) (list : List Turn) → carries_flag k ≡ true → all_carry_flag list ≡ true → all_carry_flag (turn_or i l k list) ≡ true
turn-carries (SaveRead a) l k list e f = rw (e, f)
turn-carries (SaveWrite a v) l k list e f = rw (e, f)
turn-carries EepromRead l k list e f = rw (e, f)
turn-carries (EepromWrite v) l k list e f = rw (e, f)
turn-carries (BeginDma words) l k list e f = rw (e, f)
turn-carries TakeFlag l k list e f = rw (e, f)
turn-carries ChipState l k list e f = rw (e, f)
turn-carries (LoadSave n) l k list e f = rw (e, f)
turn-carries (SaveData n) l k list e f = rw (e, f)
turn-carries Cut l k list e f = f
turn-carries Bad l k list e f = f

turns-carry : (list : List Place) → all_carry_flag (turns list) ≡ true
unfolding turns
turns-carry [] = refl
turns-carry (p ∷ list) = turn-carries p.item p.bytes (cuts_in_front list) (turns list) (front-carries list) (turns-carry list)

all_shown : (list : List Turn) (r q : Compared) → all_carry_flag list ≡ true → seen (all_carry_flag list) r ≡ seen (all_carry_flag list) q → r ≡ q
all_shown list r q e h = sym (all_seen r) ∙ subst (λ (b : Bool). seen b r ≡ seen b q) e h ∙ all_seen q

module _ (image : List ℕ) (part : ℕ) (bytes memory scratch out : List ℕ) (h : (replay.replay image part bytes memory scratch out).0 ≡ 0) where
  abbrev number : ℕ
  number = asked (replay_questions image part bytes memory (length scratch) (length out))

  abbrev list : List Turn
  list = turns (items 0 bytes)

  abbrev s : State
  s = (from_bytes image part memory (own_tallies image)).next

  accepts : number ≡ 0
  unfolding replay.replay
  accepts = cases (eqb number 0) (λ t. eqb-true number 0 t) (λ t. rw t at h)

  w : byte_writes (items 0 bytes) && uses_eeprom (detect_save_type image) ≡ false
  w = no-byte-write image part bytes memory scratch out number refl accepts

  without-cuts : (replay.replay image part bytes memory scratch out).3 ≡ into (encoded (length memory) list (run image part memory (own_tallies image) (uncut list) s)) out
  unfolding replay.replay uncut_run
  without-cuts =
      let f = next-fresh image part bytes memory scratch out number refl accepts in
      let r : Recoverable image part s = subst (Recoverable image part) (sym f) (fresh-stands image part memory (own_tallies image) (opens-own image part bytes memory scratch out number refl accepts)) in
      rw accepts
      (ap (λ (l : List ℕ). into l out)
      (answers-shown image part memory (own_tallies image) (items 0 bytes) w s r
      ∙ ap (λ (n : ℕ). encoded n list (run image part memory (own_tallies image) (uncut list) s)) (sym (memory-length image part bytes memory scratch out number refl accepts))))

  with-cuts : (replay.replay image part bytes memory scratch out).3 ≡ into (encoded (length memory) list (run image part memory (own_tallies image) list s)) out
  with-cuts =
      let c = cut-runs image part memory (own_tallies image) list (opens-here image part bytes memory scratch out number refl accepts) (no_writes image (items 0 bytes) w) in
      without-cuts
      ∙ ap (λ (r : Compared). into (encoded (length memory) list r) out)
      (sym (all_shown list _ _ (turns-carry (items 0 bytes)) c))

pub replay-runs : ReplayRuns
replay-runs = record { without_cuts = without-cuts; with_cuts = with-cuts }
