-- A refused call leaves all that it was passed. Assumes nothing.
use mathlib.Core.Path.{◌≡◌, refl, ap, ap₂, ◌∙◌}
use mathlib.Core.Logic.{◌≢◌}
use mathlib.Core.Bool.{true}
use mathlib.Core.List.{List, [], ◌∷◌}
use Prim.Native.Nat.{ℕ}
use lib.Dec.{eqb}
use lib.ListN.{length, replicate}
use lib.Pow.{are_bytes}
use borrow.Author.Tests.{ne_eqb}
use Rattle.lists.specs.Questions.{Question, asked}
use Rattle.lists.proofs.Bools.{split, cases}
use Rattle.image.specs.Image.{Answer}
use Rattle.title.specs.Title.{title_questions, header_title}
use Rattle.file_sizes.specs.SaveFit.{kept_part}
use Rattle.out_params.specs.Places.{placed, answered_at, title_at}
use Rattle.cart.specs.declared.Cartridge.{Cartridge}
use Rattle.cart.specs.Record.{State, Outcome, guarded, refused, counted, open_questions, outcome, from_bytes}
use Rattle.cart.specs.Calls as machine
use Rattle.cart.specs.Calls.{Call, load, questions, accepted, step, restore_questions, restore, import_questions}
use Rattle.cart.proofs.Counts.{accepted-0}
use Rattle.cart.proofs.Restore.{restoring}
use Rattle.c_record.specs.RecordBytes.{cart_of, is_record, state_of}
use Rattle.c_record.specs.AtExit.{AtExit, left, untouched, called, plain, tallied_at, value_at, changed_at, import_at, flag_at, state_at, export_at, asked_at}
use Rattle.c_record.specs.Calls as calls
use Rattle.c_matcher_calls.specs.Calls.{searches, feeds}
use Rattle.c_record.proofs.RecordBytes.{record-and-bytes}
use Rattle.cart_abi.specs.Host.{ExportedCall, save_read, save_write, eeprom_begin_dma, eeprom_write, eeprom_read, load_save, save_data, chip_state, take_save_dirty, import_save}
use Rattle.cart_abi.specs.Host.{Bytes, found, found_state, found_flag, made, plainly, valued, stored, imported, filed, stated, flagged, make}
use Rattle.cart_abi.specs.Claims.{unchanged, RefusedLeaves}

-- the machine's calls on a record, each with the destination that it is passed
data MachineCall : (State → Outcome) → List ℕ → Type 0 where
  of_nine : (c : Call) (d : List ℕ) → MachineCall (step c d) d
  of_restore : (b : List ℕ) → MachineCall (restore b) []
  of_import : (f : List ℕ) → MachineCall (machine.import_save f) []

-- the machine's refusals leave state and destination, and answer nothing
guarded-leaves : (qs : List Question) (d : List ℕ) (s : State) (o : Outcome) → o.refusal ≡ 0
    → (guarded qs d s o).refusal ≢ 0
    → guarded qs d s o ≡ refused (guarded qs d s o).refusal s d
guarded-leaves qs d s o z =
    split (λ (x : Outcome). x.refusal ≢ 0 → x ≡ refused x.refusal s d) (eqb (asked qs) 0) (λ t h. absurd (h z)) (λ t h. refl)

machine-leaves : {call : State → Outcome} {d : List ℕ} → MachineCall call d → (s : State) → (call s).refusal ≢ 0 → call s ≡ refused (call s).refusal s d
unfolding step restore machine.import_save
machine-leaves (of_nine c d) s = guarded-leaves (questions c d s) d s (counted s (accepted c d s)) (accepted-0 c d s).0
machine-leaves (of_restore b) s = guarded-leaves (restore_questions b s) [] s (outcome [] (restoring b s) []) refl
machine-leaves (of_import f) s =
    let part = kept_part s.cart.kind f in
    guarded-leaves (import_questions f s) [] s (counted s (outcome (length part ∷ []) (load s part) [])) refl

-- and so a record's bytes
bytes-leave : {call : State → Outcome} {d : List ℕ} → MachineCall call d → (r m ts : List ℕ) → are_bytes r ≡ true
    → (called call d r m ts).answer ≢ 0
    → called call d r m ts ≡ untouched (called call d r m ts).answer d r m ts
unfolding called
bytes-leave {call} {d} q r m ts b =
    split (λ (x : AtExit). x.answer ≢ 0 → x ≡ untouched x.answer d r m ts) (is_record r)
    (λ h z.
    let s = state_of r m ts in
    ap left (machine-leaves q s z) ∙ ap (λ (l : List ℕ). untouched (call s).refusal d l m ts) (record-and-bytes.read r b h).1)
    (λ h z. refl)

-- and a place
kept : {A : Type 0} (n : ℕ) (value place : A) → n ≢ 0 → placed n value place ≡ place
kept n value place h = rw (ne_eqb n 0 h)

-- the tallies passed are ts
module _ {call : State → Outcome} {d : List ℕ} (q : MachineCall call d) (b : Bytes) (h : are_bytes b.bytes ≡ true) (ts : List ℕ) (z : (called call d b.bytes b.memory ts).answer ≢ 0) where
  abbrev exit : AtExit
  exit = called call d b.bytes b.memory ts

  abbrev n : ℕ
  n = exit.answer

  abbrev leaves : exit ≡ untouched n d b.bytes b.memory ts
  leaves = bytes-leave q b.bytes b.memory ts h z

  plain-leaves : plainly b.tallies (plain exit) ≡ made (found n 0 0 []) b.bytes b.memory b.tallies
  plain-leaves = ap (λ (x : AtExit). plainly b.tallies (plain x)) leaves

  value-leaves : (p : ℕ) → valued b.tallies (value_at p exit) ≡ made (found n p 0 []) b.bytes b.memory b.tallies
  value-leaves p = ap (λ (x : AtExit). valued b.tallies (value_at p x)) leaves ∙ ap (λ (v : ℕ). made (found n v 0 []) b.bytes b.memory b.tallies) (kept n 0 p z)

  flag-leaves : (p : ℕ) → flagged b.tallies (flag_at p exit) ≡ made (found_flag n p) b.bytes b.memory b.tallies
  flag-leaves p = ap (λ (x : AtExit). flagged b.tallies (flag_at p x)) leaves ∙ ap (λ (v : ℕ). made (found_flag n v) b.bytes b.memory b.tallies) (kept n 0 p z)

  state-leaves : (p : List ℕ) → stated b.tallies (state_at p exit) ≡ made (found_state n p) b.bytes b.memory b.tallies
  state-leaves p = ap (λ (x : AtExit). stated b.tallies (state_at p x)) leaves ∙ ap (λ (v : List ℕ). made (found_state n v) b.bytes b.memory b.tallies) (kept n [] p z)

  file-leaves : (p : ℕ) → filed b.tallies (export_at p exit) ≡ made (found n p 0 d) b.bytes b.memory b.tallies
  file-leaves p = ap (λ (x : AtExit). filed b.tallies (export_at p x)) leaves ∙ ap (λ (v : ℕ). made (found n v 0 d) b.bytes b.memory b.tallies) (kept n 0 p z)

  store-leaves : (p : ℕ) → stored (changed_at p exit) ≡ made (found n 0 p []) b.bytes b.memory ts
  store-leaves p = ap (λ (x : AtExit). stored (changed_at p x)) leaves ∙ ap (λ (v : ℕ). made (found n 0 v []) b.bytes b.memory ts) (kept n 0 p z)

  import-leaves : (k p : ℕ) → imported (import_at k p exit) ≡ made (found n k p []) b.bytes b.memory ts
  import-leaves k p =
      ap (λ (x : AtExit). imported (import_at k p x)) leaves
      ∙ ap₂ (λ (v w : ℕ). made (found n v w []) b.bytes b.memory ts) (kept n 0 k z) (kept n 0 p z)

calls-leave : (c : ExportedCall) (b : Bytes) → are_bytes b.bytes ≡ true → (make c b).found.answer ≢ 0 → make c b ≡ unchanged c (make c b).found.answer b
unfolding make
calls-leave (save_read a p) b h z = value-leaves (of_nine (machine.save_read a) []) b h [] z p
calls-leave (save_write a v p) b h z = store-leaves (of_nine (machine.save_write a v) []) b h b.tallies z p
calls-leave (eeprom_begin_dma words) b h z = plain-leaves (of_nine (machine.eeprom_begin_dma words) []) b h [] z
calls-leave (eeprom_write v p) b h z = store-leaves (of_nine (machine.eeprom_write v) []) b h b.tallies z p
calls-leave (eeprom_read p) b h z = value-leaves (of_nine machine.eeprom_read []) b h [] z p
calls-leave (load_save f p) b h z = store-leaves (of_nine (machine.load_save f) []) b h b.tallies z p
calls-leave (save_data d p) b h z = file-leaves (of_nine machine.save_data d) b h [] z p
calls-leave (chip_state p) b h z = state-leaves (of_nine machine.chip_state []) b h [] z p
calls-leave (take_save_dirty p) b h z = flag-leaves (of_nine machine.take_save_dirty []) b h [] z p
calls-leave (import_save f k p) b h z = import-leaves (of_import f) b h b.tallies z k p

opening : (image : List ℕ) (part : ℕ) (m ts : List ℕ) → (calls.opens image part m ts).0 ≢ 0
    → calls.opens image part m ts ≡ ((calls.opens image part m ts).0, replicate 25 0, m, ts)
unfolding from_bytes
opening image part m ts =
    split (λ (o : Outcome). o.refusal ≢ 0 → tallied_at (left o) ≡ (o.refusal, replicate 25 0, m, ts)) (eqb (asked (open_questions image part m ts)) 0) (λ t h. absurd (h refl))
    (λ t h. rw record-and-bytes.nothing)

-- the calls of a record alone, and of an image
of_image : (a : Answer) (p : ℕ) → a.refusal ≢ 0 → answered_at a p ≡ (a.refusal, p)
of_image a p h = ap (λ (v : ℕ). (a.refusal, v)) (kept a.refusal a.value p h)

of-record : (ask : Cartridge → Answer) (r : List ℕ) (p : ℕ) → (asked_at ask r p).0 ≢ 0 → asked_at ask r p ≡ ((asked_at ask r p).0, p)
unfolding asked_at
of-record ask r p =
    split (λ (x : ℕ × ℕ). x.0 ≢ 0 → x ≡ (x.0, p)) (is_record r) (λ t h. of_image (ask (cart_of r)) p h) (λ t h. refl)

title : (image d : List ℕ) (p : ℕ) → (header_title image d).0.refusal ≢ 0 → title_at (header_title image d) p ≡ ((header_title image d).0.refusal, d, p)
unfolding header_title
title image d p h = cases (eqb (asked (title_questions image d)) 0) (λ t. absurd ((rw t at h) refl)) (λ t. rw t (rw t))

search-leaves : (image : List ℕ) (k h : ℕ) → (searches image k h).0 ≢ 0 → searches image k h ≡ ((searches image k h).0, k, h)
unfolding searches
search-leaves image k h z =
    ap₂ (λ (x y : ℕ). ((searches image k h).0, x, y)) (kept (searches image k h).0 _ k z) (kept (searches image k h).0 _ h z)

feed-leaves : (b piece : List ℕ) (d : ℕ) → (feeds b piece d).0 ≢ 0 → feeds b piece d ≡ ((feeds b piece d).0, b, d)
unfolding feeds
feed-leaves b piece d z =
    ap₂ (λ (x : List ℕ) (y : ℕ). ((feeds b piece d).0, x, y)) (kept (feeds b piece d).0 _ b z) (kept (feeds b piece d).0 _ d z)

pub refused-leaves : RefusedLeaves
refused-leaves =
    record {
      calls = calls-leave;
      restore = λ b r m h z. ap plain (bytes-leave (of_restore b) r m [] h z);
      opening = opening;
      of_record = of-record;
      of_image = of_image;
      title = title;
      search = search-leaves;
      feed = feed-leaves;
    }
