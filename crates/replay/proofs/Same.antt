-- Where a cut falls, the machine that is cut goes on as the one that is not. Assumes nothing.
use mathlib.Core.Path.{◌≡◌, refl, sym, ap, ap₂, ◌∙◌}
use mathlib.Core.Bool.{Bool, true, false, ◌&&◌}
use mathlib.Core.List.{List, [], ◌++◌}
use Prim.Native.Nat.{ℕ}
use lib.Dec.{eqb}
use lib.ListN.{length, take, drop, replicate}
use borrow.Author.Tests.{eq-eqb}
use Rattle.lists.specs.Questions.{asked}
use Rattle.lists.proofs.Questions.{yes-all}
use Rattle.image.specs.Image.{image_length}
use Rattle.kind.specs.declared.SaveType.{SaveType}
use Rattle.kind.specs.Kind.{memory_size, tally_count, uses_eeprom, detect_save_type}
use Rattle.part.specs.Part.{part_of, number_fits}
use Rattle.cart.specs.Record.{State, Outcome, open_questions, from_bytes, fresh}
use Rattle.cart.specs.Calls.{Call, save_read, save_write, eeprom_begin_dma, eeprom_write, eeprom_read, load_save, save_data, chip_state, take_save_dirty, step}
use Rattle.chip_record.specs.States.{twenty}
use Rattle.cart.specs.Stretches.{with_tallies}
use Rattle.cart.proofs.Tallies.{right-fit}
use Rattle.cart.proofs.Stretches.{stretches}
use Rattle.cart.proofs.Recoverable.{Recoverable, NoByteWrite, recoverable-step, recoverable-fresh}
use Rattle.cart.proofs.Resume.{cut-is}
use Rattle.call_list.specs.declared.Item.{Item}
use Rattle.call_list.specs.declared.Item.TheVariants.{SaveRead, SaveWrite, EepromRead, EepromWrite, BeginDma, TakeFlag, ChipState, LoadSave, SaveData, Cut, Bad}
use Rattle.call_list.specs.Items.{is_write}
use Rattle.replay.specs.Replay.{answered, record_answer, file_answer, play, not_cut, cut_at, ending}

-- the image of a state that is recoverable opens again, with a part's number that fits
open-yes : (image : List ℕ) (part : ℕ) (s : State) → Recoverable image part s → number_fits part (detect_save_type image) ≡ true → asked (open_questions image part s.memory s.tallies) ≡ 0
open-yes image part s r f =
    let l : image_length (length image) ≡ true = rw (sym r.len_is) r.sound.len_ok in
    let m : eqb (length s.memory) (memory_size (detect_save_type image)) ≡ true = eq-eqb _ _ (r.sound.memory_ok ∙ ap memory_size r.kind_is) in
    let t : eqb (length s.tallies) (tally_count (detect_save_type image)) ≡ true = eq-eqb _ _ ((right-fit s r.right).count ∙ ap tally_count r.kind_is) in
    rw (l, m, t, f)

opens : (image : List ℕ) (part : ℕ) (s : State) → Recoverable image part s → number_fits part (detect_save_type image) ≡ true → (from_bytes image part s.memory s.tallies).refusal ≡ 0
unfolding from_bytes
opens image part s r f = rw (open-yes image part s r f)

pub fresh-stands : (image : List ℕ) (part : ℕ) (memory tallies : List ℕ) → asked (open_questions image part memory tallies) ≡ 0 → Recoverable image part (fresh image (part_of part))
unfolding from_bytes
fresh-stands image part memory tallies e = recoverable-fresh image part memory tallies (rw e)

pub part-stands : (image : List ℕ) (part : ℕ) (memory tallies : List ℕ) → asked (open_questions image part memory tallies) ≡ 0 → number_fits part (detect_save_type image) ≡ true
part-stands image part memory tallies e = (yes-all (open_questions image part memory tallies) refl e).1.1.1.0

-- which calls are byte writes
abbrev pub is_byte_write : Call → Bool
is_byte_write (save_read a) = false
is_byte_write (save_write a v) = true
is_byte_write (eeprom_begin_dma words) = false
is_byte_write (eeprom_write v) = false
is_byte_write eeprom_read = false
is_byte_write (load_save f) = false
is_byte_write save_data = false
is_byte_write chip_state = false
is_byte_write take_save_dirty = false

pub no_write : (kind : SaveType) (c : Call) → is_byte_write c && uses_eeprom kind ≡ false → NoByteWrite kind c
no_write kind c h = λ a v p. let w : is_byte_write c ≡ true = ap is_byte_write (sym p) in rw w at h

module _ (image : List ℕ) (part : ℕ) (s : State) (r : Recoverable image part s) where
  -- a cut gives the state back, and so an item that may be a cut does what it does uncut
  pub plays-same : number_fits part (detect_save_type image) ≡ true → (i : Item) (l : List ℕ) → play (cut_at image part) i l s ≡ play not_cut i l s
  unfolding play
  plays-same f (SaveRead a) l = refl
  plays-same f (SaveWrite a v) l = refl
  plays-same f EepromRead l = refl
  plays-same f (EepromWrite v) l = refl
  plays-same f (BeginDma words) l = refl
  plays-same f TakeFlag l = refl
  plays-same f ChipState l = refl
  plays-same f (LoadSave n) l = refl
  plays-same f (SaveData n) l = refl
  plays-same f Cut l = ap (answered []) (cut-is image part s.memory s.tallies twenty s (opens image part s r f) r)
  plays-same f Bad l = refl

  stands : (c : Call) (d : List ℕ) → is_byte_write c && uses_eeprom (detect_save_type image) ≡ false → Recoverable image part (step c d s).next
  stands c d w = recoverable-step image part c d s (no_write (detect_save_type image) c w) r

  pub plays-on : (i : Item) (l : List ℕ) → is_write i && uses_eeprom (detect_save_type image) ≡ false → Recoverable image part (play not_cut i l s).next
  unfolding play
  plays-on (SaveRead a) l w = stands (save_read a) [] refl
  plays-on (SaveWrite a v) l w = stands (save_write a v) [] w
  plays-on EepromRead l w = stands eeprom_read [] refl
  plays-on (EepromWrite v) l w = stands (eeprom_write v) [] refl
  plays-on (BeginDma words) l w = stands (eeprom_begin_dma words) [] refl
  plays-on TakeFlag l w = stands take_save_dirty [] refl
  plays-on ChipState l w = stands chip_state [] refl
  plays-on (LoadSave n) l w = stands (load_save (take n (drop 5 l))) [] refl
  plays-on (SaveData n) l w = stands save_data (replicate n 0) refl
  plays-on Cut l w = r
  plays-on Bad l w = r

-- the ending shows nothing of the tallies
pub ending-apart : (ts : List ℕ) (s : State) → ending (with_tallies ts s) ≡ ending s
unfolding ending
ending-apart ts s =
    ap₂ ◌++◌ (ap (λ (o : Outcome). (file_answer o).bytes) (stretches.apart ts save_data (replicate (length s.memory) 0) s refl))
    (ap (λ (o : Outcome). (record_answer o).bytes) (stretches.apart ts chip_state [] s refl))
