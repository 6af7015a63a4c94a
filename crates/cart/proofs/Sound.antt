-- What holds of record and memory behind every list of the nine calls. Assumes nothing.
use mathlib.Core.Path.{◌≡◌, refl, ap, ◌∙◌}
use mathlib.Core.Bool.{Bool, true, ◌||◌}
use mathlib.Core.List.{List, []}
use mathlib.Core.Option.{Option, none, some}
use Prim.Native.Nat.{ℕ, ◌*◌, ◌%◌, ◌≤◌, ◌<◌}
use native.Mathlib.Nat.{mod-lt}
use native.Mathlib.Omega.{arith}
use lib.Dec.{leb, eqb}
use lib.ListN.{length, set, length-set}
use borrow.Author.Tests.{eqb-true, eq-eqb}
use Rattle.lists.specs.Questions.{asked}
use Rattle.lists.proofs.Bools.{split, and_right}
use Rattle.lists.proofs.Questions.{AllYes, numbered, all_yes, yes-all}
use Rattle.memory.specs.Memory.{stored, erased}
use Rattle.memory.proofs.Memory.{length-erased, length-filled}
use Rattle.memory.proofs.Counts.{length-stored}
use Rattle.image.specs.Image.{image_length}
use Rattle.kind.specs.declared.SaveType.{SaveType}
use Rattle.kind.specs.declared.SaveType.TheVariants.{None, Sram, Flash64, Flash128, Eeprom512, Eeprom8k}
use Rattle.kind.specs.Kind.{memory_size, uses_eeprom, detect_save_type}
use Rattle.part.specs.declared.Part.{Part}
use Rattle.part.specs.Part.{part_of, part_fits}
use Rattle.flash.specs.declared.Flash.{Flash}
use Rattle.flash.specs.Flash.{place, write_byte, state_allowed}
use Rattle.flash.proofs.Sound as flash
use Rattle.byte_step.specs.ByteStep.{write_step}
use Rattle.eeprom.specs.declared.Eeprom.{Eeprom}
use Rattle.eeprom.specs.Eeprom.{told, begin_dma, dma_question, write_bit, bit_in, after_read}
use Rattle.eeprom.proofs.Sound as eeprom
use Rattle.eeprom.proofs.Fits.{write-fits}
use Rattle.cart.specs.Record.{State, Outcome, outcome, counted, record_allowed, fresh_cart, fresh, open_questions, from_bytes}
use Rattle.cart.specs.Calls.{Call, save_read, save_write, eeprom_begin_dma, eeprom_write, eeprom_read, load_save, save_data, chip_state, take_save_dirty}
use Rattle.cart.specs.Calls.{state_with, flash_of, with_flash, eeprom_of, with_eeprom, with_chip, write_save, load, file_of, exported, questions, accepted, step}
use Rattle.chip_record.proofs.ChipState.{chip-allowed}

-- image length, part, memory length and flash chip are right, and E holds of the serial chip
pub record SoundBy (E : Eeprom → Type 0) (s : State) : Type 0 where
  pub len_ok : image_length s.cart.len ≡ true
  pub part_ok : part_fits s.cart.part s.cart.kind ≡ true
  pub memory_ok : length s.memory ≡ memory_size s.cart.kind
  pub flash_ok : flash.Sound s.cart.chip.flash
  pub eeprom_ok : E s.cart.chip.eeprom

-- of a chip that a run from a fresh one can reach
abbrev pub Sound : State → Type 0
Sound s = SoundBy eeprom.Sound s

-- every step of the serial chip keeps E
pub record Keeps (E : Eeprom → Type 0) : Type 0 where
  pub block : (e : Eeprom) → E e → e.block < 1024
  pub bit : (e : Eeprom) (b : ℕ) → b < 2 → E e → E (write_bit e b).eeprom
  pub out : (e : Eeprom) → E e → E (after_read e)
  pub dma : (words : ℕ) (e : Eeprom) → E e → (dma_question words e).yes ≡ true → E (begin_dma words e)
  pub loaded : (e : Eeprom) (b : Bool) → E e → E (told e.width (e.large || b) e)

-- questions 2 and 3 are answered yes
pub record-allowed : (s : State) → Sound s → record_allowed s.cart ≡ true
unfolding record_allowed
record-allowed s k = rw (k.len_ok, k.part_ok, chip-allowed s.cart.chip k.flash_ok k.eeprom_ok)

pub memory-fits : (s : State) → Sound s → eqb (length s.memory) (memory_size s.cart.kind) ≡ true
memory-fits s k = eq-eqb (length s.memory) (memory_size s.cart.kind) k.memory_ok

pub eeprom-size : (kind : SaveType) → uses_eeprom kind ≡ true → memory_size kind ≡ 8192
eeprom-size None e = cc
eeprom-size Sram e = cc
eeprom-size Flash64 e = cc
eeprom-size Flash128 e = cc
eeprom-size Eeprom512 e = refl
eeprom-size Eeprom8k e = refl

pub place-lt : (f : Flash) (n a : ℕ) → 0 < n → place f n a < n
unfolding place
place-lt f n a h = mod-lt _ h

module _ {E : Eeprom → Type 0} where
  flash-by : (s : State) (a v n : ℕ) → memory_size s.cart.kind ≡ n * 4096 → 0 < n → n ≤ 32 → SoundBy E s → SoundBy E (with_flash s (write_byte (flash_of s) a v))
  unfolding write_byte
  flash-by s a v n e h g k =
      let f = s.cart.chip.flash in
      let l : length s.memory ≡ n * 4096 = k.memory_ok ∙ e in
      let w = flash.way f (length s.memory) a v in
      record {
        len_ok = k.len_ok;
        part_ok = k.part_ok;
        memory_ok = length-stored _ [] s.memory (flash.fits-way (length s.memory) n l g (place-lt f (length s.memory) a (omega arith)) w) ∙ k.memory_ok;
        flash_ok = flash.sound-way k.flash_ok w;
        eeprom_ok = k.eeprom_ok;
      }

  byte-by : (s : State) (dirty : Bool) (p v : ℕ) → SoundBy E s → SoundBy E (state_with s dirty s.cart.chip (set s.memory p v))
  byte-by s dirty p v k =
      record { len_ok = k.len_ok; part_ok = k.part_ok; memory_ok = length-set s.memory p v ∙ k.memory_ok; flash_ok = k.flash_ok; eeprom_ok = k.eeprom_ok }

  write-by : (kind : SaveType) (s : State) (a v : ℕ) → s.cart.kind ≡ kind → SoundBy E s → SoundBy E (write_save kind s a v)
  unfolding write_save write_step write_byte stored
  write-by None s a v e k =
      record { len_ok = k.len_ok; part_ok = k.part_ok; memory_ok = k.memory_ok; flash_ok = k.flash_ok; eeprom_ok = k.eeprom_ok }
  write-by Sram s a v e k = byte-by s true (a % 32768) v k
  write-by Flash64 s a v e k = flash-by s a v 16 (ap memory_size e) (omega arith) (omega arith) k
  write-by Flash128 s a v e k = flash-by s a v 32 (ap memory_size e) (omega arith) (omega arith) k
  write-by Eeprom512 s a v e k = byte-by s s.cart.dirty (a % 8192) v k
  write-by Eeprom8k s a v e k = byte-by s s.cart.dirty (a % 8192) v k

  -- the chip record alone is new
  chip-by : (s : State) (e : Eeprom) → SoundBy E s → E e → SoundBy E (with_chip s e)
  chip-by s e k h = record { len_ok = k.len_ok; part_ok = k.part_ok; memory_ok = k.memory_ok; flash_ok = k.flash_ok; eeprom_ok = h }

  export-by : (f : Option (List ℕ)) (d : List ℕ) (s : State) → SoundBy E s → SoundBy E (exported f d s).next
  export-by none d s k = k
  export-by (some f) d s k = k

module _ {E : Eeprom → Type 0} (keep : Keeps E) where
  bit-by : (s : State) (v : ℕ) → uses_eeprom s.cart.kind ≡ true → SoundBy E s → SoundBy E (with_eeprom s (bit_in (eeprom_of s) v))
  unfolding bit_in
  bit-by s v u k =
      let e = s.cart.chip.eeprom in
      let h = keep.block e k.eeprom_ok in
      record {
        len_ok = k.len_ok;
        part_ok = k.part_ok;
        memory_ok =
            length-stored _ [] s.memory (write-fits (length s.memory) e (v % 2) (omega (arith, k.memory_ok, eeprom-size s.cart.kind u)))
            ∙ k.memory_ok;
        flash_ok = k.flash_ok;
        eeprom_ok = keep.bit e (v % 2) (omega arith) k.eeprom_ok;
      }

  pub accepted-by : (c : Call) (d : List ℕ) (s : State) → AllYes (questions c d s) → SoundBy E s → SoundBy E (accepted c d s).next
  unfolding accepted questions load stored
  accepted-by (save_read a) d s y k = k
  accepted-by (save_write a v) d s y k = write-by s.cart.kind s a v refl k
  accepted-by (eeprom_begin_dma words) d s y k = chip-by s _ k (keep.dma words s.cart.chip.eeprom k.eeprom_ok y.1.0)
  accepted-by (eeprom_write v) d s y k = bit-by s v y.1.1.1.0 k
  accepted-by eeprom_read d s y k = chip-by s _ k (keep.out s.cart.chip.eeprom k.eeprom_ok)
  accepted-by (load_save f) d s y k =
      record {
        len_ok = k.len_ok;
        part_ok = k.part_ok;
        memory_ok = length-filled (length s.memory) f ∙ k.memory_ok;
        flash_ok = k.flash_ok;
        eeprom_ok = keep.loaded s.cart.chip.eeprom _ k.eeprom_ok;
      }
  accepted-by save_data d s y k = export-by (file_of s.cart.kind s) d s k
  accepted-by chip_state d s y k = k
  accepted-by take_save_dirty d s y k = record { len_ok = k.len_ok; part_ok = k.part_ok; memory_ok = k.memory_ok; flash_ok = k.flash_ok; eeprom_ok = k.eeprom_ok }

sound-keeps : Keeps eeprom.Sound
sound-keeps =
    record {
      block = λ e k. eeprom.block-1024 e.large e.block k.serial_ok.block_ok;
      bit = λ e b h k. eeprom.sound-way k (eeprom.way e b k h);
      out = eeprom.sound-read;
      dma = eeprom.sound-dma;
      loaded = eeprom.sound-load;
    }

pub sound-accepted : (c : Call) (d : List ℕ) (s : State) → AllYes (questions c d s) → Sound s → Sound (accepted c d s).next
sound-accepted c d s y k = accepted-by sound-keeps c d s y k

numbers : (c : Call) (d : List ℕ) (s : State) → numbered (questions c d s) ≡ true
unfolding questions dma_question
numbers (save_read a) d s = refl
numbers (save_write a v) d s = refl
numbers (eeprom_begin_dma words) d s = refl
numbers (eeprom_write v) d s = refl
numbers eeprom_read d s = refl
numbers (load_save f) d s = refl
numbers save_data d s = refl
numbers chip_state d s = refl
numbers take_save_dirty d s = refl

-- a call is accepted, and then every question is answered yes, or it leaves record and memory
pub step-next : (P : State → Type 0) (c : Call) (d : List ℕ) (s : State) → (AllYes (questions c d s) → P (accepted c d s).next) → P s → P (step c d s).next
unfolding step
step-next P c d s f p =
    split (λ (o : Outcome). P o.next) (eqb (asked (questions c d s)) 0)
    (λ e. f (yes-all (questions c d s) (numbers c d s) (eqb-true (asked (questions c d s)) 0 e)))
    (λ e. p)

pub step-accepted : (c : Call) (d : List ℕ) (s : State) → AllYes (questions c d s) → step c d s ≡ counted s (accepted c d s)
unfolding step
step-accepted c d s y = rw (all_yes (questions c d s) y)

pub step_by : {E : Eeprom → Type 0} → Keeps E → (c : Call) (d : List ℕ) (s : State) → SoundBy E s → SoundBy E (step c d s).next
step_by {E} keep c d s k = step-next (SoundBy E) c d s (λ y. accepted-by keep c d s y k) k

pub sound-step : (c : Call) (d : List ℕ) (s : State) → Sound s → Sound (step c d s).next
sound-step c d s k = step_by sound-keeps c d s k

-- an accepted opening
opened-yes : (image : List ℕ) (part : ℕ) (memory tallies : List ℕ) → (from_bytes image part memory tallies).refusal ≡ 0 → asked (open_questions image part memory tallies) ≡ 0
unfolding from_bytes
opened-yes image part memory tallies =
    let n : ℕ = asked (open_questions image part memory tallies) in
    split (λ (o : Outcome). o.refusal ≡ 0 → n ≡ 0) (eqb n 0) (λ e h. eqb-true n 0 e) (λ e h. h)

pub opened : (image : List ℕ) (part : ℕ) (memory tallies : List ℕ) → (from_bytes image part memory tallies).refusal ≡ 0 → from_bytes image part memory tallies ≡ outcome [] (fresh image (part_of part)) []
unfolding from_bytes
opened image part memory tallies h = rw (opened-yes image part memory tallies h)

pub sound-kind : (n : ℕ) (kind : SaveType) (part : Part) (tallies : List ℕ) → image_length n ≡ true → part_fits part kind ≡ true
    → Sound (record { cart = fresh_cart n kind part; memory = erased (memory_size kind); tallies = tallies })
unfolding fresh_cart state_allowed
sound-kind n kind part tallies h p =
    record {
      len_ok = h;
      part_ok = p;
      memory_ok = length-erased (memory_size kind);
      flash_ok = record { state_ok = refl; bank_ok = omega arith };
      eeprom_ok = eeprom.sound-fresh _;
    }

pub sound-fresh : (image : List ℕ) (part : ℕ) (memory tallies : List ℕ) → (from_bytes image part memory tallies).refusal ≡ 0 → Sound (fresh image (part_of part))
unfolding fresh
sound-fresh image part memory tallies h =
    let kind : SaveType = detect_save_type image in
    let y = yes-all (open_questions image part memory tallies) refl (opened-yes image part memory tallies h) in
    sound-kind (length image) kind (part_of part) _ y.0 (and_right (leb part 5) (part_fits (part_of part) kind) y.1.1.1.0)
