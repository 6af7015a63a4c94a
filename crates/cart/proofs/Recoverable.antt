-- The invariant of demand 3. Assumes nothing.
--
-- A state is recoverable if its file and its 18 bytes hold all that the next calls can see, but for the flag. The only file that leaves
-- memory out is that of an EEPROM that is not large: 512 bytes of 8,192. Such a chip has seen addresses of 6 bits alone, so no write has
-- reached past byte 511, and a load of more than 512 bytes would have made it large: what the file leaves out is erased, and loading
-- erases it again. A byte write to an EEPROM kind would break this, and demand 3 leaves it out. The tallies are those of the memory, so
-- that opening and loading give them back.
use mathlib.Core.Path.{◌≡◌, refl, sym, ap, subst, ◌∙◌}
use mathlib.Core.Bool.{Bool, true, false, ◌&&◌}
use mathlib.Core.List.{List, []}
use mathlib.Core.Option.{Option, none, some}
use Prim.Native.Nat.{ℕ, ◌-◌, ◌%◌, ◌<◌}
use native.Mathlib.Omega.{arith}
use lib.Dec.{ltb, eqb}
use lib.ListN.{length, drop}
use borrow.Author.Tests.{ltb-false}
use Rattle.lists.proofs.Bools.{either, or-true}
use Rattle.lists.proofs.Questions.{AllYes}
use Rattle.memory.specs.Memory.{erased, filled, stored}
use Rattle.memory.proofs.Memory.{drop-erased, drop-filled, drop_block}
use Rattle.kind.specs.declared.SaveType.{SaveType}
use Rattle.kind.specs.Kind.{memory_size, uses_eeprom, detect_save_type}
use Rattle.part.specs.Part.{part_of}
use Rattle.eeprom.specs.declared.Eeprom.{Eeprom}
use Rattle.eeprom.specs.declared.EepromStep.{EepromStep}
use Rattle.eeprom.specs.declared.Drawn.{Drawn}
use Rattle.eeprom.specs.Eeprom.{tells6, tells14, begin_dma, bit_in, is_reading, drawn_from, after_read}
use Rattle.eeprom.proofs.Sound as eeprom
use Rattle.cart.specs.Record.{State, fresh_cart, fresh, from_bytes}
use Rattle.cart.specs.Calls.{Call, save_read, save_write, eeprom_begin_dma, eeprom_write, eeprom_read, load_save, save_data, chip_state, take_save_dirty}
use Rattle.cart.specs.Calls.{eeprom_of, with_eeprom, write_save, load, file_of, exported, questions, accepted, step}
use Rattle.cart.specs.Stretches.{TalliesRight}
use Rattle.cart.proofs.Tallies.{right-accepted, right-fresh}
use Rattle.cart.proofs.Sound.{Sound, sound-fresh, sound-accepted, step-next, eeprom-size}

-- what the file of an EEPROM that is not large leaves out is erased
abbrev pub TailErased : State → Type 0
TailErased s =
    uses_eeprom s.cart.kind ≡ true → s.cart.chip.eeprom.large ≡ false
    → drop 512 s.memory ≡ erased (memory_size s.cart.kind - 512)

pub record Recoverable (image : List ℕ) (part : ℕ) (s : State) : Type 0 where
  pub sound : Sound s
  pub len_is : s.cart.len ≡ length image
  pub kind_is : s.cart.kind ≡ detect_save_type image
  pub part_is : s.cart.part ≡ part_of part
  pub tail : TailErased s
  pub right : TalliesRight s

pub clash : {A : Type 0} {b : Bool} → b ≡ false → b ≡ true → A
clash p q = absurd (let z : ◌≡◌ {A = ℕ} 0 1 = cc in omega arith)

-- a byte write keeps the length, the kind and the part
kept-write : (kind : SaveType) (s : State) (a v : ℕ)
    → let c = (write_save kind s a v).cart in (c.len ≡ s.cart.len) × (c.kind ≡ s.cart.kind) × (c.part ≡ s.cart.part)
unfolding write_save
kept-write kind s a v = (refl, refl, refl)

-- a chip that is not large behind a DMA announcement or a bit was not large before
dma-large : (words : ℕ) (e : Eeprom) → (begin_dma words e).large ≡ false → e.large ≡ false
unfolding begin_dma
dma-large words e =
    let P : Eeprom → Type 0 = λ x. x.large ≡ false → e.large ≡ false in
    either P (tells6 words) (λ z. z) (either P (tells14 words) (λ z. clash z refl) (λ z. z))

read-large : (e : Eeprom) → (after_read e).large ≡ e.large
unfolding after_read
read-large e =
    let P : Drawn → Type 0 = λ d. (drawn_from e d).large ≡ e.large in
    either P (is_reading e.phase) (either P (eqb e.place 67) refl refl) refl

way-large : {e : Eeprom} {t : EepromStep} → eeprom.Way e t → t.eeprom.large ≡ e.large
way-large (eeprom.keeps o) = refl
way-large (eeprom.word d o) = refl

-- a block of a chip that is not large lies below byte 512
way-tail : {e : Eeprom} {t : EepromStep} (m : List ℕ) → length m ≡ 8192 → eeprom.Sound e → e.large ≡ false → eeprom.Way e t
    → drop 512 (stored t.store [] m) ≡ drop 512 m
unfolding stored
way-tail m l k z (eeprom.keeps o) = refl
way-tail {e} m l k z (eeprom.word d o) =
    let b : e.block < 64 = rw z at k.serial_ok.block_ok in
    drop_block m e.block d 512 (omega arith) (omega arith)

tail-bit : (s : State) (v : ℕ) → Sound s → uses_eeprom s.cart.kind ≡ true → TailErased s → TailErased (with_eeprom s (bit_in (eeprom_of s) v))
unfolding bit_in
tail-bit s v k u t =
    let w = eeprom.way s.cart.chip.eeprom (v % 2) k.eeprom_ok (omega arith) in
    λ q z.
    let l : s.cart.chip.eeprom.large ≡ false = sym (way-large w) ∙ z in
    way-tail s.memory (k.memory_ok ∙ eeprom-size s.cart.kind u) k.eeprom_ok l w ∙ t u l

pub exported-next : (f : Option (List ℕ)) (d : List ℕ) (s : State) → (exported f d s).next ≡ s
exported-next none d s = refl
exported-next (some f) d s = refl

-- "no byte write to an EEPROM cartridge"
abbrev pub NoByteWrite : SaveType → Call → Type 0
NoByteWrite kind c = (a v : ℕ) → save_write a v ≡ c → uses_eeprom kind ≡ false

recoverable-accepted : (image : List ℕ) (part : ℕ) (c : Call) (d : List ℕ) (s : State) → NoByteWrite (detect_save_type image) c → Recoverable image part s
    → AllYes (questions c d s) → Recoverable image part (accepted c d s).next
unfolding accepted questions load stored
recoverable-accepted image part (save_read a) d s n r y = r
recoverable-accepted image part (save_write a v) d s n r y =
    let k = kept-write s.cart.kind s a v in
    record {
      sound = unfold accepted questions load in sound-accepted (save_write a v) d s y r.sound;
      len_is = k.0 ∙ r.len_is;
      kind_is = k.1 ∙ r.kind_is;
      part_is = k.2 ∙ r.part_is;
      tail = λ q z. clash (n a v refl) (ap uses_eeprom (sym (k.1 ∙ r.kind_is)) ∙ q);
      right = right-accepted (save_write a v) d s r.right;
    }
recoverable-accepted image part (eeprom_begin_dma words) d s n r y =
    record {
      sound = sound-accepted (eeprom_begin_dma words) d s y r.sound;
      len_is = r.len_is;
      kind_is = r.kind_is;
      part_is = r.part_is;
      tail = λ q z. r.tail q (dma-large words s.cart.chip.eeprom z);
      right = r.right;
    }
recoverable-accepted image part (eeprom_write v) d s n r y =
    record {
      sound = sound-accepted (eeprom_write v) d s y r.sound;
      len_is = r.len_is;
      kind_is = r.kind_is;
      part_is = r.part_is;
      tail = tail-bit s v r.sound y.1.1.1.0 r.tail;
      right = right-accepted (eeprom_write v) d s r.right;
    }
recoverable-accepted image part eeprom_read d s n r y =
    record {
      sound = sound-accepted eeprom_read d s y r.sound;
      len_is = r.len_is;
      kind_is = r.kind_is;
      part_is = r.part_is;
      tail = λ q z. r.tail q (sym (read-large s.cart.chip.eeprom) ∙ z);
      right = r.right;
    }
recoverable-accepted image part (load_save f) d s n r y =
    record {
      sound = sound-accepted (load_save f) d s y r.sound;
      len_is = r.len_is;
      kind_is = r.kind_is;
      part_is = r.part_is;
      tail = λ q z.
          let e = s.cart.chip.eeprom in
          let b : Bool = uses_eeprom s.cart.kind && ltb 512 (length f) in
          ap (λ (n : ℕ). drop 512 (filled n f)) r.sound.memory_ok
          ∙ drop-filled (memory_size s.cart.kind) 512 f (omega (arith, eeprom-size s.cart.kind q))
          (ltb-false 512 (length f) (rw q at (or-true e.large b z).1));
      right = right-accepted (load_save f) d s r.right;
    }
recoverable-accepted image part save_data d s n r y = subst (Recoverable image part) (sym (exported-next (file_of s.cart.kind s) d s)) r
recoverable-accepted image part chip_state d s n r y = r
recoverable-accepted image part take_save_dirty d s n r y =
    record { sound = sound-accepted take_save_dirty d s y r.sound; len_is = r.len_is; kind_is = r.kind_is; part_is = r.part_is; tail = r.tail; right = r.right }

pub recoverable-step : (image : List ℕ) (part : ℕ) (c : Call) (d : List ℕ) (s : State) → NoByteWrite (detect_save_type image) c → Recoverable image part s
    → Recoverable image part (step c d s).next
recoverable-step image part c d s n r = step-next (Recoverable image part) c d s (recoverable-accepted image part c d s n r) r

pub recoverable-fresh : (image : List ℕ) (part : ℕ) (memory tallies : List ℕ) → (from_bytes image part memory tallies).refusal ≡ 0 → Recoverable image part (fresh image (part_of part))
unfolding fresh fresh_cart
recoverable-fresh image part memory tallies h =
    record {
      sound = sound-fresh image part memory tallies h;
      len_is = refl;
      kind_is = refl;
      part_is = refl;
      tail = λ q z. drop-erased 512 (memory_size (detect_save_type image));
      right = right-fresh image (part_of part);
    }
