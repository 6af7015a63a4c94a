-- The part: which parts fit the flash kinds, what keeps it, and what looks at it. Assumes nothing.
use mathlib.Core.Path.{◌≡◌, refl, ap, ◌∙◌}
use mathlib.Core.Bool.{Bool, true, false, cond}
use mathlib.Core.List.{List, [], ◌∷◌}
use mathlib.Core.Option.{Option, none, some}
use Prim.Native.Nat.{ℕ}
use lib.Dec.{eqb}
use Rattle.lists.specs.Questions.{asked}
use Rattle.kind.specs.declared.SaveType.{SaveType}
use Rattle.kind.specs.declared.SaveType.TheVariants.{None, Sram, Flash64, Flash128, Eeprom512, Eeprom8k}
use Rattle.part.specs.declared.Part.{Part}
use Rattle.part.specs.declared.Part.TheVariants.{Usual, Sst64, Macronix64, Panasonic64, Sanyo128, Macronix128}
use Rattle.part.specs.Part.{part_of, part_fits}
use Rattle.flash.specs.declared.Flash.{Flash}
use Rattle.byte_step.specs.ByteStep.{read_byte}
use Rattle.eeprom.specs.Eeprom.{bit_in}
use Rattle.chip_record.specs.declared.ChipRecord.{ChipRecord}
use Rattle.chip_record.specs.States.{state_bytes}
use Rattle.cart.specs.Record.{State, Outcome, outcome, counted, record_allowed, fresh_cart, fresh}
use Rattle.cart.specs.Calls.{Call, save_read, save_write, eeprom_begin_dma, eeprom_write, eeprom_read, load_save, save_data, chip_state, take_save_dirty}
use Rattle.cart.specs.Calls.{chip_with, state_with, read_save, write_save, load, file_of, exported, questions, accepted, step}
use Rattle.cart.specs.Gbatek.{Usable, sst64_k, macronix64_k, panasonic64_k, usual64_k, sanyo128_k, macronix128_k, usual128_k, Listed}
use Rattle.cart.specs.Claims.{with_part, outcome_with, PartKept}
use Rattle.cart.proofs.Sound.{opened}
use Rattle.cart.proofs.Changes.{step_keeps, restore-keeps, import-keeps}
use Rattle.cart.proofs.Usable.{to_fields}
use Rattle.cart.proofs.Recoverable.{clash}

-- the parts that fit
module _ (s : State) where
  fits-64 : (p : Part) → s.cart.kind ≡ Flash64 → s.cart.part ≡ p → part_fits p Flash64 ≡ true → Listed s
  unfolding part_fits
  fits-64 Usual k e h = record { maker = 0x32; device = 0x1b; is = rw (k, e) usual64_k }
  fits-64 Sst64 k e h = record { maker = 0xbf; device = 0xd4; is = rw (k, e) sst64_k }
  fits-64 Macronix64 k e h = record { maker = 0xc2; device = 0x1c; is = rw (k, e) macronix64_k }
  fits-64 Panasonic64 k e h = record { maker = 0x32; device = 0x1b; is = rw (k, e) panasonic64_k }
  fits-64 Sanyo128 k e h = clash refl h
  fits-64 Macronix128 k e h = clash refl h

  fits-128 : (p : Part) → s.cart.kind ≡ Flash128 → s.cart.part ≡ p → part_fits p Flash128 ≡ true → Listed s
  unfolding part_fits
  fits-128 Usual k e h = record { maker = 0x62; device = 0x13; is = rw (k, e) usual128_k }
  fits-128 Sst64 k e h = clash refl h
  fits-128 Macronix64 k e h = clash refl h
  fits-128 Panasonic64 k e h = clash refl h
  fits-128 Sanyo128 k e h = record { maker = 0x62; device = 0x13; is = rw (k, e) sanyo128_k }
  fits-128 Macronix128 k e h = record { maker = 0xc2; device = 0x09; is = rw (k, e) macronix128_k }

  pub listed-64 : Usable s → s.cart.kind ≡ Flash64 → Listed s
  listed-64 u k = fits-64 s.cart.part k refl (rw k at (to_fields s u).part_ok)

  pub listed-128 : Usable s → s.cart.kind ≡ Flash128 → Listed s
  listed-128 u k = fits-128 s.cart.part k refl (rw k at (to_fields s u).part_ok)

-- no call touches it
module _ (s : State) where
  abbrev Same : State → Type 0
  Same t = t.cart.part ≡ s.cart.part

  same-chip : (t : State) (dirty : Bool) (c : ChipRecord) → Same t → Same (chip_with t dirty c)
  same-chip t dirty c e = e

  same_memory : (t : State) (dirty : Bool) (c : ChipRecord) (m : List ℕ) → Same t → Same (state_with t dirty c m)
  same_memory t dirty c m e = e

-- opening sets it
fresh-part : (image : List ℕ) (p : Part) → (fresh image p).cart.part ≡ p
unfolding fresh fresh_cart
fresh-part image p = refl

-- a byte read looks at it in ID mode alone
module _ (p : Part) (s : State) where
  read_same : (kind : SaveType) (q : Part) (f : Flash) (m : List ℕ) (a : ℕ) → f.id ≡ false → read_byte kind p f m a ≡ read_byte kind q f m a
  unfolding read_byte
  read_same None q f m a e = refl
  read_same Sram q f m a e = refl
  read_same Flash64 q f m a e = rw e
  read_same Flash128 q f m a e = rw e
  read_same Eeprom512 q f m a e = refl
  read_same Eeprom8k q f m a e = refl

  file-same : (kind : SaveType) → file_of kind (with_part p s) ≡ file_of kind s
  unfolding file_of
  file-same None = refl
  file-same Sram = refl
  file-same Flash64 = refl
  file-same Flash128 = refl
  file-same Eeprom512 = refl
  file-same Eeprom8k = refl

  export-same : (f : Option (List ℕ)) (d : List ℕ) → exported f d (with_part p s) ≡ outcome_with p (exported f d s)
  export-same none d = refl
  export-same (some f) d = refl

  write_same : (kind : SaveType) (a v : ℕ) → write_save kind (with_part p s) a v ≡ with_part p (write_save kind s a v)
  unfolding write_save
  write_same kind a v = refl

  allowed_same : part_fits p s.cart.kind ≡ part_fits s.cart.part s.cart.kind → record_allowed (with_part p s).cart ≡ record_allowed s.cart
  unfolding record_allowed
  allowed_same e = rw e

  questions-same : (c : Call) (d : List ℕ) → record_allowed (with_part p s).cart ≡ record_allowed s.cart → questions c d (with_part p s) ≡ questions c d s
  unfolding questions
  questions-same (save_read a) d e = rw e
  questions-same (save_write a v) d e = rw e
  questions-same (eeprom_begin_dma words) d e = rw e
  questions-same (eeprom_write v) d e = rw e
  questions-same eeprom_read d e = rw e
  questions-same (load_save f) d e = rw e
  questions-same save_data d e = rw (e, file-same s.cart.kind)
  questions-same chip_state d e = rw e
  questions-same take_save_dirty d e = rw e

  accepted-same : (c : Call) (d : List ℕ) → ((a : ℕ) → c ≡ save_read a → s.cart.chip.flash.id ≡ false) → accepted c d (with_part p s) ≡ outcome_with p (accepted c d s)
  unfolding accepted load read_save bit_in state_bytes
  accepted-same (save_read a) d n =
      ap (λ (v : ℕ). outcome (v ∷ []) (with_part p s) d) (read_same s.cart.kind s.cart.part s.cart.chip.flash s.memory a (n a refl))
  accepted-same (save_write a v) d n = ap (λ (t : State). outcome [] t d) (write_same s.cart.kind a v)
  accepted-same (eeprom_begin_dma words) d n = refl
  accepted-same (eeprom_write v) d n = refl
  accepted-same eeprom_read d n = refl
  accepted-same (load_save f) d n = refl
  accepted-same save_data d n =
      ap (λ (f : Option (List ℕ)). exported f d (with_part p s)) (file-same s.cart.kind) ∙ export-same (file_of s.cart.kind s) d
  accepted-same chip_state d n = refl
  accepted-same take_save_dirty d n = refl

  either_same : (b : Bool) (x y : Outcome) → cond b (outcome_with p x) (outcome_with p y) ≡ outcome_with p (cond b x y)
  either_same true x y = refl
  either_same false x y = refl

  unseen : (c : Call) (d : List ℕ) → part_fits p s.cart.kind ≡ part_fits s.cart.part s.cart.kind
      → ((a : ℕ) → c ≡ save_read a → s.cart.chip.flash.id ≡ false) → step c d (with_part p s) ≡ outcome_with p (step c d s)
  unfolding step
  unseen c d e n =
      rw (questions-same c d (allowed_same e), accepted-same c d n) (either_same (eqb (asked (questions c d s)) 0) (counted s (accepted c d s)) _)

pub part-kept : PartKept
part-kept =
    record {
      opened = λ image part memory tallies h. ap (λ (o : Outcome). o.next.cart.part) (opened image part memory tallies h) ∙ fresh-part image (part_of part);
      stays = λ c d s. step_keeps (Same s) (same-chip s) (same_memory s) c d s refl;
      restored = λ b s. restore-keeps (Same s) (same-chip s) (same_memory s) b s refl;
      imported = λ f s. import-keeps (Same s) (same-chip s) (same_memory s) f s refl;
      unseen = λ p c d s. unseen p s c d;
    }
