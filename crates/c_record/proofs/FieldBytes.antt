-- Fields read from a record's bytes and written among them. Assumes nothing.
use mathlib.Core.Path.{◌≡◌, refl, sym, ap, ◌∙◌}
use mathlib.Core.Bool.{Bool, true, false, ◌||◌}
use mathlib.Core.List.{List, [], ◌∷◌, ◌++◌}
use Prim.Native.Nat.{ℕ, ◌/◌, ◌%◌}
use lib.Dec.{eqb}
use native.Mathlib.Omega.{arith}
use lib.ListN.{get_or, set}
use lib.Seq.{set-get_or}
use Rattle.lists.specs.Lists.{low_first, bit}
use Rattle.lists.proofs.Digits.{low-bytes}
use Rattle.kind.specs.Kind.{kind_number}
use Rattle.part.specs.Part.{part_number}
use Rattle.flash.specs.declared.Flash.{Flash}
use Rattle.eeprom.specs.declared.Eeprom.{Eeprom}
use Rattle.eeprom.specs.Eeprom.{told, serial, ended}
use Rattle.cart.specs.declared.Cartridge.{Cartridge}
use Rattle.chip_record.specs.ChipState.{phase_number, chip_bytes, chip_of}
use Rattle.cart.specs.Replies.{chip_record, cart_with}
use Rattle.c_record.specs.RecordBytes.{record_bytes, cart_of, Valid}
use Rattle.c_record.specs.Fields.{with_flash, with_id, with_width, with_large, with_shift, with_place, with_ended, with_serial}
use Rattle.c_record.proofs.RecordBytes.{chip-at}

pub flash-read : (r : List ℕ) → record { state = get_or r 6 0; bank = get_or r 7 0; id = eqb (get_or r 8 0) 1 } ≡ (cart_of r).chip.flash
unfolding cart_of chip_of
flash-read r = λ i. record { state = sym (chip-at r 0 (omega arith)) i; bank = sym (chip-at r 1 (omega arith)) i; id = eqb (sym (chip-at r 2 (omega arith)) i) 1 }

-- the flag bytes of a valid record: the ID mode, which `with_flash` leaves, and large
pub id-byte : (r : List ℕ) → Valid r → (sets : Bool) (f : Flash) → get_or (with_flash r sets f) 8 0 ≡ bit (cart_of r).chip.flash.id
unfolding record_bytes chip_bytes low_first
id-byte r v sets f = ap (λ (l : List ℕ). get_or (with_flash l sets f) 8 0) (sym v.back)

-- a chip whose ID mode stays is put by `with_flash` alone
pub id-stays : (r : List ℕ) → Valid r → (sets : Bool) (f : Flash) → f.id ≡ (cart_of r).chip.flash.id → with_flash r sets f ≡ with_id (with_flash r sets f) f.id
id-stays r v sets f e =
    let l : List ℕ = with_flash r sets f in
    sym (set-get_or l 8 0) ∙ ap (λ (n : ℕ). set l 8 n) (id-byte r v sets f ∙ ap bit (sym e))

pub large-byte : (r : List ℕ) → Valid r → get_or r 10 0 ≡ bit (cart_of r).chip.eeprom.large
unfolding record_bytes chip_bytes low_first
large-byte r v = ap (λ (l : List ℕ). get_or l 10 0) (sym v.back)

-- a record whose flash chip, or EEPROM, is another one
abbrev pub flashed : Cartridge → Bool → Flash → Cartridge
flashed c dirty f = cart_with c dirty (chip_record f c.chip.eeprom)

abbrev pub serialed : Cartridge → Bool → Eeprom → Cartridge
serialed c dirty e = cart_with c dirty (chip_record c.chip.flash e)

-- what is written among a record's bytes is the record that has it
module _ (c : Cartridge) where
  pub put-flash : (sets : Bool) (f : Flash) → with_id (with_flash (record_bytes c) sets f) f.id ≡ record_bytes (flashed c (sets || c.dirty) f)
  unfolding record_bytes low_first chip_bytes
  put-flash true f = refl
  put-flash false f = refl

  pub put-width : (width : ℕ) (large : Bool) → with_width (record_bytes c) width large ≡ record_bytes (serialed c c.dirty (told width large c.chip.eeprom))
  unfolding record_bytes low_first chip_bytes
  put-width width large = refl

  pub put-large : (large : Bool) → with_large (record_bytes c) large ≡ record_bytes (serialed c c.dirty (told c.chip.eeprom.width large c.chip.eeprom))
  unfolding record_bytes low_first chip_bytes
  put-large large = refl

  pub put-place : (place : ℕ)
      → let e = c.chip.eeprom in
      with_place (record_bytes c) place ≡ record_bytes (serialed c c.dirty (serial e e.phase e.count e.block place e.acc))
  unfolding record_bytes low_first chip_bytes
  put-place place = refl

  pub put_ended : with_ended (record_bytes c) ≡ record_bytes (serialed c c.dirty (ended c.chip.eeprom))
  unfolding record_bytes low_first chip_bytes
  put_ended = refl

  -- the bytes but for acc's
  abbrev spelled : ℕ → ℕ → Bool → ℕ → ℕ → ℕ → ℕ → ℕ → List ℕ → List ℕ
  spelled dirty width large phase count low high place acc =
      low_first 4 c.len
      ++ (kind_number c.kind ∷ dirty ∷ c.chip.flash.state ∷ c.chip.flash.bank ∷ bit c.chip.flash.id ∷ width ∷ bit large ∷ phase ∷ count ∷ low ∷ high ∷ place ∷ (acc ++ (part_number c.part ∷ [])))

  pub put-shift : (count acc : ℕ)
      → let e = c.chip.eeprom in
      with_shift (record_bytes c) count acc ≡ record_bytes (serialed c c.dirty (serial e e.phase count e.block e.place acc))
  unfolding record_bytes low_first chip_bytes
  put-shift count acc =
      let e = c.chip.eeprom in
      ap (spelled (bit c.dirty) e.width e.large (phase_number e.phase) count (e.block % 256) (e.block / 256) e.place) (sym (low-bytes acc))

  pub put-serial : (sets : Bool) (e : Eeprom) → with_serial (record_bytes c) sets e ≡ record_bytes (serialed c (sets || c.dirty) e)
  unfolding record_bytes low_first chip_bytes
  put-serial true e = ap (spelled 1 e.width e.large (phase_number e.phase) e.count (e.block % 256) (e.block / 256) e.place) (sym (low-bytes e.acc))
  put-serial false e = ap (spelled (bit c.dirty) e.width e.large (phase_number e.phase) e.count (e.block % 256) (e.block / 256) e.place) (sym (low-bytes e.acc))
