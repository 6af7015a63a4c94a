-- What is claimed of a record's bytes.
use Rattle.std.specs.Prelude.{◌≡◌, true, List, ℕ, ◌^◌, ◌<◌, replicate}
use Rattle.std.proofs.Math.Pow.{are_bytes}
use Rattle.kind.specs.declared.SaveType.TheVariants.{None}
use Rattle.part.specs.declared.Part.TheVariants.{Usual}
use Rattle.cart.specs.declared.Cartridge.{Cartridge}
use Rattle.cart.specs.Record.{record_allowed, fresh_cart}
use Rattle.c_record.specs.RecordBytes.{record_size, record_bytes, cart_of, is_record}

pub record RecordAndBytes : Type 0 where
  -- an allowed record's bytes are a record, and read back to it
  pub written : (c : Cartridge) → record_allowed c ≡ true → c.chip.eeprom.acc < 2 ^ 64
      → (is_record (record_bytes c) ≡ true) × (cart_of (record_bytes c) ≡ c)
  -- bytes that are a record are an allowed one, and are written back unchanged
  pub read : (r : List ℕ) → are_bytes r ≡ true → is_record r ≡ true
      → (record_allowed (cart_of r) ≡ true) × (record_bytes (cart_of r) ≡ r)
  -- "one of kind None with all else 0", which is no record
  pub nothing : record_bytes (fresh_cart 0 None Usual) ≡ replicate record_size 0
