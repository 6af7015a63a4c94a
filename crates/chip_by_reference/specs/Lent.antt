-- The serial bit in with the chip record apart. Document 01: "the serial bit in also comes as one thin call on a chip
-- record lent to be changed, its other answers those of the plain call".
use Rattle.std.specs.Prelude.{Bool, List, [], ℕ, Result, Ok, Err}
use Rattle.kind.specs.declared.SaveType.{SaveType}
use Rattle.part.specs.declared.Part.{Part}
use Rattle.chip_record.specs.declared.ChipRecord.{ChipRecord}
use Rattle.cart.specs.declared.Cartridge.{Cartridge}
use Rattle.cart.specs.Replies.{Reply}
use Rattle.cart.specs.Calls.{eeprom_write, step}
use Rattle.cart.specs.Replies.{tallied, reply, store_replied}
use Rattle.refusal.specs.declared.Refusal.{Refusal}
use Rattle.refusal.specs.Refusals.{refusal_number}
use Rattle.chip_by_reference.specs.declared.Lent.{Lent}

-- the number of a refusal or 0, how many bytes of the memory changed, and the changed flag after the call
pub record LentReply : Type 0 where
  pub refusal : ℕ
  pub changed : ℕ
  pub dirty : Bool

-- the reply that a result is, of a call that was passed the flag
abbrev pub lent_from : Bool → Result Lent Refusal → LentReply
lent_from dirty (Ok l) = record { refusal = 0; changed = l.changed; dirty = l.dirty }
lent_from dirty (Err r) = record { refusal = refusal_number r; changed = 0; dirty = dirty }

-- the record that the parameters make
abbrev pub cart_from : ℕ → SaveType → Part → Bool → ChipRecord → Cartridge
cart_from len kind part dirty chip = record { len = len; kind = kind; part = part; dirty = dirty; chip = chip }

-- what the contract of `serial_calls::eeprom_write` says of it
abbrev pub plain_call : ℕ → SaveType → Part → Bool → ChipRecord → List ℕ → List ℕ → ℕ → Reply × List ℕ × List ℕ
plain_call len kind part dirty chip m ts v =
    store_replied (step (eeprom_write v) [] (tallied (cart_from len kind part dirty chip) m ts))

-- a reply, a memory and tallies, with the chip record apart
abbrev pub apart : Reply × List ℕ × List ℕ → LentReply × ChipRecord × List ℕ × List ℕ
apart p =
    let r : LentReply = record { refusal = p.0.refusal; changed = p.0.changed; dirty = p.0.cart.dirty } in
    (r, p.0.cart.chip, p.1, p.2)

-- and together again; the plain call's value is 0
abbrev pub together : ℕ → SaveType → Part → LentReply × ChipRecord × List ℕ × List ℕ → Reply × List ℕ × List ℕ
together len kind part p =
    (reply p.0.refusal 0 p.0.changed (cart_from len kind part p.0.dirty p.1), p.2, p.3)
