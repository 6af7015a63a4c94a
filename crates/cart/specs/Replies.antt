-- How a call returns what the machine answers: a refusal's number or 0, one number or 0, how many places of the memory
-- it changed, and the record; each buffer is left as the machine leaves it.
use Rattle.std.specs.Prelude.{Bool, List, [], ◌∷◌, ℕ, Result, Ok, Err}
use Rattle.flash.specs.declared.Flash.{Flash}
use Rattle.eeprom.specs.declared.Eeprom.{Eeprom}
use Rattle.chip_record.specs.declared.ChipRecord.{ChipRecord}
use Rattle.cart.specs.declared.Cartridge.{Cartridge}
use Rattle.refusal.specs.declared.Refusal.{Refusal}
use Rattle.refusal.specs.Refusals.{refusal_number}
use Rattle.cart.specs.declared.Accepted.{Accepted}
use Rattle.lists.specs.Lists.{bit}
use Rattle.cart.specs.Record.{State, Outcome}

-- a record with its memory and tallies; a call that is passed no tallies is passed none
abbrev pub tallied : Cartridge → List ℕ → List ℕ → State
tallied cart memory tallies = record { cart = cart; memory = memory; tallies = tallies }

abbrev pub state : Cartridge → List ℕ → State
state cart memory = tallied cart memory []

abbrev pub chip_record : Flash → Eeprom → ChipRecord
chip_record flash eeprom = record { flash = flash; eeprom = eeprom }

abbrev pub cart_with : Cartridge → Bool → ChipRecord → Cartridge
cart_with c dirty chip = record { len = c.len; kind = c.kind; part = c.part; dirty = dirty; chip = chip }

pub record Reply : Type 0 where
  pub refusal : ℕ
  pub value : ℕ
  pub changed : ℕ
  pub cart : Cartridge

-- every reply is made here
abbrev pub reply : ℕ → ℕ → ℕ → Cartridge → Reply
reply refusal value changed cart = record { refusal = refusal; value = value; changed = changed; cart = cart }

-- of a call that stores nothing, and of one that stores
abbrev pub done : ℕ → Cartridge → Reply
done value cart = reply 0 value 0 cart

abbrev pub stored : ℕ → Cartridge → Reply
stored changed cart = reply 0 0 changed cart

abbrev pub refused : ℕ → Cartridge → Reply
refused number cart = reply number 0 0 cart

-- the reply that a result is, of a call that was passed the record
abbrev pub accepted_reply : Accepted → Reply
accepted_reply a = reply 0 a.value a.changed a.cart

abbrev pub reply_from : Cartridge → Result Accepted Refusal → Reply
reply_from cart (Ok a) = accepted_reply a
reply_from cart (Err r) = refused (refusal_number r) cart

-- the number that a call answers; 0 stands for none
abbrev pub first : List ℕ → ℕ
first [] = 0
first (n ∷ l) = n

abbrev pub reply_of : Outcome → Reply
reply_of o = reply o.refusal (first o.given) o.changed o.next.cart

-- with the memory, with memory and tallies, and with the destination that the call was passed
abbrev pub replied : Outcome → Reply × List ℕ
replied o = (reply_of o, o.next.memory)

abbrev pub store_replied : Outcome → Reply × List ℕ × List ℕ
store_replied o = (reply_of o, o.next.memory, o.next.tallies)

abbrev pub export_replied : Outcome → Reply × List ℕ
export_replied o = (reply_of o, o.destination)

-- of `take_save_dirty`
abbrev pub flag_replied : Outcome → Reply × List ℕ
flag_replied o = (reply o.refusal (bit o.flag) o.changed o.next.cart, o.next.memory)
