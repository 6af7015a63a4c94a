-- A byte read and a byte written, by the kind. Document 01, "The machine", Bytes (`save_read`, `save_write`).
use Rattle.std.specs.Prelude.{Bool, true, false, List, [], ℕ, ◌%◌, length, get_or}
use Rattle.memory.specs.declared.Store.{Store}
use Rattle.memory.specs.declared.Store.TheVariants.{Nothing, Byte}
use Rattle.memory.specs.Memory.{Held, stores, changed}
use Rattle.kind.specs.declared.SaveType.{SaveType}
use Rattle.kind.specs.declared.SaveType.TheVariants.{None, Sram, Flash64, Flash128, Eeprom512, Eeprom8k}
use Rattle.part.specs.declared.Part.{Part}
use Rattle.part.specs.Part.{id_word}
use Rattle.flash.specs.declared.Flash.{Flash}
use Rattle.flash.specs.declared.FlashStep.{FlashStep}
use Rattle.flash.specs.Flash.{flash_read, flash_write}
use Rattle.byte_step.specs.declared.ByteStep.{ByteStep}

-- "Sram: address mod 32,768 .. None: reads FFh .. EEPROM kinds: address mod 8,192"
unfoldable pub read_byte : SaveType → Part → Flash → List ℕ → ℕ → ℕ
read_byte None p f m a = 0xff
read_byte Sram p f m a = get_or m (a % 32768) 0
read_byte Flash64 p f m a = flash_read (id_word p Flash64) f m a
read_byte Flash128 p f m a = flash_read (id_word p Flash128) f m a
read_byte Eeprom512 p f m a = get_or m (a % 8192) 0
read_byte Eeprom8k p f m a = get_or m (a % 8192) 0

-- what a write leads to: the flash chip, whether the changed flag is set, and what is stored
abbrev pub step_to : Flash → Bool → Store → ByteStep
step_to flash sets store = record { flash = flash; sets = sets; store = store }

abbrev pub of_flash : FlashStep → ByteStep
of_flash t = step_to t.flash (stores t.store) t.store

-- "a write sets the flag. None: .. writes nothing. EEPROM kinds: .. flag not set."; the memory has n bytes
unfoldable pub write_step : SaveType → Flash → ℕ → ℕ → ℕ → ByteStep
write_step None f n a v = step_to f false Nothing
write_step Sram f n a v = step_to f true (Byte (a % 32768) v)
write_step Flash64 f n a v = of_flash (flash_write f n a v)
write_step Flash128 f n a v = of_flash (flash_write f n a v)
write_step Eeprom512 f n a v = step_to f false (Byte (a % 8192) v)
write_step Eeprom8k f n a v = step_to f false (Byte (a % 8192) v)

-- the chip with its memory and the flag after it
abbrev pub after_write : SaveType → Held Flash → ℕ → ℕ → Held Flash
after_write kind x a v =
    let t = write_step kind x.chip (length x.memory) a v in
    changed t.flash t.store [] t.sets x
