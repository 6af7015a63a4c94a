-- The flash chip. Document 01, "The machine", Bytes.
use Rattle.std.specs.Prelude.{Bool, true, false, cond, ◌&&◌, ◌||◌, List, ℕ, ◌+◌, ◌*◌, ◌/◌, ◌%◌, leb, eqb, length, get_or}
use Rattle.memory.specs.declared.Store.{Store}
use Rattle.memory.specs.declared.Store.TheVariants.{Nothing, Byte, Sector, Chip}
use Rattle.memory.specs.Memory.{Held, applied}
use Rattle.flash.specs.declared.Flash.{Flash}
use Rattle.flash.specs.declared.FlashStep.{FlashStep}

-- flash state: "0–2, 4–8"
unfoldable pub state_allowed : ℕ → Bool
state_allowed state = leb state 2 || leb 4 state && leb state 8

-- "A = (bank × 65,536 + address mod 65,536) mod memory length"
unfoldable pub place : Flash → ℕ → ℕ → ℕ
place f n address = (f.bank * 65536 + address % 65536) % n

-- "In ID mode an even address reads 32h (Flash64) or 62h (Flash128), an odd one 1Bh or 13h": the bytes of the
-- part's ID word
unfoldable pub id_byte : ℕ → ℕ → ℕ
id_byte word address = cond (eqb (address % 2) 0) (word % 256) (word / 256)

unfoldable pub shown_byte : Flash → List ℕ → ℕ → ℕ
shown_byte f m address = get_or m (place f (length m) address) 0

abbrev pub flash_read : ℕ → Flash → List ℕ → ℕ → ℕ
flash_read word f m address = cond f.id (id_byte word address) (shown_byte f m address)

-- the bytes of a command
abbrev pub unlock_first : ℕ
unlock_first = 0xaa

abbrev pub unlock_second : ℕ
unlock_second = 0x55

abbrev pub id_on : ℕ
id_on = 0x90

abbrev pub id_off : ℕ
id_off = 0xf0

abbrev pub programs : ℕ
programs = 0xa0

abbrev pub selects_bank : ℕ
selects_bank = 0xb0

abbrev pub erases : ℕ
erases = 0x80

abbrev pub erases_sector : ℕ
erases_sector = 0x30

abbrev pub erases_chip : ℕ
erases_chip = 0x10

abbrev pub step_to : ℕ → ℕ → Bool → Store → FlashStep
step_to state bank id store = record { flash = record { state = state; bank = bank; id = id }; store = store }

abbrev pub to : Flash → ℕ → FlashStep
to f state = step_to state f.bank f.id Nothing

abbrev pub storing : Flash → Store → FlashStep
storing f store = step_to 0 f.bank f.id store

-- "AAh to 1 .. Any other value to 0"
unfoldable pub unlock : Flash → ℕ → ℕ → ℕ → FlashStep
unlock f v wanted next = cond (eqb v wanted) (to f next) (to f 0)

-- "2: 90h ID on, 0; F0h ID off, 0; A0h to 4; B0h to 5; 80h to 6; else 0"
unfoldable pub command : Flash → ℕ → FlashStep
command f v =
    cond (eqb v id_on) (step_to 0 f.bank true Nothing)
    (cond (eqb v id_off) (step_to 0 f.bank false Nothing)
    (cond (eqb v programs) (to f 4) (cond (eqb v selects_bank) (to f 5) (cond (eqb v erases) (to f 6) (to f 0)))))

-- "8: 30h fills A's 4,096-byte sector with FFh, 10h the whole chip .. then 0, as after all other values"
unfoldable pub erase : Flash → ℕ → ℕ → FlashStep
erase f a v = cond (eqb v erases_sector) (storing f (Sector a)) (cond (eqb v erases_chip) (storing f Chip) (to f 0))

-- "Flash writes by state; command addresses aren't looked at": the memory has n bytes
unfoldable pub flash_write : Flash → ℕ → ℕ → ℕ → FlashStep
flash_write f n address v =
    cond (eqb f.state 0) (unlock f v unlock_first 1)
    (cond (eqb f.state 1) (unlock f v unlock_second 2)
    (cond (eqb f.state 2) (command f v)
    (cond (eqb f.state 4) (storing f (Byte (place f n address) v))
    (cond (eqb f.state 5) (step_to 0 (v % 2) f.id Nothing)
    (cond (eqb f.state 6) (unlock f v unlock_first 7)
    (cond (eqb f.state 7) (unlock f v unlock_second 8)
    (cond (eqb f.state 8) (erase f (place f n address) v)
    (to f 0))))))))

-- a byte written to the chip with its memory
unfoldable pub write_byte : Held Flash → ℕ → ℕ → Held Flash
write_byte x address v =
    let t = flash_write x.chip (length x.memory) address v in
    applied t.flash t.store x
