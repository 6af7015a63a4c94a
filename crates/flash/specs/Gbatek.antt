-- GBATEK, Backup Flash ROM: each command as the byte writes that make it.
use Rattle.std.specs.Prelude.{◌≡◌, Bool, true, false, cond, ◌&&◌, List, [], ◌∷◌, ◌++◌, ℕ, ◌+◌, ◌*◌, ◌/◌, ◌%◌, ◌≤◌, ◌<◌, leb, ltb, eqb, length, get_or, set}
use Rattle.lists.specs.Lists.{with_part}
use Rattle.memory.specs.Memory.{Held, erased}
use Rattle.flash.specs.declared.Flash.{Flash}
use Rattle.flash.specs.Flash.{place, flash_read, write_byte}

pub record Write : Type 0 where
  pub address : ℕ
  pub value : ℕ

abbrev pub write : ℕ → ℕ → Write
write a v = record { address = a; value = v }

-- The addresses of a command's three bytes. The claims below are for all of them: "command addresses aren't looked at"
-- (document 01). GBATEK's own: "AAh to 0E005555h, 55h to 0E002AAAh, then the command byte to 0E005555h".
pub record At : Type 0 where
  pub first : ℕ
  pub second : ℕ
  pub third : ℕ

abbrev pub gbatek_at : ℕ → At
gbatek_at third = record { first = 0x0e005555; second = 0x0e002aaa; third = third }

abbrev pub gbatek : At
gbatek = gbatek_at 0x0e005555

abbrev pub command_of : At → ℕ → List Write
command_of t c = write t.first 0xaa ∷ write t.second 0x55 ∷ write t.third c ∷ []

-- "90h: ID mode .. F0h in the same form ends it"
abbrev pub enter_id : At → List Write
enter_id t = command_of t 0x90

abbrev pub leave_id : At → List Write
leave_id t = command_of t 0xf0

-- "80h, then AAh, 55h again, then 10h at 0E005555h: erase the whole chip; or 30h at 0E00n000h: erase the 4 KiB
-- sector n": the third address of u is in the sector
abbrev pub erase_chip : At → At → List Write
erase_chip t u = command_of t 0x80 ++ command_of u 0x10

abbrev pub erase_sector : At → At → List Write
erase_sector t u = command_of t 0x80 ++ command_of u 0x30

-- case (i): "AAh, 55h, 80h, 30h", without the second unlock
abbrev pub half_erase : At → ℕ → List Write
half_erase t a = command_of t 0x80 ++ (write a 0x30 ∷ [])

-- "A0h, then one byte at its address: program it"
abbrev pub program : At → ℕ → ℕ → List Write
program t a v = command_of t 0xa0 ++ (write a v ∷ [])

-- "B0h, then the bank number 0 or 1 at 0E000000h"
abbrev pub select_bank : At → ℕ → ℕ → List Write
select_bank t a b = command_of t 0xb0 ++ (write a b ∷ [])

-- writes, one after the other
unfoldable pub written : List Write → Held Flash → Held Flash
written [] x = x
written (w ∷ ws) x = written ws (write_byte x w.address w.value)

-- a chip of 64 or 128 KiB between two commands
pub data ChipBytes : ℕ → Type 0 where
  bytes64_k : ChipBytes 65536
  bytes128_k : ChipBytes 131072

pub record Idle (x : Held Flash) : Type 0 where
  pub size : ChipBytes (length x.memory)
  pub state0 : x.chip.state ≡ 0
  pub bank_ok : x.chip.bank ≤ 1

abbrev pub idle_chip : ℕ → Bool → List ℕ → Bool → Held Flash
idle_chip bank id memory dirty =
    record { chip = record { state = 0; bank = bank; id = id }; memory = memory; dirty = dirty }

-- the byte that an address reaches, and where its sector begins
abbrev pub place_of : Held Flash → ℕ → ℕ
place_of x a = place x.chip (length x.memory) a

abbrev pub sector_of : Held Flash → ℕ → ℕ
sector_of x a = place_of x a / 4096 * 4096

-- what each command does, at any addresses
pub record Commands (x : Held Flash) : Type 0 where
  pub enters_id : (t : At) → written (enter_id t) x ≡ idle_chip x.chip.bank true x.memory x.dirty
  pub leaves_id : (t : At) → written (leave_id t) x ≡ idle_chip x.chip.bank false x.memory x.dirty
  pub erases : (t u : At)
      → written (erase_chip t u) x ≡ idle_chip x.chip.bank x.chip.id (erased (length x.memory)) true
  pub erases_sector : (t u : At)
      → written (erase_sector t u) x
      ≡ idle_chip x.chip.bank x.chip.id (with_part x.memory (sector_of x u.third) (erased 4096)) true
  -- the sector's bytes, and no other
  pub sector_bytes : (t u : At) (p : ℕ)
      → get_or (written (erase_sector t u) x).memory p 0
      ≡ cond (leb (sector_of x u.third) p && ltb p (sector_of x u.third + 4096)) 0xff (get_or x.memory p 0)
  pub spares : (t : At) (a : ℕ)
      → written (half_erase t a) x ≡ idle_chip x.chip.bank x.chip.id x.memory x.dirty
  pub programs : (t : At) (a v : ℕ)
      → written (program t a v) x ≡ idle_chip x.chip.bank x.chip.id (set x.memory (place_of x a) v) true
  pub selects : (t : At) (a b : ℕ)
      → written (select_bank t a b) x ≡ idle_chip (b % 2) x.chip.id x.memory x.dirty
  pub shows : (word a : ℕ) → x.chip.id ≡ false
      → flash_read word x.chip x.memory a ≡ get_or x.memory (place_of x a) 0
  -- the maker at every even address, the device at every odd one
  pub identifies : (maker device a : ℕ) → maker < 256 → x.chip.id ≡ true
      → flash_read (maker + 256 * device) x.chip x.memory a ≡ cond (eqb (a % 2) 0) maker device

-- "which 64 KiB reads, writes and erases reach": where they begin
abbrev pub base : Held Flash → ℕ
base x = 65536 * x.chip.bank % length x.memory

abbrev pub bus : ℕ → ℕ
bus a = 0x0e000000 + a

-- the same at GBATEK's own addresses
pub record GbatekCommands (x : Held Flash) : Type 0 where
  pub byte_at : (a : ℕ) → a < 65536 → place_of x (bus a) ≡ base x + a
  pub sector_at : (n : ℕ) → n < 16 → sector_of x (bus (4096 * n)) ≡ base x + 4096 * n
  pub erases_sector : (n : ℕ) → n < 16
      → written (erase_sector gbatek (gbatek_at (bus (4096 * n)))) x
      ≡ idle_chip x.chip.bank x.chip.id (with_part x.memory (base x + 4096 * n) (erased 4096)) true
  pub programs : (a v : ℕ) → a < 65536
      → written (program gbatek (bus a) v) x
      ≡ idle_chip x.chip.bank x.chip.id (set x.memory (base x + a) v) true
  pub selects : (b : ℕ) → b < 2
      → written (select_bank gbatek (bus 0) b) x ≡ idle_chip b x.chip.id x.memory x.dirty
  -- "0E000000h reads the maker and 0E000001h the device" of the ID word
  pub identifies : (maker device : ℕ) → maker < 256 → x.chip.id ≡ true
      → (flash_read (maker + 256 * device) x.chip x.memory (bus 0) ≡ maker)
      × (flash_read (maker + 256 * device) x.chip x.memory (bus 1) ≡ device)

abbrev pub FlashChipClaim : Type 0
FlashChipClaim = (x : Held Flash) → Idle x → Commands x × GbatekCommands x
