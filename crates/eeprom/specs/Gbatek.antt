-- GBATEK, Backup EEPROM: the serial commands as bit streams, for an address of w bits.
use Rattle.std.specs.Prelude.{◌≡◌, ◌≢◌, Bool, true, List, [], ◌∷◌, ◌++◌, map, ℕ, zero, suc, ◌+◌, ◌*◌, ◌%◌, ◌^◌, ◌≤◌, ◌<◌, length, take, drop, replicate}
use Rattle.lists.specs.Lists.{digits, with_part}
use Rattle.memory.specs.Memory.{Held}
use Rattle.eeprom.specs.declared.Eeprom.{Eeprom}
use Rattle.eeprom.specs.declared.EepromPhase.TheVariants.{Opcode, Reading}
use Rattle.eeprom.specs.Eeprom.{w_of, begin_dma, serial, write_bit, bit_in, read_bit, after_read}

-- "the address (6 or 14 bits, highest first)", "64 data bits highest first"
abbrev pub bits : ℕ → ℕ → List ℕ
bits n x = digits 2 n x

-- "Set address for reading: bits 1 1, the address .., bit 0. So 9 or 17 halfwords.", with the last bit given
unfoldable pub set_address : ℕ → ℕ → ℕ → List ℕ
set_address w block last = (1 ∷ 1 ∷ []) ++ (bits w block ++ (last ∷ []))

-- "Write: bits 1 0, the address, 64 data bits highest first, bit 0. So 73 or 81 halfwords.", likewise
unfoldable pub write_block : ℕ → ℕ → ℕ → ℕ → List ℕ
write_block w block word last = (1 ∷ 0 ∷ []) ++ (bits w block ++ (bits 64 word ++ (last ∷ [])))

-- "It hangs on bit 0 of the data bus": halfwords that carry bits, whatever else is in them
abbrev pub Carries : List ℕ → List ℕ → Type 0
Carries halfwords stream = map (λ v. v % 2) halfwords ≡ stream

-- halfwords that write a word to a block, and halfwords that set the address; the chip takes any last bit
pub record Writing (w block word : ℕ) (halfwords : List ℕ) : Type 0 where
  pub block_ok : block < 2 ^ w
  pub word_ok : word < 2 ^ 64
  pub last : ℕ
  pub carries : Carries halfwords (write_block w block word last)

pub record Addressing (w block : ℕ) (halfwords : List ℕ) : Type 0 where
  pub block_ok : block < 2 ^ w
  pub last : ℕ
  pub carries : Carries halfwords (set_address w block last)

-- "Read: 68 bits come out, 4 to ignore, then the 64 data bits, highest first.", of the eight bytes of a block
unfoldable pub bits_of_bytes : List ℕ → List ℕ
bits_of_bytes [] = []
bits_of_bytes (b ∷ s) = bits 8 b ++ bits_of_bytes s

unfoldable pub read_out : List ℕ → List ℕ
read_out block = replicate 4 0 ++ bits_of_bytes block

-- bits in, one after the other; n bits out, and the chip after them
unfoldable pub fed : List ℕ → Held Eeprom → Held Eeprom
fed [] x = x
fed (v ∷ vs) x = fed vs (bit_in x v)

unfoldable pub drawn : ℕ → Eeprom → List ℕ → List ℕ
drawn zero e m = []
drawn (suc n) e m = read_bit true e m ∷ drawn n (after_read e) m

unfoldable pub drained : ℕ → Eeprom → Eeprom
drained zero e = e
drained (suc n) e = drained n (after_read e)

-- a chip between two commands, and a chip with the memory m and the flag dirty. Calls leave acc 0 there; of an acc that
-- was restored, the opcode's two bits shift out the two highest
pub record Idle (e : Eeprom) : Type 0 where
  pub phase0 : e.phase ≡ Opcode
  pub count0 : e.count ≡ 0
  pub acc_ok : e.acc % 2 ^ 62 ≡ 0

abbrev pub held : Eeprom → List ℕ → Bool → Held Eeprom
held e m dirty = record { chip = e; memory = m; dirty = dirty }

-- "6 or 14 address bits"
pub data Width : ℕ → Type 0 where
  six : Width 6
  fourteen : Width 14

-- a chip at the start of a command, its read ended
abbrev pub restarted : Eeprom → Eeprom
restarted e = serial e Opcode 0 e.block 0 0

-- the eight bytes of a block
abbrev pub block_of : List ℕ → ℕ → List ℕ
block_of m k = take 8 (drop (8 * k) m)

-- what each command does to an idle chip whose address has w bits, and a DMA of its halfwords before it
pub record Commands (w : ℕ) (e : Eeprom) : Type 0 where
  pub writes : (block word : ℕ) (vs m : List ℕ) (dirty : Bool) → w_of e ≡ w → Writing w block word vs
      → fed vs (held e m dirty)
      ≡ held (serial e Opcode 0 (block % 1024) e.place 0) (with_part m (8 * (block % 1024)) (digits 256 8 word)) true
  pub addresses : (block : ℕ) (vs m : List ℕ) (dirty : Bool) → w_of e ≡ w → Addressing w block vs
      → fed vs (held e m dirty) ≡ held (serial e Reading 0 (block % 1024) 0 0) m dirty
  pub reads : (block : ℕ) (m : List ℕ) → 8 * (block % 1024) + 8 ≤ length m
      → drawn 68 (serial e Reading 0 (block % 1024) 0 0) m ≡ read_out (block_of m (block % 1024))
  pub ends : (block : ℕ) → drained 68 (serial e Reading 0 block 0 0) ≡ serial e Opcode 0 block 0 0
  pub announces_write : w_of (begin_dma (w + 67) e) ≡ w
  pub announces_read : w_of (begin_dma (w + 3) e) ≡ w
  pub write_length : (block word : ℕ) (vs : List ℕ) → Writing w block word vs → length vs ≡ w + 67
  pub address_length : (block : ℕ) (vs : List ℕ) → Addressing w block vs → length vs ≡ w + 3
  -- GBATEK's own halfwords, 0 and 1, with a last 0
  pub gbatek_write : (block word : ℕ) → block < 2 ^ w → word < 2 ^ 64
      → Writing w block word (write_block w block word 0)
  pub gbatek_address : (block : ℕ) → block < 2 ^ w → Addressing w block (set_address w block 0)

abbrev pub SerialChipClaim : Type 0
SerialChipClaim = (w : ℕ) (e : Eeprom) → Width w → Idle e → Commands w e

-- after any other acc the two bits are no opcode: they are lost, and the chip is idle
abbrev pub OpcodeLost : Type 0
OpcodeLost =
    (e : Eeprom) (a b : ℕ) (m : List ℕ) (dirty : Bool) → e.phase ≡ Opcode → e.count ≡ 0 → e.acc % 2 ^ 62 ≢ 0
    → fed (a ∷ b ∷ []) (held e m dirty) ≡ held (serial e Opcode 0 e.block e.place 0) m dirty

-- a bit that comes while a read is under way ends it, and counts as the first bit of a command
abbrev pub Abandons : Type 0
Abandons = (e : Eeprom) (b : ℕ) → e.phase ≡ Reading → write_bit e b ≡ write_bit (restarted e) b
