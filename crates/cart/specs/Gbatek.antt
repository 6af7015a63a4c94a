-- What the machine makes of GBATEK's commands, from every valid record with memory and tallies of its kind's lengths.
use Rattle.std.specs.Prelude.{◌≡◌, Bool, true, false, cond, List, [], ◌∷◌, ◌++◌, map, ℕ, ◌+◌, ◌*◌, ◌%◌, ◌<◌, eqb, length, get_or, set, replicate}
use Rattle.std.proofs.Math.Pow.{are_bytes}
use Rattle.lists.specs.Lists.{digits, with_part}
use Rattle.kind.specs.declared.SaveType.{SaveType}
use Rattle.kind.specs.declared.SaveType.TheVariants.{Sram, Flash64, Flash128}
use Rattle.counts.specs.Tallies.{Words}
use Rattle.kind.specs.Kind.{memory_size, tally_count, uses_eeprom}
use Rattle.part.specs.declared.Part.{Part}
use Rattle.part.specs.declared.Part.TheVariants.{Usual, Sst64, Macronix64, Panasonic64, Sanyo128, Macronix128}
use Rattle.flash.specs.Gbatek as flash
use Rattle.flash.specs.Gbatek.{Write, At, gbatek, bus, written, program, place_of, base}
use Rattle.eeprom.specs.declared.EepromPhase.TheVariants.{Opcode}
use Rattle.eeprom.specs.Eeprom.{begin_dma, serial}
use Rattle.eeprom.specs.Gbatek as eeprom
use Rattle.eeprom.specs.Gbatek.{Width, Writing, Addressing, bits, bits_of_bytes, read_out, fed, drawn, drained, block_of}
use Rattle.cart.specs.Record.{State, record_allowed, from_bytes}
use Rattle.cart.specs.Calls.{Call, save_read, save_write, eeprom_begin_dma, eeprom_write, eeprom_read}
use Rattle.cart.specs.Calls.{state_with, flash_of, with_flash, eeprom_of, with_eeprom, with_chip, step, restore, import_save}

-- calls, one after the other: the first refusal or 0, all that they answer, and the state after the last
pub record Ran : Type 0 where
  pub refusal : ℕ
  pub given : List ℕ
  pub last : State

abbrev pub and_then : ℕ → List ℕ → Ran → Ran
and_then refusal given r =
    record { refusal = cond (eqb refusal 0) r.refusal refusal; given = given ++ r.given; last = r.last }

unfoldable pub calls : List Call → State → Ran
calls [] s = record { refusal = 0; given = []; last = s }
calls (c ∷ cs) s = let o = step c [] s in and_then o.refusal o.given (calls cs o.next)

-- all accepted
abbrev pub ran : List ℕ → State → Ran
ran given s = record { refusal = 0; given = given; last = s }

-- questions 2, 3 and 16 are answered yes: a valid record, a memory of its kind's length, and as many tallies as the
-- kind has
pub record Usable (s : State) : Type 0 where
  pub valid : record_allowed s.cart ≡ true
  pub memory_ok : length s.memory ≡ memory_size s.cart.kind
  pub tallies_ok : length s.tallies ≡ tally_count s.cart.kind
  pub words : Words s.tallies

-- SRAM: "32 KiB at 0E000000h..0E007FFFh, 8-bit bus, plain byte reads and writes"; document 01: "address mod 32,768"
abbrev pub sram_place : ℕ → ℕ
sram_place a = a % 32768

pub record SramBytes (s : State) : Type 0 where
  pub write_read : (a v c : ℕ)
      → calls (save_write a v ∷ save_read c ∷ []) s
      ≡ ran (cond (eqb (sram_place c) (sram_place a)) v (get_or s.memory (sram_place c) 0) ∷ [])
      (state_with s true s.cart.chip (set s.memory (sram_place a) v))
  -- GBATEK's own addresses
  pub byte_at : (a : ℕ) → a < 32768 → sram_place (bus a) ≡ a

abbrev pub SramClaim : Type 0
SramClaim = (s : State) → Usable s → s.cart.kind ≡ Sram → SramBytes s

-- flash: "ID words, device in the high byte, maker in the low: 64K SST D4BFh, Macronix 1CC2h, Panasonic 1B32h .. 128K
-- Sanyo 1362h, Macronix 09C2h". Kind, part, maker and device; the usual parts are Panasonic's and Sanyo's
pub data FlashPart : SaveType → Part → ℕ → ℕ → Type 0 where
  sst64_k : FlashPart Flash64 Sst64 0xbf 0xd4
  macronix64_k : FlashPart Flash64 Macronix64 0xc2 0x1c
  panasonic64_k : FlashPart Flash64 Panasonic64 0x32 0x1b
  usual64_k : FlashPart Flash64 Usual 0x32 0x1b
  sanyo128_k : FlashPart Flash128 Sanyo128 0x62 0x13
  macronix128_k : FlashPart Flash128 Macronix128 0xc2 0x09
  usual128_k : FlashPart Flash128 Usual 0x62 0x13

abbrev pub writes : List Write → List Call
writes = map (λ w. save_write w.address w.value)

-- every list of writes is accepted and does what it does to the chip; a byte read shows the memory or, in ID mode, the
-- maker at even addresses and the device at odd ones; where the chip awaits a command, `does` has what each command
-- does to it, and a read gives what the last write stored
pub record FlashCommands (maker device : ℕ) (s : State) : Type 0 where
  pub accepts : (ws : List Write) → calls (writes ws) s ≡ ran [] (with_flash s (written ws (flash_of s)))
  pub shows : s.cart.chip.flash.id ≡ false
      → (a : ℕ) → calls (save_read a ∷ []) s ≡ ran (get_or s.memory (place_of (flash_of s) a) 0 ∷ []) s
  pub identifies : s.cart.chip.flash.id ≡ true
      → (a : ℕ) → calls (save_read a ∷ []) s ≡ ran (cond (eqb (a % 2) 0) maker device ∷ []) s
  pub does : s.cart.chip.flash.state ≡ 0 → flash.Commands (flash_of s) × flash.GbatekCommands (flash_of s)
  pub program_read : s.cart.chip.flash.state ≡ 0 → s.cart.chip.flash.id ≡ false
      → (t : At) (a v c : ℕ)
      → (calls (writes (program t a v) ++ (save_read c ∷ [])) s).given
      ≡ cond (eqb (place_of (flash_of s) c) (place_of (flash_of s) a)) v (get_or s.memory (place_of (flash_of s) c) 0) ∷ []
  -- at GBATEK's own addresses
  pub gbatek_read : s.cart.chip.flash.state ≡ 0 → s.cart.chip.flash.id ≡ false
      → (a v c : ℕ) → a < 65536 → c < 65536
      → (calls (writes (program gbatek (bus a) v) ++ (save_read (bus c) ∷ [])) s).given
      ≡ cond (eqb c a) v (get_or s.memory (base (flash_of s) + c) 0) ∷ []

abbrev pub FlashClaim : Type 0
FlashClaim =
    (maker device : ℕ) (s : State) → Usable s → FlashPart s.cart.kind s.cart.part maker device
    → FlashCommands maker device s

-- serial EEPROM: every list of halfwords in, and any number of bits out, is accepted and does what it does to the chip
pub record SerialBits (s : State) : Type 0 where
  pub accepts : (vs : List ℕ) → calls (map eeprom_write vs) s ≡ ran [] (with_eeprom s (fed vs (eeprom_of s)))
  pub gives : (n : ℕ) → calls (replicate n eeprom_read) s
      ≡ ran (drawn n s.cart.chip.eeprom s.memory) (with_chip s (drained n s.cart.chip.eeprom))

abbrev pub SerialBitsClaim : Type 0
SerialBitsClaim = (s : State) → Usable s → uses_eeprom s.cart.kind ≡ true → SerialBits s

-- a command by DMA: the announcement of its halfwords, then these; "68 bits come out"
abbrev pub write : ℕ → List ℕ → List Call
write w halfwords = eeprom_begin_dma (w + 67) ∷ map eeprom_write halfwords

abbrev pub read : ℕ → List ℕ → List Call
read w halfwords = (eeprom_begin_dma (w + 3) ∷ map eeprom_write halfwords) ++ replicate 68 eeprom_read

-- the state after a command: the flag, the halfwords told, the block named, the read place left, the memory
abbrev pub behind : State → Bool → ℕ → ℕ → ℕ → List ℕ → State
behind s dirty words block place memory =
    let e = begin_dma words s.cart.chip.eeprom in
    with_eeprom s (record { chip = serial e Opcode 0 block place 0; memory = memory; dirty = dirty })

-- the memory with a data word in a block
abbrev pub with_word : List ℕ → ℕ → ℕ → List ℕ
with_word m block word = with_part m (8 * block) (digits 256 8 word)

-- of a chip that awaits a command, at either width
pub record SerialCommands (w : ℕ) (s : State) : Type 0 where
  pub writes : (block word : ℕ) (vs : List ℕ) → Writing w block word vs
      → calls (write w vs) s
      ≡ ran []
      (behind s true (w + 67) (block % 1024) s.cart.chip.eeprom.place (with_word s.memory (block % 1024) word))
  pub reads : (block : ℕ) (vs : List ℕ) → Addressing w block vs
      → calls (read w vs) s
      ≡ ran (read_out (block_of s.memory (block % 1024)))
      (behind s s.cart.dirty (w + 3) (block % 1024) 0 s.memory)
  -- a read gives what the last write stored, and other blocks are untouched
  pub write_read : (block word other : ℕ) (vs us : List ℕ) → Writing w block word vs → Addressing w other us
      → (calls (write w vs ++ read w us) s).given
      ≡ replicate 4 0 ++ cond (eqb (block % 1024) (other % 1024)) (bits 64 word) (bits_of_bytes (block_of s.memory
      (other % 1024)))
  -- "reading then gives .. 1 when ready"
  pub ready : calls (eeprom_read ∷ []) s ≡ ran (1 ∷ []) s

abbrev pub SerialClaim : Type 0
SerialClaim =
    (w : ℕ) (s : State) → Width w → Usable s → uses_eeprom s.cart.kind ≡ true
    → eeprom.Idle s.cart.chip.eeprom → SerialCommands w s

-- a state that a list of calls reaches from a fresh cartridge
pub record Reached (s : State) : Type 0 where
  pub image : List ℕ
  pub part : ℕ
  pub memory : List ℕ
  pub tallies : List ℕ
  pub list : List Call
  pub opens : (from_bytes image part memory tallies).refusal ≡ 0
  pub leads : (calls list (from_bytes image part memory tallies).next).last ≡ s

-- its part is in GBATEK's list, or is the usual one
pub record Listed (s : State) : Type 0 where
  pub maker : ℕ
  pub device : ℕ
  pub is : FlashPart s.cart.kind s.cart.part maker device

-- where the claims above hold: each call, a restore and an import lead from a usable state to one; each flash kind's
-- part is listed; a reached state is usable, and where its serial chip has a count of 0, acc is 0
pub record UsableStates : Type 0 where
  pub stays : (c : Call) (d : List ℕ) (s : State) → Usable s → Usable (step c d s).next
  pub restored : (b : List ℕ) (s : State) → are_bytes b ≡ true → Usable s → Usable (restore b s).next
  pub imported : (f : List ℕ) (s : State) → Usable s → Usable (import_save f s).next
  pub listed64 : (s : State) → Usable s → s.cart.kind ≡ Flash64 → Listed s
  pub listed128 : (s : State) → Usable s → s.cart.kind ≡ Flash128 → Listed s
  pub reached : (s : State) → Reached s → Usable s
  pub acc0 : (s : State) → Reached s → s.cart.chip.eeprom.count ≡ 0 → s.cart.chip.eeprom.acc ≡ 0
