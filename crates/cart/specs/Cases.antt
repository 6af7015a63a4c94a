-- Document 01, "Cases": the twelve that are marked.
use Rattle.std.specs.Prelude.{◌≡◌, Bool, true, false, Some, None, List, [], ◌∷◌, ◌++◌, ℕ, replicate}
use Rattle.lists.specs.Lists.{ascii}
use Rattle.image.specs.Image.{header_checksum}
use Rattle.kind.specs.declared.SaveType.TheVariants.{Sram}
use Rattle.file_sizes.specs.SaveFit.{save_fit}
use Rattle.flash.specs.Gbatek.{At, half_erase}
use Rattle.cart.specs.Record.{State, from_bytes}
use Rattle.cart.specs.Calls.{eeprom_begin_dma, eeprom_write, load_save, step, restore}
use Rattle.cart.specs.Gbatek.{Usable, calls, FlashPart, writes}

-- a fresh cartridge without and with an EEPROM
abbrev pub plain : State
plain = (from_bytes (replicate 192 0) 0 [] []).next

abbrev pub eeprom : State
eeprom = (from_bytes (ascii "EEPROM_V" ++ replicate 184 0) 0 (replicate 8192 0) (replicate 2 0)).next

-- 18 bytes, of which flash state, large, phase, count and the block's high byte are given and the others are 0
abbrev pub chip : ℕ → ℕ → ℕ → ℕ → ℕ → List ℕ
chip state large phase count high =
    state ∷ 0 ∷ 0 ∷ 0 ∷ large ∷ phase ∷ count ∷ 0 ∷ high ∷ replicate 9 0

abbrev pub restored : List ℕ → ℕ
restored b = (restore b plain).refusal

abbrev pub dma9 : List ℕ → ℕ
dma9 b = (step (eeprom_begin_dma 9) [] (restore b plain).next).refusal

abbrev pub large_behind : ℕ → Bool
large_behind n = (step (load_save (replicate n 0)) [] eeprom).next.cart.chip.eeprom.large

pub record Cases : Type 0 where
  pub a : (save_fit Sram 32784 ≡ Some 32768) × (save_fit Sram 65552 ≡ Some 32768) × (save_fit Sram 32783 ≡ None)
  pub b : ((header_checksum (replicate 192 0)).value ≡ 0xe7) × ((header_checksum (replicate 192 1)).value ≡ 0xca)
  pub c : (restored (chip 0 0 1 5 0) ≡ 0) × (restored (chip 0 0 1 6 0) ≡ 12)
  pub d : (restored (chip 0 1 1 13 0) ≡ 0) × (restored (chip 0 1 1 14 0) ≡ 12)
  pub e : (restored (chip 0 0 3 64 0) ≡ 12) × (restored (chip 0 0 3 65 0) ≡ 11)
  pub f : restored (chip 3 0 7 0 0) ≡ 7
  pub g : restored (chip 0 0 0 0 4) ≡ 11
  pub h : (dma9 (chip 0 1 2 5 0) ≡ 0) × (dma9 (chip 0 1 2 6 0) ≡ 5)
  pub i : (s : State) (maker device : ℕ) → Usable s → FlashPart s.cart.kind s.cart.part maker device
      → s.cart.chip.flash.state ≡ 0
      → (t : At) (a : ℕ) → (calls (writes (half_erase t a)) s).last.memory ≡ s.memory
  pub j : (calls (eeprom_write 0 ∷ eeprom_write 1 ∷ []) eeprom).last ≡ eeprom
  pub k : (large_behind 512 ≡ false) × (large_behind 513 ≡ true)
  pub l : (from_bytes (replicate 191 0) 0 [] []).refusal ≡ 1
