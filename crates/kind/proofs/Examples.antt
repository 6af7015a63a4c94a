-- Small images and the kinds that they have, computed of the definition. Assumes nothing.
use mathlib.Core.Path.{◌≡◌, refl}
use mathlib.Core.List.{List, ◌++◌}
use Prim.Native.Nat.{ℕ}
use Prim.Native.String.{String}
use lib.ListN.{replicate}
use Rattle.lists.specs.Lists.{ascii}
use Rattle.kind.specs.declared.SaveType.TheVariants.{None, Sram, Flash64, Flash128, Eeprom512}
use Rattle.kind.specs.Kind.{begins, stands, detect_save_type}

-- n zeros, a text, k zeros
abbrev around : ℕ → String → ℕ → List ℕ
around n s k = replicate n 0 ++ (ascii s ++ replicate k 0)

record Kinds : Type 0 where
  none : detect_save_type (replicate 192 0) ≡ None
  first : detect_save_type (around 0 "SRAM_V" 186) ≡ Sram
  last : detect_save_type (around 186 "SRAM_V" 0) ≡ Sram
  short : detect_save_type (around 187 "SRAM_" 0) ≡ None
  twice : detect_save_type (around 100 "SRASRAM_V" 83) ≡ Sram
  flash : detect_save_type (around 0 "FLASH_V" 185) ≡ Flash64
  flash512 : detect_save_type (around 0 "FLASH512_V" 182) ≡ Flash64
  flash1_m : detect_save_type (around 0 "FLASH1M_V" 183) ≡ Flash128
  eeprom : detect_save_type (around 0 "EEPROM_V" 184) ≡ Eeprom512
  order : detect_save_type (around 0 "EEPROM_VFLASH1M_VFLASH_VSRAM_V" 162) ≡ Sram
  order64 : detect_save_type (around 0 "EEPROM_VFLASH1M_VFLASH512_V" 165) ≡ Flash64
  order128 : detect_save_type (around 0 "EEPROM_VFLASH1M_V" 175) ≡ Flash128
  code : detect_save_type (around 0 "EEPROM_V" 164 ++ around 0 "GBXP" 16) ≡ Sram
  code128 : detect_save_type (around 0 "SRAM_V" 166 ++ around 0 "GB4E" 16) ≡ Flash128
  ruby : detect_save_type (around 0xa0 "POKEMON RUBY" 20) ≡ Flash128
  rubies : detect_save_type (around 0xa0 "POKEMON RUBZ" 20) ≡ None

kinds : Kinds
unfolding begins stands detect_save_type
kinds =
    record {
      none = refl;
      first = refl;
      last = refl;
      short = refl;
      twice = refl;
      flash = refl;
      flash512 = refl;
      flash1_m = refl;
      eeprom = refl;
      order = refl;
      order64 = refl;
      order128 = refl;
      code = refl;
      code128 = refl;
      ruby = refl;
      rubies = refl;
    }
