-- File sizes around each limit, computed of the definitions. Assumes nothing.
use mathlib.Core.Path.{◌≡◌, refl}
use mathlib.Core.Bool.{true, false}
use mathlib.Core.List.{List, ◌++◌}
use Prim.Native.Nat.{ℕ}
use lib.ListN.{replicate}
use Rattle.lists.specs.Lists.{ascii}
use Rattle.kind.specs.declared.SaveType.TheVariants as kinds
use Rattle.kind.specs.declared.SaveType.TheVariants.{Sram, Flash64, Flash128, Eeprom512}
use Rattle.kind.specs.Kind.{begins, stands, detect_save_type}
use Rattle.std.specs.Prelude.{Some, None}
use Rattle.file_sizes.specs.SaveFit.{chip_size, eeprom_fit, save_fit, save_size, save_fit_of, save_size_of}
use Rattle.file_sizes.specs.Doubled.{doubled}

-- an image of n bytes with a marker at its front
abbrev marked : ℕ → List ℕ
marked n = ascii "SRAM_V" ++ replicate n 0

record Files : Type 0 where
  sram : (save_fit Sram 32784 ≡ Some 32768) × (save_fit Sram 65536 ≡ Some 32768) × (save_fit Sram 65553 ≡ None)
  flash64 : (save_fit Flash64 65552 ≡ Some 65536) × (save_fit Flash64 65551 ≡ None)
  flash128 : (save_fit Flash128 131072 ≡ Some 131072) × (save_fit Flash128 65536 ≡ None)
  eeprom : (save_fit Eeprom512 528 ≡ Some 512) × (save_fit Eeprom512 8208 ≡ Some 8192) × (save_fit Eeprom512 513 ≡ None)
  none : (save_fit kinds.None 0 ≡ None) × (save_size kinds.None ≡ 0) × (save_size Sram ≡ 32768)
  twice : (doubled Sram 65536 ≡ true) × (doubled Sram 65552 ≡ true) × (doubled Sram 65551 ≡ false)
  once : (doubled Sram 32784 ≡ false) × (doubled Flash64 65536 ≡ false)
  under : (save_fit_of (marked 185) 32768 ≡ None) × (save_size_of (marked 185) ≡ 0)
  whole : (save_fit_of (marked 186) 32768 ≡ Some 32768) × (save_size_of (marked 186) ≡ 32768)

files : Files
unfolding begins stands detect_save_type chip_size eeprom_fit save_fit save_size save_fit_of save_size_of
files =
    record {
      sram = (refl, refl, refl);
      flash64 = (refl, refl);
      flash128 = (refl, refl);
      eeprom = (refl, refl, refl);
      none = (refl, refl, refl);
      twice = (refl, refl, refl);
      once = (refl, refl);
      under = (refl, refl);
      whole = (refl, refl);
    }
