-- `save_fit` keeps 0 bytes of no file that it takes. Assumes nothing.
use mathlib.Core.Path.{◌≡◌, refl}
use mathlib.Core.Bool.{◌||◌}
use Prim.Native.Nat.{ℕ}
use lib.Dec.{ltb, leb}
use lib.ListN.{length}
use Rattle.lists.proofs.Bools.{either}
use Rattle.kind.specs.declared.SaveType.{SaveType}
use Rattle.kind.specs.declared.SaveType.TheVariants.{None, Sram, Flash64, Flash128, Eeprom512, Eeprom8k}
use Rattle.kind.specs.Kind.{detect_save_type}
use Rattle.std.specs.Prelude.{Option}
use Rattle.file_sizes.specs.SaveFit.{chip_size, eeprom_fit, save_fit, save_fit_of, taken}
use Rattle.out_params.specs.Places.{kept_length, fit_answer}
use Rattle.out_params.specs.Claims.{NoneIsZero}

abbrev Told : Option ℕ → Type 0
Told fit = ltb 0 (kept_length fit) ≡ taken fit

fit-told : (k : SaveType) (n : ℕ) → Told (save_fit k n)
unfolding save_fit eeprom_fit
fit-told None n = refl
fit-told Sram n = either Told (chip_size 32768 n || chip_size 65536 n) refl refl
fit-told Flash64 n = either Told (chip_size 65536 n) refl refl
fit-told Flash128 n = either Told (chip_size 131072 n) refl refl
fit-told Eeprom512 n = either Told (chip_size 512 n) refl (either Told (chip_size 8192 n) refl refl)
fit-told Eeprom8k n = either Told (chip_size 512 n) refl (either Told (chip_size 8192 n) refl refl)

pub none_is_zero : NoneIsZero
unfolding save_fit_of fit_answer
none_is_zero image n = either Told (leb 192 (length image)) (fit-told (detect_save_type image) n) refl
