-- `save_size` is the largest size that `save_fit` keeps. Assumes nothing.
use mathlib.Core.Path.{◌≡◌, refl}
use mathlib.Core.Logic.{◌≢◌}
use mathlib.Core.Bool.{◌||◌}
use Prim.Native.Nat.{ℕ}
use native.Mathlib.Omega.{arith}
use Rattle.lists.proofs.Bools.{split}
use Rattle.kind.specs.declared.SaveType.{SaveType}
use Rattle.kind.specs.declared.SaveType.TheVariants as kinds
use Rattle.kind.specs.declared.SaveType.TheVariants.{Sram, Flash64, Flash128, Eeprom512, Eeprom8k}
use Rattle.std.specs.Prelude.{Some}
use Rattle.file_sizes.specs.SaveFit.{chip_size, eeprom_fit, save_fit, save_size}
use Rattle.file_sizes.specs.Claims.{KeepsAtMost, LargestKept}

eeprom : (file : ℕ) → KeepsAtMost 8192 (eeprom_fit file)
unfolding eeprom_fit
eeprom file =
    split (KeepsAtMost 8192) (chip_size 512 file) (λ e. omega arith)
    (λ e. split (KeepsAtMost 8192) (chip_size 8192 file) (λ f. omega arith) (λ f. tt))

fits : (kind : SaveType) (file : ℕ) → KeepsAtMost (save_size kind) (save_fit kind file)
unfolding save_fit save_size
fits kinds.None file = tt
fits Sram file = split (KeepsAtMost 32768) (chip_size 32768 file || chip_size 65536 file) (λ e. omega arith) (λ e. tt)
fits Flash64 file = split (KeepsAtMost 65536) (chip_size 65536 file) (λ e. omega arith) (λ e. tt)
fits Flash128 file = split (KeepsAtMost 131072) (chip_size 131072 file) (λ e. omega arith) (λ e. tt)
fits Eeprom512 file = eeprom file
fits Eeprom8k file = eeprom file

pub largest-kept : LargestKept
unfolding chip_size eeprom_fit save_fit save_size
largest-kept = record { at_most = fits; kept = full; none = λ file. (refl, refl) }
  where
    full : (kind : SaveType) → kind ≢ kinds.None → save_fit kind (save_size kind) ≡ Some (save_size kind)
    full kinds.None h = absurd (h refl)
    full Sram h = refl
    full Flash64 h = refl
    full Flash128 h = refl
    full Eeprom512 h = refl
    full Eeprom8k h = refl
