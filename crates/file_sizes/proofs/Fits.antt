-- The tables of file sizes, by kind. Assumes nothing.
use mathlib.Core.Path.{◌≡◌, subst}
use mathlib.Core.Bool.{true, ◌||◌}
use mathlib.Core.List.{List}
use Prim.Native.Nat.{ℕ, ◌+◌, ◌≤◌}
use native.Mathlib.Omega.{arith}
use lib.Dec.{eqb}
use lib.ListN.{length, length-take}
use borrow.Author.Tests.{eqb-true}
use Rattle.lists.proofs.Bools.{split, either, cases}
use Rattle.kind.specs.declared.SaveType.{SaveType}
use Rattle.kind.specs.declared.SaveType.TheVariants as kinds
use Rattle.kind.specs.declared.SaveType.TheVariants.{Sram, Flash64, Flash128, Eeprom512, Eeprom8k}
use Rattle.std.specs.Prelude.{Option, Some, None}
use Rattle.file_sizes.specs.SaveFit.{chip_size, eeprom_fit, save_fit, kept_by, kept_part}

-- no more is kept than the file has
pub chip-least : (n file : ℕ) → chip_size n file ≡ true → n ≤ file
unfolding chip_size
chip-least n file e =
    cases (eqb file n) (λ t. omega (arith, eqb-true file n t)) (λ t. omega (arith, eqb-true file (n + 16) (rw t at e)))

abbrev Within : ℕ → Option ℕ → Type 0
Within file (Some n) = n ≤ file
Within file None = Unit

eeprom-within : (file : ℕ) → Within file (eeprom_fit file)
unfolding eeprom_fit
eeprom-within file =
    split (Within file) (chip_size 512 file) (λ e. chip-least 512 file e)
    (λ e. split (Within file) (chip_size 8192 file) (λ t. chip-least 8192 file t) (λ t. tt))

fit-within : (kind : SaveType) (file : ℕ) → Within file (save_fit kind file)
unfolding save_fit eeprom_fit
fit-within kinds.None file = tt
fit-within Sram file =
    split (Within file) (chip_size 32768 file || chip_size 65536 file)
    (λ e. cases (chip_size 32768 file) (λ t. chip-least 32768 file t) (λ t. omega (arith, chip-least 65536 file (rw t at e)))) (λ e. tt)
fit-within Flash64 file = split (Within file) (chip_size 65536 file) (λ e. chip-least 65536 file e) (λ e. tt)
fit-within Flash128 file = split (Within file) (chip_size 131072 file) (λ e. chip-least 131072 file e) (λ e. tt)
fit-within Eeprom512 file = eeprom-within file
fit-within Eeprom8k file = eeprom-within file

pub keeps_le : (kind : SaveType) (file n : ℕ) → save_fit kind file ≡ Some n → n ≤ file
keeps_le kind file n e = subst (Within file) e (fit-within kind file)

-- and no more than the largest chip has
abbrev AtMost : Option ℕ → Type 0
AtMost (Some n) = n ≤ 131072
AtMost None = Unit

eeprom-most : (file : ℕ) → AtMost (eeprom_fit file)
unfolding eeprom_fit
eeprom-most file = either AtMost (chip_size 512 file) (omega arith) (either AtMost (chip_size 8192 file) (omega arith) tt)

fit-most : (kind : SaveType) (file : ℕ) → AtMost (save_fit kind file)
unfolding save_fit
fit-most kinds.None file = tt
fit-most Sram file = either AtMost (chip_size 32768 file || chip_size 65536 file) (omega arith) tt
fit-most Flash64 file = either AtMost (chip_size 65536 file) (omega arith) tt
fit-most Flash128 file = either AtMost (chip_size 131072 file) (omega arith) tt
fit-most Eeprom512 file = eeprom-most file
fit-most Eeprom8k file = eeprom-most file

by_most : (fit : Option ℕ) (file : List ℕ) → AtMost fit → length (kept_by fit file) ≤ 131072
by_most (Some n) file h = simp length-take (omega arith)
by_most None file h = omega arith

pub kept-most : (kind : SaveType) (file : List ℕ) → length (kept_part kind file) ≤ 131072
unfolding kept_part
kept-most kind file = by_most (save_fit kind (length file)) file (fit-most kind (length file))
