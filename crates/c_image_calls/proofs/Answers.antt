-- Answers by number. Assumes nothing.
use mathlib.Core.Path.{◌≡◌, ap, ◌∙◌}
use mathlib.Core.Bool.{true, false, ◌||◌}
use mathlib.Core.List.{List}
use Prim.Native.Nat.{ℕ, ◌≤◌}
use native.Mathlib.Omega.{arith}
use lib.Dec.{leb}
use lib.ListN.{length}
use Rattle.out_params.specs.Places.{answered_at, kind_answer, title_at, told}
use Rattle.lists.proofs.Bools.{either}
use Rattle.image.specs.Image.{Answer}
use Rattle.image.specs.Image.{image_length}
use Rattle.kind.specs.declared.SaveType.{SaveType}
use Rattle.kind.specs.declared.SaveType.TheVariants.{None, Sram, Flash64, Flash128, Eeprom512, Eeprom8k}
use Rattle.kind.specs.Kind.{kind_number, detect_save_type}
use Rattle.kind.proofs.Sizes.{memory-small}
use Rattle.std.specs.Prelude.{Option, unwrap_or}
use Rattle.file_sizes.specs.SaveFit.{chip_size, eeprom_fit, save_fit, save_size, save_fit_of, save_size_of}

pub titled : (a : Answer) (place : ℕ) {d : List ℕ} {t : Answer × List ℕ} {x p : ℕ} → (x, p) ≡ told a.refusal a.value place → (a, d) ≡ t → (x, d, p) ≡ title_at t place
titled a place {d} u e = ap (λ (l : ℕ × ℕ). (l.0, d, l.1)) u ∙ ap (λ (t : Answer × List ℕ). title_at t place) e

abbrev Small : Option ℕ → Type 0
Small fit = unwrap_or fit 0 ≤ 131072

fit-le : (k : SaveType) (n : ℕ) → Small (save_fit k n)
unfolding save_fit eeprom_fit
fit-le None n = omega arith
fit-le Sram n = either Small (chip_size 32768 n || chip_size 65536 n) (omega arith) (omega arith)
fit-le Flash64 n = either Small (chip_size 65536 n) (omega arith) (omega arith)
fit-le Flash128 n = either Small (chip_size 131072 n) (omega arith) (omega arith)
fit-le Eeprom512 n = either Small (chip_size 512 n) (omega arith) (either Small (chip_size 8192 n) (omega arith) (omega arith))
fit-le Eeprom8k n = either Small (chip_size 512 n) (omega arith) (either Small (chip_size 8192 n) (omega arith) (omega arith))

pub fit_of_le : (image : List ℕ) (n : ℕ) → unwrap_or (save_fit_of image n) 0 ≤ 131072
unfolding save_fit_of
fit_of_le image n = either Small (leb 192 (length image)) (fit-le (detect_save_type image) n) (omega arith)

pub size_of_le : (image : List ℕ) → save_size_of image ≤ 131072
unfolding save_size_of save_size
size_of_le image = either (λ n. n ≤ 131072) (leb 192 (length image)) (memory-small (detect_save_type image)) (omega arith)

-- the kind of an image
pub kind-no : (image : List ℕ) (place : ℕ) → image_length (length image) ≡ false → (1, place) ≡ answered_at (kind_answer image) place
unfolding kind_answer
kind-no image place h = rw h

pub kind-yes : (image : List ℕ) (place : ℕ) {n : ℕ} → image_length (length image) ≡ true → n ≡ kind_number (detect_save_type image) → (0, n) ≡ answered_at (kind_answer image) place
unfolding kind_answer
kind-yes image place h e = rw (h, e)
