-- What a written byte stores lies within the memory. Assumes nothing.
use mathlib.Core.Path.{◌≡◌, refl}
use mathlib.Core.Bool.{true}
use Prim.Native.Nat.{ℕ, ◌/◌, ◌%◌, ◌≤◌, ◌<◌}
use native.Mathlib.Nat.{mod-lt}
use native.Mathlib.Omega.{arith}
use Rattle.memory.specs.Memory.{Fits, stores}
use Rattle.kind.specs.declared.SaveType.{SaveType}
use Rattle.kind.specs.declared.SaveType.TheVariants.{None, Sram, Flash64, Flash128, Eeprom512, Eeprom8k}
use Rattle.kind.specs.Kind.{memory_size}
use Rattle.flash.specs.declared.Flash.{Flash}
use Rattle.flash.specs.Flash.{place, flash_write}
use Rattle.flash.proofs.Sound.{way, fits-way, id-way}
use Rattle.byte_step.specs.ByteStep.{write_step}

place-lt : (f : Flash) (n a : ℕ) → 0 < n → place f n a < n
unfolding place
place-lt f n a h = mod-lt _ h

flash-fits : (f : Flash) (n a v : ℕ) → 0 < n → n ≤ 131072 → n % 4096 ≡ 0 → Fits (flash_write f n a v).store n
flash-fits f n a v h g e = fits-way n (n / 4096) (omega arith) (omega arith) (place-lt f n a h) (way f n a v)

pub step_fits : (k : SaveType) (f : Flash) (n a v : ℕ) → n ≡ memory_size k → Fits (write_step k f n a v).store n
unfolding write_step
step_fits None f n a v e = tt
step_fits Sram f n a v e = omega (arith, e)
step_fits Flash64 f n a v e = flash-fits f n a v (omega (arith, e)) (omega (arith, e)) (omega (arith, e))
step_fits Flash128 f n a v e = flash-fits f n a v (omega (arith, e)) (omega (arith, e)) (omega (arith, e))
step_fits Eeprom512 f n a v e = omega (arith, e)
step_fits Eeprom8k f n a v e = omega (arith, e)

-- and a step that stores does not change ID mode
pub step-id : (k : SaveType) (f : Flash) (n a v : ℕ) → stores (write_step k f n a v).store ≡ true → (write_step k f n a v).flash.id ≡ f.id
unfolding write_step
step-id None f n a v h = refl
step-id Sram f n a v h = refl
step-id Flash64 f n a v h = id-way (way f n a v) h
step-id Flash128 f n a v h = id-way (way f n a v) h
step-id Eeprom512 f n a v h = refl
step-id Eeprom8k f n a v h = refl
