-- No save memory has more bytes than Flash128's, and each has a whole number of stretches. Assumes nothing.
use mathlib.Core.Path.{◌≡◌, refl}
use Prim.Native.Nat.{◌*◌, ◌≤◌}
use native.Mathlib.Omega.{arith}
use Rattle.kind.specs.declared.SaveType.{SaveType}
use Rattle.kind.specs.declared.SaveType.TheVariants.{None, Sram, Flash64, Flash128, Eeprom512, Eeprom8k}
use Rattle.kind.specs.Kind.{memory_size, tally_count}

pub memory-small : (kind : SaveType) → memory_size kind ≤ 131072
memory-small None = omega arith
memory-small Sram = omega arith
memory-small Flash64 = omega arith
memory-small Flash128 = omega arith
memory-small Eeprom512 = omega arith
memory-small Eeprom8k = omega arith

pub whole-stretches : (kind : SaveType) → memory_size kind ≡ 4096 * tally_count kind
whole-stretches None = refl
whole-stretches Sram = refl
whole-stretches Flash64 = refl
whole-stretches Flash128 = refl
whole-stretches Eeprom512 = refl
whole-stretches Eeprom8k = refl

pub tallies-few : (kind : SaveType) → tally_count kind ≤ 32
tallies-few None = omega arith
tallies-few Sram = omega arith
tallies-few Flash64 = omega arith
tallies-few Flash128 = omega arith
tallies-few Eeprom512 = omega arith
tallies-few Eeprom8k = omega arith
