-- A bit in by `shift` and `turn`, a bit out by `draw`. Assumes nothing.
use mathlib.Core.Path.{◌≡◌, refl}
use mathlib.Core.Bool.{true}
use Prim.Native.Nat.{ℕ, ◌+◌, ◌<◌}
use native.Mathlib.Omega.{arith}
use lib.Dec.{eqb}
use borrow.Author.Tests.{eq-eqb}
use Rattle.eeprom.specs.declared.EepromPhase.{EepromPhase}
use Rattle.eeprom.specs.declared.EepromPhase.TheVariants.{Opcode, ReadAddress, WriteAddress, WriteData, ReadStop, WriteStop, Reading}
use Rattle.eeprom.specs.declared.Eeprom.{Eeprom}
use Rattle.eeprom.specs.Eeprom.{w_of, count_limit, shift_in, shifted, turned, write_bit, drawn_by, drawn_from, after_read}

-- in the stop phases and in Reading the count is 0, and a bit is the last of a number of one bit
one_bit : (n : ℕ) → n < 1 → eqb (n + 1) 1 ≡ true
one_bit n h = eq-eqb (n + 1) 1 (omega arith)

by-phase : (p : EepromPhase) (e : Eeprom) (b : ℕ) → e.phase ≡ p → e.count < count_limit e.phase (w_of e)
    → shifted e (λ acc. turned e acc b) (shift_in e.acc e.count (count_limit e.phase (w_of e)) b) ≡ write_bit e b
unfolding shift_in turned write_bit
by-phase Opcode e b q h = rw q
by-phase ReadAddress e b q h = rw q
by-phase WriteAddress e b q h = rw q
by-phase WriteData e b q h = rw q
by-phase ReadStop e b q h = rw (q, one_bit e.count (rw q at h))
by-phase WriteStop e b q h = rw (q, one_bit e.count (rw q at h))
by-phase Reading e b q h = rw (q, one_bit e.count (rw q at h))

pub by_turn : (e : Eeprom) (b : ℕ) → e.count < count_limit e.phase (w_of e)
    → shifted e (λ acc. turned e acc b) (shift_in e.acc e.count (count_limit e.phase (w_of e)) b) ≡ write_bit e b
by_turn e b h = by-phase e.phase e b refl h

pub after-drawn : (e : Eeprom) → drawn_from e (drawn_by e.phase e.place) ≡ after_read e
unfolding after_read
after-drawn e = refl
