-- What a `?` passes on. Assumes nothing.
use Rattle.std.proofs.Common.{◌≡◌, ◌≢◌, ◌<◌, Result, Ok, Err, refl, sym, ap, arith}
use lib.Dec.{eqb}
use borrow.Author.Tests.{ne_eqb}
use Rattle.std.specs.Result.{IsErrAnd, is_ok}
use Rattle.refusal.specs.declared.Refusal.{Refusal}
use Rattle.refusal.specs.declared.Refusal.TheVariants.{ImageLength, Record, MemoryLength, NoEeprom, DmaTooLate, StateLength, StatePhase}
use Rattle.refusal.specs.declared.Refusal.TheVariants.{StateFlash, StateSwitches, StateWidth, StateRanges, StateCount, DestinationLength, FileLength, Part, TallyCount}
use Rattle.refusal.specs.declared.Refusal.TheVariants.{StateLayout, StateFlag, UpperHalf, ByteWrite, NoList}
use Rattle.refusal.specs.Refusals.{refusal_number, number_of}

pub passed : {A : Type 0} (t : Result A Refusal) (e : Refusal) → IsErrAnd t (λ f. f ≡ e) → number_of t ≡ refusal_number e
passed (Ok x) e h = absurd h
passed (Err f) e h = ap refusal_number h

-- no refusal has the number that stands for none
positive : (e : Refusal) → 0 < refusal_number e
positive ImageLength = omega arith
positive Record = omega arith
positive MemoryLength = omega arith
positive NoEeprom = omega arith
positive DmaTooLate = omega arith
positive StateLength = omega arith
positive StatePhase = omega arith
positive StateFlash = omega arith
positive StateSwitches = omega arith
positive StateWidth = omega arith
positive StateRanges = omega arith
positive StateCount = omega arith
positive DestinationLength = omega arith
positive FileLength = omega arith
positive Part = omega arith
positive TallyCount = omega arith
positive StateLayout = omega arith
positive StateFlag = omega arith
positive UpperHalf = omega arith
positive ByteWrite = omega arith
positive NoList = omega arith

pub not-0 : (e : Refusal) → refusal_number e ≢ 0
not-0 e z = omega (arith, positive e)

-- nothing is refused
pub ok-is : {A : Type 0} (t : Result A Refusal) → is_ok t ≡ eqb (number_of t) 0
ok-is (Ok x) = refl
ok-is (Err e) = sym (ne_eqb (refusal_number e) 0 (not-0 e))
