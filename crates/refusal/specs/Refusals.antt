-- The refusals by number. Document 01, "Questions at the door"; 15 to 19 are document 02's, FEh and FFh a list's.
use Rattle.std.specs.Prelude.{ℕ, Result, Ok, Err}
use Rattle.refusal.specs.declared.Refusal.{Refusal}
use Rattle.refusal.specs.declared.Refusal.TheVariants.{ImageLength, Record, MemoryLength, NoEeprom, DmaTooLate, StateLength, StatePhase}
use Rattle.refusal.specs.declared.Refusal.TheVariants.{StateFlash, StateSwitches, StateWidth, StateRanges, StateCount, DestinationLength, FileLength, Part, TallyCount}
use Rattle.refusal.specs.declared.Refusal.TheVariants.{StateLayout, StateFlag, UpperHalf, ByteWrite, NoList}

abbrev pub refusal_number : Refusal → ℕ
refusal_number ImageLength = 1
refusal_number Record = 2
refusal_number MemoryLength = 3
refusal_number NoEeprom = 4
refusal_number DmaTooLate = 5
refusal_number StateLength = 6
refusal_number StatePhase = 7
refusal_number StateFlash = 8
refusal_number StateSwitches = 9
refusal_number StateWidth = 10
refusal_number StateRanges = 11
refusal_number StateCount = 12
refusal_number DestinationLength = 13
refusal_number FileLength = 14
refusal_number Part = 15
refusal_number TallyCount = 16
refusal_number StateLayout = 17
refusal_number StateFlag = 18
refusal_number UpperHalf = 19
refusal_number ByteWrite = 0xfe
refusal_number NoList = 0xff

-- the number of the first question answered no, and 0 where there is none
abbrev pub number_of : {A : Type 0} → Result A Refusal → ℕ
number_of (Ok x) = 0
number_of (Err r) = refusal_number r
