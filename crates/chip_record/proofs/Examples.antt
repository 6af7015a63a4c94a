-- The questions about a state, computed of the definitions. Assumes nothing.
use mathlib.Core.Path.{◌≡◌, refl}
use mathlib.Core.Bool.{true, false}
use mathlib.Core.List.{List, [], ◌∷◌, ◌++◌}
use Prim.Native.Nat.{ℕ}
use lib.ListN.{replicate}
use Rattle.lists.specs.Questions.{asked}
use Rattle.flash.specs.Flash.{state_allowed}
use Rattle.eeprom.specs.Eeprom.{width_allowed, w}
use Rattle.chip_record.specs.ChipState.{phase_of, field_questions}
use Rattle.chip_record.specs.States.{flag_from, state_questions}

-- 18 bytes with this phase and count, and 20 with flag and layout besides
abbrev old : ℕ → ℕ → List ℕ
old phase count = replicate 5 0 ++ (phase ∷ count ∷ replicate 11 0)

abbrev state : ℕ → ℕ → ℕ → ℕ → List ℕ
state phase count flag layout = old phase count ++ (flag ∷ layout ∷ [])

record Refusals : Type 0 where
  lengths : (asked (state_questions []) ≡ 6) × (asked (state_questions (replicate 17 0)) ≡ 6) × (asked (state_questions (replicate 19 0)) ≡ 6) × (asked (state_questions (replicate 21 0)) ≡ 6)
  both : (asked (state_questions (old 0 0)) ≡ 0) × (asked (state_questions (state 0 0 0 2)) ≡ 0) × (asked (state_questions (state 0 0 1 2)) ≡ 0)
  -- "17 when byte 19 is not 2, asked before 7", also where byte 18 is wrong
  layout : (asked (state_questions (state 0 0 0 1)) ≡ 17) × (asked (state_questions (state 0 0 0 0)) ≡ 17) × (asked (state_questions (state 7 0 2 3)) ≡ 17) × (asked (state_questions (state 7 0 2 2)) ≡ 7)
  -- "18 when byte 18 is above 1, asked after 12"
  flag : (asked (state_questions (state 0 0 2 2)) ≡ 18) × (asked (state_questions (state 0 0 255 2)) ≡ 18) × (asked (state_questions (state 3 64 2 2)) ≡ 12)

refusals : Refusals
unfolding state_allowed width_allowed w phase_of field_questions
refusals =
    record {
      lengths = (refl, refl, refl, refl);
      both = (refl, refl, refl);
      layout = (refl, refl, refl, refl);
      flag = (refl, refl, refl);
    }

-- 18 bytes leave the flag, 20 bring theirs
record Flags : Type 0 where
  leaves : (flag_from (old 0 0) true ≡ true) × (flag_from (old 0 0) false ≡ false)
  brings : (flag_from (state 0 0 0 2) true ≡ false) × (flag_from (state 0 0 1 2) false ≡ true)

flags : Flags
flags = record { leaves = (refl, refl); brings = (refl, refl) }
