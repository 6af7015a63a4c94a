-- What a write can do to the flash chip, and what every write keeps of it. Assumes nothing.
use mathlib.Core.Path.{◌≡◌, refl}
use mathlib.Core.Bool.{Bool, true, false}
use Prim.Native.Nat.{ℕ, ◌*◌, ◌%◌, ◌≤◌, ◌<◌}
use native.Mathlib.Omega.{arith}
use lib.Dec.{eqb}
use Rattle.lists.proofs.Bools.{either}
use Rattle.memory.specs.declared.Store.TheVariants.{Nothing, Byte, Sector, Chip}
use Rattle.memory.specs.Memory.{Fits, stores}
use Rattle.flash.specs.declared.Flash.{Flash}
use Rattle.flash.specs.declared.FlashStep.{FlashStep}
use Rattle.flash.specs.Flash.{state_allowed, place, step_to, to, storing, unlock, command, erase, flash_write}

-- the ways that a write of v can go whose place is p
pub data Way (f : Flash) (p v : ℕ) : FlashStep → Type 0 where
  state : (s : ℕ) → state_allowed s ≡ true → Way f p v (to f s)
  id : (on : Bool) → Way f p v (step_to 0 f.bank on Nothing)
  bank : Way f p v (step_to 0 (v % 2) f.id Nothing)
  byte : Way f p v (storing f (Byte p v))
  sector : Way f p v (storing f (Sector p))
  chip : Way f p v (storing f Chip)

pub way : (f : Flash) (n a v : ℕ) → Way f (place f n a) v (flash_write f n a v)
unfolding flash_write unlock command erase state_allowed
way f n a v =
    let P : FlashStep → Type 0 = Way f (place f n a) v in
    either P (eqb f.state 0) (either P (eqb v 0xaa) (state 1 refl) (state 0 refl))
    (either P (eqb f.state 1) (either P (eqb v 0x55) (state 2 refl) (state 0 refl))
    (either P (eqb f.state 2)
    (either P (eqb v 0x90) (id true)
    (either P (eqb v 0xf0) (id false)
    (either P (eqb v 0xa0) (state 4 refl) (either P (eqb v 0xb0) (state 5 refl) (either P (eqb v 0x80) (state 6 refl) (state 0 refl))))))
    (either P (eqb f.state 4) byte
    (either P (eqb f.state 5) bank
    (either P (eqb f.state 6) (either P (eqb v 0xaa) (state 7 refl) (state 0 refl))
    (either P (eqb f.state 7) (either P (eqb v 0x55) (state 8 refl) (state 0 refl))
    (either P (eqb f.state 8) (either P (eqb v 0x30) sector (either P (eqb v 0x10) chip (state 0 refl)))
    (state 0 refl))))))))

-- each field is one that document 01's table allows
pub record Sound (f : Flash) : Type 0 where
  pub state_ok : state_allowed f.state ≡ true
  pub bank_ok : f.bank ≤ 1

idle : (b : ℕ) (i : Bool) → b ≤ 1 → Sound (record { state = 0; bank = b; id = i })
unfolding state_allowed
idle b i h = record { state_ok = refl; bank_ok = h }

pub sound-way : {f : Flash} {p v : ℕ} {t : FlashStep} → Sound f → Way f p v t → Sound t.flash
sound-way s (state k e) = record { state_ok = e; bank_ok = s.bank_ok }
sound-way {f} s (id on) = idle f.bank on s.bank_ok
sound-way {f} {p} {v} s bank = idle (v % 2) f.id (omega arith)
sound-way {f} s byte = idle f.bank f.id s.bank_ok
sound-way {f} s sector = idle f.bank f.id s.bank_ok
sound-way {f} s chip = idle f.bank f.id s.bank_ok

-- what is stored lies within a chip of k sectors, at most 32
pub fits-way : {f : Flash} {p v : ℕ} {t : FlashStep} (n k : ℕ) → n ≡ k * 4096 → k ≤ 32 → p < n → Way f p v t → Fits t.store n
fits-way n k e g h (state s a) = tt
fits-way n k e g h (id on) = tt
fits-way n k e g h bank = tt
fits-way n k e g h byte = h
fits-way n k e g h sector = omega arith
fits-way n k e g h chip = omega arith

-- a step that stores does not change ID mode
pub id-way : {f : Flash} {p v : ℕ} {t : FlashStep} → Way f p v t → stores t.store ≡ true → t.flash.id ≡ f.id
id-way (state s a) h = refl
id-way (id on) h = let z : ◌≡◌ {A = Bool} false true = h in cc
id-way bank h = refl
id-way byte h = refl
id-way sector h = refl
id-way chip h = refl
