-- Resuming without opening again: the file and the bytes of a cut, loaded and restored into an open cartridge.
use Rattle.std.specs.Prelude.{◌≡◌, Bool, true, false, ℕ, length}
use mathlib.Core.List.{List, Memᴰ}
use Rattle.kind.specs.Kind.{memory_size, uses_eeprom, detect_save_type}
use Rattle.part.specs.Part.{part_of}
use Rattle.cart.specs.Record.{State, record_allowed, from_bytes}
use Rattle.cart.specs.Calls.{Call, save_write, chip_with}
use Rattle.cart.specs.Stretches.{TalliesRight}
use Rattle.chip_record.specs.States.{Carried, eighteen, twenty}
use Rattle.cart.specs.Cut.{resumed, cut}
use Rattle.cart.specs.Gbatek.{calls}

-- a cartridge of the image with the part, whatever its chip, its memory and its flag hold; its tallies are the memory's
pub record Open (image : List ℕ) (part : ℕ) (t : State) : Type 0 where
  pub len_is : t.cart.len ≡ length image
  pub kind_is : t.cart.kind ≡ detect_save_type image
  pub part_is : t.cart.part ≡ part_of part
  pub allowed : record_allowed t.cart ≡ true
  pub memory_ok : length t.memory ≡ memory_size t.cart.kind
  pub tallies_ok : TalliesRight t

abbrev pub with_flag : Bool → State → State
with_flag dirty s = chip_with s dirty s.cart.chip

-- the flag is s's where layout 2 is carried, and else stays t's
abbrev pub flag_of : Carried → State → State → Bool
flag_of eighteen s t = t.cart.dirty
flag_of twenty s t = s.cart.dirty

-- after a list as in demand 3, t becomes the state s at which the cut was made, which is what the cut with its opening
-- gives, but for the flag
abbrev pub Resumes : Type 0
Resumes =
    (image : List ℕ) (part : ℕ) (memory tallies : List ℕ) (list : List Call) (k : Carried) (t : State)
    → (from_bytes image part memory tallies).refusal ≡ 0
    → ((a v : ℕ) → Memᴰ (save_write a v) list → uses_eeprom (detect_save_type image) ≡ false)
    → Open image part t
    → let s = (calls list (from_bytes image part memory tallies).next).last in
    (resumed k s t ≡ with_flag (flag_of k s t) s)
    × (resumed k s t ≡ with_flag (flag_of k s t) (cut image part memory tallies k s))
