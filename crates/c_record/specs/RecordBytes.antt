-- The cartridge record as bytes: image length, low byte first; kind; changed flag; the chip record; the part.
use Rattle.std.specs.Prelude.{◌≡◌, Bool, true, ◌&&◌, List, [], ◌∷◌, ◌++◌, ℕ, leb, eqb, length, get_or, take, drop}
use Rattle.lists.specs.Lists.{low_first, low_value, bit}
use Rattle.lists.specs.Questions.{asked}
use Rattle.image.specs.Image.{image_length}
use Rattle.kind.specs.Kind.{kind_number, kind_of}
use Rattle.part.specs.Part.{part_number, part_of, number_fits}
use Rattle.cart.specs.declared.Cartridge.{Cartridge}
use Rattle.chip_record.specs.ChipState.{chip_record_size, chip_bytes, chip_of, field_questions}
use Rattle.cart.specs.Record.{State, record_allowed}
use Rattle.cart.specs.Replies.{tallied}

-- how many they are, and where kind, flag, chip record and part are
abbrev pub record_size : ℕ
record_size = 25

abbrev pub kind_at : ℕ
kind_at = 4

abbrev pub dirty_at : ℕ
dirty_at = 5

abbrev pub chip_at : ℕ
chip_at = 6

abbrev pub part_at : ℕ
part_at = 24

unfoldable pub record_bytes : Cartridge → List ℕ
record_bytes c =
    low_first 4 c.len
    ++ (kind_number c.kind ∷ bit c.dirty ∷ (chip_bytes c.chip ++ (part_number c.part ∷ [])))

abbrev pub chip_in : List ℕ → List ℕ
chip_in r = take chip_record_size (drop chip_at r)

unfoldable pub cart_of : List ℕ → Cartridge
cart_of r =
    record {
      len = low_value (take 4 r);
      kind = kind_of (get_or r kind_at 0);
      part = part_of (get_or r part_at 0);
      dirty = eqb (get_or r dirty_at 0) 1;
      chip = chip_of (chip_in r);
    }

-- 2: "Is the record's image length in that range and each chip field allowed?"; kind and flag are some kind's
-- number, and 0 or 1; the part's number names one that fits the kind
unfoldable pub is_record : List ℕ → Bool
is_record r =
    eqb (length r) record_size
    && leb (get_or r kind_at 0) 5
    && number_fits (get_or r part_at 0) (kind_of (get_or r kind_at 0))
    && leb (get_or r dirty_at 0) 1
    && image_length (low_value (take 4 r))
    && eqb (asked (field_questions (chip_in r))) 0

-- what is known of bytes for which question 2 is answered yes
pub record Valid (r : List ℕ) : Type 0 where
  pub yes : is_record r ≡ true
  pub allowed : record_allowed (cart_of r) ≡ true
  pub back : record_bytes (cart_of r) ≡ r

-- the state that bytes, memory and tallies are
abbrev pub state_of : List ℕ → List ℕ → List ℕ → State
state_of r m ts = tallied (cart_of r) m ts
