-- The CRC of bytes that come in parts, by three calls: the number that they pass on is the register.
use Rattle.std.specs.Prelude.{◌≡◌, true, ℕ, ◌-◌, length}
use mathlib.Core.List.{List, [], ◌∷◌, flatten}
use Rattle.lists.specs.Lists.{fold}
use Rattle.image.specs.Image.{image_length, accepted}
use Rattle.crc.specs.Crc.{crc_byte, crc32, rom_crc}

abbrev pub crc_start : ℕ
crc_start = 0xffffffff

unfoldable pub crc_feed : ℕ → List ℕ → ℕ
crc_feed c part = fold crc_byte c part

unfoldable pub crc_finish : ℕ → ℕ
crc_finish c = 0xffffffff - c

-- one call for each part, in order
unfoldable pub fed_all : ℕ → List (List ℕ) → ℕ
fed_all c [] = c
fed_all c (part ∷ parts) = fed_all (crc_feed c part) parts

-- the number at the end: start, feed every part, finish
unfoldable pub crc_of_parts : List (List ℕ) → ℕ
crc_of_parts parts = crc_finish (fed_all crc_start parts)

pub record Pieces : Type 0 where
  -- however bytes are cut into parts, empty ones among them, the end is the CRC of the whole
  pub bytes : (parts : List (List ℕ)) → crc_of_parts parts ≡ crc32 (flatten parts)
  -- of an image that question 1 accepts it is what `rom_crc` answers
  pub image : (image : List ℕ) (parts : List (List ℕ)) → flatten parts ≡ image
      → image_length (length image) ≡ true → rom_crc image ≡ accepted (crc_of_parts parts)
  -- an empty part changes nothing
  pub empty : (c : ℕ) → crc_feed c [] ≡ c
