-- The flash parts. Document 02, ticket 1.
use Rattle.std.specs.Prelude.{◌≡◌, ◌<◌, Result, MatchResult, Bool, cond, ◌&&◌, ◌||◌, ℕ, leb, eqb}
use Rattle.kind.specs.declared.SaveType.{SaveType}
use Rattle.kind.specs.Kind.{by_kind, memory_size}
use Rattle.part.specs.declared.Part.{Part}
use Rattle.part.specs.declared.UnknownPart.{UnknownPart}
use Rattle.part.specs.declared.Part.TheVariants.{Usual, Sst64, Macronix64, Panasonic64, Sanyo128, Macronix128}

-- a value for each part: the usual one, then GBATEK's list
abbrev pub by_part : {A : Type 0} → Part → A → A → A → A → A → A → A
by_part Usual a b c d e f = a
by_part Sst64 a b c d e f = b
by_part Macronix64 a b c d e f = c
by_part Panasonic64 a b c d e f = d
by_part Sanyo128 a b c d e f = e
by_part Macronix128 a b c d e f = f

-- the number of a part, for tables
abbrev pub part_number : Part → ℕ
part_number part = by_part part 0 1 2 3 4 5

-- and the part of a number; no number above 5 is a part's
unfoldable pub part_of : ℕ → Part
part_of n =
    cond (eqb n 0) Usual
    (cond (eqb n 1) Sst64
    (cond (eqb n 2) Macronix64 (cond (eqb n 3) Panasonic64 (cond (eqb n 4) Sanyo128 Macronix128))))

-- a number as C passes it: the part of this number, or no part's
abbrev pub Numbered : ℕ → Result Part UnknownPart → Type 0
Numbered n r = MatchResult r (λ part. part_number part ≡ n) (λ e. 5 < n)

-- "64K SST D4BFh, Macronix 1CC2h, Panasonic 1B32h; 128K Sanyo 1362h, Macronix 09C2h; or the usual one": the sizes and
-- the ID words of the named parts
abbrev pub part_size : Part → ℕ
part_size part = by_part part 0 65536 65536 65536 131072 131072

abbrev pub part_word : Part → ℕ
part_word part = by_part part 0 0xd4bf 0x1cc2 0x1b32 0x1362 0x09c2

-- the usual part goes by the kind. Document 01: "an even address reads 32h (Flash64) or 62h (Flash128), an odd one 1Bh
-- or 13h"; the other kinds have no flash
abbrev pub usual_word : SaveType → ℕ
usual_word kind = by_kind kind 0 0 0x1b32 0x1362 0 0

abbrev pub is_usual : Part → Bool
is_usual part = eqb (part_number part) 0

-- "The cartridge record carries it and ID mode shows it."
unfoldable pub id_word : Part → SaveType → ℕ
id_word part kind = cond (is_usual part) (usual_word kind) (part_word part)

-- "15 when a named part's size is not the kind's"; the usual part fits every kind
unfoldable pub part_fits : Part → SaveType → Bool
part_fits part kind = is_usual part || eqb (part_size part) (memory_size kind)

-- a part given by a number: one that names no part fits no kind
abbrev pub number_fits : ℕ → SaveType → Bool
number_fits n kind = leb n 5 && part_fits (part_of n) kind
