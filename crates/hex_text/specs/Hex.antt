-- Document 01, "Beside the machine", program `carttrace`: "hexadecimal in upper case".
use Rattle.std.specs.Prelude.{cond, ◌&&◌, List, [], ◌∷◌, ℕ, ◌+◌, ◌-◌, ◌/◌, ◌%◌, ltb, leb}

-- a digit as its character, and the value of a character, 16 where it is no digit
unfoldable pub character : ℕ → ℕ
character d = cond (ltb d 10) (0x30 + d) (0x37 + d)

unfoldable pub value_of : ℕ → ℕ
value_of c = cond (leb 0x30 c && leb c 0x39) (c - 0x30) (cond (leb 0x41 c && leb c 0x46) (c - 0x37) 16)

-- a byte as two digits
unfoldable pub hex : List ℕ → List ℕ
hex [] = []
hex (b ∷ bytes) = character (b / 16 % 16) ∷ character (b % 16) ∷ hex bytes
