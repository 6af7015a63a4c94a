-- The lines of a trace as a list of calls. A line is the upper-case hexadecimal digits of exactly one item.
use Rattle.std.specs.Prelude.{cond, ◌&&◌, List, [], ◌∷◌, ◌++◌, ℕ, suc, ◌+◌, ◌*◌, ◌<◌, ◌≡◌, ◌≢◌, ltb, eqb, length, slice_index}
use Rattle.std.proofs.Math.Option.{Option, none, some}
use Rattle.hex_text.specs.Hex.{value_of}
use Rattle.call_list.specs.declared.Item.{Item}
use Rattle.call_list.specs.declared.Item.TheVariants.{Bad}
use Rattle.call_list.specs.Items.{item_in, item_length, is_item}

-- the byte of two digits, 256 where one of the characters is none
unfoldable pub byte_of : ℕ → ℕ → ℕ
byte_of a b = cond (ltb (value_of a) 16 && ltb (value_of b) 16) (value_of a * 16 + value_of b) 256

-- one more byte in front
abbrev pub also : ℕ → Option (List ℕ) → Option (List ℕ)
also b none = none
also b (some bytes) = some (b ∷ bytes)

-- the bytes that a line's digits are, two digits each, or none
unfoldable pub unhex : List ℕ → Option (List ℕ)
unhex [] = some []
unhex (a ∷ []) = none
unhex (a ∷ b ∷ line) = cond (ltb (byte_of a b) 256) (also (byte_of a b) (unhex line)) none

-- the item that some bytes are, all of them
unfoldable pub whole_item : Option (List ℕ) → Item
whole_item none = Bad
whole_item (some bytes) = let i = item_in bytes in cond (eqb (item_length i) (length bytes)) i Bad

-- the item of a line, `Bad` if it is none, and its bytes in the list; "a bad line (any that is not exactly one of these
-- frames), an empty one included" has none
unfoldable pub line_item : List ℕ → Item
line_item line = whole_item (unhex line)

abbrev pub or_none : Option (List ℕ) → List ℕ
or_none none = []
or_none (some bytes) = bytes

unfoldable pub line_code : List ℕ → List ℕ
line_code line = cond (is_item (line_item line)) (or_none (unhex line)) []

abbrev pub code_length : Item → ℕ
code_length i = cond (is_item i) (item_length i) 0

unfoldable pub list_of : List (List ℕ) → List ℕ
list_of [] = []
list_of (line ∷ lines) = line_code line ++ list_of lines

-- the first line feed is at place i
abbrev pub IsLineEnd : List ℕ → ℕ → Type 0
IsLineEnd text i = (i < length text) × (slice_index text i ≡ 0x0a) × ((k : ℕ) → k < i → slice_index text k ≢ 0x0a)

-- how many characters are before a text's first line feed, or its end
unfoldable pub line_length : List ℕ → ℕ
line_length [] = 0
line_length (c ∷ text) = cond (eqb c 0x0a) 0 (suc (line_length text))
