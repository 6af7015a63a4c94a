-- The frames of `carttrace`. Document 01, "Beside the machine".
use Rattle.std.specs.Prelude.{Bool, true, false, cond, ◌&&◌, List, [], ◌∷◌, ◌++◌, ℕ, ◌+◌, ◌*◌, ◌/◌, ◌%◌, ◌^◌, ltb, eqb, length}
use Rattle.std.proofs.Math.Option.{Option, none, some}
use Rattle.hex_text.specs.Hex.{value_of, hex}
use Rattle.std.specs.Prelude as std
use Rattle.kind.specs.declared.SaveType.{SaveType}
use Rattle.kind.specs.declared.SaveType.TheVariants.{None, Sram, Flash64, Eeprom512, Eeprom8k}
use Rattle.frames.specs.declared.Frame.{Frame}
use Rattle.frames.specs.declared.Frame.TheVariants.{SaveRead, SaveWrite, EepromRead, EepromWrite}
use Rattle.frames.specs.declared.Frame.TheVariants.{BeginDma, TakeFlag, ChipState, Bad}
use Rattle.frames.specs.declared.Line.{Line}

-- "hexadecimal in upper case": the number that a line of digits is, or none
unfoldable pub number_from : ℕ → List ℕ → Option ℕ
number_from x [] = some x
number_from x (c ∷ line) = cond (ltb (value_of c) 16) (number_from (16 * x + value_of c) line) none

-- "01 + address (8 digits) byte read; 02 + address + value (2) write"
abbrev pub ten_digits : ℕ → Frame
ten_digits x = cond (eqb (x / 2 ^ 32) 1) (SaveRead (x % 2 ^ 32)) Bad

abbrev pub twelve_digits : ℕ → Frame
twelve_digits x = cond (eqb (x / 2 ^ 40) 2) (SaveWrite (x / 256 % 2 ^ 32) (x % 256)) Bad

-- "03 serial read; .. 06 take flag; 07 chip record"; "04 + value (4) serial write; 05 + words (4) DMA"
abbrev pub two_digits : ℕ → Frame
two_digits x = cond (eqb x 3) EepromRead (cond (eqb x 6) TakeFlag (cond (eqb x 7) ChipState Bad))

abbrev pub six_digits : ℕ → Frame
six_digits x =
    cond (eqb (x / 2 ^ 16) 4) (EepromWrite (x % 2 ^ 16))
    (cond (eqb (x / 2 ^ 16) 5) (BeginDma (x % 2 ^ 16)) Bad)

-- "one frame a line": by how many digits there are, and their number
unfoldable pub frame_of : ℕ → ℕ → Frame
frame_of n x =
    cond (eqb n 10) (ten_digits x)
    (cond (eqb n 12) (twelve_digits x) (cond (eqb n 2) (two_digits x) (cond (eqb n 6) (six_digits x) Bad)))

-- what line 1 is: a kind, or none
abbrev pub FirstLine : Type 0
FirstLine = std.Option SaveType

-- "Line 1 is a fresh kind with image length 192: 00 None, 01 Sram, 02 Flash64, 04 Eeprom512, 05 Eeprom8k"
unfoldable pub fresh_of : ℕ → FirstLine
fresh_of x =
    cond (eqb x 0) (std.Some None)
    (cond (eqb x 1) (std.Some Sram)
    (cond (eqb x 2) (std.Some Flash64) (cond (eqb x 4) (std.Some Eeprom512) (cond (eqb x 5) (std.Some Eeprom8k) std.None))))

abbrev pub first_of : ℕ → ℕ → FirstLine
first_of n x = cond (eqb n 2) (fresh_of x) std.None

-- a line that is digits throughout, by how many there are and their number
abbrev pub numbered : {A : Type 0} → (ℕ → ℕ → A) → A → ℕ → Option ℕ → A
numbered of bad n none = bad
numbered of bad n (some x) = of n x

-- "a bad line (any that is not exactly one of these frames), an empty one included"
unfoldable pub frame : List ℕ → Frame
frame line = numbered frame_of Bad (length line) (number_from 0 line)

unfoldable pub first_line : List ℕ → FirstLine
first_line line = numbered first_of std.None (length line) (number_from 0 line)

-- a line read so far: the count of its digits and their number, while it can still be a frame
abbrev pub line_with : Bool → ℕ → ℕ → Line
line_with good count value = record { good = good; count = count; value = value }

abbrev pub empty_line : Line
empty_line = line_with true 0 0

unfoldable pub pushed : Line → ℕ → Line
pushed l c =
    cond l.good
    (cond (ltb l.count 12 && ltb (value_of c) 16)
    (line_with true (l.count + 1) (l.value * 16 % 2 ^ 64 + value_of c))
    (line_with false l.count l.value))
    l

unfoldable pub pushed_all : Line → List ℕ → Line
pushed_all l [] = l
pushed_all l (c ∷ text) = pushed_all (pushed l c) text

abbrev pub read_in : {A : Type 0} → (ℕ → ℕ → A) → A → Line → A
read_in of bad l = cond l.good (of l.count l.value) bad

abbrev pub frame_in : Line → Frame
frame_in l = read_in frame_of Bad l

abbrev pub first_in : Line → FirstLine
first_in l = read_in first_of std.None l

-- a line that is printed: "00 and the answer .., or the refusal number as two hexadecimal digits"
unfoldable pub line_of : ℕ → List ℕ → List ℕ
line_of status bytes = hex (status ∷ bytes) ++ (0x0a ∷ [])
