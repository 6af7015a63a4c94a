-- Which files can be a kind's. Document 01, "Beside the machine": `save_fit`, `save_size`, Import's leaf.
use Rattle.std.specs.Prelude.{Bool, true, false, cond, ◌||◌, Option, Some, None, List, [], ℕ, ◌+◌, leb, eqb, length, take}
use Rattle.kind.specs.declared.SaveType.{SaveType}
use Rattle.kind.specs.declared.SaveType.TheVariants as kinds
use Rattle.kind.specs.declared.SaveType.TheVariants.{Sram, Flash64, Flash128, Eeprom512, Eeprom8k}
use Rattle.kind.specs.Kind.{memory_size, detect_save_type}

-- "chip size or 16 more"
unfoldable pub chip_size : ℕ → ℕ → Bool
chip_size n file = eqb file n || eqb file (n + 16)

unfoldable pub eeprom_fit : ℕ → Option ℕ
eeprom_fit file = cond (chip_size 512 file) (Some 512) (cond (chip_size 8192 file) (Some 8192) None)

-- `save_fit` of a kind and a file's length: "Sram also 65,536 and 65,552, keeping 32,768; EEPROM 512 and 8,192";
-- `Some n` keeps n bytes, `None` refuses the file
unfoldable pub save_fit : SaveType → ℕ → Option ℕ
save_fit kinds.None file = None
save_fit Sram file = cond (chip_size 32768 file || chip_size 65536 file) (Some 32768) None
save_fit Flash64 file = cond (chip_size 65536 file) (Some 65536) None
save_fit Flash128 file = cond (chip_size 131072 file) (Some 131072) None
save_fit Eeprom512 file = eeprom_fit file
save_fit Eeprom8k file = eeprom_fit file

-- "`save_size` is the largest, 0 for None"
unfoldable pub save_size : SaveType → ℕ
save_size kind = memory_size kind

-- the same of an image: "Under 192 bytes: none and 0"
unfoldable pub save_fit_of : List ℕ → ℕ → Option ℕ
save_fit_of image file = cond (leb 192 (length image)) (save_fit (detect_save_type image) file) None

unfoldable pub save_size_of : List ℕ → ℕ
save_size_of image = cond (leb 192 (length image)) (save_size (detect_save_type image)) 0

-- an answer of `save_fit` by its cases: whether a file is taken, and what is kept of it, "or an empty part"
abbrev pub taken : Option ℕ → Bool
taken (Some n) = true
taken None = false

abbrev pub kept_by : Option ℕ → List ℕ → List ℕ
kept_by (Some n) file = take n file
kept_by None file = []

unfoldable pub kept_part : SaveType → List ℕ → List ℕ
kept_part kind file = kept_by (save_fit kind (length file)) file
