-- The kinds. Document 01, "The records" and "The machine", Kind.
use Rattle.std.specs.Prelude.{◌≡◌, ◌<◌, Result, MatchResult, Bool, true, false, cond, ◌||◌, List, [], ◌∷◌, ℕ, ltb, eqb, length, drop}
use Prim.Native.String.{String}
use Rattle.lists.specs.Lists.{ascii}
use Rattle.kind.specs.declared.SaveType.{SaveType}
use Rattle.kind.specs.declared.UnknownKind.{UnknownKind}
use Rattle.kind.specs.declared.SaveType.TheVariants.{None, Sram, Flash64, Flash128, Eeprom512, Eeprom8k}

-- a value for each kind, in the order of the document
abbrev pub by_kind : {A : Type 0} → SaveType → A → A → A → A → A → A → A
by_kind None a b c d e f = a
by_kind Sram a b c d e f = b
by_kind Flash64 a b c d e f = c
by_kind Flash128 a b c d e f = d
by_kind Eeprom512 a b c d e f = e
by_kind Eeprom8k a b c d e f = f

-- the number of a kind, for tables
abbrev pub kind_number : SaveType → ℕ
kind_number kind = by_kind kind 0 1 2 3 4 5

-- and the kind of a number; no number above 5 is a kind's
unfoldable pub kind_of : ℕ → SaveType
kind_of n =
    cond (eqb n 0) None
    (cond (eqb n 1) Sram
    (cond (eqb n 2) Flash64 (cond (eqb n 3) Flash128 (cond (eqb n 4) Eeprom512 Eeprom8k))))

-- a number as C passes it: the kind of this number, or no kind's
abbrev pub Numbered : ℕ → Result SaveType UnknownKind → Type 0
Numbered n r = MatchResult r (λ kind. kind_number kind ≡ n) (λ e. 5 < n)

-- "Kinds and save memory bytes"
abbrev pub memory_size : SaveType → ℕ
memory_size kind = by_kind kind 0 32768 65536 131072 8192 8192

-- 02, ticket 4: "8, 16, 32 or 2 tallies by kind, none for None"
abbrev pub tally_count : SaveType → ℕ
tally_count kind = by_kind kind 0 8 16 32 2 2

-- `uses_eeprom`
abbrev pub uses_eeprom : SaveType → Bool
uses_eeprom kind = by_kind kind false false false false true true

-- `eeprom_window_start`: "0DFFFF00h above 16,777,216 bytes, else 0D000000h"
abbrev pub window_start : ℕ → ℕ
window_start image_length = cond (ltb 16777216 image_length) 0x0dffff00 0x0d000000

-- s begins with p; p stands anywhere in s, "however far back"
unfoldable pub begins : List ℕ → List ℕ → Bool
begins [] s = true
begins (b ∷ p) [] = false
begins (b ∷ p) (c ∷ s) = cond (eqb b c) (begins p s) false

unfoldable pub stands : List ℕ → List ℕ → Bool
stands p [] = false
stands p (c ∷ s) = begins p (c ∷ s) || stands p s

-- "Bytes ACh–AFh"; a marker "stands anywhere in the image"
abbrev pub code : List ℕ → String → Bool
code image s = begins (ascii s) (drop 0xac image)

abbrev pub marker : List ℕ → String → Bool
marker image s = stands (ascii s) image

-- "Eeprom8k above 16,777,216 bytes and Eeprom512 otherwise"
abbrev pub eeprom_kind : ℕ → SaveType
eeprom_kind image_length = cond (ltb 16777216 image_length) Eeprom8k Eeprom512

-- the game codes of kind Sram, and those of kind Flash128
abbrev pub sram_code : List ℕ → Bool
sram_code image = code image "GBXP" || code image "GBXJ" || code image "GBXE"

abbrev pub flash_code : List ℕ → Bool
flash_code image = code image "GB4P" || code image "GB4J" || code image "GB4E"

-- "title bytes A0h–ABh equal to POKEMON RUBY"
abbrev pub ruby_title : List ℕ → Bool
ruby_title image = begins (ascii "POKEMON RUBY") (drop 0xa0 image)

-- `detect_save_type` by header, length and the markers found: "Bytes ACh–AFh: .. Else these markers are tried in this
-- order .. Else title .. Else None."
abbrev pub kind_by : List ℕ → ℕ → (sram flash64 flash128 eeprom : Bool) → SaveType
kind_by header image_length sram flash64 flash128 eeprom =
    cond (sram_code header) Sram
    (cond (flash_code header) Flash128
    (cond sram Sram
    (cond flash64 Flash64
    (cond flash128 Flash128
    (cond eeprom (eeprom_kind image_length)
    (cond (ruby_title header) Flash128
    None))))))

unfoldable pub detect_save_type : List ℕ → SaveType
detect_save_type image =
    kind_by image (length image) (marker image "SRAM_V") (marker image "FLASH_V" || marker image "FLASH512_V")
    (marker image "FLASH1M_V")
    (marker image "EEPROM_V")
