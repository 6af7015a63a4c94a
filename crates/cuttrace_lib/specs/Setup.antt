-- What line 1 sets up: an image of the kind, and what the list begins with.
use Rattle.std.specs.Prelude.{List, [], ◌∷◌, ℕ, replicate}
use Rattle.lists.specs.Lists.{ascii, into}
use Rattle.memory.specs.Memory.{erased}
use Rattle.kind.specs.declared.SaveType.{SaveType}
use Rattle.kind.specs.Kind.{by_kind}

-- a marker that says the kind; Eeprom8k has Eeprom512's, since only an image above 16 MiB is of that kind
unfoldable pub mark : SaveType → List ℕ
mark kind = by_kind kind [] (ascii "SRAM_V") (ascii "FLASH_V") (ascii "FLASH1M_V") (ascii "EEPROM_V") (ascii "EEPROM_V")

-- "image length 192"
unfoldable pub image_of : SaveType → List ℕ
image_of kind = into (mark kind) (replicate 192 0)

-- for Eeprom8k a load of 8,192 erased bytes, which makes the chip large; it answers its status
unfoldable pub prelude : SaveType → List ℕ
prelude kind = by_kind kind [] [] [] [] [] (8 ∷ 0 ∷ 0 ∷ 0x20 ∷ 0 ∷ erased 8192)

abbrev pub prelude_room : SaveType → ℕ
prelude_room kind = by_kind kind 0 0 0 0 0 1
