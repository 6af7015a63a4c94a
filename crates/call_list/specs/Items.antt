-- An encoded list: its items one after the other. An item is a frame of `carttrace` as bytes, numbers high byte first.
-- The frames that `carttrace` does not have are 08 + length (4) + the file's bytes: load; 09 + length (4): export into
-- that many zeros; 0A: a cut.
use Rattle.std.specs.Prelude.{Bool, true, false, cond, ◌&&◌, ◌||◌, List, [], ◌∷◌, ℕ, zero, suc, ◌+◌, ◌*◌, ◌-◌, leb, eqb, length, get_or}
use Rattle.chip_record.specs.States.{state_size}
use Rattle.call_list.specs.declared.Item.{Item}
use Rattle.call_list.specs.declared.Item.TheVariants.{SaveRead, SaveWrite, EepromRead, EepromWrite, BeginDma}
use Rattle.call_list.specs.declared.Item.TheVariants.{TakeFlag, ChipState, LoadSave, SaveData, Cut, Bad}

-- the number in the two or four bytes after the first
abbrev pub high16 : List ℕ → ℕ
high16 l = get_or l 2 0 + 256 * get_or l 1 0

abbrev pub high32 : List ℕ → ℕ
high32 l = get_or l 4 0 + 256 * (get_or l 3 0 + 256 * (get_or l 2 0 + 256 * get_or l 1 0))

-- i if its n bytes are all in l
abbrev pub within : ℕ → List ℕ → Item → Item
within n l i = cond (leb n (length l)) i Bad

-- the item at the front of l
unfoldable pub item_in : List ℕ → Item
item_in l =
    let tag = get_or l 0 0 in
    cond (eqb tag 1) (within 5 l (SaveRead (high32 l)))
    (cond (eqb tag 2) (within 6 l (SaveWrite (high32 l) (get_or l 5 0)))
    (cond (eqb tag 3) EepromRead
    (cond (eqb tag 4) (within 3 l (EepromWrite (high16 l)))
    (cond (eqb tag 5) (within 3 l (BeginDma (high16 l)))
    (cond (eqb tag 6) TakeFlag
    (cond (eqb tag 7) ChipState
    (cond (eqb tag 8) (within (5 + high32 l) l (LoadSave (high32 l)))
    (cond (eqb tag 9) (within 5 l (SaveData (high32 l)))
    (cond (eqb tag 10) Cut Bad)))))))))

-- how many bytes an item takes in a list, and its answer in the output
abbrev pub item_length : Item → ℕ
item_length (SaveRead a) = 5
item_length (SaveWrite a v) = 6
item_length EepromRead = 1
item_length (EepromWrite v) = 3
item_length (BeginDma words) = 3
item_length TakeFlag = 1
item_length ChipState = 1
item_length (LoadSave n) = 5 + n
item_length (SaveData n) = 5
item_length Cut = 1
item_length Bad = 1

abbrev pub item_room : Item → ℕ
item_room (SaveRead a) = 2
item_room (SaveWrite a v) = 1
item_room EepromRead = 2
item_room (EepromWrite v) = 1
item_room (BeginDma words) = 1
item_room TakeFlag = 2
item_room ChipState = 1 + state_size
item_room (LoadSave n) = 1
item_room (SaveData n) = 5 + n
item_room Cut = 0
item_room Bad = 0

-- after the last answer come the file, from a destination of n bytes, as many as the memory has, and the chip state
abbrev pub ending_room : ℕ → ℕ
ending_room n = item_room (SaveData n) + item_room ChipState

-- an item, and the bytes from its first on
pub record Place : Type 0 where
  pub item : Item
  pub bytes : List ℕ

-- the items of a list, of which k bytes are passed over
unfoldable pub items : ℕ → List ℕ → List Place
items k [] = []
items (suc k) (b ∷ l) = items k l
items zero (b ∷ l) = let i = item_in (b ∷ l) in record { item = i; bytes = b ∷ l } ∷ items (item_length i - 1) l

-- every one is an item; a byte write is among them; what their answers take
abbrev pub is_item : Item → Bool
is_item (SaveRead a) = true
is_item (SaveWrite a v) = true
is_item EepromRead = true
is_item (EepromWrite v) = true
is_item (BeginDma words) = true
is_item TakeFlag = true
is_item ChipState = true
is_item (LoadSave n) = true
is_item (SaveData n) = true
is_item Cut = true
is_item Bad = false

abbrev pub is_write : Item → Bool
is_write (SaveRead a) = false
is_write (SaveWrite a v) = true
is_write EepromRead = false
is_write (EepromWrite v) = false
is_write (BeginDma words) = false
is_write TakeFlag = false
is_write ChipState = false
is_write (LoadSave n) = false
is_write (SaveData n) = false
is_write Cut = false
is_write Bad = false

unfoldable pub good : List Place → Bool
good [] = true
good (p ∷ list) = is_item p.item && good list

unfoldable pub byte_writes : List Place → Bool
byte_writes [] = false
byte_writes (p ∷ list) = is_write p.item || byte_writes list

unfoldable pub room : List Place → ℕ
room [] = 0
room (p ∷ list) = item_room p.item + room list
