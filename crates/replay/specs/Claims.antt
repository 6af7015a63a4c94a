-- A replay's output and the runs of demand 3 (`run` in `cart`, Cut.antt): it is what such a run shows, encoded.
use Rattle.std.specs.Prelude.{◌≡◌, List, [], ◌∷◌, ◌++◌, map, ℕ, ◌%◌, length, take, drop, replicate}
use Rattle.std.proofs.Math.Option.{Option, none, some}
use Rattle.lists.specs.Lists.{into, bit}
use Rattle.cart.specs.Record.{from_bytes}
use Rattle.cart.specs.Calls.{Call, save_read, save_write, eeprom_begin_dma, eeprom_write, eeprom_read}
use Rattle.cart.specs.Calls.{load_save, save_data, chip_state, take_save_dirty}
use Rattle.chip_record.specs.States.{Carried, twenty}
use Rattle.cart.specs.Cut.{Turn, Shown, Compared, run, uncut}
use Rattle.cart.specs.Replies.{first}
use Rattle.state_calls.specs.StateAnswer.{or_zeros}
use Rattle.call_list.specs.declared.Item.{Item}
use Rattle.call_list.specs.declared.Item.TheVariants.{SaveRead, SaveWrite, EepromRead, EepromWrite, BeginDma}
use Rattle.call_list.specs.declared.Item.TheVariants.{TakeFlag, ChipState, LoadSave, SaveData, Cut, Bad}
use Rattle.call_list.specs.Items.{Place, items}
use Rattle.replay.specs.Replay.{four_bytes, own_tallies, replay}

-- the cuts at the front of a list
abbrev pub cut_or : Item → List Carried → List Carried
cut_or (SaveRead a) ks = []
cut_or (SaveWrite a v) ks = []
cut_or EepromRead ks = []
cut_or (EepromWrite v) ks = []
cut_or (BeginDma words) ks = []
cut_or TakeFlag ks = []
cut_or ChipState ks = []
cut_or (LoadSave n) ks = []
cut_or (SaveData n) ks = []
cut_or Cut ks = twenty ∷ ks
cut_or Bad ks = []

unfoldable pub cuts_in_front : List Place → List Carried
cuts_in_front [] = []
cuts_in_front (p ∷ list) = cut_or p.item (cuts_in_front list)

-- the calls of a list, with their destinations and the cuts after each
abbrev pub turn : Call → List ℕ → List Carried → Turn
turn c d ks = record { call = c; destination = d; cuts_behind = ks }

abbrev pub turn_or : Item → List ℕ → List Carried → List Turn → List Turn
turn_or (SaveRead a) l ks list = turn (save_read a) [] ks ∷ list
turn_or (SaveWrite a v) l ks list = turn (save_write a v) [] ks ∷ list
turn_or EepromRead l ks list = turn eeprom_read [] ks ∷ list
turn_or (EepromWrite v) l ks list = turn (eeprom_write v) [] ks ∷ list
turn_or (BeginDma words) l ks list = turn (eeprom_begin_dma words) [] ks ∷ list
turn_or TakeFlag l ks list = turn take_save_dirty [] ks ∷ list
turn_or ChipState l ks list = turn chip_state [] ks ∷ list
turn_or (LoadSave k) l ks list = turn (load_save (take k (drop 5 l))) [] ks ∷ list
turn_or (SaveData k) l ks list = turn save_data (replicate k 0) ks ∷ list
turn_or Cut l ks list = list
turn_or Bad l ks list = list

unfoldable pub turns : List Place → List Turn
turns [] = []
turns (p ∷ list) = turn_or p.item p.bytes (cuts_in_front list) (turns list)

-- what is shown of a call, as bytes
abbrev pub shown_bytes : Call → Shown → List ℕ
shown_bytes (save_read a) o = o.refusal ∷ first o.given % 256 ∷ []
shown_bytes (save_write a v) o = o.refusal ∷ []
shown_bytes (eeprom_begin_dma words) o = o.refusal ∷ []
shown_bytes (eeprom_write v) o = o.refusal ∷ []
shown_bytes eeprom_read o = o.refusal ∷ first o.given % 256 ∷ []
shown_bytes (load_save f) o = o.refusal ∷ []
shown_bytes save_data o = o.refusal ∷ (four_bytes (first o.given) ++ o.destination)
shown_bytes chip_state o = o.refusal ∷ or_zeros o.given
shown_bytes take_save_dirty o = o.refusal ∷ bit o.flag ∷ []

unfoldable pub calls_bytes : List Call → List Shown → List ℕ
calls_bytes [] shown = []
calls_bytes (c ∷ calls) [] = []
calls_bytes (c ∷ calls) (o ∷ shown) = shown_bytes c o ++ calls_bytes calls shown

-- the file, or that there is none, in n bytes
abbrev pub file_bytes : ℕ → Option (List ℕ) → List ℕ
file_bytes n none = 0 ∷ (four_bytes 0 ++ replicate n 0)
file_bytes n (some f) = 0 ∷ (four_bytes (length f) ++ into f (replicate n 0))

unfoldable pub encoded : ℕ → List Turn → Compared → List ℕ
encoded n list r = calls_bytes (map (λ t. t.call) list) r.calls ++ (file_bytes n r.file ++ (0 ∷ r.bytes))

-- the output with what a run of the turns from the opened image shows, encoded, of the list
abbrev pub shown_of : List ℕ → ℕ → List ℕ → List Turn → List Turn → List ℕ → List ℕ
shown_of image part memory list turned out =
    let ts = own_tallies image in
    let r = run image part memory ts turned (from_bytes image part memory ts).next in
    into (encoded (length memory) list r) out

-- what an accepted replay writes is what the list shows without its cuts, and what it shows with them
pub record ReplayRuns : Type 0 where
  pub without_cuts : (image : List ℕ) (part : ℕ) (bytes memory scratch out : List ℕ)
      → (replay image part bytes memory scratch out).0 ≡ 0
      → let list = turns (items 0 bytes) in
      (replay image part bytes memory scratch out).3 ≡ shown_of image part memory list (uncut list) out
  pub with_cuts : (image : List ℕ) (part : ℕ) (bytes memory scratch out : List ℕ)
      → (replay image part bytes memory scratch out).0 ≡ 0
      → let list = turns (items 0 bytes) in
      (replay image part bytes memory scratch out).3 ≡ shown_of image part memory list list out
