-- Cut runs of the exported calls. Document 01, "Cut runs", demand 3, and document 02, ticket 5, of a record's bytes, a
-- memory and tallies.
use Rattle.std.specs.Prelude.{◌≡◌, Bool, true, false, cond, ◌&&◌, ℕ, ◌≤◌, eqb, length, take}
use mathlib.Core.List.{List, [], ◌∷◌, map, Memᴰ}
use Rattle.std.proofs.Math.Option.{Option, none, some}
use Rattle.std.proofs.Math.Pow.{are_bytes}
use Rattle.lists.specs.Lists.{bit}
use Rattle.out_params.specs.Places.{placed}
use Rattle.kind.specs.Kind.{memory_size, uses_eeprom, detect_save_type}
use Rattle.cart.specs.Record.{State, Outcome, from_bytes}
use Rattle.cart.specs.Calls as machine
use Rattle.cart.specs.Calls.{step}
use Rattle.cart.specs.Cut.{file_left as machine_file, bytes_left as machine_state}
use Rattle.chip_record.specs.States.{Carried, carried}
use Rattle.cart.specs.Cut.{carries_flag, flag_left_out}
use Rattle.cart.specs.Resume.{Open}
use Rattle.cart.specs.Replies.{first}
use Rattle.c_record.specs.RecordBytes.{is_record, state_of}
use Rattle.c_record.specs.Calls.{opens, loads, exports, gives_state, restores}
use Rattle.cart_abi.specs.Host as host
use Rattle.cart_abi.specs.Host.{ExportedCall, save_read, save_write, eeprom_begin_dma, eeprom_write, eeprom_read}
use Rattle.cart_abi.specs.Host.{load_save, save_data, chip_state, take_save_dirty, import_save}
use Rattle.cart_abi.specs.Host.{Bytes, Found, found, found_state, found_flag, plainly, stored, make}

-- a valid record's bytes, a memory and its tallies that are a cartridge of the image with the part, whatever its chip,
-- memory and flag hold
pub record OpenBytes (image : List ℕ) (part : ℕ) (b : Bytes) : Type 0 where
  pub bytes_ok : are_bytes b.bytes ≡ true
  pub valid : is_record b.bytes ≡ true
  pub is_open : Open image part (state_of b.bytes b.memory b.tallies)

-- where a host goes on after a cut: "open the same image", with the same part, a memory and tallies; or, without an
-- opening, in a cartridge of the image and part that is open
pub data Target (image : List ℕ) (part : ℕ) : Type 0 where
  anew : (memory tallies : List ℕ) → (opens image part memory tallies).0 ≡ 0 → Target image part
  in_place : (b : Bytes) → OpenBytes image part b → Target image part

abbrev pub opened : List ℕ → ℕ → List ℕ → List ℕ → Bytes
opened image part memory tallies = (host.opened (opens image part memory tallies)).next

abbrev pub begun : {image : List ℕ} {part : ℕ} → Target image part → Bytes
begun {image} {part} (anew memory tallies h) = opened image part memory tallies
begun (in_place b h) = b

-- what a host has for a cut: a destination as long as the kind's memory at least, places for the file's length, for the
-- state and for the number of places that the load changes, whatever they hold; what it carries of the state, and where
-- it goes on
pub record Buffers (image : List ℕ) (part : ℕ) : Type 0 where
  pub destination : List ℕ
  pub file_length : ℕ
  pub state : List ℕ
  pub changed : ℕ
  pub carries : Carried
  pub target : Target image part
  pub holds : memory_size (detect_save_type image) ≤ length destination

-- "it leaves the file that an accepted export gives there, where the kind has one": a length of 0 says that it has none
abbrev pub file_in : ℕ → List ℕ → Option (List ℕ)
file_in n d = cond (eqb n 0) none (some (take n d))

unfoldable pub file_left : {image : List ℕ} {part : ℕ} → Buffers image part → Bytes → Option (List ℕ)
file_left x b = let e = exports x.destination b.bytes b.memory x.file_length in file_in e.4 e.3

-- "and the 18 bytes of `chip_state`": 20 with layout 2
unfoldable pub state_left : {image : List ℕ} {part : ℕ} → Buffers image part → Bytes → List ℕ
state_left x b = (gives_state b.bytes b.memory x.state).3

-- "load the file where there is one, restore"
abbrev pub reloaded : ℕ → Option (List ℕ) → Bytes → Bytes
reloaded place none b = b
reloaded place (some f) b = (stored (loads f b.bytes b.memory b.tallies place)).next

abbrev pub restored : List ℕ → Bytes → Bytes
restored state b = (plainly b.tallies (restores state b.bytes b.memory)).next

unfoldable pub cut : (image : List ℕ) (part : ℕ) → Buffers image part → Bytes → Bytes
cut image part x b =
    restored (carried x.carries (state_left x b)) (reloaded x.changed (file_left x b) (begun x.target))

unfoldable pub cuts : (image : List ℕ) (part : ℕ) → List (Buffers image part) → Bytes → Bytes
cuts image part [] b = b
cuts image part (x ∷ xs) b = cuts image part xs (cut image part x b)

-- a call of the list, and the cuts after it
pub record Turn (image : List ℕ) (part : ℕ) : Type 0 where
  pub call : ExportedCall
  pub cuts_behind : List (Buffers image part)

-- "Compared are the answers of the list's own calls, with refusal numbers and the bytes of export destinations, and
-- at the list's end the file, or that there is none, and the 18 bytes": the 20. At the list's end the tallies are
-- compared too.
pub record Compared : Type 0 where
  pub calls : List Found
  pub file : Option (List ℕ)
  pub state : List ℕ
  pub tallies : List ℕ

abbrev pub before : Found → Compared → Compared
before f r = record { calls = f ∷ r.calls; file = r.file; state = r.state; tallies = r.tallies }

-- `end` is passed at the list's end
unfoldable pub run : (image : List ℕ) (part : ℕ) → List (Turn image part) → Buffers image part → Bytes → Compared
run image part [] end b =
    record { calls = []; file = file_left end b; state = state_left end b; tallies = b.tallies }
run image part (t ∷ list) end b =
    let m = make t.call b in
    before m.found (run image part list end (cuts image part t.cuts_behind m.next))

-- document 01's machine, and what of its answers a host finds
abbrev pub outcome_of : ExportedCall → State → Outcome
outcome_of (save_read a p) = step (machine.save_read a) []
outcome_of (save_write a v p) = step (machine.save_write a v) []
outcome_of (eeprom_begin_dma words) = step (machine.eeprom_begin_dma words) []
outcome_of (eeprom_write v p) = step (machine.eeprom_write v) []
outcome_of (eeprom_read p) = step machine.eeprom_read []
outcome_of (load_save f p) = step (machine.load_save f) []
outcome_of (save_data d p) = step machine.save_data d
outcome_of (chip_state p) = step machine.chip_state []
outcome_of (take_save_dirty p) = step machine.take_save_dirty []
outcome_of (import_save f k p) = machine.import_save f

abbrev pub number_at : ℕ → Outcome → ℕ
number_at place o = placed o.refusal (first o.given) place

abbrev pub changed_at : ℕ → Outcome → ℕ
changed_at place o = placed o.refusal o.changed place

abbrev pub found_of : ExportedCall → Outcome → Found
found_of (save_read a p) o = found o.refusal (number_at p o) 0 []
found_of (save_write a v p) o = found o.refusal 0 (changed_at p o) []
found_of (eeprom_begin_dma words) o = found o.refusal 0 0 []
found_of (eeprom_write v p) o = found o.refusal 0 (changed_at p o) []
found_of (eeprom_read p) o = found o.refusal (number_at p o) 0 []
found_of (load_save f p) o = found o.refusal 0 (changed_at p o) []
found_of (save_data d p) o = found o.refusal (number_at p o) 0 o.destination
found_of (chip_state p) o = found_state o.refusal (placed o.refusal o.given p)
found_of (take_save_dirty p) o = found_flag o.refusal (placed o.refusal (bit o.flag) p)
found_of (import_save f k p) o = found o.refusal (number_at k o) (changed_at p o) []

-- the machine run uncut through the same list
unfoldable pub machine_run : List ExportedCall → State → Compared
machine_run [] s = record { calls = []; file = machine_file s; state = machine_state s; tallies = s.tallies }
machine_run (c ∷ list) s = let o = outcome_of c s in before (found_of c o) (machine_run list o.next)

abbrev pub calls_of : {image : List ℕ} {part : ℕ} → List (Turn image part) → List ExportedCall
calls_of = map (λ t. t.call)

abbrev pub uncut : {image : List ℕ} {part : ℕ} → List (Turn image part) → List (Turn image part)
uncut = map (λ t. record { call = t.call; cuts_behind = [] })

-- whether each cut carries layout 2
abbrev pub all_carry : {image : List ℕ} {part : ℕ} → List (Buffers image part) → Bool
all_carry xs = carries_flag (map (λ x. x.carries) xs)

abbrev pub all_carry_flag : {image : List ℕ} {part : ℕ} → List (Turn image part) → Bool
all_carry_flag [] = true
all_carry_flag (t ∷ list) = all_carry t.cuts_behind && all_carry_flag list

-- "where one carries 18 bytes, byte 18 is left out of demand 3 as those answers are"
abbrev pub found_seen : Bool → Found → Found
found_seen flags f =
    record {
      answer = f.answer;
      place = f.place;
      changed = f.changed;
      destination = f.destination;
      state = cond flags f.state (flag_left_out f.state);
      flag = cond flags f.flag 0;
    }

abbrev pub seen : Bool → Compared → Compared
seen flags r =
    record {
      calls = map (found_seen flags) r.calls;
      file = r.file;
      state = cond flags r.state (flag_left_out r.state);
      tallies = r.tallies;
    }

-- "no byte write to an EEPROM cartridge"
abbrev pub NoByteWrites : List ℕ → List ExportedCall → Type 0
NoByteWrites image list =
    (address value changed : ℕ) → Memᴰ (save_write address value changed) list
    → uses_eeprom (detect_save_type image) ≡ false

-- demand 3 of the exported calls: after an accepted opening and any cuts, a list with its cuts shows what document
-- 01's machine shows uncut, and so what the list shows without its cuts
pub record ExportedCutRuns : Type 0 where
  pub as_machine : (image : List ℕ) (part : ℕ) (memory tallies : List ℕ) (at_first : List (Buffers image part))
      → (list : List (Turn image part)) (end : Buffers image part)
      → (opens image part memory tallies).0 ≡ 0 → NoByteWrites image (calls_of list)
      → let flags = all_carry at_first && all_carry_flag list in
      seen flags (run image part list end (cuts image part at_first (opened image part memory tallies)))
      ≡ seen flags (machine_run (calls_of list) (from_bytes image part memory tallies).next)
  pub as_uncut : (image : List ℕ) (part : ℕ) (memory tallies : List ℕ) (at_first : List (Buffers image part))
      → (list : List (Turn image part)) (end : Buffers image part)
      → (opens image part memory tallies).0 ≡ 0 → NoByteWrites image (calls_of list)
      → let flags = all_carry at_first && all_carry_flag list in
      seen flags (run image part list end (cuts image part at_first (opened image part memory tallies)))
      ≡ seen flags (run image part (uncut list) end (opened image part memory tallies))
