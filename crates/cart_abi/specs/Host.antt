-- The exported calls as their host sees them: each is the definition that its contract cites
-- (`c_record/specs/Calls.antt`).
use Rattle.std.specs.Prelude.{List, [], ℕ}
use Rattle.c_record.specs.Calls.{reads, writes, announces, takes_bit, gives_bit, loads, exports, imports}
use Rattle.c_record.specs.Calls.{gives_state, takes_flag}

-- the nine calls, and import, each with all that it is passed beside record, memory and tallies: its arguments, its
-- destination, and what its out-parameters hold
pub data ExportedCall : Type 0 where
  save_read : (address value : ℕ) → ExportedCall
  save_write : (address value changed : ℕ) → ExportedCall
  eeprom_begin_dma : (words : ℕ) → ExportedCall
  eeprom_write : (value changed : ℕ) → ExportedCall
  eeprom_read : (bit : ℕ) → ExportedCall
  load_save : (file : List ℕ) (changed : ℕ) → ExportedCall
  save_data : (destination : List ℕ) (length : ℕ) → ExportedCall
  chip_state : (state : List ℕ) → ExportedCall
  take_save_dirty : (flag : ℕ) → ExportedCall
  import_save : (file : List ℕ) (kept changed : ℕ) → ExportedCall

-- a record's bytes with the memory and the tallies that are passed with them
pub record Bytes : Type 0 where
  pub bytes : List ℕ
  pub memory : List ℕ
  pub tallies : List ℕ

-- what a host finds after a call: the number returned, and what is then in the out-parameter for a value, in that for
-- the number of places changed, in the destination, in the state and in the out-parameter of `take_save_dirty`; 0 and
-- [] where the call has none
pub record Found : Type 0 where
  pub answer : ℕ
  pub place : ℕ
  pub changed : ℕ
  pub destination : List ℕ
  pub state : List ℕ
  pub flag : ℕ

abbrev pub found : ℕ → ℕ → ℕ → List ℕ → Found
found answer place changed d =
    record { answer = answer; place = place; changed = changed; destination = d; state = []; flag = 0 }

abbrev pub found_state : ℕ → List ℕ → Found
found_state answer state =
    record { answer = answer; place = 0; changed = 0; destination = []; state = state; flag = 0 }

abbrev pub found_flag : ℕ → ℕ → Found
found_flag answer flag =
    record { answer = answer; place = 0; changed = 0; destination = []; state = []; flag = flag }

pub record Made : Type 0 where
  pub found : Found
  pub next : Bytes

abbrev pub made : Found → List ℕ → List ℕ → List ℕ → Made
made f r m ts = record { found = f; next = record { bytes = r; memory = m; tallies = ts } }

-- from a contract, of a call that is passed no tallies, so that the host's stay: without an out-parameter; with one for
-- a value; of export, `chip_state` and `take_save_dirty`
abbrev pub plainly : List ℕ → ℕ × List ℕ × List ℕ → Made
plainly ts x = made (found x.0 0 0 []) x.1 x.2 ts

abbrev pub valued : List ℕ → ℕ × List ℕ × List ℕ × ℕ → Made
valued ts x = made (found x.0 x.3 0 []) x.1 x.2 ts

abbrev pub filed : List ℕ → ℕ × List ℕ × List ℕ × List ℕ × ℕ → Made
filed ts x = made (found x.0 x.4 0 x.3) x.1 x.2 ts

abbrev pub stated : List ℕ → ℕ × List ℕ × List ℕ × List ℕ → Made
stated ts x = made (found_state x.0 x.3) x.1 x.2 ts

abbrev pub flagged : List ℕ → ℕ × List ℕ × List ℕ × ℕ → Made
flagged ts x = made (found_flag x.0 x.3) x.1 x.2 ts

-- and of one that is: with an out-parameter for the places changed; of import; of opening
abbrev pub stored : ℕ × List ℕ × List ℕ × List ℕ × ℕ → Made
stored x = made (found x.0 0 x.4 []) x.1 x.2 x.3

abbrev pub imported : ℕ × List ℕ × List ℕ × List ℕ × ℕ × ℕ → Made
imported x = made (found x.0 x.4 x.5 []) x.1 x.2 x.3

abbrev pub opened : ℕ × List ℕ × List ℕ × List ℕ → Made
opened x = made (found x.0 0 0 []) x.1 x.2 x.3

unfoldable pub make : ExportedCall → Bytes → Made
make (save_read a p) b = valued b.tallies (reads a b.bytes b.memory p)
make (save_write a v p) b = stored (writes a v b.bytes b.memory b.tallies p)
make (eeprom_begin_dma words) b = plainly b.tallies (announces words b.bytes b.memory)
make (eeprom_write v p) b = stored (takes_bit v b.bytes b.memory b.tallies p)
make (eeprom_read p) b = valued b.tallies (gives_bit b.bytes b.memory p)
make (load_save f p) b = stored (loads f b.bytes b.memory b.tallies p)
make (save_data d p) b = filed b.tallies (exports d b.bytes b.memory p)
make (chip_state p) b = stated b.tallies (gives_state b.bytes b.memory p)
make (take_save_dirty p) b = flagged b.tallies (takes_flag b.bytes b.memory p)
make (import_save f k p) b = imported (imports f b.bytes b.memory b.tallies k p)
