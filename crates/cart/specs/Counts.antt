-- What is claimed of the number of places that a call changed. Document 02, ticket 2.
use Rattle.std.specs.Prelude.{◌≡◌, List, [], ℕ, ◌%◌, ◌≤◌, length}
use Rattle.counts.specs.Counts.{differing}
use Rattle.memory.specs.declared.Store.{Store}
use Rattle.memory.specs.declared.Store.TheVariants.{Nothing, File}
use Rattle.memory.specs.Memory.{stored, most}
use Rattle.byte_step.specs.ByteStep.{write_step}
use Rattle.eeprom.specs.Eeprom.{write_bit}
use Rattle.cart.specs.Record.{State}
use Rattle.cart.specs.Calls.{Call, save_read, save_write, eeprom_begin_dma, eeprom_write, eeprom_read}
use Rattle.cart.specs.Calls.{load_save, save_data, chip_state, take_save_dirty, step, import_save}

-- what an accepted call stores, and the file that it was passed
unfoldable pub store_of : Call → State → Store
store_of (save_read a) s = Nothing
store_of (save_write a v) s = (write_step s.cart.kind s.cart.chip.flash (length s.memory) a v).store
store_of (eeprom_begin_dma words) s = Nothing
store_of (eeprom_write v) s = (write_bit s.cart.chip.eeprom (v % 2)).store
store_of eeprom_read s = Nothing
store_of (load_save f) s = File
store_of save_data s = Nothing
store_of chip_state s = Nothing
store_of take_save_dirty s = Nothing

abbrev pub passed : Call → List ℕ
passed (save_read a) = []
passed (save_write a v) = []
passed (eeprom_begin_dma words) = []
passed (eeprom_write v) = []
passed eeprom_read = []
passed (load_save f) = f
passed save_data = []
passed chip_state = []
passed take_save_dirty = []

pub record Counts : Type 0 where
  -- of every call, refused ones among them: how many places of the memory after it differ from those before it
  pub called : (c : Call) (d : List ℕ) (s : State)
      → (step c d s).changed ≡ differing s.memory (step c d s).next.memory
  pub imported : (f : List ℕ) (s : State)
      → (import_save f s).changed ≡ differing s.memory (import_save f s).next.memory
  -- 0: the memory is as it was
  pub called_none : (c : Call) (d : List ℕ) (s : State)
      → (step c d s).changed ≡ 0 → (step c d s).next.memory ≡ s.memory
  pub imported_none : (f : List ℕ) (s : State)
      → (import_save f s).changed ≡ 0 → (import_save f s).next.memory ≡ s.memory
  -- an accepted call makes its store, and a call that is no store has 0
  pub makes : (c : Call) (d : List ℕ) (s : State) → (step c d s).refusal ≡ 0
      → (step c d s).next.memory ≡ stored (store_of c s) (passed c) s.memory
  pub no_store : (c : Call) (d : List ℕ) (s : State) → store_of c s ≡ Nothing → (step c d s).changed ≡ 0
  -- at most 1, 8, 4,096 or the memory's length, by kind of store
  pub most : (c : Call) (d : List ℕ) (s : State) → (step c d s).changed ≤ most (store_of c s) (length s.memory)
  pub imported_most : (f : List ℕ) (s : State) → (import_save f s).changed ≤ length s.memory
