-- What each exported call on a record leaves: the machine's own call, of the record that its bytes are. A call that is
-- passed no tallies is the machine's call with none.
use Rattle.std.specs.Prelude.{List, [], ℕ}
use Rattle.cart.specs.Record.{from_bytes}
use Rattle.cart.specs.Calls.{save_read, save_write, eeprom_begin_dma, eeprom_write, eeprom_read, load_save, save_data, chip_state, take_save_dirty}
use Rattle.cart.specs.Calls.{step, restore, import_save, uses_eeprom_of, eeprom_window_start, is_blank, in_use}
use Rattle.c_record.specs.AtExit.{left, called, plain, tallied_at, value_at, changed_at, import_at}
use Rattle.c_record.specs.AtExit.{flag_at, state_at, export_at, asked_at}

-- opening writes the record, whatever it was
abbrev pub opens : List ℕ → ℕ → List ℕ → List ℕ → ℕ × List ℕ × List ℕ × List ℕ
opens image part m ts = tallied_at (left (from_bytes image part m ts))

abbrev pub reads : ℕ → List ℕ → List ℕ → ℕ → ℕ × List ℕ × List ℕ × ℕ
reads address r m place = value_at place (called (step (save_read address) []) [] r m [])

abbrev pub writes : ℕ → ℕ → List ℕ → List ℕ → List ℕ → ℕ → ℕ × List ℕ × List ℕ × List ℕ × ℕ
writes address value r m ts place = changed_at place (called (step (save_write address value) []) [] r m ts)

abbrev pub announces : ℕ → List ℕ → List ℕ → ℕ × List ℕ × List ℕ
announces words r m = plain (called (step (eeprom_begin_dma words) []) [] r m [])

abbrev pub takes_bit : ℕ → List ℕ → List ℕ → List ℕ → ℕ → ℕ × List ℕ × List ℕ × List ℕ × ℕ
takes_bit value r m ts place = changed_at place (called (step (eeprom_write value) []) [] r m ts)

abbrev pub gives_bit : List ℕ → List ℕ → ℕ → ℕ × List ℕ × List ℕ × ℕ
gives_bit r m place = value_at place (called (step eeprom_read []) [] r m [])

abbrev pub loads : List ℕ → List ℕ → List ℕ → List ℕ → ℕ → ℕ × List ℕ × List ℕ × List ℕ × ℕ
loads file r m ts place = changed_at place (called (step (load_save file) []) [] r m ts)

abbrev pub exports : List ℕ → List ℕ → List ℕ → ℕ → ℕ × List ℕ × List ℕ × List ℕ × ℕ
exports d r m place = export_at place (called (step save_data d) d r m [])

abbrev pub imports : List ℕ → List ℕ → List ℕ → List ℕ → ℕ → ℕ → ℕ × List ℕ × List ℕ × List ℕ × ℕ × ℕ
imports file r m ts kept changed = import_at kept changed (called (import_save file) [] r m ts)

abbrev pub gives_state : List ℕ → List ℕ → List ℕ → ℕ × List ℕ × List ℕ × List ℕ
gives_state r m place = state_at place (called (step chip_state []) [] r m [])

abbrev pub restores : List ℕ → List ℕ → List ℕ → ℕ × List ℕ × List ℕ
restores bytes r m = plain (called (restore bytes) [] r m [])

abbrev pub takes_flag : List ℕ → List ℕ → ℕ → ℕ × List ℕ × List ℕ × ℕ
takes_flag r m place = flag_at place (called (step take_save_dirty []) [] r m [])

abbrev pub tells_eeprom : List ℕ → ℕ → ℕ × ℕ
tells_eeprom r place = asked_at uses_eeprom_of r place

abbrev pub tells_window : List ℕ → ℕ → ℕ × ℕ
tells_window r place = asked_at eeprom_window_start r place

abbrev pub tells_blank : List ℕ → List ℕ → ℕ → ℕ × ℕ
tells_blank r ts place = asked_at (λ c. is_blank c ts) r place

abbrev pub tells_in_use : List ℕ → List ℕ → ℕ → ℕ × ℕ
tells_in_use r ts place = asked_at (λ c. in_use c ts) r place
