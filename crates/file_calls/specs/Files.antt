-- The length of the file that `save_data` writes; 0 for kind None, which has no file.
use Rattle.std.specs.Prelude.{Bool, cond, ℕ}
use Rattle.kind.specs.declared.SaveType.{SaveType}
use Rattle.kind.specs.Kind.{memory_size, uses_eeprom}

abbrev pub eeprom_length : Bool → ℕ
eeprom_length large = cond large 8192 512

abbrev pub file_length : SaveType → Bool → ℕ
file_length kind large = cond (uses_eeprom kind) (eeprom_length large) (memory_size kind)
