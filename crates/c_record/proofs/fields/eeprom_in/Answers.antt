-- `c_record::fields::eeprom_in` meets its contract. Assumes nothing.
use mathlib.Core.Path.{ap}
use Rattle.chip_record.specs.declared.ChipRecord.{ChipRecord}
use Rattle.c_record.specs.RecordBytes.{cart_of}
use Rattle.c_record.proofs.fields.eeprom_in.Goals as goal

pub returns : goal.returns
unfolding cart_of
returns c = ap (λ (x : ChipRecord). x.eeprom) c.chip_of.ensures
