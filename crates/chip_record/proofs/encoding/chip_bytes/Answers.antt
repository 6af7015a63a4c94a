-- `chip_record::encoding::chip_bytes` meets its contract. Assumes nothing.
use Rattle.chip_record.specs.ChipState.{chip_bytes}
use Rattle.lists.proofs.Digits.{low-bytes}
use Rattle.chip_record.proofs.encoding.chip_bytes.Goals as goal

pub returns : goal.returns
unfolding chip_bytes
returns c = rw (c.phase_number.ensures, c.bit-2.ensures, c.bit.ensures, low-bytes c.args.chip.eeprom.acc)
