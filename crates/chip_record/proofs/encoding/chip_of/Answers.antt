use Rattle.chip_record.specs.ChipState.{chip_of}
use Rattle.chip_record.proofs.encoding.chip_of.Goals as goal

pub returns : goal.returns
unfolding chip_of
returns c = rw (c.acc_of.ensures, c.low16.ensures, c.phase_of.ensures)
