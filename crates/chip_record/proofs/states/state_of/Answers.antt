-- `chip_record::states::state_of` meets its contract. Assumes nothing.
use Rattle.std.proofs.Common.{◌∙◌}
use Rattle.lists.specs.Lists.{low_first}
use Rattle.chip_record.specs.ChipState.{chip_bytes}
use Rattle.chip_record.specs.States.{state_bytes}
use Rattle.chip_record.proofs.states.state_of.Goals as goal

pub returns : goal.returns
unfolding state_bytes chip_bytes low_first
returns c = rw (c.copy_from_slice.ensures.after ∙ c.chip_bytes.ensures, c.bit.ensures)
