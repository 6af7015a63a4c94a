use mathlib.Core.Path.{◌∙◌}
use Rattle.chip_record.proofs.Fields.{acc-value}
use Rattle.chip_record.proofs.encoding.acc_of.Goals as goal

pub returns : goal.returns
returns c = c.low64.ensures ∙ rw (c.low32-2.ensures, c.low32.ensures) (acc-value c.args.b.now c.requires)
