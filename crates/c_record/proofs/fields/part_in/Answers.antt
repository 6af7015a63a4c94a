-- `c_record::fields::part_in` meets its contract. Assumes nothing.
use Rattle.std.proofs.Common.{ap, ◌∙◌}
use Rattle.part.specs.Part.{part_of}
use Rattle.c_record.specs.RecordBytes.{cart_of}
use Rattle.c_record.proofs.fields.part_in.Goals as goal

pub returns : goal.returns
unfolding cart_of
returns c = c.part_of.ensures ∙ ap part_of c.from.ensures
