-- `crc::pieces::crc_feed` meets its contract: both constants are computed. Assumes nothing.
use mathlib.Core.Path.{refl}
use Rattle.crc.specs.Crc.{crc_bits, is_table}
use Rattle.crc.specs.Operator.{advanced, picked}
use Rattle.crc.specs.Pieces.{crc_feed}
use Rattle.crc.proofs.Doubling.{applied, doubled, lane-doubled}
use Rattle.crc.proofs.pieces.crc_feed.Goals as goal

pub invariant_of-table : goal.invariant_of-table
unfolding is_table crc_bits
invariant_of-table c = record { right = refl }

pub invariant_of-op : goal.invariant_of-op
unfolding crc_bits advanced picked applied doubled
invariant_of-op c = record { right = lane-doubled refl }

pub returns : goal.returns
unfolding crc_feed
returns c = c.over_bytes.ensures
