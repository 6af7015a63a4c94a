-- `crc::pieces::crc_finish` meets its contract. Assumes nothing.
use Rattle.crc.specs.Pieces.{crc_finish}
use borrow.Author.Rules.{rules}
use Rattle.crc.proofs.pieces.crc_finish.Goals as goal

pub returns : goal.returns
unfolding crc_finish
returns c = search rules
