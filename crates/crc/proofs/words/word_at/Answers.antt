-- `crc::words::word_at` meets its contract. Assumes nothing.
use borrow.Author.Rules.{rules}
use Rattle.crc.specs.Lanes.{word_at}
use Rattle.crc.proofs.words.word_at.Goals as goal

pub returns : goal.returns
unfolding word_at
returns c = search rules
