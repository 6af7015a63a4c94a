-- `memory::leaves::word_bytes` meets its contract. Assumes nothing.
use mathlib.Core.Path.{sym}
use Rattle.memory.proofs.Memory.{word_bytes}
use Rattle.memory.proofs.leaves.word_bytes.Goals as goal

pub returns : goal.returns
returns c = sym (word_bytes c.args.word)
