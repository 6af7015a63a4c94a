-- `crc::operator::Operator::pick` meets its contract: what is picked, and what the digits that are left pick, is the whole.
-- Assumes nothing.
use mathlib.Core.Path.{◌≡◌}
use lib.Bits.{bit_xor}
use lib.ListN.{drop}
use Rattle.crc.specs.Operator.{picked}
use Rattle.crc.proofs.operator.Operator.pick.Given as goal

abbrev pub invariant-loop-number : goal.invariant-loop-number
invariant-loop-number l = bit_xor l.sum (picked (drop l.number-index l.self.numbers.now) l.digits) ≡ picked l.self.numbers.now l.c
