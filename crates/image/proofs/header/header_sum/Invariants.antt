use Rattle.std.proofs.Common.{◌≡◌, take, drop}
use Rattle.lists.specs.Lists.{fold}
use Rattle.image.specs.Image.{less}
use Rattle.image.proofs.header.header_sum.Given as goal

-- what is left to subtract, from the sum so far, gives the whole
abbrev pub invariant-loop-byte : goal.invariant-loop-byte
invariant-loop-byte l = fold less l.sum (drop l.byte-index (take 29 (drop 160 l.image))) ≡ fold less 0 (take 29 (drop 160 l.image))
