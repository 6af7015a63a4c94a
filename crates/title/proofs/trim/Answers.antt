-- `title::trim` meets its contract. Assumes nothing.
use native.Mathlib.Omega.{arith}
use Rattle.title.proofs.Texts.{trim_none, trim_last}
use Rattle.title.proofs.trim.Goals as goal

pub returns-in-Some : goal.returns-in-Some
returns-in-Some c = let h = c.in-Some.ensures in (trim_last c.args.s.now c.in-Some.last h, omega (arith, h.0))

pub returns-in-None : goal.returns-in-None
returns-in-None c = (trim_none c.args.s.now c.in-None.ensures, omega arith)
