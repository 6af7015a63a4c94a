use native.Mathlib.Omega.{arith}
use Rattle.cuttrace_lib.proofs.Texts.{length_none, length_found}
use Rattle.cuttrace_lib.proofs.lines.line_length.Goals as goal

pub returns-in-Some : goal.returns-in-Some
returns-in-Some c = let h = c.in-Some.ensures in (length_found c.args.text.now c.in-Some.end h, omega (arith, h.0))

pub returns-in-None : goal.returns-in-None
returns-in-None c = (length_none c.args.text.now c.in-None.ensures, omega arith)
