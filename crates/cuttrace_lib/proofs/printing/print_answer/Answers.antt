use Rattle.cuttrace_lib.proofs.Answers.{shows, shows-none, answer-none, answer-refused, answer-given}
use native.Mathlib.Omega.{arith}
use Rattle.cuttrace_lib.proofs.printing.print_answer.Goals as goal

pub returns-then-answer-eq0 : goal.returns-then-answer-eq0
returns-then-answer-eq0 c = shows-none c.args.out.now (answer-none c.args.answer.now c.if-answer-eq0.true)

pub returns-then-answer-ne0 : goal.returns-then-answer-ne0
returns-then-answer-ne0 c = shows c.args.out.now (answer-refused c.args.answer.now (omega (arith, c.if-answer-eq0.false)) c.if-answer-ne0.true) c.print_line.ensures.value c.print_line.ensures.out_after

pub returns : goal.returns
returns c = shows c.args.out.now (answer-given c.args.answer.now (omega (arith, c.if-answer-eq0.false)) c.if-answer-ne0.false) c.print_line-2.ensures.value c.print_line-2.ensures.out_after
