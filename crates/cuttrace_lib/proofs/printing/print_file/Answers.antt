use Rattle.cuttrace_lib.proofs.Answers.{shows, file-refused, file-given}
use Rattle.cuttrace_lib.proofs.printing.print_file.Goals as goal

pub returns-then-answer-ne0 : goal.returns-then-answer-ne0
returns-then-answer-ne0 c = shows c.args.out.now (file-refused c.args.answer.now c.if-answer-ne0.true) c.print_line.ensures.value c.print_line.ensures.out_after

pub returns : goal.returns
returns c = shows c.args.out.now (file-given c.args.answer.now c.low32-n.result c.min-end.result c.if-answer-ne0.false c.low32-n.ensures c.min-end.ensures) c.print_line-2.ensures.value c.print_line-2.ensures.out_after
