use borrow.Enum.Refused.{opened}
use Rattle.cuttrace_lib.proofs.Answers.{shows, item-bad, item-state, item-other}
use Rattle.cuttrace_lib.proofs.printing.print_item.Goals as goal

pub returns-in-Bad : goal.returns-in-Bad
returns-in-Bad c =
    let a = c.args in
    let e = c.print_line.ensures in
    shows a.out.now (item-bad a.answer.now c.in-Bad.is) e.value e.out_after

pub returns-in-ChipState : goal.returns-in-ChipState
returns-in-ChipState c =
    let a = c.args in
    let e = c.print_state.ensures in
    shows a.out.now (item-state a.answer.now c.in-ChipState.is) e.0 e.1

pub returns-in_default : goal.returns-in_default
returns-in_default c =
    let a = c.args in
    let e = c.print_answer.ensures in
    shows a.out.now (item-other a.item a.answer.now (opened c.in_default.in_default-own.keys3)) e.0 e.1
