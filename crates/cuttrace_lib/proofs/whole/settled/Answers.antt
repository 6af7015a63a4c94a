use mathlib.Core.Path.{sym, ◌∙◌}
use Rattle.cuttrace_lib.proofs.Traces.{settled-said, bad-ended, bad-unended}
use Rattle.cuttrace_lib.proofs.whole.settled.Goals as goal

pub returns-in-Some : goal.returns-in-Some
returns-in-Some c = sym (settled-said c.args.text.now c.line_length-end.result _ c.line_length-end.ensures.0 (sym c.in-Some.is ∙ c.first_kind.ensures))

pub returns-then-end-text : goal.returns-then-end-text
returns-then-end-text c = bad-ended c.args.text.now c.line_length-end.result c.line_length-end.ensures.0 (sym c.in-None.is ∙ c.first_kind.ensures) c.if-end-text.true

pub returns-else-end-text : goal.returns-else-end-text
returns-else-end-text c = bad-unended c.args.text.now c.line_length-end.result c.line_length-end.ensures.0 (sym c.in-None.is ∙ c.first_kind.ensures) c.if-end-text.false
