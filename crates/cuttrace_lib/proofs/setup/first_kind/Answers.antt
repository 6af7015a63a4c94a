use mathlib.Core.Path.{ap, ◌∙◌}
use native.Mathlib.Omega.{arith}
use Rattle.frames.specs.Frames.{pushed_all, first_in}
use Rattle.frames.proofs.Lines.{first_said}
use Rattle.cuttrace_lib.proofs.Texts.{pushed_more, pushed-end}
use Rattle.frames.specs.declared.Line.{Line}
use Rattle.cuttrace_lib.proofs.setup.first_kind.Goals as goal

pub loop-c-preserved : goal.loop-c-preserved
loop-c-preserved c = pushed_more c.args.line.now c.loop-c.c-index c.loop-c.l _ _ (omega (arith, c.loop-c-test)) c.push-l.ensures c.loop-c.invariant

pub returns : goal.returns
returns c = c.first_in.ensures ∙ ap first_in (pushed-end c.args.line.now c.loop-c.c-index _ _ (omega (arith, c.loop-c-test)) c.loop-c.invariant ∙ ap (λ (l : Line). pushed_all l c.args.line.now) c.empty_line-l.ensures) ∙ first_said c.args.line.now
