use native.Mathlib.Omega.{arith}
use Rattle.cuttrace_lib.specs.Cuttrace.{play_from, cuttrace}
use mathlib.Core.Path.{sym, ◌∙◌}
use lib.ListN.{length}
use lib.Seq.{length-take-le}
use Rattle.cuttrace_lib.proofs.Answers.{shows, shows-none, shows-fits}
use Rattle.cuttrace_lib.proofs.Traces.{trace-none, trace-first, too_long, not-long}
use Rattle.cuttrace_lib.proofs.whole.run_trace.Goals as goal

pub returns-then-text-eq0 : goal.returns-then-text-eq0
returns-then-text-eq0 c = record { shows = shows-none c.args.out.now (trace-none c.args.text.now c.args.memory.now c.args.scratch.now c.args.answers.now c.if-text-eq0.true); upper_bound = omega arith }

pub slice_bounds-first_kind-end : goal.slice_bounds-first_kind-end
slice_bounds-first_kind-end c = sym (length-take-le c.line_length-end.result c.args.text.now c.line_length-end.ensures.1)

pub returns-then-text-gt-LONGEST_TRACE : goal.returns-then-text-gt-LONGEST_TRACE
returns-then-text-gt-LONGEST_TRACE c =
    let a = c.args in
    let e = trace-first a.text.now a.memory.now a.scratch.now a.answers.now c.line_length-end.result c.after_line-from.result _ c.if-text-eq0.false c.line_length-end.ensures.0 c.after_line-from.ensures.1 (sym c.in-Some.is ∙ c.first_kind.ensures) ∙ too_long _ (length a.text.now) _ a.memory.now a.scratch.now a.answers.now c.if-text-gt-LONGEST_TRACE.true in
    let s = shows a.out.now e c.print_line.ensures.value c.print_line.ensures.out_after in
    record { shows = s; upper_bound = shows-fits (cuttrace a.text.now a.memory.now a.scratch.now a.answers.now) _ a.out.now s c.out-1.given }

pub returns-else-text-gt-LONGEST_TRACE : goal.returns-else-text-gt-LONGEST_TRACE
returns-else-text-gt-LONGEST_TRACE c =
    let a = c.args in
    let e = trace-first a.text.now a.memory.now a.scratch.now a.answers.now c.line_length-end.result c.after_line-from.result _ c.if-text-eq0.false c.line_length-end.ensures.0 c.after_line-from.ensures.1 (sym c.in-Some.is ∙ c.first_kind.ensures) ∙ not-long _ (length a.text.now) _ a.memory.now a.scratch.now a.answers.now c.if-text-gt-LONGEST_TRACE.false in
    let s = shows a.out.now e c.play_lines.ensures.0 c.play_lines.ensures.1 in
    record { shows = s; upper_bound = shows-fits (cuttrace a.text.now a.memory.now a.scratch.now a.answers.now) _ a.out.now s c.out-in-Some-1.given }

pub returns-in-None : goal.returns-in-None
unfolding play_from
returns-in-None c =
    let a = c.args in
    let e = trace-first a.text.now a.memory.now a.scratch.now a.answers.now c.line_length-end.result c.after_line-from.result _ c.if-text-eq0.false c.line_length-end.ensures.0 c.after_line-from.ensures.1 (sym c.in-None.is ∙ c.first_kind.ensures) in
    let s = shows a.out.now e c.print_line-in-None.ensures.value c.print_line-in-None.ensures.out_after in
    record { shows = s; upper_bound = shows-fits (cuttrace a.text.now a.memory.now a.scratch.now a.answers.now) _ a.out.now s c.out-in-None-1.given }
