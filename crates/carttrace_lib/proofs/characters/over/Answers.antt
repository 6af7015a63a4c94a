use mathlib.Core.Path.{sym, ap, ◌∙◌}
use mathlib.Core.Bool.{true, false}
use Rattle.carttrace_lib.specs.declared.Stage.{Stage}
use Rattle.carttrace_lib.specs.Session.{by_stage, no_kind, over}
use Rattle.carttrace_lib.proofs.characters.over.Goals as goal

pub returns-in-First : goal.returns-in-First
unfolding over
returns-in-First c =
    let a = c.args in
    c.no_kind.ensures ∙ ap (λ (g : Stage). by_stage g (no_kind a.session.line) false true) (sym c.in-First.is)

pub returns-in-Playing : goal.returns-in-Playing
unfolding over
returns-in-Playing c =
    let a = c.args in
    ap (λ (g : Stage). by_stage g (no_kind a.session.line) false true) (sym c.in-Playing.is)

pub returns-in-Over : goal.returns-in-Over
unfolding over
returns-in-Over c =
    let a = c.args in
    ap (λ (g : Stage). by_stage g (no_kind a.session.line) false true) (sym c.in-Over.is)
