use mathlib.Core.Path.{refl, sym, ap, ◌∙◌}
use mathlib.Core.List.{[]}
use Rattle.lists.specs.Lists.{into}
use Rattle.frames.specs.Frames.{first_in}
use Rattle.carttrace_lib.specs.declared.Stage.{Stage}
use Rattle.carttrace_lib.specs.Session.{buffers, begun, line_ended, continued, heard, by_stage, told}
use Rattle.carttrace_lib.proofs.Heard.{tells}
use Rattle.carttrace_lib.proofs.characters.end_line.Goals as goal

pub returns-in-First : goal.returns-in-First
unfolding line_ended
returns-in-First c =
    let a = c.args in
    let m = buffers a.memory.now a.tallies.now in
    c.begin.ensures ∙ (λ i. told (begun (c.first_in.ensures i) a.session m) a.out.now)
    ∙ ap (λ (g : Stage). told (by_stage g (begun (first_in a.session.line) a.session m) (continued a.session m) (heard [] a.session m)) a.out.now) (sym c.in-First.is)

pub returns-in-Playing : goal.returns-in-Playing
unfolding line_ended
returns-in-Playing c =
    let a = c.args in
    let m = buffers a.memory.now a.tallies.now in
    c.go_on.ensures
    ∙ ap (λ (g : Stage). told (by_stage g (begun (first_in a.session.line) a.session m) (continued a.session m) (heard [] a.session m)) a.out.now) (sym c.in-Playing.is)

pub returns-in-Over : goal.returns-in-Over
unfolding line_ended into
returns-in-Over c =
    let a = c.args in
    let m = buffers a.memory.now a.tallies.now in
    tells (heard [] a.session m) a.out.now c.told_with.ensures refl refl refl refl
    ∙ ap (λ (g : Stage). told (by_stage g (begun (first_in a.session.line) a.session m) (continued a.session m) (heard [] a.session m)) a.out.now) (sym c.in-Over.is)
