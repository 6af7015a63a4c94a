use mathlib.Core.Path.{ap, ◌∙◌}
use Rattle.std.proofs.lemmas.List.{drop_min}
use Rattle.kind.specs.Kind.{begins}
use Rattle.kind.proofs.Standing.{tested}
use Rattle.kind.proofs.header.begins_at.Goals as goal

pub returns : goal.returns
returns c =
    let a = c.args in
    tested a.p.now a.s.now c.min.result c.begins.ensures ∙ ap (begins a.p.now) (rw c.min.ensures (drop_min a.place a.s.now))
