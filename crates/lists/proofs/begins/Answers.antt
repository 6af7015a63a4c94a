-- `lists::begins` meets its contract. Assumes nothing.
use mathlib.Core.Path.{sym, ◌∙◌}
use Rattle.lists.proofs.Fronts.{none-begins, nothing-begins, other-first, same-first}
use Rattle.lists.proofs.begins.Goals as goal

pub returns-then-is_empty : goal.returns-then-is_empty
returns-then-is_empty c = none-begins c.args.p.now c.args.s.now (sym c.is_empty.ensures ∙ c.if-is_empty.true)

pub returns-then-is_empty-2 : goal.returns-then-is_empty-2
returns-then-is_empty-2 c =
    nothing-begins c.args.p.now c.args.s.now (sym c.is_empty.ensures ∙ c.if-is_empty.false) (sym c.is_empty-2.ensures ∙ c.if-is_empty-2.true)

pub returns-then-s-p : goal.returns-then-s-p
returns-then-s-p c =
    other-first c.args.p.now c.args.s.now (sym c.is_empty.ensures ∙ c.if-is_empty.false) (sym c.is_empty-2.ensures ∙ c.if-is_empty-2.false) c.if-s-p.true

pub returns : goal.returns
returns c =
    c.starts_with.ensures.value
    ∙ same-first c.args.p.now c.args.s.now (sym c.is_empty.ensures ∙ c.if-is_empty.false) (sym c.is_empty-2.ensures ∙ c.if-is_empty-2.false) c.if-s-p.false
