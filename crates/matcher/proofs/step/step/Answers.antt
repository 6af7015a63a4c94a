-- `matcher::step::step` meets its contract. Assumes nothing.
use mathlib.Core.Path.{◌≡◌, sym, ap, ◌∙◌}
use mathlib.Core.Bool.{false, ◌&&◌}
use lib.Dec.{eqb}
use lib.ListN.{get_or}
use Rattle.matcher.specs.Matcher.{backwards}
use Rattle.matcher.specs.Quiet.{with_last}
use Rattle.matcher.proofs.Endings.{newer, quiet_step, stepped, no-v, no_line}
use borrow.Author.Rules.{rules}
use Rattle.matcher.proofs.step.step.Goals as goal
use Rattle.matcher.proofs.step.step.Goals.{then-b-ne86-via-then-b-ne86, then-b-ne86-via-else-b-ne86+then-l-ne95}

pub returns-then-b-ne86 : goal.returns-then-b-ne86
returns-then-b-ne86 c =
    let a = c.args in
    let no : eqb 0x5f (get_or a.m.last 0 0) && eqb 0x56 a.b ≡ false =
    elim c.then-b-ne86.branch [
      | then-b-ne86-via-then-b-ne86 w ↦ no-v (get_or a.m.last 0 0) a.b (λ e. w.if-b-ne86.true (sym e))
      | then-b-ne86-via-else-b-ne86+then-l-ne95 w ↦ no_line (get_or a.m.last 0 0) a.b (λ e. w.if-l-ne95.true (sym e))
    ] in
    ap (with_last a.m) (newer a.b a.m.last (search rules)) ∙ sym (quiet_step a.m a.b no)

pub returns : goal.returns
unfolding backwards
returns c =
    let a = c.args in
    stepped a.m a.b (search rules) c.ends.ensures c.ends-2.ensures c.ends-3.ensures c.ends-4.ensures c.ends-5.ensures
