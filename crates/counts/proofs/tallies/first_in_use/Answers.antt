-- `counts::tallies::first_in_use` meets its contract. Assumes nothing.
use mathlib.Core.Path.{sym, ap, ◌∙◌}
use Rattle.std.proofs.Common.{rules}
use Rattle.std.proofs.lemmas.Iterator.{YieldsList-from_slice}
use Rattle.std.proofs.lemmas.Iterator.Search.{position_from_yields_List}
use Rattle.lists.proofs.Bools.{tests}
use Rattle.counts.proofs.Answers.{number, in_use, first-number}
use Rattle.counts.proofs.tallies.first_in_use.Goals as goal

pub returns-in-Some : goal.returns-in-Some
returns-in-Some c =
    let ts = c.args.tallies.now in
    ap number (sym c.in-Some.is)
    ∙ first-number ts (position_from_yields_List in_use _ _ _ c.position.ensures.ran (YieldsList-from_slice ts cc) (λ x b q k. search (rules, tests)))

pub returns-in-None : goal.returns-in-None
returns-in-None c =
    let ts = c.args.tallies.now in
    ap number (sym c.in-None.is)
    ∙ first-number ts (position_from_yields_List in_use _ _ _ c.position.ensures.ran (YieldsList-from_slice ts cc) (λ x b q k. search (rules, tests)))
