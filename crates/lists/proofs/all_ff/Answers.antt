-- `lists::all_ff` meets its contract. Assumes nothing.
use mathlib.Core.Path.{◌∙◌}
use lib.Dec.{eqb}
use Rattle.std.proofs.Common.{rules}
use Rattle.std.proofs.lemmas.Iterator.{YieldsList-from_slice}
use Rattle.std.proofs.lemmas.Iterator.Search.{all_from_yields_List}
use Rattle.lists.proofs.Bools.{tests}
use Rattle.lists.proofs.Erased.{all-ff}
use Rattle.lists.proofs.all_ff.Goals as goal

pub returns : goal.returns
returns c =
    all_from_yields_List (λ b. eqb b 255) _ _ _ c.all.ensures.ran (YieldsList-from_slice c.args.s.now cc) (λ x b q k. search (rules, tests))
    ∙ all-ff c.args.s.now
