-- `counts::counting::used_short` meets its contract. Assumes nothing.
use mathlib.Core.Path.{◌∙◌}
use Prim.Native.Nat.{ℕ}
use Rattle.std.proofs.Common.{rules}
use Rattle.std.proofs.lemmas.Iterator.{YieldsList-from_slice, YieldsList-from_map}
use Rattle.std.proofs.lemmas.Iterator.Consumers.{sum_by_from_yields_List}
use Rattle.lists.proofs.Bools.{tests}
use Rattle.counts.specs.Counts.{differs}
use Rattle.counts.proofs.Counts.{used-sum}
use Rattle.counts.proofs.counting.used_short.Goals as goal

pub returns : goal.returns
returns c =
    let s = c.args.s.now in
    sum_by_from_yields_List (λ (b : ℕ). differs b 255) s _ _ c.sum.ensures.ran
    (YieldsList-from_map _ (λ (b : ℕ). differs b 255) (YieldsList-from_slice s cc) c.map.ensures.closure (λ x r q k. search (rules, tests)))
    ∙ used-sum s
