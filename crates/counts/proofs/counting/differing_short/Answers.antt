-- `counts::counting::differing_short` meets its contract. Assumes nothing.
use mathlib.Core.Path.{◌∙◌}
use Prim.Native.Nat.{ℕ}
use Rattle.std.proofs.Common.{rules}
use Rattle.std.proofs.lemmas.Iterator.{YieldsList-from_slice, YieldsList-from_zip, YieldsList-from_map}
use Rattle.std.proofs.lemmas.Iterator.Consumers.{sum_by_from_yields_List}
use Rattle.std.specs.List.{zip}
use Rattle.lists.proofs.Bools.{tests}
use Rattle.counts.specs.Counts.{differs}
use Rattle.counts.proofs.Counts.{differing-sum}
use Rattle.counts.proofs.counting.differing_short.Goals as goal

pub returns : goal.returns
returns c =
    let s = c.args.s.now in
    let t = c.args.t.now in
    sum_by_from_yields_List (λ (p : ℕ × ℕ). differs p.0 p.1) (zip s t) c.map.result c.sum.result c.sum.ensures.ran
    (YieldsList-from_map _ (λ (p : ℕ × ℕ). differs p.0 p.1) (YieldsList-from_zip (YieldsList-from_slice s cc) (YieldsList-from_slice t cc)) c.map.ensures.closure (λ x r q k. search (rules, tests)))
    ∙ differing-sum s t
