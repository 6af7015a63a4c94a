-- `counts::tallies::is_blank` meets its contract. Assumes nothing.
use mathlib.Core.Path.{ap, ◌∙◌}
use Prim.Native.Nat.{ℕ}
use lib.Dec.{eqb}
use Rattle.counts.specs.Tallies.{none_in_use}
use Rattle.counts.proofs.Answers.{blank-number}
use Rattle.counts.proofs.tallies.is_blank.Goals as goal

pub returns : goal.returns
returns c =
    let s = c in
    ap (λ (n : ℕ). eqb n none_in_use) c.first_in_use.ensures ∙ blank-number s.args.tallies.now s.requires
