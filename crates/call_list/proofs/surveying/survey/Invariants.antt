use mathlib.Core.Path.{◌≡◌}
use Prim.Native.Nat.{◌≤◌}
use lib.ListN.{length}
use Rattle.call_list.specs.Items.{items}
use Rattle.call_list.specs.Surveys.{surveyed_all}
use Rattle.call_list.proofs.surveying.survey.Given as goal

abbrev pub invariant-loop-rest : goal.invariant-loop-rest
invariant-loop-rest l = record {
  within : length l.rest ≤ length l.list;
  same : surveyed_all l.initial.s (items 0 l.list) ≡ surveyed_all l.s (items 0 l.rest);
}

abbrev pub decreases-loop-rest : goal.decreases-loop-rest
decreases-loop-rest l = length l.rest
