use native.Mathlib.Omega.{arith}
use Rattle.lists.proofs.Parts.{length_rest}
use Rattle.call_list.proofs.Surveys.{survey-more, survey-end}
use Rattle.call_list.proofs.surveying.survey.Goals as goal

pub loop-rest-preserved : goal.loop-rest-preserved
loop-rest-preserved c = record {
  within = omega (arith, length_rest c.item_length.result c.loop-rest.rest.now, c.loop-rest.invariant.within);
  same = survey-more _ _ _ _ _ _ (grind arith) c.item_in-item.ensures.value c.item_length.ensures c.surveyed-s.ensures c.loop-rest.invariant.same;
}

pub returns : goal.returns
returns c = survey-end _ _ _ (grind arith) c.loop-rest.invariant.same
