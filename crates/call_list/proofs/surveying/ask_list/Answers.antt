use native.Mathlib.Omega.{arith}
use Rattle.lists.proofs.Bools.{tests}
use Rattle.call_list.specs.Items.{items}
use Rattle.call_list.proofs.Surveys.{survey-said}
use Rattle.call_list.proofs.surveying.ask_list.Goals as goal

pub returns-then-not-s : goal.returns-then-not-s
returns-then-not-s c =
    let said = survey-said _ (items 0 c.args.list.now) _ c.survey-s.ensures in
    grind (arith, tests, said.0, said.1, said.2)

pub returns-then-eeprom : goal.returns-then-eeprom
returns-then-eeprom c =
    let said = survey-said _ (items 0 c.args.list.now) _ c.survey-s.ensures in
    grind (arith, tests, said.0, said.1, said.2)

pub returns-then-scratch-memory : goal.returns-then-scratch-memory
returns-then-scratch-memory c =
    let said = survey-said _ (items 0 c.args.list.now) _ c.survey-s.ensures in
    grind (arith, tests, said.0, said.1, said.2)

pub returns-then-is_none : goal.returns-then-is_none
returns-then-is_none c =
    let said = survey-said _ (items 0 c.args.list.now) _ c.survey-s.ensures in
    grind (arith, tests, said.0, said.1, said.2)

pub returns : goal.returns
returns c =
    let said = survey-said _ (items 0 c.args.list.now) _ c.survey-s.ensures in
    grind (arith, tests, said.0, said.1, said.2)
