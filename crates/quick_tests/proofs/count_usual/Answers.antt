-- `quick_tests::count_usual` meets its contract. Assumes nothing.
use borrow.Author.Tests.{ltb-true, leb-true}
use Rattle.quick_tests.proofs.QuickTests.{count-zero, count-data, count-opcode, count-six, count-told}
use Rattle.quick_tests.proofs.count_usual.Goals as goal

pub returns-then-count-eq0 : goal.returns-then-count-eq0
returns-then-count-eq0 c =
    let a = c.args in
    λ e w large. count-zero a.phase a.count a.width large c.if-count-eq0.true (leb-true a.phase 6 e)

pub returns-then-phase-eq3 : goal.returns-then-phase-eq3
returns-then-phase-eq3 c =
    let a = c.args in
    λ e w large. count-data a.phase a.count a.width large c.if-phase-eq3.true (ltb-true a.count 64 e)

pub returns-then-phase-eq0 : goal.returns-then-phase-eq0
returns-then-phase-eq0 c =
    let a = c.args in
    λ e w large. count-opcode a.phase a.count a.width large c.if-phase-eq0.true (ltb-true a.count 2 e)

pub returns-then-count-lt6 : goal.returns-then-count-lt6
returns-then-count-lt6 c =
    let a = c.args in
    λ e w large. count-six a.phase a.count a.width large c.if-phase-eq3.false c.if-phase-eq0.false c.if-phase-gt3.false w c.if-count-lt6.true

pub returns : goal.returns
returns c =
    let a = c.args in
    λ e w large. count-told a.phase a.count a.width large c.if-phase-eq3.false c.if-phase-eq0.false c.if-phase-gt3.false (ltb-true _ _ e)
