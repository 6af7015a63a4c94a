-- `chip_record::encoding::chip_allowed` meets its contract, field by field. Assumes nothing.
use mathlib.Core.Path.{sym, ap, ◌∙◌}
use lib.Dec.{ltb}
use borrow.Author.Tests.{le-leb, lt-leb}
use Rattle.lists.proofs.Bools.{denied, granted}
use Rattle.eeprom.specs.Eeprom.{count_limit}
use Rattle.chip_record.proofs.Fields.{chip-fields}
use Rattle.chip_record.proofs.encoding.chip_allowed.Goals as goal

pub returns-then-not-state_allowed : goal.returns-then-not-state_allowed
returns-then-not-state_allowed c = sym (chip-fields c.args.chip ∙ rw (denied _ c.state_allowed.ensures c.if-not-state_allowed.true))

pub returns-then-flash-gt1 : goal.returns-then-flash-gt1
returns-then-flash-gt1 c =
    sym
    (chip-fields c.args.chip
    ∙ rw (
      granted _ c.state_allowed.ensures c.if-not-state_allowed.false,
      lt-leb _ _ c.if-flash-gt1.true,
    ))

pub returns-then-not-width_allowed : goal.returns-then-not-width_allowed
returns-then-not-width_allowed c =
    sym
    (chip-fields c.args.chip
    ∙ rw (
      granted _ c.state_allowed.ensures c.if-not-state_allowed.false,
      le-leb _ _ c.if-flash-gt1.false,
      denied _ c.width_allowed.ensures c.if-not-width_allowed.true,
    ))

pub returns-then-e-gt1023 : goal.returns-then-e-gt1023
returns-then-e-gt1023 c =
    sym
    (chip-fields c.args.chip
    ∙ rw (
      granted _ c.state_allowed.ensures c.if-not-state_allowed.false,
      le-leb _ _ c.if-flash-gt1.false,
      granted _ c.width_allowed.ensures c.if-not-width_allowed.false,
      lt-leb _ _ c.if-e-gt1023.true,
    ))

pub returns-then-e-gt67 : goal.returns-then-e-gt67
returns-then-e-gt67 c =
    sym
    (chip-fields c.args.chip
    ∙ rw (
      granted _ c.state_allowed.ensures c.if-not-state_allowed.false,
      le-leb _ _ c.if-flash-gt1.false,
      granted _ c.width_allowed.ensures c.if-not-width_allowed.false,
      le-leb _ _ c.if-e-gt1023.false,
      lt-leb _ _ c.if-e-gt67.true,
    ))

pub returns : goal.returns
returns c =
    let k = c.args.chip in
    ap (ltb k.eeprom.count) (c.count_limit.ensures ∙ ap (count_limit k.eeprom.phase) c.w.ensures)
    ∙ sym
    (chip-fields k
    ∙ rw (
      granted _ c.state_allowed.ensures c.if-not-state_allowed.false,
      le-leb _ _ c.if-flash-gt1.false,
      granted _ c.width_allowed.ensures c.if-not-width_allowed.false,
      le-leb _ _ c.if-e-gt1023.false,
      le-leb _ _ c.if-e-gt67.false,
    ))
