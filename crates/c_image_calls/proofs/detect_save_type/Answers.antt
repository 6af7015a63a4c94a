-- `c_image_calls::detect_save_type` meets its contract. Assumes nothing.
use mathlib.Core.Path.{ap, ◌∙◌}
use Rattle.lists.proofs.Bools.{denied, granted}
use Rattle.kind.specs.Kind.{kind_number}
use Rattle.c_image_calls.proofs.Answers.{kind-no, kind-yes}
use Rattle.c_image_calls.proofs.detect_save_type.Goals as goal

pub returns-then-not-image_length : goal.returns-then-not-image_length
returns-then-not-image_length c = let a = c.args in kind-no a.image.now a.kind.now (denied _ c.image_length.ensures c.if-not-image_length.true)

pub returns : goal.returns
returns c = let a = c.args in kind-yes a.image.now a.kind.now (granted _ c.image_length.ensures c.if-not-image_length.false) (c.kind_number.ensures ∙ ap kind_number c.detect_save_type.ensures)
