-- `c_record::is_record` meets its contract, question by question. Assumes nothing.
use mathlib.Core.Path.{ap, ◌∙◌}
use Rattle.std.proofs.Common.{rules}
use Rattle.lists.proofs.Bools.{denied, granted}
use Rattle.refusal.proofs.Passed.{ok-is}
use Rattle.image.specs.Image.{image_length}
use Rattle.c_record.proofs.RecordBytes.{low-four, valid-record, no_part, no_flag, no_length, by-chip}
use Rattle.c_record.proofs.is_record.Goals as goal

pub returns-then-not-kind_and_part : goal.returns-then-not-kind_and_part
returns-then-not-kind_and_part c =
    let s = c in
    let r = s.args.cart.now in
    record { value = no_part r (search rules) (denied _ c.kind_and_part.ensures c.if-not-kind_and_part.true); valid = valid-record r (λ i. search rules) }

pub returns-then-cart-gt1 : goal.returns-then-cart-gt1
returns-then-cart-gt1 c =
    let g = c in
    let s = g in
    let r = s.args.cart.now in
    record { value = no_flag r (search rules) (granted _ g.kind_and_part.ensures g.if-not-kind_and_part.false) c.if-cart-gt1.true; valid = valid-record r (λ i. search rules) }

pub returns-then-not-image_length : goal.returns-then-not-image_length
returns-then-not-image_length c =
    let f = c in
    let g = f in
    let s = g in
    let r = s.args.cart.now in
    let l = denied _ (c.image_length.ensures ∙ ap image_length (c.low32.ensures ∙ low-four r)) c.if-not-image_length.true in
    record { value = no_length r (search rules) (granted _ g.kind_and_part.ensures g.if-not-kind_and_part.false) f.if-cart-gt1.false l; valid = valid-record r (λ i. search rules) }

pub returns : goal.returns
returns c =
    let t = c in
    let f = t in
    let g = f in
    let s = g in
    let r = s.args.cart.now in
    let l = granted _ (t.image_length.ensures ∙ ap image_length (t.low32.ensures ∙ low-four r)) t.if-not-image_length.false in
    record { value = c.is_ok.ensures.value ∙ ok-is c.field_questions.result ∙ by-chip r (search rules) (granted _ g.kind_and_part.ensures g.if-not-kind_and_part.false) f.if-cart-gt1.false l c.field_questions.ensures; valid = valid-record r (λ i. search rules) }
