use mathlib.Core.Path.{ap, ◌∙◌}
use mathlib.Core.Bool.{false}
use Rattle.chip_record.specs.declared.ChipRecord.{ChipRecord}
use Rattle.cart.specs.Record.{fresh_chip, fresh_cart}
use Rattle.cart.proofs.fresh_cart.Goals as goal

pub returns : goal.returns
unfolding fresh_cart
returns c =
    let a = c.args in
    ap (λ (x : ChipRecord). record { len = a.len; kind = a.kind; part = a.part; dirty = false; chip = x }) (c.fresh_chip.ensures ∙ ap fresh_chip c.is_large.ensures)
