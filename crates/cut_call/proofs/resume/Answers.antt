-- `cut_call::resume` meets its contract. Assumes nothing.
use mathlib.Core.Path.{ap, ◌∙◌}
use Rattle.cart.specs.declared.Cartridge.{Cartridge}
use Rattle.cart.specs.Record.{State}
use Rattle.cart.specs.Replies.{reply_from, tallied}
use Rattle.cart.specs.Calls.{restore}
use Rattle.cut_call.specs.Loads.{loaded_from}
use Rattle.cut_call.proofs.Cuts.{restored-with}
use Rattle.cut_call.proofs.resume.Goals as goal

pub returns : goal.returns
returns c =
    let a = c.args in
    let o = c.from_number-opened.ensures in
    let fresh = c.record_after-fresh.ensures ∙ ap (λ (k : Cartridge). (reply_from k c.from_number-opened.result).cart) c.no_cart.ensures ∙ (λ j. (o j).0.cart) in
    (λ i. tallied (c.record_after.ensures i) c.load_where_there_is_one-loaded.new.memory c.load_where_there_is_one-loaded.new.tallies)
    ∙ restored-with a.bytes.now _ _ _ (c.restore_chip_state.ensures _)
    ∙ ap (λ (t : State). (restore a.bytes.now t).next)
    (c.load_where_there_is_one-loaded.ensures
    ∙ (λ i. loaded_from a.file.now (record { cart = fresh i; memory = (o i).1; tallies = (o i).2 })))
