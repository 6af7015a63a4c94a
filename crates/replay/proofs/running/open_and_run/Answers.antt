-- `replay::running::open_and_run` meets its contract. Assumes nothing.
use mathlib.Core.Path.{ap, ◌∙◌}
use native.Mathlib.Omega.{arith}
use Rattle.cart.specs.declared.Cartridge.{Cartridge}
use Rattle.cart.specs.Replies.{tallied, reply_from}
use Rattle.replay.proofs.Whole.{opens-alike, opened-fresh}
use Rattle.replay.proofs.running.open_and_run.Goals as goal

pub run-requires : goal.run-requires
run-requires c =
    let s = c in
    let a = s.args in
    let o = c.from_number-opened in
    let l = c.memory-1.given in record { tallies_value = opens-alike a.image.now a.part a.memory.now a.tallies.now s.requires.tallies_value o.new.memory o.new.tallies l c.tallies-1.given; tallies_value_2 = ap (λ (k : Cartridge). tallied k o.new.memory o.new.tallies) (c.record_after-cart.ensures ∙ ap (λ (k : Cartridge). (reply_from k o.result).cart) c.no_cart.ensures) ∙ opened-fresh a.image.now a.part a.memory.now a.tallies.now s.requires.tallies_value o.ensures; image_value = s.requires.image_value; memory_in_bounds = omega (arith, l, s.requires.memory_in_bounds); memory_in_bounds_2 = omega (arith, l, s.requires.memory_in_bounds_2) }
