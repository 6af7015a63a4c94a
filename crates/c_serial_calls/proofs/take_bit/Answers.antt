-- `c_serial_calls::take_bit` meets its contract. Assumes nothing.
use mathlib.Core.Path.{ap, ◌∙◌}
use native.Mathlib.Omega.{arith}
use Rattle.kind.specs.Kind.{memory_size, tally_count, uses_eeprom}
use Rattle.eeprom.specs.declared.Eeprom.{Eeprom}
use Rattle.cart.proofs.Bounds.{allowed-bounds}
use Rattle.cart.proofs.Sound.{eeprom-size}
use Rattle.c_record.specs.RecordBytes.{cart_of}
use Rattle.lists.proofs.Bools.{granted}
use Rattle.eeprom.proofs.Fits.{turned-fits}
use Rattle.c_serial_calls.proofs.SerialCalls.{write-more, write-turn}
use Rattle.c_serial_calls.proofs.take_bit.Goals as goal

pub shift-requires : goal.shift-requires
shift-requires c =
    let s = c in
    let b = allowed-bounds (cart_of s.args.cart.now) s.requires.allowed in
    (omega (arith, b.count_ok, ap (λ (e : Eeprom). e.count) c.eeprom_in-e.ensures), omega arith)

pub turn_in-requires-clause-b_bound : goal.turn_in-requires-clause-b_bound
turn_in-requires-clause-b_bound c =
    let s = c in
    let b = allowed-bounds (cart_of s.args.cart.now) s.requires.allowed in
    let k = c.kind_in-kind in
    let n = c.if-memory-memory_size.false ∙ c.memory_size.ensures in
    let z = n ∙ ap memory_size k.ensures ∙ eeprom-size (cart_of s.args.cart.now).kind (granted _ (c.uses_eeprom.ensures ∙ ap uses_eeprom k.ensures) c.if-not-uses_eeprom.false) in
    (omega arith, turned-fits _ _ _ _ (omega (arith, b.block_ok, z, ap (λ (e : Eeprom). e.block) c.eeprom_in-e.ensures)))

pub returns-in-More : goal.returns-in-More
returns-in-More c =
    let s = c in
    let k = c.kind_in-kind.ensures in
    let e = c.eeprom_in-e in
    write-more s.args.cart.now s.args.memory.now s.requires (c.if-memory-memory_size.false ∙ c.memory_size.ensures ∙ ap memory_size k) s.args.tallies.now (c.if-tallies-tally_count.false ∙ c.tally_count.ensures ∙ ap tally_count k) s.args.value s.args.changed.now e.result c.w.result c.shift.result
    (granted _ (c.uses_eeprom.ensures ∙ ap uses_eeprom k) c.if-not-uses_eeprom.false) e.ensures c.w.ensures c.shift.ensures (λ i. omega (arith, c.type_inv.tallies i)) c.in-More.acc c.in-More.count c.in-More.is c.put_shift.ensures

pub returns-in-Full : goal.returns-in-Full
returns-in-Full c =
    let s = c in
    let k = c.kind_in-kind.ensures in
    let e = c.eeprom_in-e in
    let t = c.turn_in.ensures in
    write-turn s.args.cart.now s.args.memory.now s.requires (c.if-memory-memory_size.false ∙ c.memory_size.ensures ∙ ap memory_size k) s.args.tallies.now (c.if-tallies-tally_count.false ∙ c.tally_count.ensures ∙ ap tally_count k) s.args.value s.args.changed.now e.result c.w.result c.shift.result
    (granted _ (c.uses_eeprom.ensures ∙ ap uses_eeprom k) c.if-not-uses_eeprom.false) e.ensures c.w.ensures c.shift.ensures c.in-Full.acc c.in-Full.is t.cart_after t.tallies_after
