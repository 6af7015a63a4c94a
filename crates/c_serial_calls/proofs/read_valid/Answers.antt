-- `c_serial_calls::read_valid` meets its contract. Assumes nothing.
use mathlib.Core.Path.{sym, ap, ap₂, ◌∙◌}
use native.Mathlib.Omega.{arith}
use Rattle.kind.specs.Kind.{memory_size, uses_eeprom}
use Rattle.eeprom.specs.declared.Eeprom.{Eeprom}
use Rattle.cart.proofs.Bounds.{allowed-bounds}
use Rattle.cart.proofs.Sound.{eeprom-size}
use Rattle.c_record.specs.RecordBytes.{cart_of}
use mathlib.Core.Bool.{Bool}
use Rattle.eeprom.specs.Eeprom.{read_bit}
use Rattle.c_serial_calls.proofs.SerialCalls.{read-place}
use Rattle.c_serial_calls.proofs.read_valid.Goals as goal

pub read_bit-requires : goal.read_bit-requires
read_bit-requires c =
    let s = c in
    let b = allowed-bounds (cart_of s.args.cart.now) s.requires.allowed in
    let e = c.eeprom_in-e.ensures in
    let z = c.if-memory-memory_size.false ∙ c.memory_size.ensures ∙ ap memory_size c.kind_in-kind.ensures in (
      omega (arith, b.place_ok, ap (λ (x : Eeprom). x.place) e),
      λ t.
          let k = eeprom-size (cart_of s.args.cart.now).kind (sym (c.uses_eeprom.ensures ∙ ap uses_eeprom c.kind_in-kind.ensures) ∙ t) in
          omega (arith, b.block_ok, ap (λ (x : Eeprom). x.block) e, z, k),
    )

pub draw-requires : goal.draw-requires
draw-requires c =
    let s = c in
    omega (arith, (allowed-bounds (cart_of s.args.cart.now) s.requires.allowed).place_ok, ap (λ (x : Eeprom). x.place) c.eeprom_in-e.ensures)

pub returns-in-Place : goal.returns-in-Place
returns-in-Place c =
    let s = c in
    read-place s.args.cart.now s.args.memory.now s.requires (c.if-memory-memory_size.false ∙ c.memory_size.ensures ∙ ap memory_size c.kind_in-kind.ensures) s.args.bit.now _ c.eeprom_in-e.result c.draw.result
    c.eeprom_in-e.ensures (c.read_bit.ensures ∙ ap₂ (λ (p : Bool) (x : Eeprom). read_bit p x c.args.memory.now) (c.uses_eeprom.ensures ∙ ap uses_eeprom c.kind_in-kind.ensures) c.eeprom_in-e.ensures) c.draw.ensures c.in-Place.place c.in-Place.is c.put_place.ensures
