-- `serial_calls::bit_in` meets its contract. Assumes nothing.
use mathlib.Core.Path.{sym, subst, ◌∙◌}
use native.Mathlib.Omega.{arith}
use Prim.Native.Nat.{◌%◌}
use lib.ListN.{length}
use Rattle.kind.proofs.Sizes.{whole-stretches}
use Rattle.memory.specs.Memory.{Fits}
use Rattle.memory.proofs.Counts.{count-is, memory-is, tallies-are}
use Rattle.eeprom.specs.declared.EepromStep.{EepromStep}
use Rattle.eeprom.specs.Eeprom.{bit_in}
use Rattle.eeprom.proofs.Fits.{write-fits}
use Rattle.cart.specs.Calls.{accepted}
use Rattle.cart.proofs.Bounds.{allowed-bounds}
use Rattle.cart.proofs.Sound.{eeprom-size}
use Rattle.serial_calls.proofs.bit_in.Goals as goal

pub write_bit-t-requires : goal.write_bit-t-requires
write_bit-t-requires c =
    let s = c in
    let b = allowed-bounds s.args.cart s.requires.0 in
    (b.limit_ok, omega (arith, b.count_ok), omega arith)

pub apply-changed-requires : goal.apply-changed-requires
apply-changed-requires c =
    let s = c in
    let a = s.args in
    let n = length a.memory.now in
    let b = allowed-bounds a.cart s.requires.0 in
    let size = s.requires.2 ∙ eeprom-size a.cart.kind s.requires.1 in record {
      tallied = omega (arith, s.requires.2, s.requires.3, whole-stretches a.cart.kind);
      fits = subst (λ (t : EepromStep). Fits t.store n) (sym c.write_bit-t.ensures)
          (write-fits n a.cart.chip.eeprom (a.value % 2) (omega (arith, b.block_ok)));
    }

pub returns : goal.returns
unfolding accepted bit_in
returns c =
    let stores = c.apply-changed.ensures in
    rw (
      c.stored.ensures,
      c.with_eeprom.ensures,
      c.flag_after.ensures,
      c.stores.ensures,
      count-is stores,
      tallies-are stores,
      memory-is stores,
      c.write_bit-t.ensures,
    )
