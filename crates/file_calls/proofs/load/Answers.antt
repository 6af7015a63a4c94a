-- `file_calls::load` meets its contract. Assumes nothing.
use Rattle.memory.proofs.Counts.{count-is, memory-is, tallies-are}
use Rattle.cart.specs.Calls.{accepted, load}
use Rattle.file_calls.proofs.load.Goals as goal

pub returns : goal.returns
unfolding accepted load
returns c =
    let stores = c.apply-changed.ensures in
    rw (
      c.stored.ensures,
      c.with_eeprom.ensures,
      c.told.ensures,
      c.large_after.ensures,
      count-is stores,
      tallies-are stores,
      memory-is stores,
    )
