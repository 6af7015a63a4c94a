-- `memory::apply_any` meets its contract, case by case. Assumes nothing.
use mathlib.Core.Path.{ap, ◌∙◌}
use mathlib.Core.List.{List}
use Prim.Native.Nat.{ℕ}
use native.Mathlib.Omega.{arith}
use lib.ListN.{length}
use Rattle.memory.specs.declared.Store.TheVariants.{Byte, Block, Sector, Chip}
use Rattle.memory.specs.Memory.{stored, with_count}
use Rattle.memory.proofs.Memory.{filled_none, stored-case}
use Rattle.memory.proofs.Counts.{none-counted}
use Rattle.memory.proofs.apply_any.Goals as goal

pub returns-in-Nothing : goal.returns-in-Nothing
unfolding stored
returns-in-Nothing c =
    let a = c.args in
    rw c.in-Nothing.is (none-counted a.memory.now a.tallies.now (λ i. omega (arith, c.type_inv.tallies i)))

pub returns-in-Byte : goal.returns-in-Byte
unfolding stored
returns-in-Byte c =
    let a = c.args in
    stored-case a.store (Byte c.in-Byte.place c.in-Byte.value) a.file.now a.memory.now a.tallies.now c.in-Byte.is c.put_byte.ensures

pub returns-in-Block : goal.returns-in-Block
unfolding stored
returns-in-Block c =
    let a = c.args in
    stored-case a.store (Block c.in-Block.block c.in-Block.word) a.file.now a.memory.now a.tallies.now c.in-Block.is c.put_block.ensures

pub returns-in-Sector : goal.returns-in-Sector
unfolding stored
returns-in-Sector c =
    let a = c.args in
    stored-case a.store (Sector c.in-Sector.place) a.file.now a.memory.now a.tallies.now c.in-Sector.is c.erase_sector.ensures

pub returns-in-Chip : goal.returns-in-Chip
unfolding stored
returns-in-Chip c =
    let a = c.args in
    let m = a.memory.now in
    let ts = a.tallies.now in
    stored-case a.store Chip a.file.now m ts c.in-Chip.is
    (c.load.ensures ∙ ap (λ (l : List ℕ). with_count m l ts) (filled_none (length m)))
