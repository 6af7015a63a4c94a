-- `memory::apply` meets its contract, case by case. Assumes nothing.
use native.Mathlib.Omega.{arith}
use Rattle.memory.specs.declared.Store.TheVariants.{Byte}
use Rattle.memory.specs.Memory.{stored}
use Rattle.memory.proofs.Memory.{stored-case}
use Rattle.memory.proofs.Counts.{none-counted}
use Rattle.memory.proofs.apply.Goals as goal

pub returns-in-Nothing : goal.returns-in-Nothing
unfolding stored
returns-in-Nothing c =
    let a = c.args in
    rw c.in-Nothing.is (none-counted a.memory.now a.tallies.now (λ i. omega (arith, c.type_inv.tallies i)))

pub returns-in-Byte : goal.returns-in-Byte
unfolding stored
returns-in-Byte c =
    let a = c.args in
    stored-case a.store (Byte c.in-Byte.place c.in-Byte.value) a.file.now a.memory.now a.tallies.now c.in-Byte.is c.put_byte.ensures
