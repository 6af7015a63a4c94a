-- `memory::files::copy_file` meets its contract. Assumes nothing.
use mathlib.Core.List.{List}
use mathlib.Core.Path.{ap, ◌∙◌}
use Prim.Native.Nat.{ℕ}
use Rattle.lists.specs.Lists.{into}
use Rattle.memory.proofs.Loads.{into-front}
use Rattle.memory.proofs.files.copy_file.Goals as goal

pub returns : goal.returns
returns c =
    let a = c.args in
    c.copy-2.ensures
    ∙ ap (λ (xs : List ℕ). into xs a.s.now) (into-front a.output.now _ c.copy.ensures)
