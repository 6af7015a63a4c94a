-- `c_file_calls::import_save` meets its contract. Assumes nothing.
use mathlib.Core.Path.{sym, ap, ◌∙◌}
use mathlib.Core.List.{[]}
use native.Mathlib.Omega.{arith}
use lib.ListN.{length}
use Rattle.lists.proofs.Bools.{denied, granted}
use Rattle.kind.specs.declared.SaveType.{SaveType}
use Rattle.kind.specs.Kind.{memory_size, tally_count}
use Rattle.file_sizes.specs.SaveFit.{save_fit, taken, kept_part}
use Rattle.file_sizes.proofs.Fits.{kept-most}
use Rattle.cart.specs.Calls.{import_save}
use Rattle.c_record.specs.AtExit.{import_at}
use Rattle.c_record.proofs.Calls.{no_record}
use Rattle.c_file_calls.proofs.FileCalls.{import-no, import-16, no-fit, import-yes}
use Rattle.c_file_calls.proofs.import_save.Goals as goal

pub returns-then-not-is_record : goal.returns-then-not-is_record
returns-then-not-is_record c =
    let a = c.args in
    ap (import_at a.kept.now a.changed.now) (no_record (import_save a.file.now) [] a.cart.now a.memory.now a.tallies.now (denied _ c.is_record.ensures.value c.if-not-is_record.true))

pub returns-then-memory-memory_size : goal.returns-then-memory-memory_size
returns-then-memory-memory_size c =
    let a = c.args in
    let i = c.is_record.ensures in
    let e = c.memory_size.ensures ∙ ap memory_size c.kind_in-kind.ensures in
    import-no a.cart.now a.memory.now (i.valid (granted _ i.value c.if-not-is_record.false)) (λ z. c.if-memory-memory_size.true (z ∙ sym e)) a.file.now a.tallies.now a.kept.now a.changed.now

pub returns-then-tallies-tally_count : goal.returns-then-tallies-tally_count
returns-then-tallies-tally_count c =
    let a = c.args in
    let i = c.is_record.ensures in
    let k = c.kind_in-kind.ensures in
    let e = c.if-memory-memory_size.false ∙ c.memory_size.ensures ∙ ap memory_size k in
    let h = c.tally_count.ensures ∙ ap tally_count k in
    import-16 a.cart.now a.memory.now (i.valid (granted _ i.value c.if-not-is_record.false)) e a.tallies.now (λ z. c.if-tallies-tally_count.true (z ∙ sym h)) a.file.now a.kept.now a.changed.now

pub returns-then-not-takes : goal.returns-then-not-takes
returns-then-not-takes c =
    let a = c.args in
    let f = a.file.now in
    let i = c.is_record.ensures in
    let k = c.kind_in-kind.ensures in
    let e = c.if-memory-memory_size.false ∙ c.memory_size.ensures ∙ ap memory_size k in
    let h = c.if-tallies-tally_count.false ∙ c.tally_count.ensures ∙ ap tally_count k in
    no-fit a.cart.now a.memory.now (i.valid (granted _ i.value c.if-not-is_record.false)) e a.tallies.now h f a.kept.now a.changed.now
    (denied _ (c.takes.ensures ∙ ap (λ (s : SaveType). taken (save_fit s (length f))) k) c.if-not-takes.true)

pub overflow_cast-kept : goal.overflow_cast-kept
overflow_cast-kept c =
    omega (arith, ap length c.kept_part-part.ensures, kept-most c.kind_in-kind.result c.args.file.now)

pub returns : goal.returns
returns c =
    let a = c.args in
    let f = a.file.now in
    let i = c.is_record.ensures in
    let k = c.kind_in-kind.ensures in
    let e = c.if-memory-memory_size.false ∙ c.memory_size.ensures ∙ ap memory_size k in
    let h = c.if-tallies-tally_count.false ∙ c.tally_count.ensures ∙ ap tally_count k in
    import-yes a.cart.now a.memory.now (i.valid (granted _ i.value c.if-not-is_record.false)) e a.tallies.now h f _ a.kept.now a.changed.now
    (granted _ (c.takes.ensures ∙ ap (λ (s : SaveType). taken (save_fit s (length f))) k) c.if-not-takes.false)
    (c.kept_part-part.ensures ∙ ap (λ (s : SaveType). kept_part s f) k)
    c.load_valid.ensures
