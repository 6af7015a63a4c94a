-- `c_file_calls::load_save` meets its contract. Assumes nothing.
use mathlib.Core.Path.{sym, ap, ◌∙◌}
use mathlib.Core.List.{[]}
use Rattle.lists.proofs.Bools.{denied, granted}
use Rattle.kind.specs.Kind.{memory_size, tally_count}
use Rattle.cart.specs.Calls.{load_save, step}
use Rattle.c_record.specs.AtExit.{changed_at}
use Rattle.c_record.proofs.Calls.{no_record}
use Rattle.c_file_calls.proofs.FileCalls.{load-no, load-16, load-yes}
use Rattle.c_file_calls.proofs.load_save.Goals as goal

pub returns-then-not-is_record : goal.returns-then-not-is_record
returns-then-not-is_record c =
    let a = c.args in
    ap (changed_at a.changed.now) (no_record (step (load_save a.file.now) []) [] a.cart.now a.memory.now a.tallies.now (denied _ c.is_record.ensures.value c.if-not-is_record.true))

pub returns-then-memory-memory_size : goal.returns-then-memory-memory_size
returns-then-memory-memory_size c =
    let a = c.args in
    let i = c.is_record.ensures in
    let e = c.memory_size.ensures ∙ ap memory_size c.kind_in-kind.ensures in
    load-no a.cart.now a.memory.now (i.valid (granted _ i.value c.if-not-is_record.false)) (λ z. c.if-memory-memory_size.true (z ∙ sym e)) a.file.now a.tallies.now a.changed.now

pub returns-then-tallies-tally_count : goal.returns-then-tallies-tally_count
returns-then-tallies-tally_count c =
    let a = c.args in
    let i = c.is_record.ensures in
    let k = c.kind_in-kind.ensures in
    let e = c.if-memory-memory_size.false ∙ c.memory_size.ensures ∙ ap memory_size k in
    let h = c.tally_count.ensures ∙ ap tally_count k in
    load-16 a.cart.now a.memory.now (i.valid (granted _ i.value c.if-not-is_record.false)) e a.tallies.now (λ z. c.if-tallies-tally_count.true (z ∙ sym h)) a.file.now a.changed.now

pub returns : goal.returns
returns c =
    let a = c.args in
    let i = c.is_record.ensures in
    let k = c.kind_in-kind.ensures in
    let e = c.if-memory-memory_size.false ∙ c.memory_size.ensures ∙ ap memory_size k in
    let h = c.if-tallies-tally_count.false ∙ c.tally_count.ensures ∙ ap tally_count k in
    c.load_valid.ensures ∙ load-yes a.cart.now a.memory.now (i.valid (granted _ i.value c.if-not-is_record.false)) e a.tallies.now h a.file.now a.changed.now
