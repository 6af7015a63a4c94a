-- `c_file_calls::save_data` meets its contract. Assumes nothing.
use mathlib.Core.Path.{sym, ap, ap₂, ◌∙◌}
use mathlib.Core.List.{[]}
use Rattle.lists.proofs.Bools.{denied, granted}
use Rattle.kind.specs.Kind.{memory_size}
use Rattle.cart.specs.Calls.{save_data, step}
use Rattle.file_calls.specs.Files.{file_length}
use Rattle.c_record.specs.AtExit.{export_at}
use Rattle.c_record.proofs.Calls.{no_record}
use Rattle.c_file_calls.proofs.FileCalls.{large-read, export-no, no_room, export-yes}
use Rattle.c_file_calls.proofs.save_data.Goals as goal

pub returns-then-not-is_record : goal.returns-then-not-is_record
returns-then-not-is_record c =
    let a = c.args in
    let d = a.destination.now in
    ap (export_at a.length.now) (no_record (step save_data d) d a.cart.now a.memory.now [] (denied _ c.is_record.ensures.value c.if-not-is_record.true))

pub returns-then-memory-memory_size : goal.returns-then-memory-memory_size
returns-then-memory-memory_size c =
    let q = c in
    let a = q.args in
    let i = q.is_record.ensures in
    let e = c.memory_size.ensures ∙ ap memory_size c.kind_in-kind.ensures in
    export-no a.cart.now a.memory.now (i.valid (granted _ i.value q.if-not-is_record.false)) (λ z. c.if-memory-memory_size.true (z ∙ sym e)) a.destination.now a.length.now

pub returns-then-destination-n : goal.returns-then-destination-n
returns-then-destination-n c =
    let n = c in
    let q = n in
    let a = q.args in
    let r = a.cart.now in
    let i = q.is_record.ensures in
    let k = n.kind_in-kind.ensures in
    let e = n.if-memory-memory_size.false ∙ n.memory_size.ensures ∙ ap memory_size k in
    no_room r a.memory.now (i.valid (granted _ i.value q.if-not-is_record.false)) e a.destination.now a.length.now _
    (c.file_length-n.ensures ∙ ap₂ file_length k (large-read r)) c.if-destination-n.true

pub returns : goal.returns
returns c =
    let n = c in
    let q = n in
    let a = q.args in
    let r = a.cart.now in
    let i = q.is_record.ensures in
    let k = n.kind_in-kind.ensures in
    let e = n.if-memory-memory_size.false ∙ n.memory_size.ensures ∙ ap memory_size k in
    export-yes r a.memory.now (i.valid (granted _ i.value q.if-not-is_record.false)) e a.destination.now a.length.now _
    (c.file_length-n.ensures ∙ ap₂ file_length k (large-read r))
    c.if-destination-n.false
    c.copy_file.ensures
