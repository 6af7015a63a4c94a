use native.Mathlib.Omega.{arith}
use mathlib.Core.Path.{sym}
use Prim.Native.Nat.{◌/◌}
use lib.ListN.{length}
use lib.Seq.{length-take-le}
use Rattle.cuttrace_lib.proofs.Codes.{read_short, read-other, read-longer, read_whole}
use Rattle.cuttrace_lib.proofs.lines.read_line.Goals as goal

pub returns-then-n-eq0 : goal.returns-then-n-eq0
returns-then-n-eq0 c =
    let z = read_short c.args.line.now c.args.room.now c.if-n-eq0.true in
    record { value = z.0; room_after = z.1.0; result_in_bounds = z.1.1 }

pub returns-then-not-put_bytes : goal.returns-then-not-put_bytes
returns-then-not-put_bytes c =
    let z = read-other c.args.line.now c.put_bytes.new.room c.put_bytes.new.room c.put_bytes.result c.if-not-put_bytes.true c.put_bytes.ensures in
    record { value = z.0; room_after = z.1.0; result_in_bounds = z.1.1 }

pub slice_bounds-item_in-end-2 : goal.slice_bounds-item_in-end-2
slice_bounds-item_in-end-2 c = sym (length-take-le (length c.args.line.now / 2) c.put_bytes.new.room (omega (arith, c.requires, c.room-1.given)))

pub item_in-item-requires : goal.item_in-item-requires
item_in-item-requires c = omega (arith, c.if-n-eq0.false, length-take-le (length c.args.line.now / 2) c.put_bytes.new.room (omega (arith, c.requires, c.room-1.given)))

pub item_length-requires : goal.item_length-requires
item_length-requires c = omega (arith, c.item_in-item.ensures.result_in_bounds.0, c.well_formed, length-take-le (length c.args.line.now / 2) c.put_bytes.new.room (omega (arith, c.requires, c.room-1.given)))

pub returns-then-item_length-n : goal.returns-then-item_length-n
returns-then-item_length-n c =
    let z = read-longer c.args.line.now c.put_bytes.new.room c.put_bytes.result c.item_in-item.result c.item_length.result (omega (arith, c.requires, c.room-1.given)) c.if-not-put_bytes.false c.put_bytes.ensures c.item_in-item.ensures.value c.item_length.ensures c.if-item_length-n.true in
    record { value = z.0; room_after = z.1.0; result_in_bounds = z.1.1 }

pub returns : goal.returns
returns c =
    let z = read_whole c.args.line.now c.put_bytes.new.room c.put_bytes.result c.item_in-item.result c.item_length.result (omega (arith, c.requires, c.room-1.given)) c.if-not-put_bytes.false c.put_bytes.ensures c.item_in-item.ensures.value c.item_length.ensures c.if-item_length-n.false in
    record { value = z.0; room_after = z.1.0; result_in_bounds = z.1.1 }
