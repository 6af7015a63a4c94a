use mathlib.Core.Path.{refl, ◌∙◌}
use Prim.Native.Nat.{◌+◌, ◌-◌}
use native.Mathlib.Omega.{arith}
use lib.ListN.{take, drop}
use Rattle.replay.proofs.Pieces.{piece-length}
use Rattle.cuttrace_lib.proofs.Answers.{item-short, ending-short}
use Rattle.cuttrace_lib.proofs.Prints.{print-start, here-fits, print-more, print-all}
use Rattle.cuttrace_lib.proofs.printing.print_lines.Goals as goal

pub loop-i-init : goal.loop-i-init
loop-i-init c = print-start c.args.text.now c.args.memory c.args.answers.now c.args.room.now c.args.out.now c.requires.text_len_bound_2 c.requires.memory_in_bounds c.requires.text_in_bounds

pub item_room-requires : goal.item_room-requires
item_room-requires c = omega (arith, here-fits c.line_length.result c.read_line-item.result c.loop-i.invariant (omega (arith, c.loop-i-test)) c.line_length.ensures.0 c.read_line-item.ensures.value, c.well_formed)

pub overflow_add-next : goal.overflow_add-next
overflow_add-next c = omega (arith, c.item_room.ensures, here-fits c.line_length.result c.read_line-item.result c.loop-i.invariant (omega (arith, c.loop-i-test)) c.line_length.ensures.0 c.read_line-item.ensures.value, c.well_formed)

pub slice_bounds-print_item-end : goal.slice_bounds-print_item-end
slice_bounds-print_item-end c = omega (arith, c.item_room.ensures, here-fits c.line_length.result c.read_line-item.result c.loop-i.invariant (omega (arith, c.loop-i-test)) c.line_length.ensures.0 c.read_line-item.ensures.value)

pub overflow_add-len : goal.overflow_add-len
overflow_add-len c = let b = c.loop-i in let k = here-fits c.line_length.result c.read_line-item.result b.invariant (omega (arith, c.loop-i-test)) c.line_length.ensures.0 c.read_line-item.ensures.value in let answer = take (b.at + c.item_room.result - b.at) (drop b.at c.args.answers.now) in omega (arith, c.item_room.ensures, k, piece-length b.at (b.at + c.item_room.result) c.item_room.result c.args.answers.now refl (omega (arith, c.item_room.ensures, k)), c.print_item-len.ensures.0, item-short c.read_line-item.result answer, b.invariant.len_ok, b.invariant.out_ok, c.loop-i-test, c.well_formed)

pub loop-i-preserved : goal.loop-i-preserved
loop-i-preserved c = print-more c.line_length.result c.item_room.result c.read_line-item.result _ c.print_item-len.new.out c.print_item-len.result c.loop-i.invariant (omega (arith, c.loop-i-test)) c.line_length.ensures.0 c.line_length.ensures.1 c.read_line-item.ensures.value c.item_room.ensures c.room-1.given c.print_item-len.ensures

pub overflow_add-result : goal.overflow_add-result
overflow_add-result c =
    let b = c.loop-i in
    let r = c.ending_room in
    let s = c in
    let a = s.args in
    let l = piece-length b.at (b.at + r.result) r.result a.answers.now refl (omega (arith, r.ensures, b.invariant.at_ok)) ∙ r.ensures in
    omega (arith, c.print_ending.ensures.0, ending-short a.memory (take (b.at + r.result - b.at) (drop b.at a.answers.now)) l, b.invariant.len_ok, b.invariant.at_ok, b.invariant.out_ok, b.invariant.place_ok, s.well_formed)

pub returns : goal.returns
returns c =
    let r = c.ending_room in
    let e = c.print_ending in
    print-all r.result e.new.out e.result c.loop-i.invariant (omega (arith, c.loop-i-test)) r.ensures e.ensures
