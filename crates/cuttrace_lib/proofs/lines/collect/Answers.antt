use Prim.Native.Nat.{◌+◌, ◌-◌}
use native.Mathlib.Omega.{arith}
use lib.ListN.{drop, length-take, length-drop}
use Rattle.cuttrace_lib.proofs.Codes.{collect-start, collect-more, collect-all}
use Rattle.cuttrace_lib.proofs.Texts.{part-long}
use Rattle.cuttrace_lib.proofs.lines.collect.Goals as goal

pub loop-i-init : goal.loop-i-init
loop-i-init c = collect-start c.args.text.now c.args.room.now c.requires.text_len_bound_2

pub slice_bounds-line_length-count : goal.slice_bounds-line_length-count
slice_bounds-line_length-count c = omega (arith, c.loop-i-test)

pub slice_bounds-line_length-start : goal.slice_bounds-line_length-start
slice_bounds-line_length-start c = omega (arith, c.loop-i-test)

pub overflow_add-end : goal.overflow_add-end
overflow_add-end c = omega (arith, c.line_length.ensures.1, part-long c.args.text.now c.loop-i.i, c.loop-i-test, c.requires.text_len_bound)

pub slice_bounds-read_line-end : goal.slice_bounds-read_line-end
slice_bounds-read_line-end c = omega (arith, c.line_length.ensures.1, part-long c.args.text.now c.loop-i.i, c.loop-i-test)

pub slice_bounds-read_line-count-in-loop-i : goal.slice_bounds-read_line-count-in-loop-i
slice_bounds-read_line-count-in-loop-i c = omega (arith, c.loop-i.invariant.place_ok, c.loop-i.invariant.used_ok, c.loop-i.invariant.same_ok, c.loop-i.invariant.room_ok)

pub slice_bounds-read_line-start-in-loop-i : goal.slice_bounds-read_line-start-in-loop-i
slice_bounds-read_line-start-in-loop-i c = omega (arith, c.loop-i.invariant.place_ok, c.loop-i.invariant.used_ok, c.loop-i.invariant.same_ok, c.loop-i.invariant.room_ok)

pub read_line-item-requires : goal.read_line-item-requires
read_line-item-requires c = omega (arith, length-take (c.loop-i.i + c.line_length.result - c.loop-i.i) (drop c.loop-i.i c.args.text.now), length-drop c.loop-i.i c.args.text.now, part-long c.loop-i.room c.loop-i.used, c.loop-i-test, c.loop-i.invariant.used_ok, c.loop-i.invariant.same_ok, c.loop-i.invariant.room_ok)

pub code_length-used-requires : goal.code_length-used-requires
code_length-used-requires c = omega (arith, c.read_line-item.ensures.result_in_bounds, length-take (c.loop-i.i + c.line_length.result - c.loop-i.i) (drop c.loop-i.i c.args.text.now), length-drop c.loop-i.i c.args.text.now, c.requires.text_len_bound)

pub overflow_add-used : goal.overflow_add-used
overflow_add-used c = omega (arith, c.code_length-used.ensures, c.read_line-item.ensures.result_in_bounds, length-take (c.loop-i.i + c.line_length.result - c.loop-i.i) (drop c.loop-i.i c.args.text.now), length-drop c.loop-i.i c.args.text.now, c.requires.text_len_bound, c.loop-i.invariant.place_ok, c.loop-i.invariant.used_ok)

pub overflow_add-i : goal.overflow_add-i
overflow_add-i c = omega (arith, c.line_length.ensures.1, part-long c.args.text.now c.loop-i.i, c.loop-i-test, c.requires.text_len_bound)

pub loop-i-smaller : goal.loop-i-smaller
loop-i-smaller c = omega (arith, c.line_length.ensures.1, part-long c.args.text.now c.loop-i.i, c.loop-i-test)

pub loop-i-preserved : goal.loop-i-preserved
loop-i-preserved c = collect-more c.line_length.result c.code_length-used.result c.read_line-item.result _ c.loop-i.invariant (omega (arith, c.loop-i-test)) c.line_length.ensures.0 c.line_length.ensures.1 (c.read_line-item.ensures.value, (c.read_line-item.ensures.room_after, c.read_line-item.ensures.result_in_bounds)) c.code_length-used.ensures c.room-1.given.0

pub shape_of-room : goal.shape_of-room
shape_of-room c = c.loop-i.invariant.same_ok

pub returns : goal.returns
returns c = record { room_after = collect-all c.loop-i.invariant (omega (arith, c.loop-i-test)); result_in_bounds = omega (arith, c.loop-i.invariant.used_ok, c.loop-i.invariant.place_ok) }
