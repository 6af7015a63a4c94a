use Rattle.kind.proofs.Sizes.{memory-small}
use Rattle.cuttrace_lib.specs.Printing.{lines_text}
use Rattle.carttrace_lib.specs.Trace.{lines_from}
use lib.ListN.{length, take, drop}
use Prim.Native.Nat.{◌-◌}
use mathlib.Core.Path.{◌∙◌}
use mathlib.Core.List.{[]}
use native.Mathlib.Omega.{arith}
use Rattle.frames.proofs.Printed.{length-line}
use Rattle.cuttrace_lib.proofs.Texts.{part-long}
use Rattle.cuttrace_lib.proofs.Answers.{shows-fits}
use Rattle.cuttrace_lib.proofs.Traces.{all_shown}
use Rattle.cuttrace_lib.proofs.whole.print_all.Goals as goal

pub print_line-n-requires : goal.print_line-n-requires
print_line-n-requires c = omega (arith, c.requires.text_in_bounds)

pub slice_bounds-print_lines-count : goal.slice_bounds-print_lines-count
slice_bounds-print_lines-count c = omega (arith, c.prelude_room-from.ensures, c.requires.kind_in_bounds)

pub slice_bounds-print_lines-start : goal.slice_bounds-print_lines-start
slice_bounds-print_lines-start c = omega (arith, c.prelude_room-from.ensures, c.requires.kind_in_bounds)

pub slice_bounds-print_lines-count-2 : goal.slice_bounds-print_lines-count-2
slice_bounds-print_lines-count-2 c = omega (arith, c.print_line-n.ensures.value, length-line 0 [], c.out-1.given, c.requires.text_in_bounds)

pub slice_bounds-print_lines-start-2 : goal.slice_bounds-print_lines-start-2
slice_bounds-print_lines-start-2 c = omega (arith, c.print_line-n.ensures.value, length-line 0 [], c.out-1.given, c.requires.text_in_bounds)

pub print_lines-requires : goal.print_lines-requires
print_lines-requires c = let a = part-long c.args.answers.now c.prelude_room-from.result in
    record { text_len_bound = c.requires.text_len_bound; memory_bound = omega (arith, c.memory_size.ensures, memory-small c.args.kind); text_len_bound_2 = c.requires.text_len_bound_2; memory_in_bounds = omega (arith, a, c.prelude_room-from.ensures, c.memory_size.ensures, c.requires.kind_in_bounds); text_in_bounds = omega (arith, a, part-long c.print_line-n.new.out c.print_line-n.result, c.print_line-n.ensures.value, length-line 0 [], c.out-1.given, c.requires.text_in_bounds) }

pub overflow_add-result : goal.overflow_add-result
overflow_add-result c = let o = c.print_line-n in let part = take (length o.new.out - o.result) (drop o.result o.new.out) in
    omega (arith, shows-fits (lines_text c.memory_size.result (lines_from [] c.args.text.now) (take (length c.args.answers.now - c.prelude_room-from.result) (drop c.prelude_room-from.result c.args.answers.now))) c.print_lines.new.out part c.print_lines.ensures c.out-2-1.given.0, part-long o.new.out o.result, o.ensures.value, length-line 0 [], c.out-1.given, c.requires.text_in_bounds, c.well_formed)

pub shape_of-room : goal.shape_of-room
shape_of-room c = c.room-1.given

pub shape_of-out : goal.shape_of-out
shape_of-out c = c.out-2-1.given.1 ∙ c.out-1.given

pub returns : goal.returns
returns c = all_shown c.args.kind c.args.text.now c.args.answers.now c.args.out.now c.print_line-n.new.out c.print_lines.new.out c.memory_size.result c.prelude_room-from.result c.print_line-n.result c.print_lines.result c.memory_size.ensures c.prelude_room-from.ensures (omega (arith, c.print_line-n.ensures.value, length-line 0 [], c.requires.text_in_bounds)) (c.print_line-n.ensures.value, c.print_line-n.ensures.out_after) c.print_lines.ensures
