use mathlib.Core.Path.{sym}
use mathlib.Core.List.{[]}
use native.Mathlib.Omega.{arith}
use lib.Seq.{length-take-le}
use Rattle.carttrace_lib.specs.Trace.{lines_from}
use Rattle.kind.proofs.Sizes.{memory-small}
use Rattle.cuttrace_lib.proofs.Answers.{shows}
use Rattle.cuttrace_lib.proofs.Traces.{text-refused, text-accepted, answers-held}
use Rattle.cuttrace_lib.proofs.whole.play_lines.Goals as goal

pub slice_bounds-gbasave_replay-end-3 : goal.slice_bounds-gbasave_replay-end-3
slice_bounds-gbasave_replay-end-3 c = sym (length-take-le c.put_list-used.result c.put_list-used.new.room c.put_list-used.ensures.upper_bound)

pub slice_bounds-gbasave_replay-end-4 : goal.slice_bounds-gbasave_replay-end-4
slice_bounds-gbasave_replay-end-4 c = omega (arith, c.memory_size-n.ensures, memory-small c.args.kind, c.requires.in_bounds)

pub slice_bounds-gbasave_replay-end-5 : goal.slice_bounds-gbasave_replay-end-5
slice_bounds-gbasave_replay-end-5 c = sym (length-take-le c.memory_size-n.result c.args.memory.now (omega (arith, c.memory_size-n.ensures, memory-small c.args.kind, c.requires.in_bounds)))

pub slice_bounds-gbasave_replay-end-6 : goal.slice_bounds-gbasave_replay-end-6
slice_bounds-gbasave_replay-end-6 c = omega (arith, c.memory_size-n.ensures, memory-small c.args.kind, c.requires.in_bounds_2)

pub slice_bounds-gbasave_replay-end-7 : goal.slice_bounds-gbasave_replay-end-7
slice_bounds-gbasave_replay-end-7 c = sym (length-take-le c.memory_size-n.result c.args.scratch.now (omega (arith, c.memory_size-n.ensures, memory-small c.args.kind, c.requires.in_bounds_2)))

pub returns-then-refusal-ne0 : goal.returns-then-refusal-ne0
returns-then-refusal-ne0 c = let a = c.args in
    shows a.out.now (text-refused a.kind (lines_from [] a.text.now) a.memory.now a.scratch.now a.answers.now _ _ c.memory_size-n.result c.gbasave_replay-refusal.result _ _ _ c.put_image.ensures c.put_list-used.ensures.room_after c.memory_size-n.ensures c.gbasave_replay-refusal.ensures c.if-refusal-ne0.true) c.print_line.ensures.value c.print_line.ensures.out_after

pub print_all-requires : goal.print_all-requires
print_all-requires c = let a = c.args in let p = c.requires in
    record { text_len_bound = p.text_len_bound; text_len_bound_2 = omega (arith, c.list-1.given, p.text_bound); kind_in_bounds = answers-held a.kind (lines_from [] a.text.now) a.memory.now a.scratch.now a.answers.now _ _ c.memory_size-n.result c.gbasave_replay-refusal.result _ _ _ c.put_image.ensures c.put_list-used.ensures.room_after c.memory_size-n.ensures c.gbasave_replay-refusal.ensures c.if-refusal-ne0.false c.answers-1.given (omega (arith, memory-small a.kind, p.in_bounds)); text_in_bounds = omega (arith, c.answers-1.given, p.text_in_bounds) }

pub returns : goal.returns
returns c = let a = c.args in
    shows a.out.now (text-accepted a.kind (lines_from [] a.text.now) a.memory.now a.scratch.now a.answers.now _ _ c.memory_size-n.result c.gbasave_replay-refusal.result _ _ _ c.put_image.ensures c.put_list-used.ensures.room_after c.memory_size-n.ensures c.gbasave_replay-refusal.ensures c.if-refusal-ne0.false) c.print_all.ensures.0 c.print_all.ensures.1
