use mathlib.Core.List.{[]}
use Rattle.carttrace_lib.specs.Trace.{lines_from}
use Rattle.cuttrace_lib.specs.Lines.{list_of}
use Rattle.cuttrace_lib.specs.Setup.{prelude}
use mathlib.Core.Path.{◌∙◌}
use native.Mathlib.Omega.{arith}
use Rattle.cuttrace_lib.proofs.Texts.{part-long}
use Rattle.cuttrace_lib.proofs.Begun.{prelude-short}
use Rattle.cuttrace_lib.proofs.Traces.{list_put}
use Rattle.cuttrace_lib.proofs.whole.put_list.Goals as goal

pub slice_bounds-collect-count : goal.slice_bounds-collect-count
slice_bounds-collect-count c = omega (arith, c.put_prelude-begun.ensures.0, prelude-short c.args.kind, c.room-1.given, c.requires.text_bound)

pub slice_bounds-collect-start : goal.slice_bounds-collect-start
slice_bounds-collect-start c = omega (arith, c.put_prelude-begun.ensures.0, prelude-short c.args.kind, c.room-1.given, c.requires.text_bound)

pub collect-requires : goal.collect-requires
collect-requires c = record { text_len_bound = c.requires.text_len_bound; text_len_bound_2 = omega (arith, part-long c.put_prelude-begun.new.list c.put_prelude-begun.result, c.put_prelude-begun.ensures.0, prelude-short c.args.kind, c.room-1.given, c.requires.text_bound) }

pub overflow_add-result : goal.overflow_add-result
overflow_add-result c = omega (arith, c.put_prelude-begun.ensures.0, prelude-short c.args.kind, c.collect.ensures.result_in_bounds, c.requires.text_len_bound)

pub shape_of-room : goal.shape_of-room
shape_of-room c = c.room-2-1.given.1 ∙ c.room-1.given

pub returns : goal.returns
returns c = let p = c.put_prelude-begun in let k = prelude-short c.args.kind in
    let l = part-long p.new.list p.result in
    record { room_after = list_put (prelude c.args.kind) c.args.room.now p.new.list c.collect.new.room (list_of (lines_from [] c.args.text.now)) c.collect.result p.ensures (omega (arith, p.ensures.0, k, c.room-1.given, c.requires.text_bound)) (omega (arith, c.collect.ensures.result_in_bounds, c.room-2-1.given.0, l, p.ensures.0, k, c.room-1.given, c.requires.text_bound)) c.collect.ensures.room_after; upper_bound = omega (arith, c.collect.ensures.result_in_bounds, c.room-2-1.given.1, p.ensures.0, k, c.room-1.given, c.requires.text_bound) }
