use mathlib.Core.Path.{◌≡◌}
use native.Mathlib.Omega.{arith}
use lib.ListN.{length, get_or, length-drop}
use Rattle.lists.proofs.Parts.{rest}
use Rattle.carttrace_lib.specs.Session.{buffers, took}
use Rattle.carttrace_lib.proofs.Feeding.{fed-start, out-length, fed-more, fed-all}
use Rattle.carttrace_lib.proofs.Short.{took-short}
use Rattle.carttrace_lib.proofs.characters.feed.Goals as goal

pub loop-c-init : goal.loop-c-init
loop-c-init c = fed-start _ _ _ _ c.requires.input_in_bounds

pub slice_bounds-take_in-count : goal.slice_bounds-take_in-count
slice_bounds-take_in-count c = omega (arith, c.loop-c.invariant.len_ok, c.loop-c.invariant.place_ok, c.loop-c.invariant.room_ok, out-length c.loop-c.invariant)

pub slice_bounds-take_in-start : goal.slice_bounds-take_in-start
slice_bounds-take_in-start c = omega (arith, c.loop-c.invariant.len_ok, c.loop-c.invariant.place_ok, c.loop-c.invariant.room_ok, out-length c.loop-c.invariant)

pub take_in-t-requires : goal.take_in-t-requires
take_in-t-requires c =
    let b = c.loop-c in
    let f = b.invariant in
    let p = c.requires in
    let l = length-drop b.len b.out in record { in_bounds = omega (arith, f.memory_ok, p.in_bounds); in_bounds_2 = omega (arith, f.tallies_ok, p.in_bounds_2); longest_line_in_bounds = rw (rest b.len b.out) (omega (arith, l, f.len_ok, f.place_ok, f.room_ok, out-length f, c.loop-c-test)) }

pub overflow_add-len : goal.overflow_add-len
overflow_add-len c =
    let b = c.loop-c in
    let x = get_or c.args.input.now b.c-index 0 in
    let m = buffers b.memory b.tallies in
    let n : c.take_in-t.result.len ≡ length (took b.s x m).text = λ i. (c.take_in-t.ensures i).0.len in
    omega (arith, n, took-short b.s x m, b.invariant.len_ok, c.loop-c-test, b.invariant.room_ok, c.well_formed)

pub loop-c-preserved : goal.loop-c-preserved
loop-c-preserved c = fed-more c.loop-c.invariant (omega (arith, c.loop-c-test)) c.take_in-t.ensures c.memory-1.given c.tallies-1.given

pub shape_of-memory : goal.shape_of-memory
shape_of-memory c = c.loop-c.invariant.memory_ok

pub shape_of-tallies : goal.shape_of-tallies
shape_of-tallies c = c.loop-c.invariant.tallies_ok

pub shape_of-out : goal.shape_of-out
shape_of-out c = out-length c.loop-c.invariant

pub returns : goal.returns
returns c =
    let b = c.loop-c.invariant in
    let n : c.told_with.result.len ≡ c.loop-c.len = λ i. (c.told_with.ensures i).len in
    record { out_after = fed-all b (omega (arith, c.loop-c-test)) c.told_with.ensures; len_in_bounds = omega (arith, n, b.len_ok, b.place_ok, b.room_ok) }
