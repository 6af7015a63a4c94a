use mathlib.Core.Path.{◌≡◌, refl, ap, ◌∙◌}
use mathlib.Core.List.{List, ◌++◌}
use Prim.Native.Nat.{ℕ, ◌+◌}
use lib.ListN.{take, drop}
use Rattle.lists.proofs.Parts.{rest}
use Rattle.kind.proofs.Sizes.{memory-small}
use Rattle.cart.specs.Replies.{tallied}
use Rattle.cart.proofs.Sound.{record-allowed}
use Rattle.call_list.specs.Items.{item_in}
use Rattle.replay.specs.Replay.{left, play, cut_at}
use Rattle.replay.proofs.Pieces.{piece-length}
use Rattle.replay.proofs.Runs.{has_room}
use Prim.Native.Nat.{◌-◌}
use native.Mathlib.Omega.{arith}
use Rattle.replay.proofs.Runs.{ran-start, out-length, goes_on, ends}
use Rattle.replay.proofs.running.run.Goals as goal

pub loop-i-init : goal.loop-i-init
loop-i-init c = let a = c.args in
    ran-start a.image.now a.part a.list.now a.memory.now a.tallies.now a.scratch.now a.out.now a.fresh c.requires.tallies_value_2 c.requires.tallies_value c.requires.image_value c.requires.memory_in_bounds_2

pub slice_bounds-play-end-in-loop-i : goal.slice_bounds-play-end-in-loop-i
slice_bounds-play-end-in-loop-i c = let l = c.args.list.now in
    omega (arith, c.item_room.ensures, has_room c.loop-i.invariant (omega (arith, c.loop-i-test)) c.item_in-item.result (c.item_in-item.ensures.value ∙ ap item_in (rest c.loop-i.i l)), out-length c.loop-i.invariant)

pub play-cart-requires : goal.play-cart-requires
play-cart-requires c = let b = c.loop-i in
    let l = c.args.list.now in
    let k = has_room b.invariant (omega (arith, c.loop-i-test)) c.item_in-item.result (c.item_in-item.ensures.value ∙ ap item_in (rest b.i l)) in
    let n = c.item_room.result in
    let s = tallied b.cart b.memory b.tallies in
    record { item_in_bounds = c.item_in-item.ensures.result_in_bounds.0; out_len = piece-length b.at (b.at + n) n b.out refl (omega (arith, c.item_room.ensures, k, out-length b.invariant)) ∙ c.item_room.ensures; cart_value = record-allowed s b.invariant.stands.sound; memory_len = b.invariant.stands.sound.memory_ok; memory_in_bounds = omega (arith, b.invariant.memory_ok, b.invariant.scratch_ok, c.requires.memory_in_bounds) }

pub loop-i-preserved : goal.loop-i-preserved
loop-i-preserved c = let b = c.loop-i in
    let a = c.args in
    let l = a.list.now in
    let n = c.item_room.result in
    let o = c.play-cart.new.out in
    let h = c.item_in-item.ensures.value ∙ ap item_in (rest b.i l) in
    let k = has_room b.invariant (omega (arith, c.loop-i-test)) c.item_in-item.result h in
    let e : b.at + n - b.at ≡ n = omega arith in
    goes_on b.invariant (omega (arith, c.loop-i-test)) c.item_in-item.result h n c.item_length-i.result c.item_room.ensures c.item_length-i.ensures
    (c.play-cart.ensures ∙ ap (λ (w : List ℕ). left (play (cut_at a.image.now a.part) c.item_in-item.result w (tallied b.cart b.memory b.tallies))) (rest b.i l))
    (c.out-1.given.0 ∙ piece-length b.at (b.at + n) n b.out refl (omega (arith, c.item_room.ensures, k, out-length b.invariant)))
    c.memory-1.given c.tallies-1.given c.scratch-1.given (λ j. take b.at b.out ++ (o ++ drop (e j) (drop b.at b.out)))

pub ending_room-requires : goal.ending_room-requires
ending_room-requires c =
    let b = c.loop-i in
    omega (arith, b.invariant.stands.sound.memory_ok, memory-small b.cart.kind)

pub returns : goal.returns
returns c =
    let b = c.loop-i in
    let r = c.ending_room in
    let n = r.result in
    let o = c.end_with.new.out in
    let e : b.at + n - b.at ≡ n = omega arith in
    ends b.invariant (omega (arith, c.loop-i-test)) n c.end_with.ensures
    (c.out-2-1.given.0 ∙ piece-length b.at (b.at + n) n b.out refl (omega (arith, r.ensures, b.invariant.room_ok, out-length b.invariant)))
    (λ j. take b.at b.out ++ (o ++ drop (e j) (drop b.at b.out)))
