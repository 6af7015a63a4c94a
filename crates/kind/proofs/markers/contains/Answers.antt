-- `kind::markers::contains` meets its contract. The invariant: the marker does not stand before this place. Assumes nothing.
use mathlib.Core.Path.{sym, ◌∙◌}
use Prim.Native.Nat.{◌≤◌}
use native.Mathlib.Omega.{arith}
use lib.ListN.{length, drop_of_length-le}
use Rattle.kind.specs.Kind.{stands}
use Rattle.kind.proofs.Standing.{tested, stands_here, stands_on}
use Rattle.kind.proofs.markers.contains.Goals as goal

pub returns-then-begins : goal.returns-then-begins
returns-then-begins c =
    let b = c.loop-place in
    let a = c.args in
    sym (stands_here a.marker.now a.s.now b.place (omega arith) (sym (tested a.marker.now a.s.now b.place c.begins.ensures) ∙ c.if-begins.true)) ∙ b.invariant

pub loop-place-preserved : goal.loop-place-preserved
loop-place-preserved c =
    let b = c.loop-place in
    let a = c.args in
    sym (stands_on a.marker.now a.s.now b.place (omega arith) (sym (tested a.marker.now a.s.now b.place c.begins.ensures) ∙ c.if-begins.false)) ∙ b.invariant

pub returns : goal.returns
unfolding stands
returns c =
    let b = c.loop-place in
    let past : length c.args.s.now ≤ b.place = omega arith in
    rw (drop_of_length-le c.args.s.now past) at b.invariant
