-- `c_record::kind_and_part` meets its contract. Assumes nothing.
use mathlib.Core.Path.{sym}
use native.Mathlib.Omega.{arith}
use borrow.Author.Tests.{le-leb}
use Rattle.kind.specs.Kind.{kind_of}
use Rattle.part.specs.Part.{part_of, part_fits}
use Rattle.c_record.proofs.PartNumbers.{usual-at, named, fits-at, fits_not}
use Rattle.c_record.proofs.kind_and_part.Goals as goal

pub returns-then-place-le5 : goal.returns-then-place-le5
returns-then-place-le5 c =
    let a = c.args in
    rw (le-leb a.kind 5 (omega (arith, c.if-place-le5.true)), usual-at a.part a.kind c.if-place-le5.true)

pub returns-in-10 : goal.returns-in-10
unfolding part_of part_fits kind_of
returns-in-10 c =
    let a = c.args in
    let k = c.if-kind-gt5.false in
    rw (le-leb a.kind 5 k) (sym (fits-at a.part a.kind k 1 2 (omega arith) c.in-10.is))

pub returns-in-18 : goal.returns-in-18
unfolding part_of part_fits kind_of
returns-in-18 c =
    let a = c.args in
    let k = c.if-kind-gt5.false in
    rw (le-leb a.kind 5 k) (sym (fits-at a.part a.kind k 2 2 (omega arith) c.in-18.is))

pub returns-in-26 : goal.returns-in-26
unfolding part_of part_fits kind_of
returns-in-26 c =
    let a = c.args in
    let k = c.if-kind-gt5.false in
    rw (le-leb a.kind 5 k) (sym (fits-at a.part a.kind k 3 2 (omega arith) c.in-26.is))

pub returns-in-35 : goal.returns-in-35
unfolding part_of part_fits kind_of
returns-in-35 c =
    let a = c.args in
    let k = c.if-kind-gt5.false in
    rw (le-leb a.kind 5 k) (sym (fits-at a.part a.kind k 4 3 (omega arith) c.in-35.is))

pub returns-in-43 : goal.returns-in-43
unfolding part_of part_fits kind_of
returns-in-43 c =
    let a = c.args in
    let k = c.if-kind-gt5.false in
    rw (le-leb a.kind 5 k) (sym (fits-at a.part a.kind k 5 3 (omega arith) c.in-43.is))

pub returns-in_default : goal.returns-in_default
returns-in_default c =
    let a = c.args in
    let k = c.if-kind-gt5.false in
    let l = c.if-place-le5.false in
    let r = c.in_default.in_default-own.rest in
    rw (le-leb a.kind 5 k)
    (fits_not a.part a.kind k (named a.part a.kind k l) r.0.0.0.0.1 r.0.0.0.1 r.0.0.1 r.0.1 r.1)
