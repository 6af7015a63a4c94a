-- `title::header_title` meets its contract. Assumes nothing.
use native.Mathlib.Omega.{arith}
use lib.ListN.{length-take}
use Rattle.title.proofs.Answers.{title-short, title-text, title-13, title-done}
use Rattle.title.proofs.header_title.Goals as goal

pub returns-then-image-lt192 : goal.returns-then-image-lt192
returns-then-image-lt192 c = title-short c.args.image.now c.args.destination.now c.if-image-lt192.true

pub returns-then-destination-len : goal.returns-then-destination-len
returns-then-destination-len c =
    let a = c.args in
    let s = c.replace-n in
    let t = c.trim-len in
    title-13 a.image.now a.destination.now s.new.out t.result c.if-image-lt192.false (omega (arith, s.ensures.1, t.ensures.1, length-take s.result s.new.out))
    (title-text a.image.now s.new.out s.result t.result s.ensures.0 t.ensures.1 t.ensures.0) c.if-destination-len.true

pub returns : goal.returns
returns c =
    let a = c.args in
    let s = c.replace-n in
    let t = c.trim-len in
    title-done a.image.now a.destination.now s.new.out t.result c.if-image-lt192.false (omega (arith, s.ensures.1, t.ensures.1, length-take s.result s.new.out))
    (title-text a.image.now s.new.out s.result t.result s.ensures.0 t.ensures.1 t.ensures.0) c.if-destination-len.false c.copy.ensures
