-- What is left to subtract, from the sum so far, gives the whole.
use Rattle.std.proofs.Common.{ℕ, take, drop, sym, ap, ap₂, ◌∙◌, add-one}
use lib.Seq.{drop-cons}
use lib.ListN.{drop_of_length-le}
use Rattle.lists.specs.Lists.{fold}
use Rattle.lists.proofs.Parts.{slice-part}
use Rattle.image.specs.Image.{less, header_sum}
use Rattle.image.proofs.header.header_sum.Goals as goal

pub loop-byte-preserved : goal.loop-byte-preserved
unfolding fold
loop-byte-preserved c =
    let summed = take 29 (drop 160 c.args.image.now) in
    let i = c.loop-byte.byte-index in
    ap₂ (λ (x k : ℕ). fold less x (drop k summed)) c.minus-sum.ensures (add-one i)
    ∙ sym (ap (fold less c.loop-byte.sum) (drop-cons summed i 0 c.loop-byte-test.true))
    ∙ c.loop-byte.invariant

pub returns : goal.returns
unfolding header_sum fold
returns c =
    let summed = take 29 (drop 160 c.args.image.now) in
    c.minus.ensures
    ∙ ap (λ (x : ℕ). less x 25)
    (sym (ap (fold less c.loop-byte.sum) (drop_of_length-le summed c.loop-byte-test.false)) ∙ c.loop-byte.invariant ∙ ap (fold less 0) (sym (slice-part 160 29 c.args.image.now)))
