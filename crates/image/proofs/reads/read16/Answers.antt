use Rattle.std.proofs.Common.{rules, [], ◌∷◌, ◌∙◌}
use Rattle.image.specs.Image.{image_question, read, read_at}
use Rattle.image.proofs.Answers.{answered-yes, read-2}
use Rattle.image.proofs.reads.read16.Goals as goal

pub returns-in_err-ask_length : goal.returns-in_err-ask_length
unfolding read
returns-in_err-ask_length c = search rules

pub returns : goal.returns
unfolding read
returns c =
    let a = c.args in
    answered-yes (image_question a.image.now ∷ []) (read_at 2 a.image.now a.address) _ c.in_ok-ask_length.ensures (c.low16.ensures ∙ rw (c.byte_at-2.ensures, c.byte_at.ensures) (read-2 a.image.now a.address))
