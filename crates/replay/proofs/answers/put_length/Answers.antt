use Rattle.std.proofs.Common.{◌∷◌, ap, arith, ◌∙◌}
use Rattle.replay.specs.Replay.{four_bytes}
use Rattle.replay.proofs.Pieces.{byte-and-rest}
use Rattle.replay.proofs.answers.put_length.Goals as goal

pub returns : goal.returns
returns c =
    λ cart.
    let l = c.copy_from_slice.ensures.after ∙ c.to_be_bytes.ensures ∙ ap four_bytes (c.value_of.ensures cart) in
    byte-and-rest c.args.out.now c.copy_from_slice.new.self c.status_of.result (omega (arith, c.requires)) ∙ (λ i. c.status_of.ensures cart i ∷ l i)
