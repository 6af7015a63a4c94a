use Rattle.std.proofs.Common.{[], ◌∷◌}
use Rattle.image.specs.Image.{image_question}
use Rattle.image.proofs.Answers.{answered-no, answered-yes}
use Rattle.crc.specs.Crc.{crc32, rom_crc}
use Rattle.crc.proofs.rom_crc.Goals as goal

pub returns-in_err-ask_length : goal.returns-in_err-ask_length
unfolding rom_crc
returns-in_err-ask_length c =
    let s = c.args.image.now in
    answered-no (image_question s ∷ []) (crc32 s) c.from_residual.result c.in_err-ask_length.field-0.0 c.from_residual.ensures.1 c.in_err-ask_length.ensures

pub returns : goal.returns
unfolding rom_crc
returns c = let s = c.args.image.now in answered-yes (image_question s ∷ []) (crc32 s) _ c.in_ok-ask_length.ensures c.crc32.ensures
