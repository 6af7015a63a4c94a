use Rattle.lists.proofs.Bools.{tests}
use Rattle.hex_text.specs.Hex.{character}
use Rattle.hex_text.proofs.character.Goals as goal

pub returns-then-digit-lt10 : goal.returns-then-digit-lt10
unfolding character
returns-then-digit-lt10 c = search tests

pub returns-else-digit-lt10 : goal.returns-else-digit-lt10
unfolding character
returns-else-digit-lt10 c = search tests
