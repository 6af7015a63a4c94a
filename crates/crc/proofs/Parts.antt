-- However bytes are cut into parts, the end is the CRC of the whole. Assumes nothing.
use mathlib.Core.Path.{◌≡◌, refl, sym, ap, ◌∙◌}
use mathlib.Core.Bool.{true}
use mathlib.Core.List.{List, [], ◌∷◌, flatten}
use Prim.Native.Nat.{ℕ, ◌-◌}
use lib.ListN.{length}
use Rattle.lists.specs.Lists.{fold}
use Rattle.image.specs.Image.{image_length, accepted}
use Rattle.crc.specs.Crc.{crc_byte, crc32, rom_crc}
use Rattle.crc.specs.Pieces.{crc_feed, crc_finish, fed_all, crc_of_parts, Pieces}
use Rattle.crc.proofs.Folds.{fold-append}

feeds : (c : ℕ) (parts : List (List ℕ)) → fed_all c parts ≡ fold crc_byte c (flatten parts)
unfolding fed_all crc_feed flatten fold
feeds c [] = refl
feeds c (part ∷ parts) = feeds (fold crc_byte c part) parts ∙ sym (fold-append crc_byte c part (flatten parts))

of-bytes : (parts : List (List ℕ)) → crc_of_parts parts ≡ crc32 (flatten parts)
unfolding crc_of_parts crc_finish crc32
of-bytes parts = ap (λ (x : ℕ). 0xffffffff - x) (feeds 0xffffffff parts)

of_image : (image : List ℕ) (parts : List (List ℕ)) → flatten parts ≡ image → image_length (length image) ≡ true
    → rom_crc image ≡ accepted (crc_of_parts parts)
unfolding rom_crc
of_image image parts e h = rw h (ap (λ (x : ℕ). accepted x) (ap crc32 (sym e) ∙ sym (of-bytes parts)))

pub pieces : Pieces
unfolding crc_feed fold
pieces = record { bytes = of-bytes; image = of_image; empty = λ c. refl }
