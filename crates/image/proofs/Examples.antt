-- Reads and header checks at the ends of an image, computed of the definitions. Assumes nothing.
use Rattle.std.proofs.Common.{◌≡◌, [], ◌∷◌, ◌++◌, replicate, refl}
use Rattle.lists.specs.Lists.{low_value}
use Rattle.image.specs.Image.{image_length, accepted, refused, read_at, read, header_checksum}

-- at the last byte, past the end, and where an address runs past FFFFFFFFh
record Reads : Type 0 where
  inside : read 4 (replicate 190 0 ++ (0x12 ∷ 0x34 ∷ [])) 188 ≡ accepted 0x34120000
  over : read 4 (replicate 190 0 ++ (0x12 ∷ 0x34 ∷ [])) 191 ≡ accepted 0x34
  past : read 2 (replicate 192 1) 192 ≡ accepted 0
  wrapped : read 4 (replicate 192 1) 0xfffffffe ≡ accepted 0
  short : read 1 (replicate 191 1) 0 ≡ refused 1
  short_header : header_checksum (replicate 191 1) ≡ refused 1

read-examples : Reads
unfolding low_value image_length read_at read header_checksum
read-examples = record { inside = refl; over = refl; past = refl; wrapped = refl; short = refl; short_header = refl }
