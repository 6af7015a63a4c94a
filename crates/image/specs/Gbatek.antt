-- GBATEK, GBA Cartridge Header: the complement check makes the bytes A0h to BCh, 19h and itself sum to 0, modulo 256.
use Rattle.std.specs.Prelude.{◌≡◌, ℕ, ◌+◌, ◌%◌, ◌<◌, true, List}
use Rattle.std.proofs.Math.Pow.{are_bytes}
use Rattle.std.proofs.Math.Seq.{slice}
use Rattle.lists.specs.Lists.{fold}
use Rattle.image.specs.Image.{header_sum}

abbrev pub HeaderComplement : Type 0
HeaderComplement =
    (image : List ℕ) → are_bytes image ≡ true
    → ((header_sum image + fold ◌+◌ 0x19 (slice 0xa0 0xbd image)) % 256 ≡ 0) × (header_sum image < 256)
