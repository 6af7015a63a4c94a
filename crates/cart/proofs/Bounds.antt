-- What the fields of an allowed record are. Assumes nothing.
use mathlib.Core.Path.{◌≡◌}
use mathlib.Core.Bool.{true, ◌&&◌}
use Rattle.lists.proofs.Bools.{and_right}
use Rattle.image.specs.Image.{image_length}
use Rattle.part.specs.Part.{part_fits}
use Rattle.chip_record.specs.ChipState.{chip_allowed}
use Rattle.chip_record.proofs.Fields.{Bounds, chip-bounds}
use Rattle.cart.specs.declared.Cartridge.{Cartridge}
use Rattle.cart.specs.Record.{record_allowed}

pub allowed-bounds : (c : Cartridge) → record_allowed c ≡ true → Bounds c.chip
unfolding record_allowed
allowed-bounds c h = chip-bounds c.chip (and_right (image_length c.len && part_fits c.part c.kind) (chip_allowed c.chip) h)
