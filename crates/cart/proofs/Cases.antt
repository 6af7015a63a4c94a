-- The twelve marked cases, computed of the definitions. Assumes nothing.
use mathlib.Core.Path.{refl}
use Rattle.lists.specs.Lists.{fold, low_first}
use Rattle.counts.specs.Counts.{used}
use Rattle.counts.specs.Tallies.{retally, retallied}
use Rattle.memory.specs.Memory.{erased, stored, filled}
use Rattle.image.specs.Image.{image_length, less, header_sum, header_checksum}
use Rattle.kind.specs.Kind.{begins, stands, detect_save_type}
use Rattle.part.specs.Part.{part_of, part_fits}
use Rattle.file_sizes.specs.SaveFit.{chip_size, save_fit}
use Rattle.flash.specs.Flash.{state_allowed}
use Rattle.eeprom.specs.Eeprom.{width_allowed, w, tells6, tells14, begin_dma, dma_question, shift_in, opcode_phase, turned, write_bit, bit_in}
use Rattle.chip_record.specs.ChipState.{phase_of, chip_bytes, chip_of, field_questions}
use Rattle.cart.specs.Record.{record_allowed, fresh_cart, fresh, from_bytes}
use Rattle.cart.specs.Calls.{load, questions, accepted, step, restore}
use Rattle.cart.specs.Gbatek.{calls}
use Rattle.cart.specs.Cases.{Cases}
use Rattle.cart.proofs.FlashCommands.{no-erase}

pub cases-hold : Cases
unfolding used retally retallied fold low_first erased stored filled image_length less header_sum header_checksum begins stands detect_save_type part_of part_fits chip_size save_fit state_allowed width_allowed w tells6 tells14 begin_dma dma_question shift_in opcode_phase turned write_bit phase_of chip_bytes chip_of field_questions record_allowed fresh_cart fresh from_bytes bit_in load questions accepted step restore calls
cases-hold =
    record {
      a = (refl, refl, refl);
      b = (refl, refl);
      c = (refl, refl);
      d = (refl, refl);
      e = (refl, refl);
      f = refl;
      g = refl;
      h = (refl, refl);
      i = no-erase;
      j = refl;
      k = (refl, refl);
      l = refl;
    }
