-- Document 01's whole case of `carttrace`, and its edges. Assumes nothing.
use mathlib.Core.Path.{◌≡◌, refl}
use mathlib.Core.List.{[]}
use Rattle.lists.specs.Lists.{ascii, low_first}
use Rattle.memory.specs.Memory.{erased}
use Rattle.image.specs.Image.{image_length}
use Rattle.part.specs.Part.{part_fits}
use Rattle.flash.specs.Flash.{state_allowed}
use Rattle.eeprom.specs.Eeprom.{width_allowed, w, tells6, tells14, begin_dma, dma_question, read_bit, after_read}
use Rattle.chip_record.specs.ChipState.{phase_of, chip_bytes, field_questions}
use Rattle.chip_record.specs.States.{state_bytes}
use Rattle.cart.specs.Record.{record_allowed, fresh_cart}
use Rattle.cart.specs.Calls.{read_save, questions, accepted, step}
use Rattle.byte_step.specs.ByteStep.{read_byte}
use Rattle.hex_text.specs.Hex.{character, value_of, hex}
use Rattle.frames.specs.Frames.{number_from, frame_of, frame, fresh_of, first_line, line_of}
use Rattle.carttrace_lib.specs.Trace.{fresh_kind, play, play_all, play_lines, lines_from, carttrace}

record Runs : Type 0 where
  whole : carttrace (ascii "04\n050009\n03\n06\n07\n") ≡ ascii "00\n00\n0001\n0000\n00000000060000000000000000000000000000\n"
  unended : carttrace (ascii "04\n050009\n03") ≡ ascii "00\n00\n0001\n"
  nothing : carttrace [] ≡ []
  empty : carttrace (ascii "\n00\n") ≡ ascii "FF\n"
  no_kind : carttrace (ascii "03\n03\n") ≡ ascii "FF\n"
  bad : carttrace (ascii "00\n\n3\n03 \n0a\n08\n0100000000\n040000\n") ≡ ascii "00\nFF\nFF\nFF\nFF\nFF\n00FF\n04\n"

runs : Runs
unfolding low_first erased image_length state_allowed width_allowed w tells6 tells14 begin_dma dma_question read_bit after_read phase_of chip_bytes field_questions state_bytes part_fits record_allowed fresh_cart read_byte read_save questions accepted step character value_of number_from hex frame_of frame fresh_of first_line line_of fresh_kind play play_all play_lines lines_from carttrace
runs = record { whole = refl; unended = refl; nothing = refl; empty = refl; no_kind = refl; bad = refl }
