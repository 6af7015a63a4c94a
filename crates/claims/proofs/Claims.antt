-- Every theorem that docs/PROOFS.md names, cited. Assumes nothing.
use Rattle.lists.proofs.Questions.{refused-first}
use Rattle.image.proofs.Complement.{header-complement}
use Rattle.title.proofs.Room.{title-fits}
use Rattle.crc.proofs.Parts as crc
use Rattle.matcher.proofs.Claims.{single-reading, in-pieces}
use Rattle.file_sizes.proofs.Largest.{largest-kept}
use Rattle.flash.proofs.Commands.{flash-chip}
use Rattle.eeprom.proofs.Commands.{serial-chip, opcode-lost, abandons}
use Rattle.cart.proofs.FlashCommands.{flash-commands}
use Rattle.cart.proofs.SerialCommands.{serial-bits, serial-commands}
use Rattle.cart.proofs.SramBytes.{sram-bytes}
use Rattle.cart.proofs.Reached.{usable-states}
use Rattle.cart.proofs.Restore.{state-bytes}
use Rattle.cart.proofs.Flag.{flag-kept}
use Rattle.cart.proofs.Parts.{part-kept}
use Rattle.cart.proofs.Counts.{counts}
use Rattle.cart.proofs.Stretches.{stretches}
use Rattle.cart.proofs.Cases.{cases-hold}
use Rattle.cart.proofs.CutRuns.{cut-runs}
use Rattle.cart.proofs.Resume.{resumes}
use Rattle.chip_by_reference.proofs.ThinCall.{thin-call}
use Rattle.replay.proofs.Encoded.{replay-runs}
use Rattle.out_params.proofs.NoneIsZero.{none_is_zero}
use Rattle.c_record.proofs.RecordBytes.{record-and-bytes}
use Rattle.c_matcher_calls.proofs.Claims.{piece-calls}
use Rattle.cart_abi.proofs.Refused.{refused-leaves}
use Rattle.cart_abi.proofs.CutBytes.{exported-cut-runs}
use Rattle.carttrace_lib.proofs.Whole.{whole, pieces}
use Rattle.carttrace_lib.proofs.Ends.{ends}
use Rattle.cuttrace_lib.proofs.Settles.{settles}
use Rattle.claims.specs.Claims.{Claims}

pub claims : Claims
claims =
    record {
      refusals = record { refused_first = refused-first; refused_leaves = refused-leaves };
      gbatek = record {
        flash_chip = flash-chip;
        flash_commands = flash-commands;
        serial_chip = serial-chip;
        opcode_lost = opcode-lost;
        abandons = abandons;
        serial_bits = serial-bits;
        serial_commands = serial-commands;
        sram_bytes = sram-bytes;
        header_complement = header-complement;
        usable_states = usable-states;
        state_bytes = state-bytes;
      };
      cuts = record {
        cut_runs = cut-runs;
        exported_cut_runs = exported-cut-runs;
        replay_runs = replay-runs;
        resumes = resumes;
      };
      others = record {
        cases = cases-hold;
        flag_kept = flag-kept;
        part_kept = part-kept;
        counts = counts;
        stretches = stretches;
        thin_call = thin-call;
        record_and_bytes = record-and-bytes;
        largest_kept = largest-kept;
        none_is_zero = none_is_zero;
        title_fits = title-fits;
        crc_pieces = crc.pieces;
        single_reading = single-reading;
        in_pieces = in-pieces;
        piece_calls = piece-calls;
      };
      programs = record { whole = whole; pieces = pieces; ends = ends; settles = settles };
    }
