-- Every theorem that docs/PROOFS.md names, by the type that states it. A theorem that is lost, renamed or weakened to
-- another type is missed here.
use Rattle.std.specs.Prelude.{Bool, ◌≢◌, List, ℕ}
use Rattle.lists.specs.Questions.{Question, asked, FirstNo}
use Rattle.image.specs.Gbatek.{HeaderComplement}
use Rattle.title.specs.Claims.{TitleFits}
use Rattle.crc.specs.Pieces as crc
use Rattle.kind.specs.declared.SaveType.{SaveType}
use Rattle.part.specs.declared.Part.{Part}
use Rattle.matcher.specs.Claims.{SingleReading, InPieces}
use Rattle.file_sizes.specs.Claims.{LargestKept}
use Rattle.flash.specs.Gbatek.{FlashChipClaim}
use Rattle.eeprom.specs.Gbatek.{SerialChipClaim, OpcodeLost, Abandons}
use Rattle.chip_record.specs.declared.ChipRecord.{ChipRecord}
use Rattle.cart.specs.Gbatek.{SramClaim, FlashClaim, SerialBitsClaim, SerialClaim, UsableStates}
use Rattle.cart.specs.Claims.{StateBytes, FlagKept, PartKept}
use Rattle.cart.specs.Counts.{Counts}
use Rattle.cart.specs.Stretches.{Stretches}
use Rattle.cart.specs.Cases.{Cases}
use Rattle.cart.specs.Cut.{CutRuns}
use Rattle.cart.specs.Resume.{Resumes}
use Rattle.chip_by_reference.specs.Claims.{ThinCall}
use Rattle.replay.specs.Claims.{ReplayRuns}
use Rattle.out_params.specs.Claims.{NoneIsZero}
use Rattle.c_record.specs.Claims.{RecordAndBytes}
use Rattle.c_matcher_calls.specs.Claims.{PieceCalls}
use Rattle.cart_abi.specs.Claims.{RefusedLeaves}
use Rattle.cart_abi.specs.CutBytes.{ExportedCutRuns}
use Rattle.carttrace_lib.specs.Claims.{Whole, Pieces, Ends}
use Rattle.cuttrace_lib.specs.Claims.{Settles}

-- demand 1: a refusal is the first number that applies, and leaves everything
pub record Refusals : Type 0 where
  pub refused_first : (qs : List Question) → asked qs ≢ 0 → FirstNo qs (asked qs)
  pub refused_leaves : RefusedLeaves

-- demand 2: GBATEK's view, and the 18 bytes
pub record Gbatek : Type 0 where
  pub flash_chip : FlashChipClaim
  pub flash_commands : FlashClaim
  pub serial_chip : SerialChipClaim
  pub opcode_lost : OpcodeLost
  pub abandons : Abandons
  pub serial_bits : SerialBitsClaim
  pub serial_commands : SerialClaim
  pub sram_bytes : SramClaim
  pub header_complement : HeaderComplement
  pub usable_states : UsableStates
  pub state_bytes : StateBytes

-- demand 3: cut runs, of the machine, of the exported calls and of the replay
pub record Cuts : Type 0 where
  pub cut_runs : CutRuns
  pub exported_cut_runs : ExportedCutRuns
  pub replay_runs : ReplayRuns
  pub resumes : Resumes

-- the marked cases, and what is beside the machine
pub record Others : Type 0 where
  pub cases : Cases
  pub flag_kept : FlagKept
  pub part_kept : PartKept
  pub counts : Counts
  pub stretches : Stretches
  pub thin_call : (len : ℕ) (kind : SaveType) (part : Part) (dirty : Bool) (chip : ChipRecord) (m ts : List ℕ) (v : ℕ)
      → ThinCall len kind part dirty chip m ts v
  pub record_and_bytes : RecordAndBytes
  pub largest_kept : LargestKept
  pub none_is_zero : NoneIsZero
  pub title_fits : TitleFits
  pub crc_pieces : crc.Pieces
  pub single_reading : SingleReading
  pub in_pieces : InPieces
  pub piece_calls : PieceCalls

-- `carttrace` and `cuttrace`
pub record Programs : Type 0 where
  pub whole : Whole
  pub pieces : Pieces
  pub ends : Ends
  pub settles : Settles

pub record Claims : Type 0 where
  pub refusals : Refusals
  pub gbatek : Gbatek
  pub cuts : Cuts
  pub others : Others
  pub programs : Programs
