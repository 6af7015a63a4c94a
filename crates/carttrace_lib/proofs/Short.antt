-- No line is longer than the 39 characters of a chip record. Assumes nothing.
use mathlib.Core.List.{List, []}
use Prim.Native.Nat.{ℕ, ◌≤◌}
use native.Mathlib.Omega.{arith}
use lib.Dec.{eqb}
use lib.ListN.{length, length-take}
use Rattle.lists.specs.Questions.{asked}
use Rattle.lists.proofs.Bools.{either}
use Rattle.chip_record.specs.ChipState.{chip_record_size}
use Rattle.cart.specs.Record.{State, Outcome}
use Rattle.cart.specs.Calls.{Call, questions, accepted, step, save_read, save_write, eeprom_begin_dma, eeprom_write, eeprom_read, chip_state, take_save_dirty}
use Rattle.frames.specs.declared.Frame.{Frame}
use Rattle.frames.specs.declared.Frame.TheVariants.{SaveRead, SaveWrite, EepromRead, EepromWrite, BeginDma, TakeFlag, ChipState, Bad}
use Rattle.frames.specs.Frames.{FirstLine}
use Rattle.std.specs.Prelude.{Some, None}
use Rattle.frames.specs.Frames.{line_of, frame_in, first_in}
use Rattle.frames.proofs.Printed.{length-line}
use Rattle.carttrace_lib.specs.declared.Stage.{Stage}
use Rattle.carttrace_lib.specs.declared.Stage.TheVariants.{First, Playing, Over}
use Rattle.carttrace_lib.specs.declared.Session.{Session}
use Rattle.carttrace_lib.specs.Trace.{play}
use Rattle.carttrace_lib.specs.Session.{Buffers, Heard, heard, begun, continued, by_stage, line_ended, took}

line-short : (status : ℕ) (bytes : List ℕ) → length bytes ≤ 18 → length (line_of status bytes) ≤ 39
line-short status bytes h = omega (arith, length-line status bytes, h)

given-short : (c : Call) (s : State) → length (accepted c [] s).given ≤ 18 → length (step c [] s).given ≤ 18
unfolding step
given-short c s h = either (λ (o : Outcome). length o.given ≤ 18) (eqb (asked (questions c [] s)) 0) h (omega arith)

step-short : (c : Call) (s : State) → length (accepted c [] s).given ≤ 18 → length (line_of (step c [] s).refusal (step c [] s).given) ≤ 39
step-short c s h = line-short (step c [] s).refusal (step c [] s).given (given-short c s h)

play-short : (f : Frame) (s : State) → length (play f s).text ≤ 39
unfolding play accepted
play-short (SaveRead a) s = step-short (save_read a) s (omega arith)
play-short (SaveWrite a v) s = step-short (save_write a v) s (omega arith)
play-short EepromRead s = step-short eeprom_read s (omega arith)
play-short (EepromWrite v) s = step-short (eeprom_write v) s (omega arith)
play-short (BeginDma words) s = step-short (eeprom_begin_dma words) s (omega arith)
play-short TakeFlag s =
    let o = step take_save_dirty [] s in
    line-short o.refusal _ (either (λ (l : List ℕ). length l ≤ 18) (eqb o.refusal 0) (omega arith) (omega arith))
play-short ChipState s =
    let o = step chip_state [] s in
    line-short o.refusal _ (omega (arith, length-take chip_record_size o.given))
play-short Bad s = line-short _ [] (omega arith)

begun-short : (f : FirstLine) (s : Session) (m : Buffers) → length (begun f s m).text ≤ 39
unfolding begun
begun-short (Some kind) s m = line-short 0 [] (omega arith)
begun-short None s m = line-short 0xff [] (omega arith)

staged-short : (g : Stage) (s : Session) (m : Buffers) → length (by_stage g (begun (first_in s.line) s m) (continued s m) (heard [] s m)).text ≤ 39
unfolding continued
staged-short First s m = begun-short (first_in s.line) s m
staged-short Playing s m = play-short (frame_in s.line) _
staged-short Over s m = omega arith

pub ended-short : (s : Session) (m : Buffers) → length (line_ended s m).text ≤ 39
unfolding line_ended
ended-short s m = staged-short s.stage s m

pub took-short : (s : Session) (c : ℕ) (m : Buffers) → length (took s c m).text ≤ 39
unfolding took
took-short s c m = either (λ (h : Heard). length h.text ≤ 39) (eqb c 0x0a) (ended-short s m) (omega arith)
