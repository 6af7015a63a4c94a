-- What the program `cuttrace` prints: a line for each line but a cut's, then the file and the chip record.
use Rattle.std.specs.Prelude.{Bool, cond, ◌||◌, List, [], ◌∷◌, ◌++◌, ℕ, ◌%◌, ltb, eqb, length, take, drop}
use Rattle.kind.specs.declared.SaveType.{SaveType}
use Rattle.kind.specs.Kind.{memory_size}
use Rattle.part.specs.declared.Part.TheVariants.{Usual}
use Rattle.part.specs.Part.{part_number}
use Rattle.frames.specs.Frames.{FirstLine}
use Rattle.std.specs.Prelude.{Some, None}
use Rattle.frames.specs.Frames.{first_line, line_of}
use Rattle.carttrace_lib.specs.Trace.{lines_from}
use Rattle.carttrace_lib.specs.Claims.{is_no_kind}
use Rattle.replay.specs.Replay.{replay}
use Rattle.cuttrace_lib.specs.Lines.{line_length, list_of}
use Rattle.cuttrace_lib.specs.Printing.{lines_text}
use Rattle.cuttrace_lib.specs.Setup.{image_of, prelude, prelude_room}

-- `00` for line 1, then an answer for each other line
abbrev pub accepted_text : SaveType → List (List ℕ) → List ℕ → List ℕ
accepted_text kind lines answers = line_of 0 [] ++ lines_text (memory_size kind) lines (drop (prelude_room kind) answers)

-- what a replay answered, printed: its refusal alone, or that
unfoldable pub replay_text : SaveType → List (List ℕ) → ℕ × List ℕ × List ℕ × List ℕ → List ℕ
replay_text kind lines r = cond (eqb r.0 0) (accepted_text kind lines r.3) (line_of (r.0 % 256) [])

-- the lines after line 1, with the usual part, a memory, a scratch and room for the answers
unfoldable pub played : SaveType → List (List ℕ) → List ℕ → List ℕ → List ℕ → List ℕ
played kind lines memory scratch answers =
    let n = memory_size kind in
    replay_text kind lines
    (replay (image_of kind) (part_number Usual) (prelude kind ++ list_of lines) (take n memory) (take n scratch) answers)

-- a trace of more characters is refused with FD
abbrev pub longest_trace : ℕ
longest_trace = 500000

-- by line 1, in a trace of n characters
unfoldable pub play_from : FirstLine → ℕ → List (List ℕ) → List ℕ → List ℕ → List ℕ → List ℕ
play_from None n lines memory scratch answers = line_of 0xff []
play_from (Some kind) n lines memory scratch answers =
    cond (ltb longest_trace n) (line_of 0xfd []) (played kind lines memory scratch answers)

unfoldable pub play_lines : ℕ → List (List ℕ) → List ℕ → List ℕ → List ℕ → List ℕ
play_lines n [] memory scratch answers = []
play_lines n (line ∷ lines) memory scratch answers = play_from (first_line line) n lines memory scratch answers

unfoldable pub cuttrace : List ℕ → List ℕ → List ℕ → List ℕ → List ℕ
cuttrace input memory scratch answers = play_lines (length input) (lines_from [] input) memory scratch answers

-- whether a trace is refused whatever follows: line 1 is bad and has ended or is longer than a kind; or it is too long
unfoldable pub settled : List ℕ → Bool
settled text =
    let n = line_length text in
    cond (is_no_kind (first_line (take n text))) (ltb n (length text) || ltb 2 n) (ltb longest_trace (length text))
