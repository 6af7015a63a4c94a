-- `carttrace` character by character, however the input is cut into pieces: the state after each, and what is printed.
use Rattle.std.specs.Prelude.{Bool, true, false, cond, ◌&&◌, List, [], ◌∷◌, ◌++◌, ℕ, ltb, eqb, length, take, drop}
use Rattle.lists.specs.Lists.{into}
use Rattle.kind.specs.declared.SaveType.{SaveType}
use Rattle.kind.specs.declared.SaveType.TheVariants as save_type
use Rattle.kind.specs.Kind.{memory_size, tally_count}
use Rattle.part.specs.declared.Part.TheVariants.{Usual}
use Rattle.cart.specs.declared.Cartridge.{Cartridge}
use Rattle.cart.specs.Record.{State, fresh_cart}
use Rattle.cart.specs.Replies.{tallied}
use Rattle.frames.specs.declared.Line.{Line}
use Rattle.frames.specs.Frames.{FirstLine}
use Rattle.std.specs.Prelude.{Some, None}
use Rattle.frames.specs.Frames.{empty_line, pushed, frame_in, first_in, line_of}
use Rattle.carttrace_lib.specs.declared.Stage.{Stage}
use Rattle.carttrace_lib.specs.declared.Stage.TheVariants.{First, Playing, Over}
use Rattle.carttrace_lib.specs.declared.Session.{Session}
use Rattle.carttrace_lib.specs.declared.Told.{Told}
use Rattle.carttrace_lib.specs.Trace.{play, fresh_kind}

abbrev pub session_with : Stage → Line → Cartridge → Session
session_with stage line cart = record { stage = stage; line = line; cart = cart }

unfoldable pub opened : Session
opened = session_with First empty_line (fresh_cart 0 save_type.None Usual)

-- the memory and the tallies of every kind are each at the front of one buffer
pub record Buffers : Type 0 where
  pub memory : List ℕ
  pub tallies : List ℕ

abbrev pub buffers : List ℕ → List ℕ → Buffers
buffers memory tallies = record { memory = memory; tallies = tallies }

abbrev pub from_front : Cartridge → Buffers → State
from_front cart m =
    tallied cart (take (memory_size cart.kind) m.memory) (take (tally_count cart.kind) m.tallies)

abbrev pub to_front : SaveType → State → Buffers → Buffers
to_front kind s m =
    buffers (s.memory ++ drop (memory_size kind) m.memory) (s.tallies ++ drop (tally_count kind) m.tallies)

-- what a character, or a line's end, prints and leaves
pub record Heard : Type 0 where
  pub text : List ℕ
  pub session : Session
  pub buffers : Buffers

abbrev pub heard : List ℕ → Session → Buffers → Heard
heard text session m = record { text = text; session = session; buffers = m }

-- at the end of line 1, and of a later line
unfoldable pub begun : FirstLine → Session → Buffers → Heard
begun (Some kind) s m =
    let t = fresh_kind kind in
    heard (line_of 0 []) (session_with Playing empty_line t.cart) (to_front kind t m)
begun None s m = heard (line_of 0xff []) (session_with Over empty_line s.cart) m

unfoldable pub continued : Session → Buffers → Heard
continued s m =
    let p = play (frame_in s.line) (from_front s.cart m) in
    heard p.text (session_with Playing empty_line p.next.cart) (to_front s.cart.kind p.next m)

abbrev pub by_stage : {A : Type 0} → Stage → A → A → A → A
by_stage First a b c = a
by_stage Playing a b c = b
by_stage Over a b c = c

unfoldable pub line_ended : Session → Buffers → Heard
line_ended s m = by_stage s.stage (begun (first_in s.line) s m) (continued s m) (heard [] s m)

unfoldable pub took : Session → ℕ → Buffers → Heard
took s c m = cond (eqb c 0x0a) (line_ended s m) (heard [] (session_with s.stage (pushed s.line c) s.cart) m)

unfoldable pub took_all : List ℕ → Session → Buffers → Heard
took_all [] s m = heard [] s m
took_all (c ∷ input) s m =
    let h = took s c m in
    let r = took_all input h.session h.buffers in
    heard (h.text ++ r.text) r.session r.buffers

-- the input's end: a last line without a line feed
abbrev pub is_empty : Line → Bool
is_empty l = l.good && eqb l.count 0

unfoldable pub finished : Session → Buffers → Heard
finished s m = cond (is_empty s.line) (heard [] s m) (line_ended s m)

-- "and ends if that is line 1": line 1 was bad, or has characters that no kind begins with
abbrev pub no_kind : Line → Bool
no_kind l = cond l.good (ltb 2 l.count) true

unfoldable pub over : Session → Bool
over s = by_stage s.stage (no_kind s.line) false true

-- how the calls return this: the session and the text's length, the buffers, the output with the text at its front
abbrev pub told_with : Session → ℕ → Told
told_with session len = record { session = session; len = len }

abbrev pub told : Heard → List ℕ → Told × List ℕ × List ℕ × List ℕ
told h out =
    (told_with h.session (length h.text), h.buffers.memory, h.buffers.tallies, into h.text out)
