-- What is claimed of `carttrace`, fed its input in pieces.
use Rattle.std.specs.Prelude.{◌≡◌, Bool, true, false, cond, List, [], ◌∷◌, ◌++◌, ℕ, eqb}
use Rattle.frames.specs.Frames.{FirstLine}
use Rattle.std.specs.Prelude.{Some, None}
use Rattle.frames.specs.Frames.{first_line, line_of}
use Rattle.carttrace_lib.specs.declared.Session.{Session}
use Rattle.carttrace_lib.specs.Trace.{carttrace}
use Rattle.carttrace_lib.specs.Session.{Buffers, Heard, heard, opened, by_stage, took_all, finished, over}

-- two pieces: the second from where the first left off
unfoldable pub took_two : List ℕ → List ℕ → Session → Buffers → Heard
took_two a b s m =
    let h = took_all a s m in
    let r = took_all b h.session h.buffers in
    heard (h.text ++ r.text) r.session r.buffers

-- it does not matter how the input is cut into pieces
abbrev pub Pieces : Type 0
Pieces = (a b : List ℕ) (s : Session) (m : Buffers) → took_all (a ++ b) s m ≡ took_two a b s m

-- what the program prints for pieces: what each prints, and then what the input's end prints
unfoldable pub printed_in : List (List ℕ) → Session → Buffers → List ℕ
printed_in [] s m = (finished s m).text
printed_in (piece ∷ pieces) s m =
    let t = took_all piece s m in
    t.text ++ printed_in pieces t.session t.buffers

unfoldable pub joined : List (List ℕ) → List ℕ
joined [] = []
joined (piece ∷ pieces) = piece ++ joined pieces

-- the whole program: for every input in whatever pieces, and whatever the buffers held
abbrev pub Whole : Type 0
Whole = (pieces : List (List ℕ)) (m : Buffers) → printed_in pieces opened m ≡ carttrace (joined pieces)

-- what the rest of an input prints
unfoldable pub printed_by : List ℕ → Session → Buffers → List ℕ
printed_by input s m =
    let t = took_all input s m in
    t.text ++ (finished t.session t.buffers).text

-- whether line 1, after the characters that began it, has ended and is bad
abbrev pub is_no_kind : FirstLine → Bool
is_no_kind (Some kind) = false
is_no_kind None = true

unfoldable pub bad_first : List ℕ → List ℕ → Bool
bad_first line [] = false
bad_first line (c ∷ text) = cond (eqb c 0x0a) (is_no_kind (first_line line)) (bad_first (line ++ (c ∷ [])) text)

-- what a session that is over still prints: FF if line 1 has not ended
unfoldable pub still_printed : Session → List ℕ
still_printed s = by_stage s.stage (line_of 0xff []) [] []

-- "FF for a bad line .., and ends if that is line 1"
pub record Ends : Type 0 where
  pub at_bad_first : (input : List ℕ) (m : Buffers) → bad_first [] input ≡ true → over (took_all input opened m).session ≡ true
  pub nothing_more : (s : Session) (input : List ℕ) (m : Buffers) → over s ≡ true → printed_by input s m ≡ still_printed s
