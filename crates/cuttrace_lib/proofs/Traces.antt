-- A whole trace. Assumes nothing.
use mathlib.Core.Path.{◌≡◌, refl, sym, ap, ◌∙◌}
use mathlib.Core.Bool.{cond, ◌||◌}
use mathlib.Core.List.{List, [], ◌∷◌, ◌++◌}
use Prim.Native.Nat.{ℕ, ◌+◌, ◌-◌, ◌%◌, ◌≤◌, ◌<◌}
use native.Mathlib.Numerals.{add-one}
use native.Mathlib.Omega.{arith}
use lib.Dec.{ltb, eqb}
use lib.ListN.{length, take, drop}
use lib.Seq.{length-take-le}
use borrow.Author.Tests.{eqb-true, eq-eqb, ne_eqb, lt-ltb, le-ltb}
use Rattle.lists.specs.Questions.{asked}
use Rattle.lists.proofs.Bools.{cases}
use Rattle.lists.proofs.Parts.{rest, front_of}
use Rattle.kind.specs.declared.SaveType.{SaveType}
use Rattle.kind.specs.Kind.{memory_size}
use Rattle.part.specs.declared.Part.TheVariants.{Usual}
use Rattle.part.specs.Part.{part_number}
use Rattle.frames.specs.Frames.{FirstLine}
use Rattle.std.specs.Prelude.{Some, None}
use Rattle.frames.specs.Frames.{first_line, line_of}
use Rattle.carttrace_lib.specs.Trace.{lines_from}
use Rattle.carttrace_lib.specs.Claims.{is_no_kind}
use Rattle.call_list.specs.Items.{items, ending_room, room}
use Rattle.replay.specs.Replay.{replay_questions, replay}
use Rattle.replay.proofs.Whole.{out-holds}
use Rattle.cuttrace_lib.specs.Lines.{line_length, list_of}
use Rattle.cuttrace_lib.specs.Printing.{Shows, lines_text, lines_room}
use Rattle.cuttrace_lib.specs.Setup.{image_of, prelude, prelude_room}
use Rattle.cuttrace_lib.specs.Cuttrace.{accepted_text, replay_text, played, longest_trace, play_from, play_lines, cuttrace, settled}
use Rattle.cuttrace_lib.proofs.Texts.{first-line, none-behind}
use Rattle.cuttrace_lib.proofs.Codes.{put-code}
use Rattle.cuttrace_lib.proofs.Places.{list-room}
use Rattle.cuttrace_lib.proofs.Answers.{shows, shown-behind}

-- the list after the prelude
pub list_put : (front room₀ room : List ℕ) {p : ℕ} (o code : List ℕ) (u : ℕ) → Shows front p room room₀ → p ≤ length room → u ≤ length o → take u o ≡ code
    → take (p + u) (take p room ++ (o ++ drop (length room - p) (drop p room))) ≡ front ++ code
list_put front room₀ room {p} o code u f h k e =
    let t : take p room ≡ front = (λ i. take (f.0 i) (f.1 i)) ∙ front_of front room₀ in
    put-code room o code p u h k e ∙ ap (λ (l : List ℕ). l ++ code) t

pub behind-last : (text : List ℕ) (end : ℕ) → length text ≤ end → drop end text ≡ drop (end + 1) text
behind-last text end h = none-behind text end h ∙ sym (none-behind text (end + 1) (omega arith))

-- a trace with a first line
trace-said : (text memory scratch answers : List ℕ) (end from : ℕ) → 0 < length text → end ≡ line_length text → drop from text ≡ drop (end + 1) text
    → cuttrace text memory scratch answers ≡ play_from (first_line (take end text)) (length text) (lines_from [] (take (length text - from) (drop from text))) memory scratch answers
unfolding cuttrace play_lines
trace-said text memory scratch answers end from h e d =
    rw (first-line [] text (omega arith), ← e, rest from text, d, add-one end)

pub trace-none : (text memory scratch answers : List ℕ) → length text ≡ 0 → cuttrace text memory scratch answers ≡ []
unfolding cuttrace play_lines lines_from
trace-none [] memory scratch answers h = refl
trace-none (c ∷ text) memory scratch answers h = absurd (omega arith)

-- the answers printed after line 1's
pub all_shown : (kind : SaveType) (text answers out o o' : List ℕ) (m from n k : ℕ) → m ≡ memory_size kind → from ≡ prelude_room kind → n ≤ length out → Shows (line_of 0 []) n o out
    → Shows (lines_text m (lines_from [] text) (take (length answers - from) (drop from answers))) k o' (take (length o - n) (drop n o))
    → Shows (accepted_text kind (lines_from [] text) answers) (n + k) (take n o ++ (o' ++ drop (length o - n) (drop n o))) out
all_shown kind text answers out o o' m from n k e q h f w =
    let s = shown-behind (line_of 0 []) (lines_text m (lines_from [] text) (take (length answers - from) (drop from answers))) out o o' n k h f w in
    let d : drop (prelude_room kind) answers ≡ take (length answers - from) (drop from answers) = ap (λ (x : ℕ). drop x answers) (sym q) ∙ sym (rest from answers) in
    shows out (λ j. line_of 0 [] ++ lines_text (sym e j) (lines_from [] text) (d j)) s.0 s.1

-- a replay that is not refused has room for its answers
holds-answers : (image : List ℕ) (part : ℕ) (list memory scratch out : List ℕ) → (replay image part list memory scratch out).0 ≡ 0 → room (items 0 list) + ending_room (length memory) ≤ length out
unfolding replay
holds-answers image part list memory scratch out h =
    let n = asked (replay_questions image part list memory (length scratch) (length out)) in
    let z : n ≡ 0 = cases (eqb n 0) (λ t. eqb-true n 0 t) (λ t. rw t at h) in
    out-holds image part list memory scratch out n refl z

-- a replay, refused and not
module _ (kind : SaveType) (lines : List (List ℕ)) (memory scratch answers : List ℕ) where
  said : ℕ × List ℕ × List ℕ × List ℕ
  said = replay (image_of kind) (part_number Usual) (prelude kind ++ list_of lines) (take (memory_size kind) memory) (take (memory_size kind) scratch) answers

  module _ (image list : List ℕ) (n r : ℕ) (m' s' a' : List ℕ) (i : image ≡ image_of kind) (l : list ≡ prelude kind ++ list_of lines) (k : n ≡ memory_size kind)
      (e : ◌≡◌ {A = ℕ × List ℕ × List ℕ × List ℕ} (r, m', s', a') (replay image (part_number Usual) list (take n memory) (take n scratch) answers)) where
    replay-said : ◌≡◌ {A = ℕ × List ℕ × List ℕ × List ℕ} (r, m', s', a') said
    unfolding said
    replay-said = e ∙ (λ j. replay (i j) (part_number Usual) (l j) (take (k j) memory) (take (k j) scratch) answers)

    pub text-refused : (r ≡ 0 → ⊥) → played kind lines memory scratch answers ≡ line_of (r % 256) []
    unfolding played replay_text said
    text-refused h = (λ j. replay_text kind lines (sym replay-said j)) ∙ rw (ne_eqb r 0 h)

    pub text-accepted : r ≡ 0 → played kind lines memory scratch answers ≡ accepted_text kind lines a'
    unfolding played replay_text said
    text-accepted h = (λ j. replay_text kind lines (sym replay-said j)) ∙ rw (eq-eqb r 0 h)

    pub answers-held : r ≡ 0 → length a' ≡ length answers → memory_size kind ≤ length memory → prelude_room kind + (lines_room lines + ending_room (memory_size kind)) ≤ length a'
    unfolding said
    answers-held h q z =
        let held = holds-answers (image_of kind) (part_number Usual) (prelude kind ++ list_of lines) (take (memory_size kind) memory) (take (memory_size kind) scratch) answers ((λ j. (sym replay-said j).0) ∙ h) in
        omega (arith, held, list-room kind lines, length-take-le (memory_size kind) memory z, q)

-- a trace by what its first line says
pub trace-first : (text memory scratch answers : List ℕ) (end from : ℕ) (first : FirstLine) → (length text ≡ 0 → ⊥) → end ≡ line_length text → drop from text ≡ drop (end + 1) text → first ≡ first_line (take end text)
    → cuttrace text memory scratch answers ≡ play_from first (length text) (lines_from [] (take (length text - from) (drop from text))) memory scratch answers
trace-first text memory scratch answers end from first h e d f =
    trace-said text memory scratch answers end from (omega (arith, h)) e d
    ∙ ap (λ (x : FirstLine). play_from x (length text) (lines_from [] (take (length text - from) (drop from text))) memory scratch answers) (sym f)

-- a trace that is too long, and one that is not
pub too_long : (kind : SaveType) (n : ℕ) (lines : List (List ℕ)) (memory scratch answers : List ℕ) → longest_trace < n → play_from (Some kind) n lines memory scratch answers ≡ line_of 0xfd []
unfolding play_from
too_long kind n lines memory scratch answers h = rw (lt-ltb longest_trace n h)

pub not-long : (kind : SaveType) (n : ℕ) (lines : List (List ℕ)) (memory scratch answers : List ℕ) → n ≤ longest_trace → play_from (Some kind) n lines memory scratch answers ≡ played kind lines memory scratch answers
unfolding play_from
not-long kind n lines memory scratch answers h = rw (le-ltb longest_trace n h)

-- whether it is settled, by its first line
pub settled-said : (text : List ℕ) (end : ℕ) (first : FirstLine) → end ≡ line_length text → first ≡ first_line (take end text)
    → settled text ≡ cond (is_no_kind first) (ltb end (length text) || ltb 2 end) (ltb longest_trace (length text))
unfolding settled
settled-said text end first e f = rw (f, e)

pub bad-ended : (text : List ℕ) (end : ℕ) → end ≡ line_length text → None ≡ first_line (take end text) → end < length text → ltb end (length text) ≡ settled text
bad-ended text end e f h = let l = lt-ltb end (length text) h in rw l (sym (settled-said text end None e f ∙ rw l))

pub bad-unended : (text : List ℕ) (end : ℕ) → end ≡ line_length text → None ≡ first_line (take end text) → length text ≤ end → ltb 2 end ≡ settled text
bad-unended text end e f h = sym (settled-said text end None e f ∙ rw (le-ltb end (length text) h))
