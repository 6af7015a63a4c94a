-- `carttrace`, fed its input in pieces of any length, prints what document 01 says of the whole input. Assumes nothing.
use mathlib.Core.Path.{◌≡◌, refl, sym, ap, ◌∙◌}
use mathlib.Core.Bool.{true, false, ◌&&◌}
use mathlib.Core.List.{List, [], ◌∷◌, ◌++◌, append-nil, append_assoc}
use Prim.Native.Nat.{ℕ, ◌+◌}
use native.Mathlib.Omega.{arith}
use lib.Dec.{ltb, eqb}
use lib.ListN.{length, take}
use lib.Seq.{take-append_seam}
use borrow.Author.Tests.{ne_eqb}
use Rattle.lists.proofs.Bools.{cases}
use Rattle.hex_text.specs.Hex.{value_of}
use Rattle.image.specs.Image.{image_length}
use Rattle.memory.specs.Memory.{erased}
use Rattle.kind.specs.declared.SaveType.{SaveType}
use Rattle.kind.specs.Kind.{memory_size, tally_count}
use Rattle.part.specs.declared.Part.TheVariants.{Usual}
use Rattle.part.specs.Part.{part_fits}
use Rattle.cart.specs.declared.Cartridge.{Cartridge}
use Rattle.cart.specs.Record.{State, fresh_cart}
use Rattle.cart.specs.Calls.{Call, step, save_read, save_write, eeprom_begin_dma, eeprom_write, eeprom_read, chip_state, take_save_dirty}
use Rattle.cart.specs.Replies.{tallied}
use Rattle.cart.proofs.Sound.{Sound, sound-step, sound-kind}
use Rattle.cart.proofs.Tallies.{Fit, fit-step, right-fit}
use Rattle.counts.proofs.Retallied.{tallies-blank}
use Rattle.frames.specs.declared.Line.{Line}
use Rattle.frames.specs.declared.Frame.{Frame}
use Rattle.frames.specs.declared.Frame.TheVariants.{SaveRead, SaveWrite, EepromRead, EepromWrite, BeginDma, TakeFlag, ChipState, Bad}
use Rattle.frames.specs.Frames.{FirstLine}
use Rattle.std.specs.Prelude.{Some, None}
use Rattle.frames.specs.Frames.{frame, first_line, empty_line, pushed, pushed_all, line_of}
use Rattle.frames.proofs.Lines.{frame-said, first_said}
use Rattle.carttrace_lib.specs.declared.Stage.TheVariants.{First, Playing, Over}
use Rattle.carttrace_lib.specs.declared.Session.{Session}
use Rattle.carttrace_lib.specs.Trace.{play, play_all, fresh_kind, play_from, play_lines, lines_from, carttrace}
use Rattle.carttrace_lib.specs.Session.{Buffers, from_front, to_front, heard, session_with, opened, begun, continued, line_ended, took, took_all, is_empty, finished}
use Rattle.carttrace_lib.specs.Claims.{Pieces, took_two, Whole, printed_in, joined, printed_by}

pub pieces : Pieces
unfolding took_all took_two
pieces [] b s m = refl
pieces (c ∷ a) b s m =
    let h = took s c m in
    let g = took_all a h.session h.buffers in
    let r = took_all b g.session g.buffers in
    rw (pieces a b h.session h.buffers) (ap (λ (l : List ℕ). heard l r.session r.buffers) (sym (append_assoc h.text g.text r.text)))

pub printed-more : (c : ℕ) (input : List ℕ) (s : Session) (m : Buffers) → let h = took s c m in printed_by (c ∷ input) s m ≡ h.text ++ printed_by input h.session h.buffers
unfolding took_all printed_by
printed-more c input s m =
    let h = took s c m in
    let r = took_all input h.session h.buffers in
    append_assoc h.text r.text (finished r.session r.buffers).text

pub took-end : (c : ℕ) (s : Session) (m : Buffers) → eqb c 0x0a ≡ true → took s c m ≡ line_ended s m
unfolding took
took-end c s m e = rw e

pub took-char : (c : ℕ) (s : Session) (m : Buffers) → eqb c 0x0a ≡ false → took s c m ≡ heard [] (session_with s.stage (pushed s.line c) s.cart) m
unfolding took
took-char c s m e = rw e

-- a line with a character is not empty
push-full : (l : Line) (c : ℕ) → is_empty (pushed l c) ≡ false
unfolding pushed
push-full l c =
    cases l.good
    (λ e.
    cases (ltb l.count 12 && ltb (value_of c) 16) (λ f. rw (e, f) (ne_eqb (l.count + 1) 0 (λ z. omega (arith, z)))) (λ f. rw (e, f)))
    (λ e. rw e)

stays-full : (l : Line) (text : List ℕ) → is_empty l ≡ false → is_empty (pushed_all l text) ≡ false
unfolding pushed_all
stays-full l [] h = h
stays-full l (c ∷ text) h = stays-full (pushed l c) text (push-full l c)

line-full : (c : ℕ) (line : List ℕ) → is_empty (pushed_all empty_line (c ∷ line)) ≡ false
unfolding pushed_all
line-full c line = stays-full (pushed empty_line c) line (push-full empty_line c)

pub push-more : (l : Line) (line : List ℕ) (c : ℕ) → pushed (pushed_all l line) c ≡ pushed_all l (line ++ (c ∷ []))
unfolding pushed_all
push-more l [] c = refl
push-more l (b ∷ line) c = push-more (pushed l b) line c

-- after a bad line 1 nothing is printed
pub over-silent : (input : List ℕ) (l : Line) (cart : Cartridge) (m : Buffers) → printed_by input (session_with Over l cart) m ≡ []
unfolding printed_by took_all took line_ended finished
over-silent [] l cart m = cases (is_empty l) (λ e. rw e) (λ e. rw e)
over-silent (c ∷ input) l cart m = cases (eqb c 0x0a) (λ e. rw e (over-silent input l cart m)) (λ e. rw e (over-silent input (pushed l c) cart m))

-- memory and tallies stay those of the record's kind
abbrev Right : State → Type 0
Right s = Sound s × Fit s

right-step : (c : Call) (s : State) → Right s → Right (step c [] s).next
right-step c s k = (sound-step c [] s k.0, fit-step c [] s k.1)

right-play : (f : Frame) (s : State) → Right s → Right (play f s).next
unfolding play
right-play (SaveRead a) s k = right-step (save_read a) s k
right-play (SaveWrite a v) s k = right-step (save_write a v) s k
right-play EepromRead s k = right-step eeprom_read s k
right-play (EepromWrite v) s k = right-step (eeprom_write v) s k
right-play (BeginDma words) s k = right-step (eeprom_begin_dma words) s k
right-play TakeFlag s k = right-step take_save_dirty s k
right-play ChipState s k = right-step chip_state s k
right-play Bad s k = k

right-kind : (kind : SaveType) → Right (fresh_kind kind)
unfolding fresh_kind fresh_cart erased image_length part_fits
right-kind kind =
    (sound-kind 192 kind Usual _ refl refl, right-fit (fresh_kind kind) (sym (tallies-blank (tally_count kind) (memory_size kind))))

-- what was put at the front is found there
front : (n : ℕ) (l rest : List ℕ) → length l ≡ n → take n (l ++ rest) ≡ l
front n l rest e = rw (sym e) (take-append_seam l rest)

front-state : (kind : SaveType) (s : State) (m : Buffers) → Right s → from_front s.cart (to_front kind s m) ≡ s
front-state kind s m k =
    let a = front (memory_size s.cart.kind) s.memory _ k.0.memory_ok in
    let b = front (tally_count s.cart.kind) s.tallies _ k.1.count in
    λ i. tallied s.cart (a i) (b i)

-- so a law of the lines that follow holds of what was put there
from_front_lem : (input : List ℕ) (kind : SaveType) (s : State) (m : Buffers) → let b = to_front kind s m in
    let text = printed_by input (session_with Playing empty_line s.cart) b in
    let t = from_front s.cart b in
    Right s → (Right t → text ≡ play_all (lines_from [] input) t) → text ≡ play_all (lines_from [] input) s
from_front_lem input kind s m k law =
    let f = front-state kind s m k in
    law (rw f k) ∙ ap (play_all (lines_from [] input)) f

-- line 1 was a kind: the lines after it, the characters of the next one so far in `line`
playing : (input line : List ℕ) (cart : Cartridge) (m : Buffers) → let s = from_front cart m in Right s
    → printed_by input (session_with Playing (pushed_all empty_line line) cart) m ≡ play_all (lines_from line input) s
unfolding printed_by took_all finished line_ended continued lines_from play_all pushed_all
playing [] [] cart m k = refl
playing [] (c ∷ line) cart m k =
    let s = from_front cart m in
    rw (line-full c line) (ap (λ (f : Frame). (play f s).text) (frame-said (c ∷ line)) ∙ sym (append-nil (play (frame (c ∷ line)) s).text))
playing (c ∷ input) line cart m k =
    let s = from_front cart m in
    let l = pushed_all empty_line line in
    printed-more c input (session_with Playing l cart) m
    ∙ cases (eqb c 0x0a)
    (λ e.
    let p = play (frame line) s in
    rw (took-end c (session_with Playing l cart) m e, e)
    (ap (λ (g : Frame). (play g s).text ++ printed_by input (session_with Playing empty_line (play g s).next.cart) (to_front cart.kind (play g s).next m)) (frame-said line)
    ∙ ap (λ (r : List ℕ). p.text ++ r) (from_front_lem input cart.kind p.next m (right-play (frame line) s k) (playing input [] p.next.cart (to_front cart.kind p.next m)))))
    (λ e. rw (took-char c (session_with Playing l cart) m e, e) (ap (λ (q : Line). printed_by input (session_with Playing q cart) m) (push-more empty_line line c) ∙ playing input (line ++ (c ∷ [])) cart m k))

-- at the end of line 1, and what is printed after it
first-end : (f : FirstLine) (input : List ℕ) (s : Session) (m : Buffers) → let h = begun f s m in
    h.text ++ printed_by input h.session h.buffers ≡ play_from f (lines_from [] input)
unfolding begun pushed_all
first-end None input s m = rw (over-silent input empty_line s.cart m) (append-nil (line_of 0xff []))
first-end (Some kind) input s m =
    let t = fresh_kind kind in
    ap (λ (r : List ℕ). line_of 0 [] ++ r) (from_front_lem input kind t m (right-kind kind) (playing input [] t.cart (to_front kind t m)))

first-last : (f : FirstLine) (s : Session) (m : Buffers) → (begun f s m).text ≡ play_from f []
unfolding begun play_all
first-last None s m = refl
first-last (Some kind) s m = sym (append-nil (line_of 0 []))

starting : (input line : List ℕ) (cart : Cartridge) (m : Buffers) → printed_by input (session_with First (pushed_all empty_line line) cart) m ≡ play_lines (lines_from line input)
unfolding printed_by took_all finished line_ended lines_from play_lines pushed_all
starting [] [] cart m = refl
starting [] (c ∷ line) cart m =
    let s = session_with First (pushed_all empty_line (c ∷ line)) cart in
    rw (line-full c line) (ap (λ (f : FirstLine). (begun f s m).text) (first_said (c ∷ line)) ∙ first-last (first_line (c ∷ line)) s m)
starting (c ∷ input) line cart m =
    let l = pushed_all empty_line line in
    let s = session_with First l cart in
    printed-more c input s m
    ∙ cases (eqb c 0x0a)
    (λ e.
    rw (took-end c s m e, e)
    (ap (λ (f : FirstLine). (begun f s m).text ++ printed_by input (begun f s m).session (begun f s m).buffers) (first_said line) ∙ first-end (first_line line) input s m))
    (λ e. rw (took-char c s m e, e) (ap (λ (q : Line). printed_by input (session_with First q cart) m) (push-more empty_line line c) ∙ starting input (line ++ (c ∷ [])) cart m))

-- pieces print what their characters print
in-pieces : (ps : List (List ℕ)) (s : Session) (m : Buffers) → printed_in ps s m ≡ printed_by (joined ps) s m
unfolding printed_in printed_by joined took_all took_two
in-pieces [] s m = refl
in-pieces (p ∷ ps) s m =
    let h = took_all p s m in
    let r = took_all (joined ps) h.session h.buffers in
    rw (pieces p (joined ps) s m) (ap (λ (l : List ℕ). h.text ++ l) (in-pieces ps h.session h.buffers) ∙ sym (append_assoc h.text r.text (finished r.session r.buffers).text))

pub whole : Whole
unfolding opened carttrace pushed_all
whole ps m = in-pieces ps opened m ∙ starting (joined ps) [] (fresh_cart 0 _ _) m
