-- After a bad line 1 nothing that follows changes what is printed. Assumes nothing.
use mathlib.Core.Path.{◌≡◌, refl, sym, ap, ◌∙◌}
use mathlib.Core.Bool.{true, false, ◌&&◌, true≢false}
use mathlib.Core.List.{List, [], ◌∷◌, ◌++◌, append-nil}
use Prim.Native.Nat.{ℕ, ◌+◌}
use native.Mathlib.Omega.{arith}
use lib.Dec.{ltb, eqb}
use borrow.Author.Tests.{ltb-true, lt-ltb, ne_eqb}
use Rattle.lists.proofs.Bools.{cases}
use Rattle.hex_text.specs.Hex.{value_of}
use Rattle.cart.specs.declared.Cartridge.{Cartridge}
use Rattle.cart.specs.Record.{fresh_cart}
use Rattle.frames.specs.declared.Line.{Line}
use Rattle.frames.specs.Frames.{FirstLine}
use Rattle.std.specs.Prelude.{Some, None}
use Rattle.frames.specs.Frames.{first_in, first_line, empty_line, pushed, pushed_all, line_of}
use Rattle.frames.proofs.Lines.{first_said}
use Rattle.carttrace_lib.specs.declared.Stage.{Stage}
use Rattle.carttrace_lib.specs.declared.Stage.TheVariants.{First, Playing, Over}
use Rattle.carttrace_lib.specs.declared.Session.{Session}
use Rattle.carttrace_lib.specs.Session.{Buffers, session_with, opened, begun, line_ended, took, took_all, is_empty, finished, no_kind, over}
use Rattle.carttrace_lib.specs.Claims.{printed_by, is_no_kind, bad_first, still_printed, Ends}
use Rattle.carttrace_lib.proofs.Whole.{printed-more, took-end, took-char, push-more, over-silent}

-- a line that can become no kind: it is not empty, is none, and stays so
no-kind-full : (l : Line) → no_kind l ≡ true → is_empty l ≡ false
no-kind-full l h =
    cases l.good
    (λ e. let n = ltb-true 2 l.count (rw e at h) in rw (e, ne_eqb l.count 0 (omega (arith, n))))
    (λ e. rw e)

no-kind-none : (l : Line) → no_kind l ≡ true → first_in l ≡ None
no-kind-none l h =
    cases l.good
    (λ e. let n = ltb-true 2 l.count (rw e at h) in rw (e, ne_eqb l.count 2 (omega (arith, n))))
    (λ e. rw e)

no-kind-stays : (l : Line) (c : ℕ) → no_kind l ≡ true → no_kind (pushed l c) ≡ true
unfolding pushed
no-kind-stays l c h =
    cases l.good
    (λ e.
    let n = ltb-true 2 l.count (rw e at h) in
    cases (ltb l.count 12 && ltb (value_of c) 16) (λ f. rw (e, f) (lt-ltb 2 (l.count + 1) (omega (arith, n)))) (λ f. rw (e, f)))
    (λ e. rw e)

-- the end of a bad line 1
bad-ended : (l : Line) (cart : Cartridge) (m : Buffers) → no_kind l ≡ true → line_ended (session_with First l cart) m ≡ begun None (session_with First l cart) m
unfolding line_ended
bad-ended l cart m h = ap (λ (f : FirstLine). begun f (session_with First l cart) m) (no-kind-none l h)

bad-finished : (l : Line) (cart : Cartridge) (m : Buffers) → no_kind l ≡ true → (finished (session_with First l cart) m).text ≡ line_of 0xff []
unfolding finished begun
bad-finished l cart m h = rw (no-kind-full l h, bad-ended l cart m h)

-- whatever follows a line 1 that can become no kind
bad-printed : (input : List ℕ) (l : Line) (cart : Cartridge) (m : Buffers) → no_kind l ≡ true → printed_by input (session_with First l cart) m ≡ line_of 0xff []
unfolding printed_by took_all begun
bad-printed [] l cart m h = bad-finished l cart m h
bad-printed (c ∷ input) l cart m h =
    let s = session_with First l cart in
    printed-more c input s m
    ∙ cases (eqb c 0x0a)
    (λ e. rw (took-end c s m e, bad-ended l cart m h, over-silent input empty_line cart m) (append-nil (line_of 0xff [])))
    (λ e. rw (took-char c s m e) (bad-printed input (pushed l c) cart m (no-kind-stays l c h)))

nothing-more : (g : Stage) (l : Line) (cart : Cartridge) (input : List ℕ) (m : Buffers) → over (session_with g l cart) ≡ true
    → printed_by input (session_with g l cart) m ≡ still_printed (session_with g l cart)
unfolding over still_printed
nothing-more First l cart input m h = bad-printed input l cart m h
nothing-more Playing l cart input m h = absurd (true≢false (sym h))
nothing-more Over l cart input m h = over-silent input l cart m

-- a session that is over stays so
stays-over : (input : List ℕ) (l : Line) (cart : Cartridge) (m : Buffers) → over (took_all input (session_with Over l cart) m).session ≡ true
unfolding over took_all took line_ended
stays-over [] l cart m = refl
stays-over (c ∷ input) l cart m = cases (eqb c 0x0a) (λ e. rw e (stays-over input l cart m)) (λ e. rw e (stays-over input (pushed l c) cart m))

bad-over : (f : FirstLine) (input : List ℕ) (s : Session) (m : Buffers) → is_no_kind f ≡ true → let h = begun f s m in over (took_all input h.session h.buffers).session ≡ true
unfolding begun
bad-over None input s m h = stays-over input empty_line s.cart m
bad-over (Some kind) input s m h = absurd (true≢false (sym h))

at-bad-first : (input line : List ℕ) (cart : Cartridge) (m : Buffers) → bad_first line input ≡ true
    → over (took_all input (session_with First (pushed_all empty_line line) cart) m).session ≡ true
unfolding bad_first took_all line_ended
at-bad-first [] line cart m h = absurd (true≢false (sym h))
at-bad-first (c ∷ input) line cart m h =
    let s = session_with First (pushed_all empty_line line) cart in
    cases (eqb c 0x0a)
    (λ e. rw (took-end c s m e, first_said line) (bad-over (first_line line) input s m (rw e at h)))
    (λ e. rw (took-char c s m e, push-more empty_line line c) (at-bad-first input (line ++ (c ∷ [])) cart m (rw e at h)))

pub ends : Ends
unfolding opened pushed_all
ends =
    record {
      at_bad_first = λ input m h. at-bad-first input [] (fresh_cart 0 _ _) m h;
      nothing_more = λ s input m h. nothing-more s.stage s.line s.cart input m h;
    }
