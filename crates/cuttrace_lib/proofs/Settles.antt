-- A trace that is settled is refused, whatever follows. Assumes nothing.
use mathlib.Core.Path.{◌≡◌, refl, sym, ap, ◌∙◌}
use mathlib.Core.Bool.{true, false, true≢false}
use mathlib.Core.List.{List, [], ◌∷◌, ◌++◌, append-nil, append_assoc}
use mathlib.Core.Option.{Option, none, some}
use Prim.Native.Nat.{ℕ, suc, ◌≤◌, ◌<◌}
use native.Mathlib.Omega.{arith}
use lib.Dec.{ltb, eqb}
use lib.ListN.{length, take, drop, length-append}
use lib.Seq.{length-take-le}
use borrow.Author.Tests.{ltb-true, ltb-false, lt-ltb, ne_eqb}
use Rattle.lists.proofs.Bools.{cases}
use Rattle.frames.specs.Frames.{FirstLine}
use Rattle.std.specs.Prelude.{Some, None}
use Rattle.frames.specs.Frames.{first_of, numbered, number_from, first_line, line_of}
use Rattle.carttrace_lib.specs.Trace.{lines_from}
use Rattle.carttrace_lib.specs.Claims.{is_no_kind, bad_first}
use Rattle.cuttrace_lib.specs.Lines.{line_length}
use Rattle.cuttrace_lib.specs.Cuttrace.{longest_trace, play_from, play_lines, cuttrace, settled}
use Rattle.cuttrace_lib.specs.Claims.{Settles}
use Rattle.cuttrace_lib.proofs.Texts.{first-line}
use Rattle.cuttrace_lib.proofs.Traces.{too_long}

-- a first line, and one that more characters follow
line-within : (text : List ℕ) → line_length text ≤ length text
unfolding line_length
line-within [] = omega arith
line-within (c ∷ text) = cases (eqb c 0x0a) (λ e. rw e (omega arith)) (λ e. rw e (omega (arith, line-within text)))

line-longer : (text more : List ℕ) → line_length text ≤ line_length (text ++ more)
unfolding line_length
line-longer [] more = omega arith
line-longer (c ∷ text) more = cases (eqb c 0x0a) (λ e. rw e (omega arith)) (λ e. rw e (omega (arith, line-longer text more)))

same_line : (text more : List ℕ) → line_length text < length text → take (line_length (text ++ more)) (text ++ more) ≡ take (line_length text) text
unfolding line_length
same_line [] more h = absurd (omega (arith, h))
same_line (c ∷ text) more h =
    cases (eqb c 0x0a) (λ e. rw e) (λ e. rw e (ap (λ (l : List ℕ). c ∷ l) (same_line text more (omega (arith, rw e at h)))))

-- a kind has two characters
numbered-none : (n : ℕ) (x : Option ℕ) → (n ≡ 2 → ⊥) → numbered first_of None n x ≡ None
numbered-none n none h = refl
numbered-none n (some x) h = rw (ne_eqb n 2 h)

no_kind : (line : List ℕ) → (length line ≡ 2 → ⊥) → first_line line ≡ None
unfolding first_line
no_kind line h = numbered-none (length line) (number_from 0 line) h

first-of : List ℕ → FirstLine
first-of text = first_line (take (line_length text) text)

line-whole : (text : List ℕ) → length (take (line_length text) text) ≡ line_length text
line-whole text = length-take-le (line_length text) text (line-within text)

-- by its first line
by_first : (text memory scratch answers : List ℕ) → 0 < length text
    → cuttrace text memory scratch answers ≡ play_from (first-of text) (length text) (lines_from [] (drop (suc (line_length text)) text)) memory scratch answers
unfolding cuttrace play_lines first-of
by_first text memory scratch answers h = rw (first-line [] text (omega (arith, h)))

bad-first : (text memory scratch answers : List ℕ) → 0 < length text → first-of text ≡ None → cuttrace text memory scratch answers ≡ line_of 0xff []
unfolding play_from
bad-first text memory scratch answers h e = by_first text memory scratch answers h ∙ rw e

long-first : (f : FirstLine) (text memory scratch answers : List ℕ) → longest_trace < length text → first-of text ≡ f → is_no_kind f ≡ false → cuttrace text memory scratch answers ≡ line_of 0xfd []
long-first None text memory scratch answers h e k = absurd (true≢false k)
long-first (Some kind) text memory scratch answers h e k =
    by_first text memory scratch answers (omega (arith, h)) ∙ rw e (too_long kind (length text) _ memory scratch answers h)

none_first : (f : FirstLine) → is_no_kind f ≡ true → f ≡ None
none_first None k = refl
none_first (Some kind) k = absurd (true≢false (sym k))

module _ (text more memory scratch answers : List ℕ) where
  abbrev n : ℕ
  n = line_length text

  abbrev Same : Type 0
  Same = cuttrace (text ++ more) memory scratch answers ≡ cuttrace text memory scratch answers

  -- line 1 is bad, and has ended
  ended_same : first-of text ≡ None → n < length text → Same
  unfolding first-of
  ended_same e h =
      bad-first (text ++ more) memory scratch answers (simp length-append (omega (arith, h))) (ap first_line (same_line text more h) ∙ e)
      ∙ sym (bad-first text memory scratch answers (omega (arith, h)) e)

  -- or is too long for a kind
  longer-same : first-of text ≡ None → 2 < n → Same
  unfolding first-of
  longer-same e h =
      let w = line-within text in
      bad-first (text ++ more) memory scratch answers (simp length-append (omega (arith, h, w)))
      (no_kind (take (line_length (text ++ more)) (text ++ more)) (λ z. omega (arith, z, h, line-whole (text ++ more), line-longer text more)))
      ∙ sym (bad-first text memory scratch answers (omega (arith, h, w)) e)

  -- or the trace is too long; a line 1 that is a kind has then ended
  long_same : is_no_kind (first-of text) ≡ false → longest_trace < length text → Same
  unfolding first-of
  long_same k h =
      let t : n < length text =
      cases (ltb n (length text)) (λ z. ltb-true n (length text) z)
      (λ z. absurd (true≢false (sym (ap is_no_kind (no_kind (take n text) (λ y. omega (arith, y, h, line-whole text, ltb-false n (length text) z)))) ∙ k))) in
      long-first _ (text ++ more) memory scratch answers (simp length-append (omega (arith, h))) (ap first_line (same_line text more t)) k
      ∙ sym (long-first _ text memory scratch answers h refl k)

  nothing-more : settled text ≡ true → Same
  unfolding settled first-of
  nothing-more h =
      cases (is_no_kind (first-of text))
      (λ k.
      let e = none_first (first-of text) k in
      cases (ltb n (length text)) (λ t. ended_same e (ltb-true n (length text) t)) (λ t. longer-same e (ltb-true 2 n (rw (k, t) at h))))
      (λ k. long_same k (ltb-true longest_trace (length text) (rw k at h)))

-- a line 1 that has ended and is bad
bad-said : (line text : List ℕ) → bad_first line text ≡ true → (is_no_kind (first_line (line ++ take (line_length text) text)) ≡ true) × (line_length text < length text)
unfolding bad_first line_length
bad-said line [] h = absurd (true≢false (sym h))
bad-said line (c ∷ text) h =
    cases (eqb c 0x0a) (λ e. rw (e, append-nil line) (rw e at h, omega arith))
    (λ e.
    let i = bad-said (line ++ (c ∷ [])) text (rw e at h) in
    rw (e, ← append_assoc line (c ∷ []) (take (line_length text) text)) (i.0, omega (arith, i.1)))

at-bad-first : (text : List ℕ) → bad_first [] text ≡ true → settled text ≡ true
unfolding settled
at-bad-first text h = let b = bad-said [] text h in rw (b.0, lt-ltb (line_length text) (length text) b.1)

too-long-settled : (text : List ℕ) → longest_trace < length text → settled text ≡ true
unfolding settled
too-long-settled text h =
    let l = lt-ltb longest_trace (length text) h in
    cases (is_no_kind (first_line (take (line_length text) text)))
    (λ k. cases (ltb (line_length text) (length text)) (λ t. rw (k, t)) (λ t. rw (k, t) (lt-ltb 2 (line_length text) (omega (arith, h, ltb-false (line_length text) (length text) t)))))
    (λ k. rw (k, l))

pub settles : Settles
settles = record { at_bad_first = at-bad-first; too_long = too-long-settled; nothing_more = nothing-more }
