-- The lines of a text, one after the other. Assumes nothing.
use mathlib.Core.Path.{◌≡◌, refl, sym, ap, ◌∙◌}
use mathlib.Core.Logic.{◌≢◌}
use mathlib.Core.List.{List, [], ◌∷◌, ◌++◌, append-nil, append_assoc}
use Prim.Native.Nat.{ℕ, zero, suc, ◌+◌, ◌-◌, ◌≤◌, ◌<◌}
use native.Mathlib.Numerals.{add-one}
use native.Mathlib.Omega.{arith}
use lib.Dec.{eqb}
use lib.ListN.{length, get_or, take, drop, length-append, length-drop}
use lib.Seq.{drop-cons, drop-drop}
use borrow.Author.Tests.{eq-eqb, ne_eqb}
use Rattle.lists.proofs.Bools.{cases}
use Rattle.lists.proofs.Parts.{rest}
use Rattle.frames.specs.declared.Line.{Line}
use Rattle.frames.specs.Frames.{pushed, pushed_all}
use Rattle.carttrace_lib.specs.Trace.{lines_from}
use Rattle.cuttrace_lib.specs.Lines.{IsLineEnd, line_length}

-- where the first line feed is, or that there is none
pub length_none : (text : List ℕ) → ((k : ℕ) → k < length text → get_or text k 0 ≢ 0x0a) → length text ≡ line_length text
unfolding line_length
length_none [] h = refl
length_none (c ∷ text) h =
    let t = length_none text (λ k l. h (suc k) (omega arith)) in
    rw (ne_eqb c 0x0a (h 0 (omega arith)), ← t) refl

pub length_found : (text : List ℕ) (i : ℕ) → IsLineEnd text i → i ≡ line_length text
unfolding line_length
length_found [] i h = absurd (omega (arith, h.0))
length_found (c ∷ text) zero h = rw (eq-eqb c 0x0a h.1) refl
length_found (c ∷ text) (suc i) h =
    let t = length_found text i (omega (arith, h.0), h.1, λ k l. h.2 (suc k) (omega arith)) in
    rw (ne_eqb c 0x0a (h.2 0 (omega arith)), ← t) refl

-- the first line of a text, after the characters that began it
pub first-line : (line text : List ℕ) → 0 < length line + length text
    → lines_from line text ≡ ((line ++ take (line_length text) text) ∷ lines_from [] (drop (suc (line_length text)) text))
unfolding lines_from line_length
first-line [] [] h = absurd (omega arith)
first-line (c ∷ line) [] h = ap (λ (l : List ℕ). (c ∷ l) ∷ []) (sym (append-nil line))
first-line line (c ∷ text) h =
    cases (eqb c 0x0a)
    (λ t. rw t (ap (λ (l : List ℕ). l ∷ lines_from [] text) (sym (append-nil line))))
    (λ t. rw t
    (first-line (line ++ (c ∷ [])) text (simp length-append (omega arith))
    ∙ ap (λ (l : List ℕ). l ∷ lines_from [] (drop (suc (line_length text)) text)) (append_assoc line (c ∷ []) (take (line_length text) text))))

-- at any place before the end a line begins, and after it the others
pub next-line : (text : List ℕ) (i n : ℕ) → i < length text → n ≡ line_length (take (length text - i) (drop i text))
    → lines_from [] (drop i text) ≡ (take (i + n - i) (drop i text) ∷ lines_from [] (drop (i + n + 1) text))
next-line text i n h e =
    let k : n ≡ line_length (drop i text) = e ∙ ap line_length (rest i text) in
    let d : i + n - i ≡ n = omega arith in
    let s : i + suc n ≡ i + n + 1 = omega arith in
    first-line [] (drop i text) (simp length-drop (omega arith))
    ∙ rw (← k, d, drop-drop (suc n) i text, s)

pub none-behind : (text : List ℕ) (i : ℕ) → length text ≤ i → drop i text ≡ []
none-behind [] zero h = refl
none-behind [] (suc i) h = refl
none-behind (c ∷ text) zero h = absurd (omega arith)
none-behind (c ∷ text) (suc i) h = none-behind text i (omega arith)

pub no_line : (text : List ℕ) (i : ℕ) → length text ≤ i → lines_from [] (drop i text) ≡ []
unfolding lines_from
no_line text i h = ap (lines_from []) (none-behind text i h)

-- a line's characters pushed one after the other
pub pushed_more : (line : List ℕ) (i : ℕ) (l m : Line) (whole : Line) → i < length line → m ≡ pushed l (get_or line i 0) → whole ≡ pushed_all l (drop i line)
    → whole ≡ pushed_all m (drop (i + 1) line)
unfolding pushed_all
pushed_more line i l m whole h e w = w ∙ rw (drop-cons line i 0 h, add-one i, e)

pub pushed-end : (line : List ℕ) (i : ℕ) (l whole : Line) → length line ≤ i → whole ≡ pushed_all l (drop i line) → l ≡ whole
unfolding pushed_all
pushed-end line i l whole h w = sym (w ∙ ap (pushed_all l) (none-behind line i h))

-- how much of a text is left after place i
pub part-long : (text : List ℕ) (i : ℕ) → length (take (length text - i) (drop i text)) ≡ length text - i
part-long text i = rw (rest i text) (length-drop i text)
