-- A line taken in character by character says what the whole line says. Assumes nothing.
use mathlib.Core.Path.{◌≡◌, refl, sym, ap, ◌∙◌}
use mathlib.Core.Bool.{true, false, ◌&&◌}
use mathlib.Core.List.{List, [], ◌∷◌}
use Prim.Native.Nat.{ℕ, ◌+◌, ◌*◌, ◌%◌, ◌^◌, ◌≤◌, ◌<◌}
use native.Mathlib.Nat.{mod-eq_of_lt, add-zero, zero-add}
use native.Mathlib.Omega.{arith}
use lib.Dec.{ltb}
use lib.ListN.{length}
use lib.Pow.{pow-add, pow_mono}
use borrow.Author.Tests.{ltb-true, ltb-false, lt-ltb, ne_eqb}
use Rattle.lists.proofs.Bools.{cases}
use Rattle.hex_text.specs.Hex.{value_of}
use Rattle.frames.specs.declared.Line.{Line}
use Rattle.frames.specs.declared.Frame.TheVariants.{Bad}
use Rattle.std.specs.Prelude.{None}
use Rattle.frames.specs.Frames.{number_from, frame_of, frame, first_of, first_line, numbered, line_with, empty_line, pushed, pushed_all, read_in, frame_in, first_in}

-- a line that is no frame stays so
bad-stays : {A : Type 0} (of : ℕ → ℕ → A) (bad : A) (n x : ℕ) (text : List ℕ) → read_in of bad (pushed_all (line_with false n x) text) ≡ bad
unfolding pushed_all pushed
bad-stays of bad n x [] = refl
bad-stays of bad n x (c ∷ text) = bad-stays of bad n x text

-- n digits make a number below 2 ^ (4 n), so that one more of the first twelve loses nothing
next_fits : (n x v : ℕ) → x < 2 ^ (4 * n) → v < 16 → 16 * x + v < 2 ^ (4 * (n + 1))
next_fits n x v h l =
    let g : 4 * (n + 1) ≡ 4 * n + 4 = omega arith in
    rw (g, pow-add 2 (4 * n) 4) (omega (arith, h, l))

nothing-lost : (n x v : ℕ) → n < 12 → x < 2 ^ (4 * n) → x * 16 % 2 ^ 64 + v ≡ 16 * x + v
nothing-lost n x v m h =
    let p : 2 ^ (4 * n) ≤ 2 ^ 44 = pow_mono {i = 4 * n} {j = 44} (omega (arith, m)) in
    let l : x * 16 < 2 ^ 64 = omega (arith, h, p) in
    rw (mod-eq_of_lt l) (omega arith)

push-digit : (n x c : ℕ) → n < 12 → x < 2 ^ (4 * n) → value_of c < 16 → pushed (line_with true n x) c ≡ line_with true (n + 1) (16 * x + value_of c)
unfolding pushed
push-digit n x c m h v = rw (lt-ltb n 12 m, lt-ltb (value_of c) 16 v) (ap (line_with true (n + 1)) (nothing-lost n x (value_of c) m h))

push-other : {A : Type 0} (of : ℕ → ℕ → A) (bad : A) (n x c : ℕ) (text : List ℕ) → ltb n 12 && ltb (value_of c) 16 ≡ false → read_in of bad (pushed_all (pushed (line_with true n x) c) text) ≡ bad
unfolding pushed
push-other of bad n x c text e = rw e (bad-stays of bad n x text)

-- more digits than any frame has
numbered-long : {A : Type 0} (of : ℕ → ℕ → A) (bad : A) → ((n x : ℕ) → 12 < n → of n x ≡ bad) → (n x : ℕ) (text : List ℕ) → 12 < n → numbered of bad n (number_from x text) ≡ bad
unfolding number_from
numbered-long of bad long n x [] h = long n x h
numbered-long of bad long n x (c ∷ text) h =
    cases (ltb (value_of c) 16)
    (λ e. rw e (numbered-long of bad long n (16 * x + value_of c) text h))
    (λ e. rw e)

-- "lines of any length": after n digits of number x, the text to come
line-said : {A : Type 0} (of : ℕ → ℕ → A) (bad : A) → ((n x : ℕ) → 12 < n → of n x ≡ bad) → (n x : ℕ) (text : List ℕ) → n ≤ 12 → x < 2 ^ (4 * n) → read_in of bad (pushed_all (line_with true n x) text) ≡ numbered of bad (n + length text) (number_from x text)
unfolding number_from pushed_all pushed
line-said of bad long n x [] m h = ap (λ (k : ℕ). of k x) (sym (add-zero n))
line-said of bad long n x (c ∷ text) m h =
    cases (ltb n 12)
    (λ p. cases (ltb (value_of c) 16)
    (λ e.
    let v : value_of c < 16 = ltb-true (value_of c) 16 e in
    let q : n < 12 = ltb-true n 12 p in
    let s : n + 1 + length text ≡ n + length (c ∷ text) = omega arith in
    ap (λ (l : Line). read_in of bad (pushed_all l text)) (push-digit n x c q h v)
    ∙ rw e
    (line-said of bad long (n + 1) (16 * x + value_of c) text (omega (arith, q)) (next_fits n x (value_of c) h v)
    ∙ ap (λ (k : ℕ). numbered of bad k (number_from (16 * x + value_of c) text)) s))
    (λ e. push-other of bad n x c text (rw (p, e)) ∙ rw e))
    (λ p. push-other of bad n x c text (rw p) ∙ sym (numbered-long of bad long (n + length (c ∷ text)) x (c ∷ text) (omega (arith, ltb-false n 12 p))))

whole-said : {A : Type 0} (of : ℕ → ℕ → A) (bad : A) → ((n x : ℕ) → 12 < n → of n x ≡ bad) → (text : List ℕ) → read_in of bad (pushed_all empty_line text) ≡ numbered of bad (length text) (number_from 0 text)
whole-said of bad long text =
    line-said of bad long 0 0 text (omega arith) (omega arith)
    ∙ ap (λ (k : ℕ). numbered of bad k (number_from 0 text)) (zero-add (length text))

frame-long : (n x : ℕ) → 12 < n → frame_of n x ≡ Bad
unfolding frame_of
frame-long n x h = rw (ne_eqb n 10 (omega arith), ne_eqb n 12 (omega arith), ne_eqb n 2 (omega arith), ne_eqb n 6 (omega arith))

pub frame-said : (text : List ℕ) → frame_in (pushed_all empty_line text) ≡ frame text
unfolding frame
frame-said text = whole-said frame_of Bad frame-long text

pub first_said : (text : List ℕ) → first_in (pushed_all empty_line text) ≡ first_line text
unfolding first_line
first_said text = whole-said first_of None (λ n x h. rw (ne_eqb n 2 (omega (arith, h)))) text
