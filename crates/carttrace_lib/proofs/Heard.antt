-- What the code returns for what a character prints and leaves. Assumes nothing.
use mathlib.Core.Path.{◌≡◌, ap, ◌∙◌}
use mathlib.Core.Bool.{true, false}
use mathlib.Core.List.{List, [], ◌++◌}
use Prim.Native.Nat.{ℕ, ◌≤◌}
use lib.ListN.{length, take, drop}
use lib.Seq.{length-take-le}
use Rattle.carttrace_lib.specs.declared.Session.{Session}
use Rattle.carttrace_lib.specs.declared.Told.{Told}
use Rattle.carttrace_lib.specs.Trace.{written}
use Rattle.carttrace_lib.specs.Session.{Buffers, Heard, heard, is_empty, line_ended, finished, told_with, told}

-- session, text and buffers, each from its own call
pub tells : {x : Told} {session : Session} {len : ℕ} {m ts out' : List ℕ} (h : Heard) (out : List ℕ)
    → x ≡ told_with session len → session ≡ h.session → ◌≡◌ {A = ℕ × List ℕ} (len, out') (written h.text out)
    → m ≡ h.buffers.memory → ts ≡ h.buffers.tallies → ◌≡◌ {A = Told × List ℕ × List ℕ × List ℕ} (x, m, ts, out') (told h out)
tells h out p q w a b =
    let k = p ∙ (λ j. told_with (q j) (w j).0) in
    λ i. (k i, a i, b i, (w i).1)

-- a buffer whose front is made anew
pub new-front : (f : ℕ → List ℕ) {n k : ℕ} {e : List ℕ} (m : List ℕ) → n ≡ k → n ≤ length m → e ≡ f (length (take n m)) → e ++ drop n m ≡ f k ++ drop k m
new-front f {n} m k h q =
    let l = q ∙ ap f (length-take-le n m h ∙ k) in
    λ i. l i ++ drop (k i) m

pub finished-empty : (s : Session) (m : Buffers) → is_empty s.line ≡ true → finished s m ≡ heard [] s m
unfolding finished
finished-empty s m e = rw e

pub finished-full : (s : Session) (m : Buffers) → is_empty s.line ≡ false → finished s m ≡ line_ended s m
unfolding finished
finished-full s m e = rw e
