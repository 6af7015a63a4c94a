-- The loop that feeds characters: what holds before each of them. Assumes nothing.
use mathlib.Core.Path.{◌≡◌, refl, sym, ap, ◌∙◌}
use mathlib.Core.List.{List, [], ◌++◌, append-nil, append_assoc}
use Prim.Native.Nat.{ℕ, suc, ◌+◌, ◌*◌, ◌-◌, ◌≤◌, ◌<◌}
use native.Mathlib.Numerals.{add-one}
use native.Mathlib.Omega.{arith}
use lib.ListN.{length, get_or, take, drop, length-append}
use lib.Seq.{drop-cons, drop-length}
use Rattle.lists.specs.Lists.{into}
use Rattle.lists.proofs.Parts.{rest, past-rest, into_more, length-into}
use Rattle.carttrace_lib.specs.declared.Session.{Session}
use Rattle.carttrace_lib.specs.declared.Told.{Told}
use Rattle.carttrace_lib.specs.Session.{Buffers, buffers, Heard, heard, took, took_all, told_with, told}
use Rattle.carttrace_lib.proofs.Short.{took-short}

-- what was printed before, and what comes after it
abbrev behind : List ℕ → Heard → Heard
behind front h = heard (front ++ h.text) h.session h.buffers

-- front: the text of the first i characters
pub record Fed (input : List ℕ) (m₀ : Buffers) (out₀ : List ℕ) (s₀ : Session) (m : Buffers) (out : List ℕ) (s : Session) (len i : ℕ) : Type 0 where
  pub front : List ℕ
  pub place_ok : i ≤ length input
  pub len_is : len ≡ length front
  pub len_ok : len ≤ 39 * i
  pub room_ok : 39 * length input ≤ length out₀
  pub memory_ok : length m.memory ≡ length m₀.memory
  pub tallies_ok : length m.tallies ≡ length m₀.tallies
  pub out_is : out ≡ into front out₀
  pub whole_is : took_all input s₀ m₀ ≡ behind front (took_all (drop i input) s m)

pub fed-start : (input : List ℕ) (m : Buffers) (out : List ℕ) (s : Session) → 39 * length input ≤ length out → Fed input m out s m out s 0 0
unfolding into
fed-start input m out s h =
    record { front = []; place_ok = omega arith; len_is = refl; len_ok = omega arith; room_ok = h; memory_ok = refl; tallies_ok = refl; out_is = refl; whole_is = refl }

pub out-length : {input out₀ out : List ℕ} {m₀ m : Buffers} {s₀ s : Session} {len i : ℕ} → Fed input m₀ out₀ s₀ m out s len i → length out ≡ length out₀
out-length {input} {out₀} f =
    ap length f.out_is ∙ length-into f.front out₀ (omega (arith, f.len_is, f.len_ok, f.place_ok, f.room_ok))

-- the output after the character at i, passed from len on
pub put-behind : (front text out₀ out o' : List ℕ) (len : ℕ) → len ≡ length front → len ≤ length out₀ → out ≡ into front out₀
    → o' ≡ into text (take (length out - len) (drop len out)) → take len out ++ (o' ++ drop (length out - len) (drop len out)) ≡ into (front ++ text) out₀
put-behind front text out₀ out o' len l k e q =
    rw (past-rest len out, append-nil o', q, rest len out, e) (into_more front text out₀ len l k)

took_more : (input : List ℕ) (m : Buffers) (s : Session) (i : ℕ) (front : List ℕ) → i < length input
    → let h = took s (get_or input i 0) m in
    behind front (took_all (drop i input) s m) ≡ behind (front ++ h.text) (took_all (drop (i + 1) input) h.session h.buffers)
unfolding took_all
took_more input m s i front k =
    let h = took s (get_or input i 0) m in
    let r = took_all (drop (suc i) input) h.session h.buffers in
    rw (drop-cons input i 0 k, add-one i) (ap (λ (l : List ℕ). heard l r.session r.buffers) (sym (append_assoc front h.text r.text)))

pub fed-more : {input out₀ out : List ℕ} {m₀ m : Buffers} {s₀ s : Session} {len i : ℕ} {t : Told} {m' ts' o' : List ℕ} → Fed input m₀ out₀ s₀ m out s len i → i < length input
    → ◌≡◌ {A = Told × List ℕ × List ℕ × List ℕ} (t, m', ts', o') (told (took s (get_or input i 0) m) (take (length out - len) (drop len out)))
    → length m' ≡ length m.memory → length ts' ≡ length m.tallies
    → Fed input m₀ out₀ s₀ (buffers m' ts') (take len out ++ (o' ++ drop (length out - len) (drop len out))) t.session (len + t.len) (i + 1)
fed-more {input} {out₀} {out} {m₀} {m} {s₀} {s} {len} {i} {t} {m'} {ts'} {o'} f k e l ls =
    let h = took s (get_or input i 0) m in
    let n : t.len ≡ length h.text = λ j. (e j).0.len in
    record {
      front = f.front ++ h.text;
      place_ok = omega arith;
      len_is = omega (arith, f.len_is, n, length-append f.front h.text);
      len_ok = omega (arith, f.len_ok, n, took-short s (get_or input i 0) m);
      room_ok = f.room_ok;
      memory_ok = l ∙ f.memory_ok;
      tallies_ok = ls ∙ f.tallies_ok;
      out_is = put-behind f.front h.text out₀ out o' len f.len_is (omega (arith, f.len_ok, f.place_ok, f.room_ok)) f.out_is (λ j. (e j).3);
      whole_is =
          f.whole_is ∙ took_more input m s i f.front k
          ∙ (λ j. behind (f.front ++ h.text) (took_all (drop (i + 1) input) (sym e j).0.session (buffers (sym e j).1 (sym e j).2)));
    }

pub fed-all : {input out₀ out : List ℕ} {m₀ m : Buffers} {s₀ s : Session} {len i : ℕ} {t : Told} → Fed input m₀ out₀ s₀ m out s len i → length input ≤ i → t ≡ told_with s len
    → ◌≡◌ {A = Told × List ℕ × List ℕ × List ℕ} (t, m.memory, m.tallies, out) (told (took_all input s₀ m₀) out₀)
unfolding took_all
fed-all {input} {out₀} {out} {m₀} {m} {s₀} {s} {len} {i} {t} f k e =
    let y : i ≡ length input = omega (arith, f.place_ok, k) in
    let z : drop i input ≡ [] = ap (λ (n : ℕ). drop n input) y ∙ drop-length input in
    let w : took_all input s₀ m₀ ≡ heard f.front s m =
    f.whole_is ∙ (λ j. behind f.front (took_all (z j) s m)) ∙ (λ j. heard (append-nil f.front j) s m) in
    let p : t ≡ told_with s (length f.front) = e ∙ ap (told_with s) f.len_is in
    (λ j. (p j, m.memory, m.tallies, f.out_is j)) ∙ (λ j. told (sym w j) out₀)
