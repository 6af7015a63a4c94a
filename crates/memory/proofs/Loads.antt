-- A file laid over a memory, stretch by stretch. Assumes nothing.
use mathlib.Core.Path.{◌≡◌, refl, sym, ap, ap₂, ◌∙◌}
use mathlib.Core.List.{List, [], ◌∷◌, ◌++◌, append-nil}
use Prim.Native.Nat.{ℕ, zero, suc, ◌+◌, ◌*◌, ◌-◌, ◌≤◌, ◌<◌, min}
use native.Mathlib.Nat.{sub-zero, suc-sub-suc}
use native.Mathlib.Omega.{arith}
use lib.Dec.{leb}
use lib.ListN.{length, get_or, set, take, drop, length-drop, drop_of_length-le, replicate-append-replicate}
use lib.Seq.{take_all, take-length, drop-length, take-nil, drop-nil, take_at}
use borrow.Author.Tests.{leb-true, leb-false}
use Rattle.lists.specs.Lists.{into}
use Rattle.lists.proofs.Bools.{cases}
use Rattle.lists.proofs.Parts.{copy_more, front_of}
use Rattle.counts.specs.Counts.{differing}
use Rattle.counts.specs.Tallies.{retallied}
use Rattle.counts.proofs.Counts.{differing-on, differing-end}
use Rattle.counts.proofs.Retallied.{length-retallied, retallied-at}
use Rattle.memory.specs.Memory.{erased, filled, with_count}
use Rattle.memory.specs.Replaced.{noted}
use Rattle.memory.proofs.Memory.{length-erased, drop-erased, erased-0, length-filled, length-mid}
use Rattle.memory.proofs.Counts.{with-count}
use Rattle.memory.proofs.Replaced.{rest-is, front-on}

-- the output, copied to the front of a list, and taken from there
pub into-front : (f d : List ℕ) {held : List ℕ} → held ≡ into f d → take (length f) held ≡ f
into-front f d e = ap (take (length f)) e ∙ front_of f d

-- a part of a memory that a file was loaded into
drop-loaded : (a n : ℕ) (f : List ℕ) → a ≤ n → drop a (filled n f) ≡ filled (n - a) (drop a f)
unfolding filled
drop-loaded zero n f h = rw (sub-zero n)
drop-loaded (suc a) n [] h =
    rw (take-nil n, take-nil (n - suc a), drop-erased (suc a) (n - 0))
    (let e : n - 0 - suc a ≡ n - suc a - 0 = omega arith in rw e)
drop-loaded (suc a) zero (x ∷ f) h = absurd (omega arith)
drop-loaded (suc a) (suc n) (x ∷ f) h = rw (suc-sub-suc n (length f), suc-sub-suc n a) (drop-loaded a n f (omega arith))

erased-add : (n k : ℕ) → erased (n + k) ≡ erased n ++ erased k
unfolding erased
erased-add n k = sym (replicate-append-replicate n k 255)

take-loaded : (k n : ℕ) (f : List ℕ) → k ≤ n → take k (filled n f) ≡ filled k (take k f)
unfolding filled
take-loaded zero n f h = sym erased-0
take-loaded (suc k) zero f h = absurd (omega arith)
take-loaded (suc k) (suc n) [] h =
    let e : suc n - 0 ≡ suc k + (n - k) = omega arith in
    rw (e, erased-add (suc k) (n - k), sub-zero (suc k)) (take_at (erased (suc k)) (erased (n - k)) (suc k) (length-erased (suc k)))
take-loaded (suc k) (suc n) (x ∷ f) h =
    rw (suc-sub-suc n (length f), suc-sub-suc k (length (take k f))) (ap (λ (l : List ℕ). x ∷ l) (take-loaded k n f (omega arith)))

-- the file's bytes for the n places from a on
take_min : (k : ℕ) (l : List ℕ) → take (min k (length l)) l ≡ take k l
take_min k l =
    cases (leb k (length l))
    (λ e. let h = leb-true k (length l) e in let q : min k (length l) ≡ k = omega arith in rw q)
    (λ e.
    let h = leb-false k (length l) e in
    let q : min k (length l) ≡ length l = omega arith in
    rw q (take-length l ∙ sym (take_all k l (omega arith))))

drop_min : (k : ℕ) (l : List ℕ) → drop (min k (length l)) l ≡ drop k l
drop_min k l =
    cases (leb k (length l))
    (λ e. let h = leb-true k (length l) e in let q : min k (length l) ≡ k = omega arith in rw q)
    (λ e.
    let h = leb-false k (length l) e in
    let g : length l ≤ k = omega arith in
    let q : min k (length l) ≡ length l = omega arith in
    rw q (drop-length l ∙ sym (drop_of_length-le l g)))

file-part : (a n : ℕ) (f : List ℕ) → take (min (a + n) (length f) - min a (length f)) (drop (min a (length f)) f) ≡ take n (drop a f)
file-part a n f =
    let e : min (a + n) (length f) - min a (length f) ≡ min n (length (drop a f)) = simp length-drop (omega arith) in
    rw (drop_min a f, e) (take_min n (drop a f))

-- a front of the one list, and what follows of the other
after_front : (k : ℕ) (l r : List ℕ) → k ≤ length l → get_or (take k l ++ drop k r) k 0 ≡ get_or r k 0
after_front zero l r h = refl
after_front (suc k) [] r h = absurd (omega arith)
after_front (suc k) (x ∷ l) [] h = rw (drop-nil k) at (after_front k l [] (omega arith))
after_front (suc k) (x ∷ l) (y ∷ r) h = after_front k l r (omega arith)

-- stretch k of a memory, and the file's bytes for it
abbrev pub stretch : ℕ → List ℕ → List ℕ
stretch k m = take (k * 4096 + 4096 - k * 4096) (drop (k * 4096) m)

abbrev pub file-stretch : ℕ → List ℕ → List ℕ
file-stretch k f = take (min (k * 4096 + 4096) (length f) - min (k * 4096) (length f)) (drop (min (k * 4096) (length f)) f)

stretch-loaded : (k n : ℕ) (f : List ℕ) → k * 4096 + 4096 ≤ n → filled 4096 (file-stretch k f) ≡ stretch k (filled n f)
stretch-loaded k n f h =
    let e : k * 4096 + 4096 - k * 4096 ≡ 4096 = omega arith in
    rw (file-part (k * 4096) 4096 f, e, drop-loaded (k * 4096) n f (omega arith))
    (sym (take-loaded 4096 (n - k * 4096) (drop (k * 4096) f) (omega arith)))

-- below stretch k the file is loaded, and its changes noted; the rest is as it was
pub record Loaded (k : ℕ) (m f ts cur left : List ℕ) (n : ℕ) : Type 0 where
  pub front : cur ≡ take (k * 4096) (filled (length m) f) ++ drop (k * 4096) m
  pub tallies : left ≡ take k (retallied m (filled (length m) f) ts) ++ drop k ts
  pub count : n + differing (drop (k * 4096) m) (drop (k * 4096) (filled (length m) f)) ≡ differing m (filled (length m) f)

module _ {m f ts : List ℕ} (size : length m ≡ 4096 * length ts) where
  pub loaded_on : {k : ℕ} → k < length ts → {cur left ys : List ℕ} {n c t : ℕ} → Loaded k m f ts cur left n
      → (c, ys, t) ≡ noted (stretch k cur) (filled (length (stretch k cur)) (file-stretch k f)) (get_or left k 0)
      → Loaded (k + 1) m f ts (take (k * 4096) cur ++ (ys ++ drop (k * 4096 + 4096 - k * 4096) (drop (k * 4096) cur))) (set left k t) (n + c)
  loaded_on {k} h {cur} {left} {ys} {n} {c} {t} b p =
      let new : List ℕ = filled (length m) f in
      let l : length new ≡ length m = length-filled (length m) f in
      let r = length-retallied ts m new in
      let d : drop (k * 4096) cur ≡ drop (k * 4096) m = rest-is m new (k * 4096) (k * 4096 + 4096) (omega arith) (omega arith) b.front in
      let g : get_or left k 0 ≡ get_or ts k 0 = ap (λ (l : List ℕ). get_or l k 0) b.tallies ∙ after_front k (retallied m new ts) ts (omega arith) in
      let q = rw (d, length-mid m (k * 4096) 4096 (omega arith), stretch-loaded k (length m) f (omega arith), g) at p in
      let e : (k + 1) * 4096 ≡ k * 4096 + 4096 = omega arith in
      let z : k * 4096 + 4096 - k * 4096 ≡ 4096 = omega arith in
      let u : t ≡ get_or (retallied m new ts) k 0 = ap (λ (x : ℕ × List ℕ × ℕ). x.2) q ∙ rw z (sym (retallied-at ts m new k h)) in
      record {
        front = rw e (front-on m new (k * 4096) (k * 4096 + 4096) (omega arith) (omega arith) b.front (ap (λ (x : ℕ × List ℕ × ℕ). x.1) q));
        tallies = ap₂ (λ (l : List ℕ) (x : ℕ). set l k x) b.tallies u ∙ copy_more k (retallied m new ts) ts (omega arith) h;
        count = rw e (omega (arith, b.count, ap (λ (x : ℕ × List ℕ × ℕ). x.0) q, differing-on m new (k * 4096) (k * 4096 + 4096) (omega arith) (sym l)));
      }

  pub loaded-all : {k : ℕ} → k ≡ length ts → {cur left : List ℕ} {n : ℕ} → Loaded k m f ts cur left n → (n, cur, left) ≡ with_count m (filled (length m) f) ts
  loaded-all {k} e b =
      let new : List ℕ = filled (length m) f in
      let l : length new ≡ length m = length-filled (length m) f in
      let r = length-retallied ts m new in
      let h : length ts ≤ k = omega arith in
      let i : length m ≤ k * 4096 = omega arith in
      with-count
      (omega (arith, b.count, differing-end m new (k * 4096) i))
      (b.front ∙ rw (take_all (k * 4096) new (omega arith), drop_of_length-le m i, append-nil new))
      (b.tallies ∙ rw (take_all k (retallied m new ts) (omega arith), drop_of_length-le ts h, append-nil (retallied m new ts)))
