-- Bytes handed to the matcher until it has seen SRAM_V. Assumes nothing.
use mathlib.Core.Path.{◌≡◌, refl, sym, ap, subst, ◌∙◌}
use mathlib.Core.Logic.{◌≢◌}
use mathlib.Core.Bool.{true, false, ◌&&◌}
use mathlib.Core.List.{List, [], ◌∷◌, ◌++◌, reverse, reverse_aux, reverse_aux-eq, reverse_aux-append}
use Prim.Native.Nat.{ℕ, zero, suc, ◌+◌, ◌≤◌, ◌<◌}
use native.Mathlib.Nat.{add-zero}
use native.Mathlib.Numerals.{add-one}
use native.Mathlib.Omega.{arith}
use lib.Dec.{eqb}
use lib.ListN.{length, get_or, take, drop, drop_of_length-le, length-drop, length-take, take-append-drop}
use lib.Seq.{drop-cons, take-take, take_all, length-take-le}
use Rattle.lists.proofs.Bools.{cases, or-true}
use Rattle.lists.proofs.Parts.{spelled, spells}
use Rattle.matcher.specs.declared.Matcher.{Matcher}
use Rattle.matcher.specs.declared.Fed.{Fed}
use Rattle.matcher.specs.Matcher.{step, steps}
use Rattle.matcher.specs.Reading.{more, reads, Advanced}
use Rattle.matcher.specs.Quiet.{pairs, with_last, after, Quiet}
use Rattle.matcher.proofs.Endings.{quiet_step}

at_count : (m : Matcher) {a b : ℕ} → a ≡ b → ◌≡◌ {A = Fed} (record { matcher = m; count = a }) (record { matcher = m; count = b })
at_count m e = ap (λ (n : ℕ). record { matcher = m; count = n }) e

pub more-more : (a b : ℕ) (f : Fed) → more a (more b f) ≡ more (a + b) f
more-more a b f = at_count f.matcher (omega arith)

pub more-none : (f : Fed) → more 0 f ≡ f
more-none f = at_count f.matcher (omega arith)

-- a matcher that has seen SRAM_V is handed nothing
pub reads-stop : (m : Matcher) (s : List ℕ) → m.sram ≡ true → reads m s ≡ record { matcher = m; count = 0 }
unfolding reads
reads-stop m [] e = refl
reads-stop m (b ∷ s) e = rw e

-- one byte
pub reads-one : (m : Matcher) (b : ℕ) (s : List ℕ) → m.sram ≡ false → reads m (b ∷ s) ≡ more 1 (reads (step m b) s)
unfolding reads
reads-one m b s e = rw e

pub read_one : (m : Matcher) (s : List ℕ) (n : ℕ) → n < length s → m.sram ≡ false → more (n + 1) (reads (step m (get_or s n 0)) (drop (n + 1) s)) ≡ more n (reads m (drop n s))
read_one m s n h e =
    sym (more-more n 1 (reads (step m (get_or s n 0)) (drop (n + 1) s)))
    ∙ ap (more n) (rw (add-one n) (sym (reads-one m (get_or s n 0) (drop (suc n) s) e)))
    ∙ ap (λ (l : List ℕ). more n (reads m l)) (sym (drop-cons s n 0 h))

pub read-end : (m : Matcher) (s : List ℕ) (n : ℕ) → length s ≤ n → record { matcher = m; count = n } ≡ more n (reads m (drop n s))
unfolding reads
read-end m s n h = rw (drop_of_length-le s h) (at_count m (omega arith))

pub read-stop : (m : Matcher) (s : List ℕ) (n : ℕ) → m.sram ≡ true → record { matcher = m; count = n } ≡ more n (reads m s)
read-stop m s n e = rw (reads-stop m s e) (at_count m (omega arith))

-- the first n bytes, and then the rest
abbrev onward : List ℕ → Fed → Fed
onward s f = more f.count (reads f.matcher (drop f.count s))

on-suc : (b : ℕ) (s : List ℕ) (f : Fed) → onward (b ∷ s) (more 1 f) ≡ more 1 (onward s f)
on-suc b s f =
    let e : 1 + f.count ≡ suc f.count = omega arith in
    rw (more-more 1 f.count (reads f.matcher (drop f.count s)), e)

reads_on : (m : Matcher) (s : List ℕ) (n : ℕ) → onward s (reads m (take n s)) ≡ reads m s
unfolding reads
reads_on m s zero = more-none (reads m s)
reads_on m [] (suc n) = more-none (reads m [])
reads_on m (b ∷ s) (suc n) =
    cases m.sram
    (λ e. ap (onward (b ∷ s)) (reads-stop m (b ∷ take n s) e) ∙ more-none (reads m (b ∷ s)))
    (λ e.
    ap (onward (b ∷ s)) (reads-one m b (take n s) e)
    ∙ on-suc b s (reads (step m b) (take n s))
    ∙ ap (more 1) (reads_on (step m b) s n)
    ∙ sym (reads-one m b s e))

-- and there is a first byte, where SRAM_V was not seen before
reads-some : (m : Matcher) (s : List ℕ) → m.sram ≡ false → 0 < length s → 0 < (reads m s).count
reads-some m [] e h = absurd (omega arith)
reads-some m (b ∷ s) e h = rw (reads-one m b s e) (omega arith)

pub reads-within : (m : Matcher) (s : List ℕ) → (reads m s).count ≤ length s
unfolding reads
reads-within m [] = omega arith
reads-within m (b ∷ s) =
    cases m.sram (λ e. rw (reads-stop m (b ∷ s) e) (omega arith))
    (λ e. rw (reads-one m b s e) (omega (arith, reads-within (step m b) s)))

-- the bytes handed over, and the matcher's steps over them
pub reads-steps : (m : Matcher) (s : List ℕ) → (reads m s).matcher ≡ steps m (take (reads m s).count s)
unfolding reads steps
reads-steps m [] = refl
reads-steps m (b ∷ s) =
    cases m.sram (λ e. rw (reads-stop m (b ∷ s) e))
    (λ e.
    let k : 1 + (reads (step m b) s).count ≡ suc (reads (step m b) s).count = omega arith in
    rw (reads-one m b s e, k) (reads-steps (step m b) s))

-- nine last bytes are kept
pub reads-nine : (m : Matcher) (s : List ℕ) → length m.last ≡ 9 → length (reads m s).matcher.last ≡ 9
unfolding reads step
reads-nine m [] h = h
reads-nine m (b ∷ s) h =
    cases m.sram (λ e. rw (reads-stop m (b ∷ s) e) h)
    (λ e. rw (reads-one m b s e) (reads-nine (step m b) s (ap suc (length-take-le 8 m.last (omega arith)))))

-- bytes without the pair are passed over: what was seen stays, and the last bytes are their own
back : (s l : List ℕ) (n k : ℕ) → n ≤ k → take n (s ++ take k l) ≡ take n (s ++ l)
back [] l n k h = take-take n k l h
back (x ∷ s) l zero k h = refl
back (x ∷ s) l (suc n) k h = ap (λ (r : List ℕ). x ∷ r) (back s l n k (omega arith))

newest-back : (s l : List ℕ) (b : ℕ) → take 9 (reverse_aux s (b ∷ take 8 l)) ≡ take 9 (reverse_aux s (b ∷ l))
newest-back s l b = rw (reverse_aux-eq s (b ∷ take 8 l), reverse_aux-eq s (b ∷ l)) (back (reverse s) (b ∷ l) 9 9 (omega arith))

quiet-reads : (m : Matcher) (s t : List ℕ) → m.sram ≡ false → length m.last ≡ 9 → pairs (get_or m.last 0 0) s ≡ false → more (length s) (reads (after m s) t) ≡ reads m (s ++ t)
unfolding pairs after
quiet-reads m [] t e h p = more-none _ ∙ ap (λ (l : List ℕ). reads (with_last m l) t) (take_all 9 m.last (omega arith))
quiet-reads m (b ∷ s) t e h p =
    let o = or-true (eqb 0x5f (get_or m.last 0 0) && eqb 0x56 b) (pairs b s) p in
    let n = with_last m (b ∷ take 8 m.last) in
    let k : suc (length s) ≡ 1 + length s = omega arith in
    ap (λ (c : ℕ). more c (reads (after m (b ∷ s)) t)) k
    ∙ sym (more-more 1 (length s) (reads (after m (b ∷ s)) t))
    ∙ ap (λ (l : List ℕ). more 1 (more (length s) (reads (with_last m l) t))) (sym (newest-back s m.last b))
    ∙ ap (more 1) (quiet-reads n s t e (ap suc (length-take-le 8 m.last (omega arith))) o.1)
    ∙ ap (λ (x : Matcher). more 1 (reads x (s ++ t))) (sym (quiet_step m b o.0))
    ∙ sym (reads-one m b (s ++ t) e)

-- the last nine bytes by their places
abbrev nine : List ℕ → ℕ → List ℕ
nine s n = get_or s (n + 8) 0 ∷ get_or s (n + 7) 0 ∷ get_or s (n + 6) 0 ∷ get_or s (n + 5) 0 ∷ get_or s (n + 4) 0 ∷ get_or s (n + 3) 0 ∷ get_or s (n + 2) 0 ∷ get_or s (n + 1) 0 ∷ get_or s n 0 ∷ []

parted : (s : List ℕ) (n : ℕ) → length s ≡ n + 9 → s ≡ take n s ++ spelled s n 0 9
parted s n h =
    sym (take-append-drop n s)
    ∙ ap (λ (l : List ℕ). take n s ++ l) (sym (take_all 9 (drop n s) (omega (arith, length-drop n s))) ∙ ap (λ (i : ℕ). take 9 (drop i s)) (sym (add-zero n)) ∙ spells s n 9 0 (omega arith))

pub last-nine : (m : Matcher) (s : List ℕ) (n : ℕ) → length s ≡ n + 9 → with_last m (nine s n) ≡ after m s
unfolding after
last-nine m s n h =
    ap (with_last m) (sym (
    ap (λ (l : List ℕ). take 9 (reverse_aux l m.last)) (parted s n h)
    ∙ ap (take 9) (reverse_aux-append (take n s) (spelled s n 0 9) m.last)
    ∙ ap (λ (i : ℕ). get_or s (n + 8) 0 ∷ get_or s (n + 7) 0 ∷ get_or s (n + 6) 0 ∷ get_or s (n + 5) 0 ∷ get_or s (n + 4) 0 ∷ get_or s (n + 3) 0 ∷ get_or s (n + 2) 0 ∷ get_or s (n + 1) 0 ∷ get_or s i 0 ∷ []) (add-zero n)))

-- a turn: a quiet run, or some bytes singly
pub advanced-run : (m : Matcher) (s : List ℕ) (r : ℕ) (x : Matcher) → m.sram ≡ false → length m.last ≡ 9 → Quiet (get_or m.last 0 0) s r → r ≢ 0 → x ≡ after m (take r s) → Advanced m s (record { matcher = x; count = r })
advanced-run m s r x e h q n p =
    let k : length (take r s) ≡ r = length-take-le r s q.within in
    let z : 9 ≤ r = q.enough n in
    record {
      within = q.within;
      some = omega arith;
      rest =
          ap (λ (y : Matcher). more r (reads y (drop r s))) p
          ∙ ap (λ (c : ℕ). more c (reads (after m (take r s)) (drop r s))) (sym k)
          ∙ quiet-reads m (take r s) (drop r s) e h q.calm
          ∙ ap (reads m) (take-append-drop r s);
    }

pub advanced-some : (m : Matcher) (s : List ℕ) (n : ℕ) (f : Fed) → m.sram ≡ false → 0 < length s → 0 < n → f ≡ reads m (take n s) → Advanced m s f
advanced-some m s n f e h k p =
    subst (Advanced m s) (sym p)
    (record {
      within = omega (arith, reads-within m (take n s), length-take n s);
      some = reads-some m (take n s) e (omega (arith, length-take n s));
      rest = reads_on m s n;
    })
