-- What the matcher has seen is what stands in the bytes that it was handed. Assumes nothing.
use mathlib.Core.Path.{◌≡◌, refl, sym, ap, ◌∙◌}
use mathlib.Core.Bool.{Bool, true, false, ◌||◌, or_comm, or-false}
use mathlib.Core.List.{List, [], ◌∷◌, ◌++◌, reverse, reverse_aux, reverse_aux-eq, reverse-cons, reverse-append, reverse-reverse}
use Prim.Native.Nat.{ℕ, ◌+◌, ◌≤◌}
use native.Mathlib.Omega.{arith}
use lib.ListN.{length, take, drop, length-reverse, replicate}
use lib.Seq.{take-take}
use Rattle.lists.specs.Lists.{ascii}
use Rattle.lists.proofs.Bools.{cases}
use Rattle.kind.specs.Kind.{begins, stands}
use Rattle.matcher.specs.declared.Matcher.{Matcher}
use Rattle.matcher.specs.declared.Fed.{Fed}
use Rattle.matcher.specs.Matcher.{backwards, start, step, steps, seen}
use Rattle.matcher.specs.Reading.{reads}
use Rattle.matcher.specs.Search.{behind_first}
use Rattle.matcher.proofs.Standing.{plain, enough, begins-split, stands-reverse, behind-none, behind-end}
use Rattle.matcher.proofs.Reading.{reads-stop, reads-one}

-- the matcher behind the bytes r, newest first
pub record Knows (m : Matcher) (r : List ℕ) : Type 0 where
  pub sram : m.sram ≡ stands (backwards "SRAM_V") r
  pub flash64 : m.flash64 ≡ stands (backwards "FLASH_V") r || stands (backwards "FLASH512_V") r
  pub flash128 : m.flash128 ≡ stands (backwards "FLASH1M_V") r
  pub eeprom : m.eeprom ≡ stands (backwards "EEPROM_V") r
  pub last : m.last ≡ take 9 (r ++ replicate 9 0)

pub knows_start : Knows start []
unfolding start stands
knows_start = record { sram = refl; flash64 = refl; flash128 = refl; eeprom = refl; last = refl }

module _ (b : ℕ) (l r : List ℕ) (same : l ≡ take 9 (r ++ replicate 9 0)) where
  one : (q : List ℕ) → length q ≤ 10 → plain q ≡ true → begins q (b ∷ l) ≡ begins q (b ∷ r)
  one q h k = rw same (enough q b r h k)

  shows : (q : List ℕ) {a : Bool} → length q ≤ 10 → plain q ≡ true → a ≡ stands q r → a || begins q (b ∷ l) ≡ stands q (b ∷ r)
  unfolding stands
  shows q {a} h k e = rw (e, one q h k) (or_comm (stands q r) (begins q (b ∷ r)))

  shuffle : (x y u v : Bool) → (x || y) || (u || v) ≡ (u || x) || (v || y)
  shuffle true y true v = refl
  shuffle true y false v = refl
  shuffle false true true v = refl
  shuffle false true false true = refl
  shuffle false true false false = refl
  shuffle false false true v = refl
  shuffle false false false true = refl
  shuffle false false false false = refl

  shows-either : (q t : List ℕ) {a : Bool} → length q ≤ 10 → plain q ≡ true → length t ≤ 10 → plain t ≡ true → a ≡ stands q r || stands t r
      → a || (begins q (b ∷ l) || begins t (b ∷ l)) ≡ stands q (b ∷ r) || stands t (b ∷ r)
  unfolding stands
  shows-either q t {a} h k i j e = rw (e, one q h k, one t i j) (shuffle (stands q r) (stands t r) (begins q (b ∷ r)) (begins t (b ∷ r)))

knows-step : (m : Matcher) (r : List ℕ) (b : ℕ) → Knows m r → Knows (step m b) (b ∷ r)
unfolding step backwards
knows-step m r b k =
    record {
      sram = shows b m.last r k.last (backwards "SRAM_V") (omega arith) refl k.sram;
      flash64 = shows-either b m.last r k.last (backwards "FLASH_V") (backwards "FLASH512_V") (omega arith) refl (omega arith) refl k.flash64;
      flash128 = shows b m.last r k.last (backwards "FLASH1M_V") (omega arith) refl k.flash128;
      eeprom = shows b m.last r k.last (backwards "EEPROM_V") (omega arith) refl k.eeprom;
      last = ap (λ (l : List ℕ). b ∷ l) (ap (take 8) k.last ∙ take-take 8 9 (r ++ replicate 9 0) (omega arith));
    }

knows_steps : (m : Matcher) (r s : List ℕ) → Knows m r → Knows (steps m s) (reverse_aux s r)
unfolding steps
knows_steps m r [] k = k
knows_steps m r (b ∷ s) k = knows_steps (step m b) (b ∷ r) s (knows-step m r b k)

-- the same as one equation, of a matcher that has seen nothing before
pub sees : (s : List ℕ) → steps start s ≡ seen s
unfolding seen backwards
sees s =
    let k : Knows (steps start s) (reverse s) = knows_steps start [] s knows_start in
    made (k.sram ∙ stands-reverse (ascii "SRAM_V") s (omega arith))
    (k.flash64 ∙ rw (stands-reverse (ascii "FLASH_V") s (omega arith), stands-reverse (ascii "FLASH512_V") s (omega arith)))
    (k.flash128 ∙ stands-reverse (ascii "FLASH1M_V") s (omega arith))
    (k.eeprom ∙ stands-reverse (ascii "EEPROM_V") s (omega arith))
    k.last
  where
    made : {m : Matcher} {a b c d : Bool} {l : List ℕ} → m.sram ≡ a → m.flash64 ≡ b → m.flash128 ≡ c → m.eeprom ≡ d → m.last ≡ l
        → m ≡ record { sram = a; flash64 = b; flash128 = c; eeprom = d; last = l }
    made p q r s t = rw (sym p, sym q, sym r, sym s, sym t)

-- the number of bytes handed over is the place behind the first SRAM_V
module _ (m : Matcher) (r : List ℕ) (k : Knows m r) (unseen : m.sram ≡ false) where
  twice : reverse (backwards "SRAM_V") ≡ ascii "SRAM_V"
  unfolding backwards
  twice = refl

  not-before : stands (ascii "SRAM_V") (reverse r) ≡ false
  unfolding backwards
  not-before =
      sym (stands-reverse (ascii "SRAM_V") (reverse r) (omega arith))
      ∙ ap (stands (backwards "SRAM_V")) (reverse-reverse r) ∙ sym k.sram ∙ unseen

  ended : (b : ℕ) → (step m b).sram ≡ true → begins (backwards "SRAM_V") (b ∷ r) ≡ true
  unfolding stands
  ended b e =
      sym (or-false (begins (backwards "SRAM_V") (b ∷ r)))
      ∙ ap (λ (t : Bool). begins (backwards "SRAM_V") (b ∷ r) || t) (sym (sym k.sram ∙ unseen))
      ∙ sym (knows-step m r b k).sram
      ∙ e

  -- the byte b ends the first SRAM_V
  now-behind : (b : ℕ) (s : List ℕ) → (step m b).sram ≡ true → behind_first (ascii "SRAM_V") (reverse_aux r (b ∷ s)) ≡ length r + 1
  now-behind b s e =
      let q = backwards "SRAM_V" in
      ap (behind_first (ascii "SRAM_V")) (reverse_aux-eq r (b ∷ s))
      ∙ behind-end (ascii "SRAM_V") (reverse (drop (length q) (b ∷ r))) (reverse r) b s (omega arith) (split b e) not-before
      ∙ omega (arith, length-reverse r)
    where
      split : (b : ℕ) → (step m b).sram ≡ true → reverse r ++ (b ∷ []) ≡ reverse (drop (length (backwards "SRAM_V")) (b ∷ r)) ++ ascii "SRAM_V"
      split b e =
          sym (reverse-cons b r)
          ∙ ap (λ (l : List ℕ). reverse l) (begins-split (backwards "SRAM_V") (b ∷ r) (ended b e))
          ∙ reverse-append (backwards "SRAM_V") (drop (length (backwards "SRAM_V")) (b ∷ r))
          ∙ ap (λ (l : List ℕ). reverse (drop (length (backwards "SRAM_V")) (b ∷ r)) ++ l) twice

pub handed-over : (m : Matcher) (r s : List ℕ) → Knows m r → m.sram ≡ false → length r + (reads m s).count ≡ behind_first (ascii "SRAM_V") (reverse_aux r s)
unfolding reads
handed-over m r [] k unseen = sym (behind-none (ascii "SRAM_V") (reverse r) (not-before m r k unseen) ∙ omega (arith, length-reverse r))
handed-over m r (b ∷ s) k unseen =
    cases (step m b).sram
    (λ e. rw (reads-one m b s unseen, reads-stop (step m b) s e) (sym (now-behind m r k unseen b s e)))
    (λ e. rw (reads-one m b s unseen) (omega (arith, handed-over (step m b) (b ∷ r) s (knows-step m r b k) e)))

-- without SRAM_V every byte is handed over
pub whole : (m : Matcher) (s : List ℕ) → (reads m s).matcher.sram ≡ false → (reads m s).count ≡ length s
unfolding reads
whole m [] e = refl
whole m (b ∷ s) e =
    cases m.sram
    (λ t. let z : ◌≡◌ {A = Bool} true false = sym t ∙ ap (λ (f : Fed). f.matcher.sram) (sym (reads-stop m (b ∷ s) t)) ∙ e in cc)
    (λ t. rw (reads-one m b s t) (omega (arith, whole (step m b) s (ap (λ (f : Fed). f.matcher.sram) (sym (reads-one m b s t)) ∙ e))))
