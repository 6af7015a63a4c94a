-- A marker's end tested, and the pair _V that each marker ends with. Assumes nothing.
use mathlib.Core.Path.{◌≡◌, refl, sym, ap, ◌∙◌}
use mathlib.Core.Bool.{Bool, true, false, cond, ◌&&◌, ◌||◌, or_assoc, or-false, and-false}
use mathlib.Core.List.{List, [], ◌∷◌, ◌++◌, reverse, reverse-append, reverse-reverse}
use Prim.Native.Nat.{ℕ, ◌-◌}
use native.Mathlib.Omega.{arith}
use lib.Dec.{eqb}
use lib.ListN.{length, get_or, take, drop}
use lib.Seq.{take_all}
use borrow.Author.Tests.{ne_eqb}
use Rattle.std.specs.List.{ends_with}
use Rattle.std.proofs.lemmas.Bool.Decides.{Decides-eqb}
use Rattle.std.proofs.lemmas.Slice.Eq.{ends_is}
use Rattle.lists.proofs.Bools.{either}
use Rattle.lists.proofs.Parts.{spells}
use Rattle.kind.specs.Kind.{begins}
use Rattle.matcher.specs.declared.Matcher.{Matcher}
use Rattle.matcher.specs.Matcher.{backwards, step}
use Rattle.matcher.specs.Quiet.{with_last}
use Rattle.matcher.proofs.Standing.{begins-own, begins-split, same}

-- the last byte and the nine before it, oldest first
abbrev text : ℕ → List ℕ → List ℕ
text b l = get_or l 8 0 ∷ get_or l 7 0 ∷ get_or l 6 0 ∷ get_or l 5 0 ∷ get_or l 4 0 ∷ get_or l 3 0 ∷ get_or l 2 0 ∷ get_or l 1 0 ∷ get_or l 0 0 ∷ b ∷ []

newest-first : (b : ℕ) (l : List ℕ) → length l ≡ 9 → reverse (text b l) ≡ b ∷ l
newest-first b l h = ap (λ (x : List ℕ). b ∷ x) (sym (spells l 0 9 0 (omega arith)) ∙ take_all 9 l (omega arith))

-- a text that ends with p begins with it, read from the other end
from-end : (p t : List ℕ) → ends_with eqb t p ≡ begins (reverse p) (reverse t)
from-end p t =
    let n = length t - length p in
    let e = ends_is Decides-eqb t p (ends_with eqb t p) refl in
    same (ends_with eqb t p) (begins (reverse p) (reverse t))
    (λ h. ap (λ (l : List ℕ). begins (reverse p) (reverse l)) (e.0 h) ∙ ap (begins (reverse p)) (reverse-append (take n t) p) ∙ begins-own (reverse p) (reverse (take n t)))
    (λ h.
    let r = drop (length (reverse p)) (reverse t) in
    e.1 (reverse r) (sym (reverse-reverse t) ∙ ap (λ (l : List ℕ). reverse l) (begins-split (reverse p) (reverse t) h) ∙ reverse-append (reverse p) r ∙ ap (λ (l : List ℕ). reverse r ++ l) (reverse-reverse p)))

pub ended : (p : List ℕ) (b : ℕ) (l : List ℕ) → length l ≡ 9 → ends_with eqb (text b l) p ≡ begins (reverse p) (b ∷ l)
ended p b l h = from-end p (text b l) ∙ ap (begins (reverse p)) (newest-first b l h)

-- the last bytes with one more in front
abbrev eight : List ℕ → List ℕ
eight l = get_or l 0 0 ∷ get_or l 1 0 ∷ get_or l 2 0 ∷ get_or l 3 0 ∷ get_or l 4 0 ∷ get_or l 5 0 ∷ get_or l 6 0 ∷ get_or l 7 0 ∷ []

pub newer : (b : ℕ) (l : List ℕ) → length l ≡ 9 → b ∷ eight l ≡ b ∷ take 8 l
newer b l h = ap (λ (x : List ℕ). b ∷ x) (sym (spells l 0 8 0 (omega arith)))

-- no marker ends but with _V
both : (x y z : Bool) → y && x ≡ false → cond x (cond y z false) false ≡ false
both false y z h = refl
both true false z h = refl
both true true z h = let e : ◌≡◌ {A = Bool} true false = h in cc

other-end : (p : List ℕ) (b : ℕ) (l : List ℕ) → eqb 0x5f (get_or l 0 0) && eqb 0x56 b ≡ false → begins (0x56 ∷ 0x5f ∷ p) (b ∷ l) ≡ false
unfolding begins
other-end p b [] h = either (λ (t : Bool). t ≡ false) (eqb 0x56 b) refl refl
other-end p b (a ∷ l) h = both (eqb 0x56 b) (eqb 0x5f a) (begins p l) h

made : {a b c d w x y z : Bool} (l : List ℕ) → a ≡ w → b ≡ x → c ≡ y → d ≡ z
    → ◌≡◌ {A = Matcher} (record { sram = a; flash64 = b; flash128 = c; eeprom = d; last = l }) (record { sram = w; flash64 = x; flash128 = y; eeprom = z; last = l })
made l p q r s = cc

gone : (a : Bool) {b : Bool} → b ≡ false → a || b ≡ a
gone a e = rw e (or-false a)

neither : {a b : Bool} → a ≡ false → b ≡ false → a || b ≡ false
neither p q = rw (p, q)

pub quiet_step : (m : Matcher) (b : ℕ) → eqb 0x5f (get_or m.last 0 0) && eqb 0x56 b ≡ false → step m b ≡ with_last m (b ∷ take 8 m.last)
unfolding step backwards
quiet_step m b h =
    made (b ∷ take 8 m.last) (gone m.sram (other-end _ b m.last h))
    (gone m.flash64 (neither (other-end _ b m.last h) (other-end _ b m.last h)))
    (gone m.flash128 (other-end _ b m.last h))
    (gone m.eeprom (other-end _ b m.last h))

-- where the pair is there: each marker's end by its own test
pub stepped : (m : Matcher) (b : ℕ) {s f g h e : Bool} → length m.last ≡ 9 → s ≡ begins (backwards "SRAM_V") (b ∷ m.last) → f ≡ begins (backwards "FLASH_V") (b ∷ m.last)
    → g ≡ begins (backwards "FLASH512_V") (b ∷ m.last) → h ≡ begins (backwards "FLASH1M_V") (b ∷ m.last) → e ≡ begins (backwards "EEPROM_V") (b ∷ m.last)
    → ◌≡◌ {A = Matcher} (record { sram = m.sram || s; flash64 = (m.flash64 || f) || g; flash128 = m.flash128 || h; eeprom = m.eeprom || e; last = b ∷ eight m.last }) (step m b)
unfolding step
stepped m b n p q r t u = rw (newer b m.last n, p, q, r, t, u, or_assoc m.flash64 (begins (backwards "FLASH_V") (b ∷ m.last)) (begins (backwards "FLASH512_V") (b ∷ m.last)))

-- no V, or no _ before it
pub no-v : (a b : ℕ) → (0x56 ≡ b → ⊥) → eqb 0x5f a && eqb 0x56 b ≡ false
no-v a b h = rw (ne_eqb 0x56 b h) (and-false (eqb 0x5f a))

pub no_line : (a b : ℕ) → (0x5f ≡ a → ⊥) → eqb 0x5f a && eqb 0x56 b ≡ false
no_line a b h = rw (ne_eqb 0x5f a h)
