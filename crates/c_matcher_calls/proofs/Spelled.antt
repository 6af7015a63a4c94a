-- A matcher by its bytes, one by one. Assumes nothing.
use mathlib.Core.Path.{◌≡◌, sym, ap, ◌∙◌}
use mathlib.Core.Bool.{◌&&◌}
use mathlib.Core.List.{List, ◌∷◌}
use Prim.Native.Nat.{ℕ}
use native.Mathlib.Omega.{arith}
use lib.Dec.{leb, eqb}
use lib.ListN.{length, get_or, drop, length-drop}
use lib.Seq.{take_all}
use borrow.Author.Tests.{eq-eqb}
use Rattle.lists.specs.Lists.{bit}
use Rattle.lists.proofs.Parts.{spelled, spells}
use Rattle.matcher.specs.declared.Matcher.{Matcher}
use Rattle.c_matcher_calls.specs.MatcherBytes.{matcher_size, matcher_bytes, matcher_of, is_matcher}

-- question 2 of thirteen bytes
pub asks : (b : List ℕ) → length b ≡ matcher_size
    → leb (get_or b 0 0) 1 && leb (get_or b 1 0) 1 && leb (get_or b 2 0) 1 && leb (get_or b 3 0) 1 ≡ is_matcher b
unfolding is_matcher
asks b h = rw (eq-eqb (length b) 13 h)

abbrev flags_of : List ℕ → List ℕ → Matcher
flags_of b l =
    record { sram = eqb (get_or b 0 0) 1; flash64 = eqb (get_or b 1 0) 1; flash128 = eqb (get_or b 2 0) 1; eeprom = eqb (get_or b 3 0) 1; last = l }

pub taken : (b : List ℕ) → length b ≡ matcher_size → flags_of b (spelled b 4 0 9) ≡ matcher_of b
unfolding matcher_of
taken b h = ap (flags_of b) (sym (spells b 4 9 0 (omega arith)) ∙ take_all 9 (drop 4 b) (omega (arith, length-drop 4 b)))

pub put : (m : Matcher) {x y z w : ℕ} → length m.last ≡ 9 → x ≡ bit m.sram → y ≡ bit m.flash64 → z ≡ bit m.flash128 → w ≡ bit m.eeprom
    → x ∷ y ∷ z ∷ w ∷ spelled m.last 0 0 9 ≡ matcher_bytes m
unfolding matcher_bytes
put m h p q r s = rw (p, q, r, s, ← spells m.last 0 9 0 (omega arith), take_all 9 m.last (omega arith))
