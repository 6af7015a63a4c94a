-- A matcher as 13 bytes: which markers were seen, 0 or 1 each; the last nine bytes, newest first.
use Rattle.std.specs.Prelude.{Bool, ◌&&◌, List, ◌∷◌, ℕ, leb, eqb, length, get_or, drop}
use Rattle.lists.specs.Lists.{bit}
use Rattle.matcher.specs.declared.Matcher.{Matcher}

abbrev pub matcher_size : ℕ
matcher_size = 13

unfoldable pub matcher_bytes : Matcher → List ℕ
matcher_bytes m = bit m.sram ∷ bit m.flash64 ∷ bit m.flash128 ∷ bit m.eeprom ∷ m.last

unfoldable pub matcher_of : List ℕ → Matcher
matcher_of b =
    record {
      sram = eqb (get_or b 0 0) 1;
      flash64 = eqb (get_or b 1 0) 1;
      flash128 = eqb (get_or b 2 0) 1;
      eeprom = eqb (get_or b 3 0) 1;
      last = drop 4 b;
    }

-- 2, asked of a matcher's bytes
unfoldable pub is_matcher : List ℕ → Bool
is_matcher b =
    eqb (length b) matcher_size
    && leb (get_or b 0 0) 1
    && leb (get_or b 1 0) 1
    && leb (get_or b 2 0) 1
    && leb (get_or b 3 0) 1
