-- The matcher: what it knows, and its step over one byte. Document 02, ticket 3.
use Rattle.std.specs.Prelude.{Bool, false, ◌||◌, List, [], ◌∷◌, ◌++◌, reverse, ℕ, take, replicate}
use Prim.Native.String.{String}
use Rattle.lists.specs.Lists.{ascii}
use Rattle.kind.specs.Kind.{begins, marker}
use Rattle.matcher.specs.declared.Matcher.{Matcher}

-- at first it has seen nothing; the last nine bytes are zeros, which no marker has
unfoldable pub start : Matcher
start = record { sram = false; flash64 = false; flash128 = false; eeprom = false; last = replicate 9 0 }

-- whether a text ends with the byte b, which follows the bytes l; both are compared newest byte first
unfoldable pub backwards : String → List ℕ
backwards s = reverse (ascii s)

abbrev pub ends : String → ℕ → List ℕ → Bool
ends s b l = begins (backwards s) (b ∷ l)

-- its step over the byte b: a marker is seen where it ends with b; nine last bytes are kept
unfoldable pub step : Matcher → ℕ → Matcher
step m b =
    record {
      sram = m.sram || ends "SRAM_V" b m.last;
      flash64 = m.flash64 || (ends "FLASH_V" b m.last || ends "FLASH512_V" b m.last);
      flash128 = m.flash128 || ends "FLASH1M_V" b m.last;
      eeprom = m.eeprom || ends "EEPROM_V" b m.last;
      last = b ∷ take 8 m.last;
    }

-- "the matcher's steps over those bytes"
unfoldable pub steps : Matcher → List ℕ → Matcher
steps m [] = m
steps m (b ∷ s) = steps (step m b) s

-- what a matcher has seen that was handed the bytes s: each marker that stands in them, and the last nine of them
unfoldable pub seen : List ℕ → Matcher
seen s =
    record {
      sram = marker s "SRAM_V";
      flash64 = marker s "FLASH_V" || marker s "FLASH512_V";
      flash128 = marker s "FLASH1M_V";
      eeprom = marker s "EEPROM_V";
      last = take 9 (reverse s ++ replicate 9 0);
    }
