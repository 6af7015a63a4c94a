-- Bytes that complete no marker. Every marker ends in _V: where no _ is followed by a V, what was seen stays as it is.
use Rattle.std.specs.Prelude.{◌≡◌, Bool, false, ◌||◌, ◌&&◌, ◌≢◌, ℕ, ◌≤◌, eqb, length, take}
use mathlib.Core.List.{List, [], ◌∷◌, reverse_aux}
use Rattle.matcher.specs.declared.Matcher.{Matcher}

-- whether a _ is followed by a V in the byte a and the bytes after it
unfoldable pub pairs : ℕ → List ℕ → Bool
pairs a [] = false
pairs a (b ∷ s) = (eqb 0x5f a && eqb 0x56 b) || pairs b s

-- the part's first r bytes, which follow the byte `before`, can be passed over at once
pub record Quiet (before : ℕ) (part : List ℕ) (r : ℕ) : Type 0 where
  pub within : r ≤ length part
  pub enough : r ≢ 0 → 9 ≤ r
  pub calm : pairs before (take r part) ≡ false

abbrev pub with_last : Matcher → List ℕ → Matcher
with_last m l = record { sram = m.sram; flash64 = m.flash64; flash128 = m.flash128; eeprom = m.eeprom; last = l }

-- the matcher after such bytes: only its last bytes are others
unfoldable pub after : Matcher → List ℕ → Matcher
after m s = with_last m (take 9 (reverse_aux s m.last))
