-- Small texts: what the matcher sees in them, and how many bytes it is handed, computed of the definitions. Assumes nothing.
use mathlib.Core.Path.{◌≡◌, refl}
use mathlib.Core.Bool.{true, false}
use mathlib.Core.List.{◌++◌}
use lib.ListN.{replicate}
use Rattle.lists.specs.Lists.{ascii}
use Rattle.kind.specs.Kind.{begins}
use Rattle.matcher.specs.Matcher.{backwards, start, step, steps}
use Rattle.matcher.specs.Search.{behind_first, handed}

record Traps : Type 0 where
  flasram : (steps start (ascii "FLASRAM_V")).sram ≡ true
  eeeprom : (steps start (ascii "EEEPROM_V")).eeprom ≡ true
  flash1flash : (steps start (ascii "FLASH1FLASH_V")).flash64 ≡ true
  flash1flash-only : (steps start (ascii "FLASH1FLASH_V")).flash128 ≡ false
  flash512 : (steps start (ascii "FLASH512_V")).flash64 ≡ true
  flash1m : (steps start (ascii "FLASH1M_V")).flash128 ≡ true
  last_byte : (steps start (replicate 60 0 ++ ascii "EEPROM_V")).eeprom ≡ true
  short : (steps start (replicate 60 0 ++ ascii "SRAM_")).sram ≡ false
  over : (steps (steps start (ascii "..FLA")) (ascii "SH512_V")).flash64 ≡ true
  first : handed (ascii "EEPROM_VSRAM_V.SRAM_V") ≡ 14
  none : handed (ascii "SRAM_FLASH_V") ≡ 12
  code : handed (replicate 0xac 0 ++ ascii "GBXJSRAM_V") ≡ 0
  code128 : handed (replicate 0xac 0 ++ ascii "GB4PSRAM_V") ≡ 0
  other : handed (replicate 0xac 0 ++ ascii "GBXSSRAM_V.") ≡ 182

traps : Traps
unfolding begins backwards start step steps behind_first handed
traps =
    record {
      flasram = refl;
      eeeprom = refl;
      flash1flash = refl;
      flash1flash-only = refl;
      flash512 = refl;
      flash1m = refl;
      last_byte = refl;
      short = refl;
      over = refl;
      first = refl;
      none = refl;
      code = refl;
      code128 = refl;
      other = refl;
    }
