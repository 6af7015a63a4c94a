-- The file that an export gives, by the kind. Assumes nothing.
use mathlib.Core.Path.{◌≡◌, refl, sym, ap}
use mathlib.Core.Bool.{Bool, true, false}
use mathlib.Core.List.{List}
use Prim.Native.Nat.{ℕ, ◌≤◌}
use native.Mathlib.Omega.{arith}
use lib.Dec.{leb}
use lib.ListN.{length, take}
use lib.Seq.{take_all, length-take-le}
use borrow.Author.Tests.{le-leb}
use Rattle.lists.specs.Lists.{into}
use Rattle.kind.specs.declared.SaveType.{SaveType}
use Rattle.kind.specs.declared.SaveType.TheVariants.{None, Sram, Flash64, Flash128, Eeprom512, Eeprom8k}
use Rattle.kind.proofs.Sizes.{memory-small}
use Rattle.kind.specs.Kind.{memory_size}
use Rattle.cart.specs.Replies.{Reply}
use Rattle.cart.specs.Record.{State}
use Rattle.cart.specs.Calls.{file_of, holds, exported}
use Rattle.cart.specs.Replies.{done, export_replied}
use Rattle.file_calls.specs.Files.{eeprom_length, file_length}

eeprom-le : (large : Bool) → eeprom_length large ≤ 8192
eeprom-le true = omega arith
eeprom-le false = omega arith

-- no longer than the memory, and a number of 32 bits
pub length-fits : (kind : SaveType) (large : Bool) → file_length kind large ≤ memory_size kind
length-fits None large = omega arith
length-fits Sram large = omega arith
length-fits Flash64 large = omega arith
length-fits Flash128 large = omega arith
length-fits Eeprom512 large = eeprom-le large
length-fits Eeprom8k large = eeprom-le large

pub length-small : (kind : SaveType) (large : Bool) → file_length kind large ≤ 131072
length-small kind large = omega (arith, length-fits kind large, memory-small kind)

module _ (s : State) (d : List ℕ) where
  -- question 13
  eeprom-holds : length s.memory ≡ 8192
      → leb (length (take (eeprom_length s.cart.chip.eeprom.large) s.memory)) (length d) ≡ leb (eeprom_length s.cart.chip.eeprom.large) (length d)
  eeprom-holds e =
      let l : Bool = s.cart.chip.eeprom.large in
      ap (λ (k : ℕ). leb k (length d)) (length-take-le (eeprom_length l) s.memory (omega (arith, eeprom-le l)))

  pub holds-is : (kind : SaveType) → length s.memory ≡ memory_size kind
      → holds (file_of kind s) d ≡ leb (file_length kind s.cart.chip.eeprom.large) (length d)
  unfolding file_of
  holds-is None e = sym (le-leb 0 (length d) (omega arith))
  holds-is Sram e = rw e
  holds-is Flash64 e = rw e
  holds-is Flash128 e = rw e
  holds-is Eeprom512 e = eeprom-holds e
  holds-is Eeprom8k e = eeprom-holds e

  -- the file f goes to the destination's front, and its length is n
  abbrev gives : ℕ → List ℕ → Reply × List ℕ
  gives n f = (done n s.cart, into f d)

  whole : (k : ℕ) → length s.memory ≡ k → gives (length s.memory) s.memory ≡ gives k (take k s.memory)
  whole k e = let h : length s.memory ≤ k = omega arith in rw (take_all k s.memory h, e)

  eeprom-part : length s.memory ≡ 8192
      → gives (length (take (eeprom_length s.cart.chip.eeprom.large) s.memory)) (take (eeprom_length s.cart.chip.eeprom.large) s.memory)
      ≡ gives (eeprom_length s.cart.chip.eeprom.large) (take (eeprom_length s.cart.chip.eeprom.large) s.memory)
  eeprom-part e =
      let l : Bool = s.cart.chip.eeprom.large in
      ap (λ (k : ℕ). gives k (take (eeprom_length l) s.memory)) (length-take-le (eeprom_length l) s.memory (omega (arith, eeprom-le l)))

  pub exported-is : (kind : SaveType) → length s.memory ≡ memory_size kind
      → export_replied (exported (file_of kind s) d s)
      ≡ gives (file_length kind s.cart.chip.eeprom.large) (take (file_length kind s.cart.chip.eeprom.large) s.memory)
  unfolding file_of into
  exported-is None e = refl
  exported-is Sram e = whole 32768 e
  exported-is Flash64 e = whole 65536 e
  exported-is Flash128 e = whole 131072 e
  exported-is Eeprom512 e = eeprom-part e
  exported-is Eeprom8k e = eeprom-part e
