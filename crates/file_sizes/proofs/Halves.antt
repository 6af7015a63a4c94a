-- The two halves of a doubled SRAM file. Assumes nothing.
use mathlib.Core.Path.{◌≡◌, refl, sym, ap, ◌∙◌}
use mathlib.Core.Logic.{◌⊎◌, inl, inr, ⊎_elim}
use mathlib.Core.Bool.{Bool, true, ◌&&◌, true≢false}
use mathlib.Core.List.{List}
use Prim.Native.Nat.{ℕ, ◌≤◌}
use native.Mathlib.Omega.{arith}
use lib.Dec.{eqb, leb}
use lib.ListN.{length, length-take, length-drop}
use lib.Seq.{take_all}
use borrow.Author.Tests.{eq-eqb, le-leb, lt-leb, eqb-true}
use Rattle.lists.specs.Lists.{all_ff, begins}
use Rattle.lists.proofs.Bools.{cases, and_left, and_right}
use Rattle.lists.proofs.Erased.{ff-erased, erased-ff}
use Rattle.lists.proofs.Fronts.{fronts-same, begins-self}
use Rattle.kind.specs.declared.SaveType.{SaveType}
use Rattle.kind.specs.declared.SaveType.TheVariants.{None, Sram, Flash64, Flash128, Eeprom512, Eeprom8k}
use Rattle.kind.specs.Kind.{memory_size}
use Rattle.file_sizes.specs.SaveFit.{chip_size, save_fit, taken, kept_part}
use Rattle.file_sizes.specs.Doubled.{lower_half, upper_half, doubled, equal, blank_or_copy, drop_accepted}
use Rattle.file_sizes.specs.Claims.{UpperHalves}
use Rattle.file_sizes.proofs.Fits.{chip-least}

-- of the lengths that are taken, those from 65,536 on
short-most : (file : ℕ) → chip_size 32768 file ≡ true → file ≤ 32784
unfolding chip_size
short-most file e =
    cases (eqb file 32768) (λ t. omega (arith, eqb-true file 32768 t))
    (λ t. omega (arith, eqb-true file 32784 (rw t at e)))

pub sram_longer : (file : ℕ) → taken (save_fit Sram file) ≡ true → leb 65536 file ≡ chip_size 65536 file
unfolding save_fit
sram_longer file h =
    cases (chip_size 65536 file) (λ e. le-leb 65536 file (chip-least 65536 file e) ∙ sym e)
    (λ e. cases (chip_size 32768 file)
    (λ t. lt-leb 65536 file (omega (arith, short-most file t)) ∙ sym e)
    (λ t. absurd (true≢false (sym (rw (t, e) at h)))))

pub doubled_least : (kind : SaveType) (file : ℕ) → doubled kind file ≡ true → 65536 ≤ file
doubled_least None file e = absurd (true≢false (sym e))
doubled_least Sram file e = chip-least 65536 file e
doubled_least Flash64 file e = absurd (true≢false (sym e))
doubled_least Flash128 file e = absurd (true≢false (sym e))
doubled_least Eeprom512 file e = absurd (true≢false (sym e))
doubled_least Eeprom8k file e = absurd (true≢false (sym e))

-- the two lengths
pub sram-doubled : (kind : SaveType) (file : ℕ) → kind ≡ Sram → (file ≡ 65536) ⊎ (file ≡ 65552) → doubled kind file ≡ true
unfolding chip_size
sram-doubled kind file k e = rw k (⊎_elim (λ n. rw n) (λ n. rw n) e)

chip-lengths : (file : ℕ) → chip_size 65536 file ≡ true → (file ≡ 65536) ⊎ (file ≡ 65552)
unfolding chip_size
chip-lengths file e =
    cases (eqb file 65536) (λ t. inl (eqb-true file 65536 t)) (λ t. inr (eqb-true file 65552 (rw t at e)))

pub doubled-sram : (kind : SaveType) (file : ℕ) → doubled kind file ≡ true → (kind ≡ Sram) × ((file ≡ 65536) ⊎ (file ≡ 65552))
doubled-sram None file e = absurd (true≢false (sym e))
doubled-sram Sram file e = (refl, chip-lengths file e)
doubled-sram Flash64 file e = absurd (true≢false (sym e))
doubled-sram Flash128 file e = absurd (true≢false (sym e))
doubled-sram Eeprom512 file e = absurd (true≢false (sym e))
doubled-sram Eeprom8k file e = absurd (true≢false (sym e))

-- both halves are whole
module _ (file : List ℕ) (h : 65536 ≤ length file) where
  pub lower-whole : length (lower_half file) ≡ 32768
  unfolding lower_half
  lower-whole = simp length-take (omega arith)

  pub upper-whole : length (upper_half file) ≡ 32768
  unfolding upper_half
  upper-whole = simp (length-take, length-drop) (omega arith)

  pub same_long : equal (lower_half file) (upper_half file) ≡ begins (lower_half file) (upper_half file)
  same_long =
      ap (λ (b : Bool). b && begins (lower_half file) (upper_half file))
      (eq-eqb (length (lower_half file)) (length (upper_half file)) (lower-whole ∙ sym upper-whole))

-- a doubled file is taken, and its lower half kept; of that half alone all is kept. The chip has as many bytes
pub record LowerKept (kind : SaveType) (file : List ℕ) : Type 0 where
  pub accepted : taken (save_fit kind (length file)) ≡ true
  pub kept : kept_part kind file ≡ lower_half file
  pub whole : kept_part kind (lower_half file) ≡ lower_half file
  pub fits : taken (save_fit kind (length (lower_half file))) ≡ true
  pub asks_no19 : drop_accepted kind (lower_half file) ≡ true
  pub chip : memory_size kind ≡ 32768

sram-taken : (file : List ℕ) → chip_size 65536 (length file) ≡ true → taken (save_fit Sram (length file)) ≡ true
unfolding save_fit
sram-taken file e = cases (chip_size 32768 (length file)) (λ t. rw t) (λ t. rw (t, e))

sram-kept : (file : List ℕ) → chip_size 65536 (length file) ≡ true → kept_part Sram file ≡ lower_half file
unfolding save_fit kept_part lower_half
sram-kept file e = cases (chip_size 32768 (length file)) (λ t. rw t) (λ t. rw (t, e))

sram-lower : (file : List ℕ) → chip_size 65536 (length file) ≡ true → LowerKept Sram file
unfolding chip_size save_fit kept_part drop_accepted
sram-lower file e =
    let l : length (lower_half file) ≡ 32768 = lower-whole file (chip-least 65536 (length file) e) in
    record {
      accepted = sram-taken file e;
      kept = sram-kept file e;
      whole = rw l (take_all 32768 (lower_half file) (omega arith));
      fits = rw l;
      asks_no19 = rw l;
      chip = refl;
    }

pub lower-kept : (kind : SaveType) (file : List ℕ) → doubled kind (length file) ≡ true → LowerKept kind file
lower-kept None file e = absurd (true≢false (sym e))
lower-kept Sram file e = sram-lower file e
lower-kept Flash64 file e = absurd (true≢false (sym e))
lower-kept Flash128 file e = absurd (true≢false (sym e))
lower-kept Eeprom512 file e = absurd (true≢false (sym e))
lower-kept Eeprom8k file e = absurd (true≢false (sym e))

-- `equal` is equality
equal_is : (a b : List ℕ) → equal a b ≡ true → b ≡ a
equal_is a b e =
    fronts-same a b (eqb-true (length a) (length b) (and_left (eqb (length a) (length b)) (begins a b) e))
    (and_right (eqb (length a) (length b)) (begins a b) e)

is-equal : (a b : List ℕ) → b ≡ a → equal a b ≡ true
is-equal a b e = rw (e, eq-eqb (length a) (length a) refl, begins-self a)

pub upper_halves : UpperHalves
unfolding blank_or_copy
upper_halves =
    record {
      blank = λ f e. rw (ap all_ff e ∙ erased-ff (length (upper_half f)));
      copy = λ f e. rw (is-equal (lower_half f) (upper_half f) e) (cases (all_ff (upper_half f)) (λ t. rw t) (λ t. rw t));
      no_other =
          λ f e. cases (all_ff (upper_half f)) (λ t. inl (ff-erased (upper_half f) t))
          (λ t. inr (equal_is (lower_half f) (upper_half f) (rw t at e)));
    }
