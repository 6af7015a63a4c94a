-- What is claimed of a kind's file sizes, and of doubled files.
use Rattle.std.specs.Prelude.{◌≡◌, ◌≢◌, ◌⊎◌, true, Option, Some, None, List, ℕ, ◌≤◌, length}
use Rattle.lists.specs.Lists.{erased}
use Rattle.kind.specs.declared.SaveType.{SaveType}
use Rattle.kind.specs.declared.SaveType.TheVariants as kinds
use Rattle.file_sizes.specs.SaveFit.{save_fit, save_size}
use Rattle.file_sizes.specs.Doubled.{lower_half, upper_half, blank_or_copy}

-- at most n bytes are kept
abbrev pub KeepsAtMost : ℕ → Option ℕ → Type 0
KeepsAtMost n (Some k) = k ≤ n
KeepsAtMost n None = Unit {0}

-- "`save_size` is the largest, 0 for None"
pub record LargestKept : Type 0 where
  -- `save_fit` keeps no more of any file, and all of a file of this size; None takes no file
  pub at_most : (kind : SaveType) (file : ℕ) → KeepsAtMost (save_size kind) (save_fit kind file)
  pub kept : (kind : SaveType) → kind ≢ kinds.None → save_fit kind (save_size kind) ≡ Some (save_size kind)
  pub none : (file : ℕ) → (save_size kinds.None ≡ 0) × (save_fit kinds.None file ≡ None)

-- 02, ticket 6: an upper half that is all FFh is accepted, and so is a copy of the lower half; no other is
pub record UpperHalves : Type 0 where
  pub blank : (file : List ℕ) → upper_half file ≡ erased (length (upper_half file)) → blank_or_copy file ≡ true
  pub copy : (file : List ℕ) → upper_half file ≡ lower_half file → blank_or_copy file ≡ true
  pub no_other : (file : List ℕ) → blank_or_copy file ≡ true
      → (upper_half file ≡ erased (length (upper_half file))) ⊎ (upper_half file ≡ lower_half file)
