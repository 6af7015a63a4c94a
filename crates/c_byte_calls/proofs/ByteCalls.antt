-- The byte calls on a valid record's bytes. Assumes nothing.
use mathlib.Core.Path.{◌≡◌, sym, ap, ◌∙◌}
use mathlib.Core.Logic.{◌≢◌}
use mathlib.Core.Bool.{true}
use mathlib.Core.List.{List, [], ◌∷◌}
use Prim.Native.Nat.{ℕ, ◌/◌}
use native.Mathlib.Omega.{arith}
use lib.ListN.{length}
use Rattle.memory.specs.Memory.{stored, with_count, stores}
use Rattle.kind.specs.Kind.{memory_size, tally_count}
use Rattle.kind.specs.declared.SaveType.{SaveType}
use Rattle.kind.proofs.Sizes.{whole-stretches}
use Rattle.byte_step.specs.declared.ByteStep.{ByteStep}
use Rattle.byte_step.specs.ByteStep.{read_byte, write_step}
use Rattle.byte_step.proofs.Fits.{step_fits, step-id}
use Rattle.cart.specs.Calls.{save_read, save_write, read_save, write_save, question16, questions, accepted}
use Rattle.c_record.specs.RecordBytes.{cart_of, Valid, state_of}
use Rattle.c_record.specs.Fields.{with_flash, with_id}
use Rattle.c_record.specs.AtExit.{value_at, changed_at}
use Rattle.c_record.specs.Calls.{reads, writes}
use Rattle.c_record.proofs.FieldBytes.{id-byte, put-flash}
use Rattle.c_record.proofs.Calls.{memory-no, memory-yes, tallies-no, tallies-yes, refused, done}

-- a step that stores does not change ID mode
pub id-kept : (r m : List ℕ) (a x : ℕ) (t : ByteStep) → t ≡ write_step (cart_of r).kind (cart_of r).chip.flash (length m) a x
    → stores t.store ≡ true → t.flash.id ≡ (cart_of r).chip.flash.id
id-kept r m a x t e h =
    ap (λ (y : ByteStep). y.flash.id) e
    ∙ step-id (cart_of r).kind (cart_of r).chip.flash (length m) a x (ap (λ (y : ByteStep). stores y.store) (sym e) ∙ h)

-- a memory of the kind's length has a tally for each 4,096 bytes
pub tallies-of : (kind : SaveType) (n k : ℕ) → n ≡ memory_size kind → k ≡ n / 4096 → k ≡ tally_count kind
tallies-of kind n k e h = omega (arith, e, h, whole-stretches kind)

pub tallies-by : (kind : SaveType) (n k : ℕ) → n ≡ memory_size kind → k ≡ tally_count kind → k ≡ n / 4096
tallies-by kind n k e h = omega (arith, e, h, whole-stretches kind)

module _ (r m : List ℕ) (v : Valid r) where
  -- question 3 is answered no
  module _ (n : length m ≢ memory_size (cart_of r).kind) where
    pub read_no : (a place : ℕ) → (3, r, m, place) ≡ reads a r m place
    unfolding questions
    read_no a place = ap (value_at place) (refused (save_read a) [] r m [] v 3 (memory-no r m [] v [] n) (λ z. omega (arith, z)))

    pub write-no : (ts : List ℕ) (a x place : ℕ) → (3, r, m, ts, place) ≡ writes a x r m ts place
    unfolding questions
    write-no ts a x place =
        ap (changed_at place) (refused (save_write a x) [] r m ts v 3 (memory-no r m ts v (question16 (state_of r m ts) ∷ []) n) (λ z. omega (arith, z)))

  -- and yes
  module _ (n : length m ≡ memory_size (cart_of r).kind) where
    pub read-yes : (a place x : ℕ) → x ≡ read_byte (cart_of r).kind (cart_of r).part (cart_of r).chip.flash m a → (0, r, m, x) ≡ reads a r m place
    unfolding questions accepted read_save
    read-yes a place x e =
        (λ i. (0, sym v.back i, m, e i)) ∙ ap (value_at place) (done (save_read a) [] r m [] v (memory-yes r m [] v [] n))

    pub write-16 : (ts : List ℕ) (a x place : ℕ) → length ts ≢ tally_count (cart_of r).kind → (16, r, m, ts, place) ≡ writes a x r m ts place
    unfolding questions
    write-16 ts a x place h = ap (changed_at place) (refused (save_write a x) [] r m ts v 16 (tallies-no r m ts v [] n h) (λ z. omega (arith, z)))

    pub write-yes : (ts : List ℕ) → length ts ≡ tally_count (cart_of r).kind → (a x place : ℕ) (t : ByteStep) {k : ℕ} {r' m' ts' : List ℕ}
        → t ≡ write_step (cart_of r).kind (cart_of r).chip.flash (length m) a x
        → r' ≡ with_id (with_flash r t.sets t.flash) t.flash.id
        → (k, m', ts') ≡ with_count m (stored t.store [] m) ts
        → (0, r', m', ts', k) ≡ writes a x r m ts place
    unfolding questions accepted write_save
    write-yes ts h a x place t e p q =
        let b = p ∙ ap (λ (l : List ℕ). with_id (with_flash l t.sets t.flash) t.flash.id) (sym v.back) ∙ put-flash (cart_of r) t.sets t.flash in
        (λ i. (0, b i, (q i).1, (q i).2, (q i).0)) ∙ rw e (ap (changed_at place) (done (save_write a x) [] r m ts v (tallies-yes r m ts v [] n h)))

-- what a read answers and leaves, by question 3
pub ruleset reading = (read_no, read-yes)

-- what a write answers and leaves
pub ruleset writing = (tallies-by, write-no, write-16, id-byte, step_fits, whole-stretches)
