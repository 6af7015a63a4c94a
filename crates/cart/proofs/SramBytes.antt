-- GBATEK's SRAM. Assumes nothing.
use mathlib.Core.Path.{◌≡◌, ap, ◌∙◌}
use mathlib.Core.Bool.{true}
use mathlib.Core.List.{[], ◌∷◌}
use Prim.Native.Nat.{ℕ}
use native.Mathlib.Omega.{arith}
use lib.ListN.{length, get_or, set}
use Rattle.lists.proofs.Parts.{set_at}
use Rattle.memory.specs.Memory.{stored}
use Rattle.kind.specs.declared.SaveType.TheVariants.{Sram}
use Rattle.kind.specs.Kind.{memory_size}
use Rattle.byte_step.specs.ByteStep.{read_byte, write_step}
use Rattle.cart.specs.Record.{State, outcome, counted}
use Rattle.cart.specs.Calls.{save_read, save_write, state_with, read_save, write_save, questions, accepted, step}
use Rattle.cart.specs.Gbatek.{ran, Usable, sram_place, SramClaim}
use Rattle.cart.proofs.Sound.{step-accepted}
use Rattle.cart.proofs.Usable.{memory-yes, tallies-yes, usable-step}
use Rattle.cart.proofs.Runs.{then, nothing}

module _ (s : State) (u : Usable s) (e : s.cart.kind ≡ Sram) where
  write_byte : (a v : ℕ) → step (save_write a v) [] s ≡ counted s (outcome [] (state_with s true s.cart.chip (set s.memory (sram_place a) v)) [])
  unfolding questions accepted write_save write_step stored
  write_byte a v = step-accepted (save_write a v) [] s (u.valid, (memory-yes s u, (tallies-yes s u, tt))) ∙ rw e

  read_byte_lem : (c : ℕ) → step (save_read c) [] s ≡ counted s (outcome (get_or s.memory (sram_place c) 0 ∷ []) s [])
  unfolding questions accepted read_save read_byte
  read_byte_lem c = step-accepted (save_read c) [] s (u.valid, (memory-yes s u, tt)) ∙ rw e

  length-sram : length s.memory ≡ 32768
  length-sram = u.memory_ok ∙ ap memory_size e

pub sram-bytes : SramClaim
sram-bytes s u e =
    record {
      write_read = λ a v c.
          let t : State = state_with s true s.cart.chip (set s.memory (sram_place a) v) in
          let w = write_byte s u e a v in
          let l : Usable t = rw w at (usable-step (save_write a v) [] s u) in
          then (save_write a v) (save_read c ∷ []) s w
          (then (save_read c) [] t (read_byte_lem t l e c) (nothing t)
          ∙ ap (λ (x : ℕ). ran (x ∷ []) t) (set_at s.memory (sram_place a) v (sram_place c) (omega (arith, length-sram s u e))));
      byte_at = λ a h. omega arith;
    }
