-- A replay as a whole: its questions answered no, or yes. Assumes nothing.
use mathlib.Core.Path.{◌≡◌, refl, sym, ap, ◌∙◌}
use mathlib.Core.Logic.{◌≢◌}
use mathlib.Core.Bool.{true, false, ◌&&◌}
use mathlib.Core.List.{List}
use Prim.Native.Nat.{ℕ, ◌+◌, ◌≤◌}
use lib.Dec.{eqb}
use lib.ListN.{length, replicate, length-replicate}
use borrow.Author.Tests.{eq-eqb, eqb-true, ne_eqb, leb-true, not-true}
use Rattle.lists.specs.Questions.{asked}
use Rattle.lists.proofs.Questions.{AllYes, all_yes, yes-all}
use Rattle.kind.specs.Kind.{memory_size, tally_count, uses_eeprom, detect_save_type}
use Rattle.part.specs.Part.{part_of}
use Rattle.cart.specs.Replies.{Reply}
use Rattle.cart.specs.Record.{State, Outcome, open_questions, from_bytes, fresh}
use Rattle.cart.specs.Replies.{tallied, store_replied}
use Rattle.cart.proofs.Sound.{opened}
use Rattle.call_list.specs.Items.{ending_room, items, byte_writes, room}
use Rattle.replay.specs.Replay.{uncut_run, shown_by, own_tallies, replay_questions, replay}

-- its own tallies are as many as the kind has
pub own-many : (image : List ℕ) → eqb (length (own_tallies image)) (tally_count (detect_save_type image)) ≡ true
own-many image = eq-eqb _ _ (length-replicate (tally_count (detect_save_type image)) 0)

-- an accepted opening; it asks the lengths of memory and tallies alone
module _ (image : List ℕ) (part : ℕ) (memory tallies : List ℕ) (e : asked (open_questions image part memory tallies) ≡ 0) where
  pub opens-alike : (m ts : List ℕ) → length m ≡ length memory → length ts ≡ length tallies → asked (open_questions image part m ts) ≡ 0
  opens-alike m ts p q = rw (p, q) e

  accepts : (from_bytes image part memory tallies).refusal ≡ 0
  unfolding from_bytes
  accepts = rw e

  pub opened-fresh : {r : Reply} {m ts : List ℕ} → ◌≡◌ {A = Reply × List ℕ × List ℕ} (r, m, ts) (store_replied (from_bytes image part memory tallies))
      → tallied r.cart m ts ≡ fresh image (part_of part)
  opened-fresh f =
      (λ i. tallied (f i).0.cart (f i).1 (f i).2) ∙ ap (λ (o : Outcome). o.next) (opened image part memory tallies accepts)

module _ (image : List ℕ) (part : ℕ) (bytes memory scratch out : List ℕ) (n : ℕ) (e : n ≡ asked (replay_questions image part bytes memory (length scratch) (length out))) where
  pub refused : n ≢ 0 → ◌≡◌ {A = ℕ × List ℕ × List ℕ × List ℕ} (n, memory, scratch, out) (replay image part bytes memory scratch out)
  unfolding replay
  refused h = rw (← e, ne_eqb n 0 h)

  module _ (z : n ≡ 0) where
    yes : AllYes (replay_questions image part bytes memory (length scratch) (length out))
    yes = yes-all (replay_questions image part bytes memory (length scratch) (length out)) refl (sym e ∙ z)

    pub opens : (ts : List ℕ) → length ts ≡ tally_count (detect_save_type image) → asked (open_questions image part memory ts) ≡ 0
    opens ts k = all_yes (open_questions image part memory ts) (yes.0, (yes.1.0, (eq-eqb _ _ k, (yes.1.1.1.0, tt))))

    pub opens-own : asked (open_questions image part memory (own_tallies image)) ≡ 0
    opens-own = opens (own_tallies image) (length-replicate (tally_count (detect_save_type image)) 0)

    pub opens-here : (from_bytes image part memory (own_tallies image)).refusal ≡ 0
    unfolding from_bytes
    opens-here = rw opens-own

    pub next-fresh : (from_bytes image part memory (own_tallies image)).next ≡ fresh image (part_of part)
    next-fresh = ap (λ (o : Outcome). o.next) (opened image part memory (own_tallies image) opens-here)

    pub memory-length : length memory ≡ memory_size (detect_save_type image)
    memory-length = eqb-true _ _ yes.1.0

    pub no-byte-write : byte_writes (items 0 bytes) && uses_eeprom (detect_save_type image) ≡ false
    no-byte-write = not-true _ yes.1.1.1.1.1.0

    pub scratch-holds : length memory ≤ length scratch
    scratch-holds = leb-true _ _ yes.1.1.1.1.1.1.0

    pub out-holds : room (items 0 bytes) + ending_room (length memory) ≤ length out
    out-holds = leb-true _ _ yes.1.1.1.1.1.1.1.0

    pub accepted : {m scratch' out' : List ℕ} → ◌≡◌ {A = List ℕ × List ℕ} (m, out') (shown_by (uncut_run (items 0 bytes) (fresh image (part_of part))) out)
        → scratch' ≡ replicate (length scratch) 0 → ◌≡◌ {A = ℕ × List ℕ × List ℕ × List ℕ} (0, m, scratch', out') (replay image part bytes memory scratch out)
    unfolding replay
    accepted f g =
        let a : asked (replay_questions image part bytes memory (length scratch) (length out)) ≡ 0 = sym e ∙ z in
        rw a ((λ i. (0, (f i).0, g i, (f i).1)) ∙ ap (λ (s : State). let r = shown_by (uncut_run (items 0 bytes) s) out in (0, r.0, replicate (length scratch) 0, r.1)) (sym next-fresh))
