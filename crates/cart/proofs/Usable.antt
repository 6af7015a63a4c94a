-- Valid records with a memory of their kind's length. Assumes nothing.
use mathlib.Core.Path.{◌≡◌, ◌∙◌}
use mathlib.Core.Bool.{Bool, true, ◌&&◌}
use mathlib.Core.List.{List, []}
use Prim.Native.Nat.{ℕ}
use native.Mathlib.Omega.{arith}
use lib.Dec.{eqb}
use lib.ListN.{length}
use borrow.Author.Tests.{le-leb, lt-ltb, eq-eqb}
use Rattle.lists.proofs.Bools.{and_left, and_right}
use Rattle.image.specs.Image.{image_length}
use Rattle.kind.specs.Kind.{memory_size, tally_count}
use Rattle.part.specs.Part.{part_fits}
use Rattle.eeprom.specs.Eeprom.{w_of, count_limit}
use Rattle.eeprom.proofs.Allowed.{Allowed, allowed-bit, allowed-read, allowed-dma, allowed-load}
use Rattle.cart.specs.Record.{State, record_allowed}
use Rattle.chip_record.specs.ChipState.{chip_allowed}
use Rattle.cart.specs.Calls.{Call, load_save, load, questions, accepted, step}
use Rattle.cart.specs.Gbatek.{Usable}
use Rattle.chip_record.proofs.Fields.{chip-fields}
use Rattle.cart.proofs.Bounds.{allowed-bounds}
use Rattle.cart.proofs.Sound.{SoundBy, Keeps, accepted-by, step_by}
use Rattle.cart.proofs.Changes.{load-keeps}
use Rattle.cart.proofs.Tallies.{Fit, fit-chip, fit-memory, fit-step, tallies-fit}

-- the same, field by field
pub to_fields : (s : State) → Usable s → SoundBy Allowed s
unfolding record_allowed
to_fields s u =
    let b = allowed-bounds s.cart u.valid in
    let l : Bool = image_length s.cart.len in
    let p : Bool = part_fits s.cart.part s.cart.kind in
    let k = and_left (l && p) (chip_allowed s.cart.chip) u.valid in
    record {
      len_ok = and_left l p k;
      part_ok = and_right l p k;
      memory_ok = u.memory_ok;
      flash_ok = record { state_ok = b.state_ok; bank_ok = b.bank_ok };
      eeprom_ok = record { width_ok = b.width_ok; count_ok = b.limit_ok; block_ok = b.block_ok; place_ok = b.place_ok };
    }

of_fields : (s : State) → SoundBy Allowed s → Fit s → Usable s
unfolding record_allowed
of_fields s k f =
    let c = s.cart.chip in
    let e = c.eeprom in
    let o = k.eeprom_ok in
    let h = o.block_ok in
    let r = o.place_ok in
    record {
      valid =
          rw (k.len_ok, k.part_ok)
          (chip-fields c
          ∙ rw (
            k.flash_ok.state_ok,
            le-leb c.flash.bank 1 k.flash_ok.bank_ok,
            o.width_ok,
            le-leb e.block 1023 (omega arith),
            le-leb e.place 67 (omega arith),
            lt-ltb e.count (count_limit e.phase (w_of e)) o.count_ok,
          ));
      memory_ok = k.memory_ok;
      tallies_ok = f.count;
      words = f.words;
    }

pub fit : (s : State) → Usable s → Fit s
fit s u = record { count = u.tallies_ok; words = u.words }

-- questions 3 and 16 are answered yes
pub memory-yes : (s : State) → Usable s → eqb (length s.memory) (memory_size s.cart.kind) ≡ true
memory-yes s u = eq-eqb (length s.memory) (memory_size s.cart.kind) u.memory_ok

pub tallies-yes : (s : State) → Usable s → eqb (length s.tallies) (tally_count s.cart.kind) ≡ true
tallies-yes s u = tallies-fit s (fit s u)

keeps : Keeps Allowed
keeps =
    record {
      block = λ e o. o.block_ok;
      bit = λ e b h o. allowed-bit e b o;
      out = allowed-read;
      dma = allowed-dma;
      loaded = allowed-load;
    }

pub usable-step : (c : Call) (d : List ℕ) (s : State) → Usable s → Usable (step c d s).next
usable-step c d s u = of_fields (step c d s).next (step_by keeps c d s (to_fields s u)) (fit-step c d s (fit s u))

pub usable-load : (f : List ℕ) (s : State) → Usable s → Usable (load s f)
unfolding accepted questions
usable-load f s u =
    of_fields (load s f) (accepted-by keeps (load_save f) [] s (u.valid, (memory-yes s u, (tallies-yes s u, tt))) (to_fields s u))
    (load-keeps Fit fit-chip fit-memory f s (fit s u))
