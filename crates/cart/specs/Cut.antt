-- Cut runs. Document 01, "Cut runs", demand 3, and document 02, ticket 5.
use Rattle.std.specs.Prelude.{◌≡◌, Bool, true, false, cond, ◌&&◌, ℕ, ◌+◌, length, take, drop, replicate}
use mathlib.Core.List.{List, [], ◌∷◌, ◌++◌, map, Memᴰ}
use Rattle.std.proofs.Math.Option.{Option, none, some}
use Rattle.kind.specs.Kind.{uses_eeprom, detect_save_type}
use Rattle.chip_record.specs.States.{flag_at, Carried, eighteen, twenty, carried}
use Rattle.cart.specs.Record.{State, Outcome, from_bytes}
use Rattle.cart.specs.Calls.{Call, save_write, load_save, save_data, chip_state, step, restore}

-- "it leaves the file that an accepted export gives there, where the kind has one": from a destination as long as
-- the memory
abbrev pub file_in : List ℕ → List ℕ → Option (List ℕ)
file_in [] d = none
file_in (n ∷ l) d = some (take n d)

unfoldable pub file_left : State → Option (List ℕ)
file_left s = let o = step save_data (replicate (length s.memory) 0) s in file_in o.given o.destination

-- "and the 18 bytes of `chip_state`": 20 with layout 2
unfoldable pub bytes_left : State → List ℕ
bytes_left s = (step chip_state [] s).given

-- "Then: open the same image, load the file where there is one, restore."; the opening is given the same part
abbrev pub reloaded : Option (List ℕ) → State → State
reloaded none s = s
reloaded (some f) s = (step (load_save f) [] s).next

-- what the cartridge t becomes by loading and restoring what a cut of s left
abbrev pub resumed : Carried → State → State → State
resumed k s t = (restore (carried k (bytes_left s)) (reloaded (file_left s) t)).next

unfoldable pub cut : List ℕ → ℕ → List ℕ → List ℕ → Carried → State → State
cut image part memory tallies k s = resumed k s (from_bytes image part memory tallies).next

unfoldable pub cuts : List ℕ → ℕ → List ℕ → List ℕ → List Carried → State → State
cuts image part memory tallies [] s = s
cuts image part memory tallies (k ∷ ks) s = cuts image part memory tallies ks (cut image part memory tallies k s)

-- "A cut falls behind a call": a call of the list, the destination that comes with it, and the cuts that fall behind it
pub record Turn : Type 0 where
  pub call : Call
  pub destination : List ℕ
  pub cuts_behind : List Carried

-- "Compared are the answers of the list's own calls, with refusal numbers and the bytes of export destinations, and
-- at the list's end the file, or that there is none, and the 18 bytes." The answer of `take_save_dirty` and the number
-- of places changed are such answers, and the bytes are the 20; at the list's end the tallies are compared too.
pub record Shown : Type 0 where
  pub refusal : ℕ
  pub given : List ℕ
  pub flag : Bool
  pub changed : ℕ
  pub destination : List ℕ

abbrev pub shown : Outcome → Shown
shown o =
    record {
      refusal = o.refusal;
      given = o.given;
      flag = o.flag;
      changed = o.changed;
      destination = o.destination;
    }

pub record Compared : Type 0 where
  pub calls : List Shown
  pub file : Option (List ℕ)
  pub bytes : List ℕ
  pub tallies : List ℕ

abbrev pub before : Outcome → Compared → Compared
before o r = record { calls = shown o ∷ r.calls; file = r.file; bytes = r.bytes; tallies = r.tallies }

unfoldable pub run : List ℕ → ℕ → List ℕ → List ℕ → List Turn → State → Compared
run image part memory tallies [] s =
    record { calls = []; file = file_left s; bytes = bytes_left s; tallies = s.tallies }
run image part memory tallies (t ∷ list) s =
    let o = step t.call t.destination s in
    before o (run image part memory tallies list (cuts image part memory tallies t.cuts_behind o.next))

-- the list without its cuts
abbrev pub uncut : List Turn → List Turn
uncut = map (λ t. record { call = t.call; destination = t.destination; cuts_behind = [] })

-- whether each cut of the list carries layout 2
abbrev pub carries_flag : List Carried → Bool
carries_flag [] = true
carries_flag (eighteen ∷ ks) = false
carries_flag (twenty ∷ ks) = carries_flag ks

abbrev pub all_carry_flag : List Turn → Bool
all_carry_flag [] = true
all_carry_flag (t ∷ list) = carries_flag t.cuts_behind && all_carry_flag list

-- "where one carries 18 bytes, byte 18 is left out of demand 3 as those answers are": of what `chip_state` answers, the
-- only call that answers so many numbers, and of the bytes at the end
abbrev pub flag_left_out : List ℕ → List ℕ
flag_left_out b = take flag_at b ++ drop (flag_at + 1) b

abbrev pub answer_seen : Bool → Shown → Shown
answer_seen flags x =
    record {
      refusal = x.refusal;
      given = cond flags x.given (flag_left_out x.given);
      flag = flags && x.flag;
      changed = x.changed;
      destination = x.destination;
    }

abbrev pub seen : Bool → Compared → Compared
seen flags r =
    record {
      calls = map (answer_seen flags) r.calls;
      file = r.file;
      bytes = cond flags r.bytes (flag_left_out r.bytes);
      tallies = r.tallies;
    }

-- demand 3: from a fresh cartridge with any part, with "no byte write to an EEPROM cartridge"; "Where each cut carries
-- layout 2, the flag's answers too are those of the uncut run". "It is one claim about the whole list with all its
-- cuts."
abbrev pub CutRuns : Type 0
CutRuns =
    (image : List ℕ) (part : ℕ) (memory tallies : List ℕ) (list : List Turn)
    → (from_bytes image part memory tallies).refusal ≡ 0
    → ((a v : ℕ) → Memᴰ (save_write a v) (map (λ t. t.call) list) → uses_eeprom (detect_save_type image) ≡ false)
    → let s = (from_bytes image part memory tallies).next in
    let flags = all_carry_flag list in
    seen flags (run image part memory tallies list s) ≡ seen flags (run image part memory tallies (uncut list) s)
