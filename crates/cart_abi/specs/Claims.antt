-- What is claimed of refused calls: "A no returns the number, the record as given, all buffers unchanged".
use Rattle.std.specs.Prelude.{◌≡◌, ◌≢◌, true, List, [], ℕ, replicate}
use Rattle.std.proofs.Math.Pow.{are_bytes}
use Rattle.image.specs.Image.{Answer}
use Rattle.title.specs.Title.{header_title}
use Rattle.out_params.specs.Places.{answered_at, title_at}
use Rattle.cart.specs.declared.Cartridge.{Cartridge}
use Rattle.c_record.specs.RecordBytes.{record_size}
use Rattle.c_record.specs.AtExit.{asked_at}
use Rattle.c_record.specs.Calls.{opens, restores}
use Rattle.c_matcher_calls.specs.Calls.{searches, feeds}
use Rattle.cart_abi.specs.Host.{ExportedCall, save_read, save_write, eeprom_begin_dma, eeprom_write, eeprom_read}
use Rattle.cart_abi.specs.Host.{load_save, save_data, chip_state, take_save_dirty, import_save}
use Rattle.cart_abi.specs.Host.{Bytes, Made, found, found_state, found_flag, made, make}

-- a call that returns n and leaves record, memory, tallies, destination, state and out-parameters as they were passed
abbrev pub unchanged : ExportedCall → ℕ → Bytes → Made
unchanged (save_read a p) n b = made (found n p 0 []) b.bytes b.memory b.tallies
unchanged (save_write a v p) n b = made (found n 0 p []) b.bytes b.memory b.tallies
unchanged (eeprom_begin_dma words) n b = made (found n 0 0 []) b.bytes b.memory b.tallies
unchanged (eeprom_write v p) n b = made (found n 0 p []) b.bytes b.memory b.tallies
unchanged (eeprom_read p) n b = made (found n p 0 []) b.bytes b.memory b.tallies
unchanged (load_save f p) n b = made (found n 0 p []) b.bytes b.memory b.tallies
unchanged (save_data d p) n b = made (found n p 0 d) b.bytes b.memory b.tallies
unchanged (chip_state p) n b = made (found_state n p) b.bytes b.memory b.tallies
unchanged (take_save_dirty p) n b = made (found_flag n p) b.bytes b.memory b.tallies
unchanged (import_save f k p) n b = made (found n k p []) b.bytes b.memory b.tallies

-- "opening, given none, returns one of kind None with all else 0"
abbrev pub no_record : List ℕ
no_record = replicate record_size 0

pub record RefusedLeaves : Type 0 where
  pub calls : (c : ExportedCall) (b : Bytes) → are_bytes b.bytes ≡ true → (make c b).found.answer ≢ 0
      → make c b ≡ unchanged c (make c b).found.answer b
  pub restore : (state r m : List ℕ) → are_bytes r ≡ true → (restores state r m).0 ≢ 0
      → restores state r m ≡ ((restores state r m).0, r, m)
  pub opening : (image : List ℕ) (part : ℕ) (m ts : List ℕ) → (opens image part m ts).0 ≢ 0
      → opens image part m ts ≡ ((opens image part m ts).0, no_record, m, ts)
  -- the calls that answer one number of a record alone, or of an image; and the title
  pub of_record : (ask : Cartridge → Answer) (r : List ℕ) (p : ℕ) → (asked_at ask r p).0 ≢ 0
      → asked_at ask r p ≡ ((asked_at ask r p).0, p)
  pub of_image : (a : Answer) (p : ℕ) → a.refusal ≢ 0 → answered_at a p ≡ (a.refusal, p)
  pub title : (image d : List ℕ) (p : ℕ) → (header_title image d).0.refusal ≢ 0
      → title_at (header_title image d) p ≡ ((header_title image d).0.refusal, d, p)
  -- the search and a piece; `finishes` is an answer of the form above
  pub search : (image : List ℕ) (k h : ℕ) → (searches image k h).0 ≢ 0
      → searches image k h ≡ ((searches image k h).0, k, h)
  pub feed : (b piece : List ℕ) (d : ℕ) → (feeds b piece d).0 ≢ 0 → feeds b piece d ≡ ((feeds b piece d).0, b, d)
