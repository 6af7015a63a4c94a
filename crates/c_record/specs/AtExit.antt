-- What a C call leaves: "A no returns the number, the record as given, all buffers unchanged", and 25 bytes that
-- are no record are 2.
use Rattle.std.specs.Prelude.{Bool, false, cond, List, [], ℕ}
use Rattle.image.specs.Image.{Answer}
use Rattle.out_params.specs.Places.{placed, answered_at, told}
use Rattle.cart.specs.declared.Cartridge.{Cartridge}
use Rattle.lists.specs.Lists.{bit}
use Rattle.cart.specs.Record.{State, Outcome}
use Rattle.cart.specs.Replies.{first}
use Rattle.c_record.specs.RecordBytes.{record_bytes, cart_of, is_record, state_of}

-- 0 or the number of a refusal, the record's bytes, memory, tallies and destination, and what the call answers
pub record AtExit : Type 0 where
  pub answer : ℕ
  pub bytes : List ℕ
  pub memory : List ℕ
  pub tallies : List ℕ
  pub destination : List ℕ
  pub given : List ℕ
  pub flag : Bool
  pub changed : ℕ

-- the machine's own outcome, its record written back
abbrev pub left : Outcome → AtExit
left o =
    record {
      answer = o.refusal;
      bytes = record_bytes o.next.cart;
      memory = o.next.memory;
      tallies = o.next.tallies;
      destination = o.destination;
      given = o.given;
      flag = o.flag;
      changed = o.changed;
    }

abbrev pub untouched : ℕ → List ℕ → List ℕ → List ℕ → List ℕ → AtExit
untouched number d r m ts =
    record {
      answer = number;
      bytes = r;
      memory = m;
      tallies = ts;
      destination = d;
      given = [];
      flag = false;
      changed = 0;
    }

-- the call on a record's bytes r, a memory m and tallies ts, with a destination d
unfoldable pub called : (State → Outcome) → List ℕ → List ℕ → List ℕ → List ℕ → AtExit
called call d r m ts = cond (is_record r) (left (call (state_of r m ts))) (untouched 2 d r m ts)

-- what a caller sees: record and memory, and the tallies; with a place for one number, for the flag, or for the state's
-- bytes; with a destination
abbrev pub plain : AtExit → ℕ × List ℕ × List ℕ
plain x = (x.answer, x.bytes, x.memory)

abbrev pub tallied_at : AtExit → ℕ × List ℕ × List ℕ × List ℕ
tallied_at x = (x.answer, x.bytes, x.memory, x.tallies)

abbrev pub value_at : ℕ → AtExit → ℕ × List ℕ × List ℕ × ℕ
value_at place x = (x.answer, x.bytes, x.memory, placed x.answer (first x.given) place)

-- of a call that stores: with a place for the number of places changed; at import with both
abbrev pub changed_at : ℕ → AtExit → ℕ × List ℕ × List ℕ × List ℕ × ℕ
changed_at place x = (x.answer, x.bytes, x.memory, x.tallies, placed x.answer x.changed place)

abbrev pub import_at : ℕ → ℕ → AtExit → ℕ × List ℕ × List ℕ × List ℕ × ℕ × ℕ
import_at kept changed x =
    let n = x.answer in
    (n, x.bytes, x.memory, x.tallies, placed n (first x.given) kept, placed n x.changed changed)

abbrev pub flag_at : ℕ → AtExit → ℕ × List ℕ × List ℕ × ℕ
flag_at place x = (x.answer, x.bytes, x.memory, placed x.answer (bit x.flag) place)

abbrev pub state_at : List ℕ → AtExit → ℕ × List ℕ × List ℕ × List ℕ
state_at place x = (x.answer, x.bytes, x.memory, placed x.answer x.given place)

abbrev pub export_at : ℕ → AtExit → ℕ × List ℕ × List ℕ × List ℕ × ℕ
export_at place x = (x.answer, x.bytes, x.memory, x.destination, placed x.answer (first x.given) place)

-- what is asked of a record alone
unfoldable pub asked_at : (Cartridge → Answer) → List ℕ → ℕ → ℕ × ℕ
asked_at ask r place = cond (is_record r) (answered_at (ask (cart_of r)) place) (told 2 0 place)
