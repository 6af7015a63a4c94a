-- What a replay answers: the machine's run of the list without its cuts. Document 01, "Cut runs", demand 3, and
-- document 02, ticket 5: each cut carries layout 2.
use Rattle.std.specs.Prelude.{cond, List, [], ◌∷◌, ◌++◌, ℕ, ◌/◌, ◌%◌, eqb, length, take, drop, replicate}
use Rattle.lists.specs.Lists.{into, bit}
use Rattle.lists.specs.Questions.{Question, asked}
use Rattle.kind.specs.Kind.{tally_count, uses_eeprom, detect_save_type}
use Rattle.cart.specs.declared.Cartridge.{Cartridge}
use Rattle.cart.specs.Replies.{Reply}
use Rattle.cart.specs.Record.{State, Outcome, open_questions, from_bytes}
use Rattle.cart.specs.Calls.{save_read, save_write, eeprom_begin_dma, eeprom_write, eeprom_read}
use Rattle.cart.specs.Calls.{load_save, save_data, chip_state, take_save_dirty, step}
use Rattle.chip_record.specs.States.{twenty}
use Rattle.cart.specs.Cut.{cut}
use Rattle.cart.specs.Replies.{first}
use Rattle.state_calls.specs.StateAnswer.{or_zeros}
use Rattle.call_list.specs.declared.Item.{Item}
use Rattle.call_list.specs.declared.Item.TheVariants.{SaveRead, SaveWrite, EepromRead, EepromWrite, BeginDma}
use Rattle.call_list.specs.declared.Item.TheVariants.{TakeFlag, ChipState, LoadSave, SaveData, Cut, Bad}
use Rattle.call_list.specs.Items.{Place, items}
use Rattle.call_list.specs.ListQuestions.{list_questions}

-- what an item answers, as bytes, and what it leaves
pub record Answered : Type 0 where
  pub bytes : List ℕ
  pub next : State

abbrev pub answered : List ℕ → State → Answered
answered bytes next = record { bytes = bytes; next = next }

-- a number as four bytes, high byte first
abbrev pub four_bytes : ℕ → List ℕ
four_bytes n = n / 16777216 % 256 ∷ n / 65536 % 256 ∷ n / 256 % 256 ∷ n % 256 ∷ []

-- a refusal's number or 0; then the byte that a call answers, the flag, the chip state, or a file's length and the
-- destination, all 0 if refused
abbrev pub status_answer : Outcome → Answered
status_answer o = answered (o.refusal ∷ []) o.next

abbrev pub value_answer : Outcome → Answered
value_answer o = answered (o.refusal ∷ first o.given % 256 ∷ []) o.next

abbrev pub flag_answer : Outcome → Answered
flag_answer o = answered (o.refusal ∷ bit o.flag ∷ []) o.next

abbrev pub record_answer : Outcome → Answered
record_answer o = answered (o.refusal ∷ or_zeros o.given) o.next

abbrev pub file_answer : Outcome → Answered
file_answer o = answered (o.refusal ∷ (four_bytes (first o.given) ++ o.destination)) o.next

-- a reply as its record and its bytes; what an item leaves and answers
abbrev pub status_shown : Reply → Cartridge × List ℕ
status_shown r = (r.cart, r.refusal ∷ [])

abbrev pub value_shown : Reply → Cartridge × List ℕ
value_shown r = (r.cart, r.refusal ∷ r.value % 256 ∷ [])

abbrev pub left : Answered → State × List ℕ
left a = (a.next, a.bytes)

-- an export into n zeros
abbrev pub export_into : ℕ → State → Outcome
export_into n s = step save_data (replicate n 0) s

-- the item i, whose bytes begin l; `at_cut` is what a cut does
unfoldable pub play : (State → State) → Item → List ℕ → State → Answered
play at_cut (SaveRead a) l s = value_answer (step (save_read a) [] s)
play at_cut (SaveWrite a v) l s = status_answer (step (save_write a v) [] s)
play at_cut EepromRead l s = value_answer (step eeprom_read [] s)
play at_cut (EepromWrite v) l s = status_answer (step (eeprom_write v) [] s)
play at_cut (BeginDma words) l s = status_answer (step (eeprom_begin_dma words) [] s)
play at_cut TakeFlag l s = flag_answer (step take_save_dirty [] s)
play at_cut ChipState l s = record_answer (step chip_state [] s)
play at_cut (LoadSave n) l s = status_answer (step (load_save (take n (drop 5 l))) [] s)
play at_cut (SaveData n) l s = file_answer (export_into n s)
play at_cut Cut l s = answered [] (at_cut s)
play at_cut Bad l s = answered [] s

unfoldable pub play_all : (State → State) → List Place → State → Answered
play_all at_cut [] s = answered [] s
play_all at_cut (p ∷ list) s =
    let a = play at_cut p.item p.bytes s in
    let r = play_all at_cut list a.next in
    answered (a.bytes ++ r.bytes) r.next

-- "at the list's end the file, or that there is none, and the 18 bytes", or 20: an export into as many zeros as the
-- memory has bytes, and `chip_state`
unfoldable pub ending : State → List ℕ
ending s = (file_answer (export_into (length s.memory) s)).bytes ++ (record_answer (step chip_state [] s)).bytes

-- a machine that is not cut: a cut does nothing
abbrev pub not_cut : State → State
not_cut s = s

-- and one that is cut; the opening is passed memory and tallies as they are
abbrev pub cut_at : List ℕ → ℕ → State → State
cut_at image part s = cut image part s.memory s.tallies twenty s

-- the memory that a run leaves, and the output with its answers at the front
abbrev pub shown_by : Answered → List ℕ → List ℕ × List ℕ
shown_by a out = (a.next.memory, into a.bytes out)

unfoldable pub uncut_run : List Place → State → Answered
uncut_run list s =
    let r = play_all not_cut list s in
    answered (r.bytes ++ ending r.next) r.next

-- a replay has tallies of its own, as many as the image's kind has
abbrev pub own_tallies : List ℕ → List ℕ
own_tallies image = replicate (tally_count (detect_save_type image)) 0

-- 1, 3 and 15 as at opening (16 is answered yes), and then what is asked of the list
abbrev pub replay_questions : List ℕ → ℕ → List ℕ → List ℕ → ℕ → ℕ → List Question
replay_questions image part bytes memory scratch out =
    open_questions image part memory (own_tallies image)
    ++ list_questions (items 0 bytes) (uses_eeprom (detect_save_type image)) (length memory) scratch out

-- the refusal or 0, the memory, the scratch, which is left all 0, and the output; a refused replay leaves all as it was
unfoldable pub replay : List ℕ → ℕ → List ℕ → List ℕ → List ℕ → List ℕ
    → ℕ × List ℕ × List ℕ × List ℕ
replay image part bytes memory scratch out =
    let n = asked (replay_questions image part bytes memory (length scratch) (length out)) in
    let r = uncut_run (items 0 bytes) (from_bytes image part memory (own_tallies image)).next in
    cond (eqb n 0) (0, r.next.memory, replicate (length scratch) 0, into r.bytes out) (n, memory, scratch, out)
