-- What a call answers, as a line. Assumes nothing.
use mathlib.Core.Path.{◌≡◌, sym, ◌∙◌}
use mathlib.Core.Bool.{false}
use mathlib.Core.List.{List, [], ◌∷◌}
use Prim.Native.Nat.{ℕ, ◌/◌, ◌%◌}
use native.Mathlib.Omega.{arith}
use lib.Dec.{eqb}
use lib.ListN.{length}
use Rattle.lists.specs.Lists.{into}
use Rattle.lists.specs.Questions.{Question, asked}
use Rattle.lists.proofs.Bools.{cases}
use Rattle.hex_text.specs.Hex.{hex}
use Rattle.cart.specs.declared.Cartridge.{Cartridge}
use Rattle.chip_record.specs.ChipState.{chip_bytes}
use Rattle.chip_record.specs.States.{state_bytes, eighteen_of}
use Rattle.cart.specs.Record.{State, Outcome, guarded, outcome, counted}
use Rattle.cart.specs.Calls.{Call, questions, accepted, step, save_read, save_write, eeprom_begin_dma, eeprom_write, eeprom_read, chip_state}
use Rattle.cart.specs.Replies.{state, tallied, reply_of}
use Rattle.cart.specs.Stretches.{takes_tallies, beside_tallies}
use Rattle.cart.proofs.Stretches.{stretches}
use Rattle.state_calls.specs.StateAnswer.{state_answer, or_zeros}
use Rattle.frames.specs.Frames.{line_of}
use Rattle.carttrace_lib.specs.declared.Played.{Played}
use Rattle.carttrace_lib.specs.Trace.{status_line, value_line, state_line, played_with, left}

-- a number's two lowest digits
pub low-digits : (v : ℕ) → line_of 0 (v % 256 ∷ []) ≡ line_of 0 (v ∷ [])
unfolding line_of hex
low-digits v =
    let a : v % 256 / 16 % 16 ≡ v / 16 % 16 = omega arith in
    let b : v % 256 % 16 ≡ v % 16 = omega arith in
    rw (a, b)

-- the line of a reply is that of the machine's answer, accepted or refused
status-line : (qs : List Question) (d : List ℕ) (s t : State) → let o = guarded qs d s (counted s (outcome [] t d)) in status_line (reply_of o) ≡ line_of o.refusal o.given
status-line qs d s t = cases (eqb (asked qs) 0) (λ e. rw e) (λ e. rw e)

value_line_lem : (qs : List Question) (d : List ℕ) (s t : State) (v : ℕ) → let o = guarded qs d s (counted s (outcome (v ∷ []) t d)) in value_line (reply_of o) ≡ line_of o.refusal o.given
value_line_lem qs d s t v = cases (eqb (asked qs) 0) (λ e. rw e) (λ e. rw (e, e))

state-line : (qs : List Question) (d : List ℕ) (s t : State) (b : ℕ) (bs : List ℕ) → let o = guarded qs d s (counted s (outcome (b ∷ bs) t d)) in state_line (state_answer o.refusal (or_zeros o.given)) ≡ line_of o.refusal (eighteen_of o.given)
state-line qs d s t b bs = cases (eqb (asked qs) 0) (λ e. rw e) (λ e. rw (e, e))

pub read-line : (a : ℕ) (s : State) → let o = step (save_read a) [] s in value_line (reply_of o) ≡ line_of o.refusal o.given
unfolding step accepted
read-line a s = value_line_lem (questions (save_read a) [] s) [] s s _

pub write-line : (a v : ℕ) (s : State) → let o = step (save_write a v) [] s in status_line (reply_of o) ≡ line_of o.refusal o.given
unfolding step accepted
write-line a v s = status-line (questions (save_write a v) [] s) [] s _

pub dma-line : (words : ℕ) (s : State) → let o = step (eeprom_begin_dma words) [] s in status_line (reply_of o) ≡ line_of o.refusal o.given
unfolding step accepted
dma-line words s = status-line (questions (eeprom_begin_dma words) [] s) [] s _

pub bit-in-line : (v : ℕ) (s : State) → let o = step (eeprom_write v) [] s in status_line (reply_of o) ≡ line_of o.refusal o.given
unfolding step accepted
bit-in-line v s = status-line (questions (eeprom_write v) [] s) [] s _

pub bit-out-line : (s : State) → let o = step eeprom_read [] s in value_line (reply_of o) ≡ line_of o.refusal o.given
unfolding step accepted
bit-out-line s = value_line_lem (questions eeprom_read [] s) [] s _ _

pub record-line : (s : State) → let o = step chip_state [] s in state_line (state_answer o.refusal (or_zeros o.given)) ≡ line_of o.refusal (eighteen_of o.given)
unfolding step accepted state_bytes chip_bytes
record-line s = state-line (questions chip_state [] s) [] s s _ _

-- a call that is not passed the tallies, as if it were
pub beside : {R : Type 0} (f : Outcome → R × List ℕ) (c : Call) (cart : Cartridge) (m ts : List ℕ) {r : R} {n : List ℕ}
    → ((o : Outcome) → f (beside_tallies ts o) ≡ f o) → takes_tallies c ≡ false → ◌≡◌ {A = R × List ℕ} (r, n) (f (step c [] (state cart m)))
    → let o = step c [] (tallied cart m ts) in
    ◌≡◌ {A = R × List ℕ × List ℕ} (r, n, ts) ((f o).0, (f o).1, o.next.tallies)
beside f c cart m ts k t e =
    let h = e ∙ sym (k (step c [] (state cart m))) in
    let p = sym (stretches.apart ts c [] (state cart m) t) in
    (λ i. ((h i).0, (h i).1, ts)) ∙ (λ i. ((f (p i)).0, (f (p i)).1, (p i).next.tallies))

-- what a call left, and then its reply's line
pub shows : {R : Type 0} (f : R → List ℕ) (g : R → Cartridge) {r q : R} {m n ts us out' text : List ℕ} {x : Played} (out : List ℕ)
    → ◌≡◌ {A = R × List ℕ × List ℕ} (r, m, ts) (q, n, us) → ◌≡◌ {A = Played × List ℕ} (x, out') (left (g r) (f r) out) → f q ≡ text
    → ◌≡◌ {A = Played × List ℕ × List ℕ × List ℕ} (x, m, ts, out') (played_with (g q) (length text), n, us, into text out)
shows f g {r} {q} {m} {n} {ts} {us} {out'} {text} {x} out e h t =
    let a : f r ≡ text = (λ i. f (e i).0) ∙ t in
    let k : x ≡ played_with (g q) (length text) = (λ i. (h i).0) ∙ (λ i. played_with (g (e i).0) (length (a i))) in
    let w : out' ≡ into text out = (λ i. (h i).1) ∙ (λ i. into (a i) out) in
    λ i. (k i, (e i).1, (e i).2, w i)
