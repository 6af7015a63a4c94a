-- What a call returned, as the bytes of its answer. Assumes nothing.
use mathlib.Core.Path.{◌≡◌, refl, ap, ◌∙◌}
use mathlib.Core.Bool.{Bool, true, false}
use mathlib.Core.List.{List, [], ◌∷◌}
use Prim.Native.Nat.{ℕ, ◌+◌, ◌-◌, ◌%◌}
use native.Mathlib.Omega.{arith}
use lib.Dec.{eqb}
use lib.ListN.{length, take, drop}
use Rattle.lists.specs.Lists.{bit}
use Rattle.lists.specs.Questions.{asked}
use Rattle.lists.proofs.Bools.{either}
use Rattle.cart.specs.declared.Cartridge.{Cartridge}
use Rattle.cart.specs.Replies.{Reply}
use Rattle.cart.specs.Record.{State, Outcome}
use Rattle.cart.specs.Calls.{save_data, file_of, questions, accepted, step}
use Rattle.cart.specs.Replies.{tallied, replied, flag_replied}
use Rattle.cart.specs.Stretches.{with_tallies, beside_tallies}
use Rattle.cart.proofs.Recoverable.{exported-next}
use Rattle.state_calls.specs.StateAnswer.{StateAnswer}
use Rattle.state_calls.specs.StateAnswer.{state_answered}
use Rattle.call_list.specs.declared.Item.{Item}
use Rattle.call_list.specs.declared.Item.TheVariants.{SaveData}
use Rattle.call_list.specs.Items.{item_room}
use Rattle.replay.specs.Replay.{value_answer, flag_answer, record_answer, left, status_shown, value_shown}

pub shows-status : {reply q : Reply} {m n ts us out : List ℕ} {r : Cartridge} → ◌≡◌ {A = Reply × List ℕ × List ℕ} (reply, m, ts) (q, n, us)
    → ◌≡◌ {A = Cartridge × List ℕ} (r, out) (status_shown reply)
    → ◌≡◌ {A = State × List ℕ} (tallied r m ts, out) (tallied q.cart n us, q.refusal ∷ [])
shows-status {m = m} {ts = ts} e h =
    (λ i. (tallied (h i).0 m ts, (h i).1)) ∙ (λ i. (tallied (e i).0.cart (e i).1 (e i).2, (e i).0.refusal ∷ []))

-- with tallies beside a call that is not passed them
pub beside : {reply q : Reply} {m n : List ℕ} (ts : List ℕ) → ◌≡◌ {A = Reply × List ℕ} (reply, m) (q, n)
    → ◌≡◌ {A = Reply × List ℕ × List ℕ} (reply, m, ts) (q, n, ts)
beside ts e = λ i. ((e i).0, (e i).1, ts)

pub shows-value : (o : Outcome) (ts : List ℕ) {reply : Reply} {m out : List ℕ} {r : Cartridge} → ◌≡◌ {A = Reply × List ℕ} (reply, m) (replied o)
    → ◌≡◌ {A = Cartridge × List ℕ} (r, out) (value_shown reply)
    → ◌≡◌ {A = State × List ℕ} (tallied r m ts, out) (left (value_answer (beside_tallies ts o)))
shows-value o ts {m = m} e h =
    (λ i. (tallied (h i).0 m ts, (h i).1)) ∙ (λ i. (tallied (e i).0.cart (e i).1 ts, (e i).0.refusal ∷ (e i).0.value % 256 ∷ []))

-- the flag is a byte as it is
flag-byte : (b : Bool) → bit b % 256 ≡ bit b
flag-byte true = refl
flag-byte false = refl

pub shows-flag : (o : Outcome) (ts : List ℕ) {reply : Reply} {m out : List ℕ} {r : Cartridge} → ◌≡◌ {A = Reply × List ℕ} (reply, m) (flag_replied o)
    → ◌≡◌ {A = Cartridge × List ℕ} (r, out) (value_shown reply)
    → ◌≡◌ {A = State × List ℕ} (tallied r m ts, out) (left (flag_answer (beside_tallies ts o)))
shows-flag o ts {m = m} e h =
    (λ i. (tallied (h i).0 m ts, (h i).1)) ∙ (λ i. (tallied (e i).0.cart (e i).1 ts, (e i).0.refusal ∷ (e i).0.value % 256 ∷ []))
    ∙ ap (λ (v : ℕ). (with_tallies ts o.next, o.refusal ∷ v ∷ [])) (flag-byte o.flag)

pub shows-state : (o : Outcome) (ts : List ℕ) {a : StateAnswer} {s : State} {out : List ℕ} → ◌≡◌ {A = StateAnswer × State} (a, s) (state_answered o)
    → out ≡ a.refusal ∷ a.bytes
    → ◌≡◌ {A = State × List ℕ} (with_tallies ts s, out) (left (record_answer (beside_tallies ts o)))
shows-state o ts {s = s} e h = (λ i. (with_tallies ts s, h i)) ∙ (λ i. (with_tallies ts (e i).1, (e i).0.refusal ∷ (e i).0.bytes))

-- an export leaves the state
pub export-next : (d : List ℕ) (s : State) → (step save_data d s).next ≡ s
unfolding step accepted
export-next d s = either (λ (o : Outcome). o.next ≡ s) (eqb (asked (questions save_data d s)) 0) (exported-next (file_of s.cart.kind s) d s) refl

pub nothing : (l : List ℕ) → length l ≡ 0 → l ≡ []
nothing [] e = refl
nothing (b ∷ l) e = absurd (omega arith)

pub loaded-part : (n : ℕ) (l : List ℕ) → take (5 + n - 5) (drop 5 l) ≡ take n (drop 5 l)
loaded-part n l = let e : 5 + n - 5 ≡ n = omega arith in rw e

-- an export's destination is as long as the item says
pub file-room : (i : Item) (n k : ℕ) → i ≡ SaveData n → k ≡ item_room i → k - 5 ≡ n
file-room i n k e h = let r : item_room i ≡ 5 + n = ap item_room e in omega arith
