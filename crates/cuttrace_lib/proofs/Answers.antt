-- Answers printed. Assumes nothing.
use mathlib.Core.Path.{◌≡◌, refl, sym, ap, ◌∙◌}
use mathlib.Core.List.{List, [], ◌∷◌, ◌++◌}
use Prim.Native.Nat.{ℕ, zero, suc, ◌+◌, ◌*◌, ◌-◌, ◌≤◌, ◌<◌, min}
use native.Mathlib.Omega.{arith}
use types.Run.{OneOf, miss}
use denote.Enum.Declared.{tag_of}
use lib.Dec.{eqb, leb}
use lib.ListN.{length, get_or, take, drop, length-append, length-take, length-drop}
use native.Mathlib.Nat.{zero-add, suc-add}
use lib.Seq.{take_all, take-take, take-nil, length-take-le}
use borrow.Author.Tests.{eq-eqb, ne_eqb, leb-true, leb-false}
use Rattle.lists.specs.Lists.{into}
use Rattle.lists.proofs.Bools.{cases}
use Rattle.lists.proofs.Parts.{rest}
use Rattle.frames.specs.Frames.{line_of}
use Rattle.frames.proofs.Printed.{length-line}
use Rattle.call_list.specs.declared.Item.{Item}
use Rattle.call_list.specs.declared.Item.TheVariants.{SaveRead, SaveWrite, EepromRead, EepromWrite, BeginDma, TakeFlag, ChipState, LoadSave, SaveData, Cut, Bad}
use Rattle.call_list.specs.Items.{high32, ending_room}
use Rattle.call_list.specs.contracts.Item.{the_type}
use Rattle.cuttrace_lib.specs.Printing.{Shows, answer_text, state_text, item_text, file_text, ending_text}
use Rattle.carttrace_lib.proofs.Feeding.{put-behind}

pub shows : {text line : List ℕ} {n : ℕ} {o' : List ℕ} (o : List ℕ) → text ≡ line → n ≡ length line → o' ≡ into line o → Shows text n o' o
shows o e l k = (l ∙ ap length (sym e), k ∙ ap (λ (t : List ℕ). into t o) (sym e))

pub shows-none : {text : List ℕ} (o : List ℕ) → text ≡ [] → Shows text 0 o o
unfolding into
shows-none o e = shows o e refl refl

pub answer-none : (a : List ℕ) → length a ≡ 0 → answer_text a ≡ []
unfolding answer_text
answer-none [] h = refl
answer-none (s ∷ a) h = absurd (omega arith)

pub answer-refused : (a : List ℕ) → 0 < length a → (get_or a 0 0 ≡ 0 → ⊥) → answer_text a ≡ line_of (get_or a 0 0) []
unfolding answer_text
answer-refused [] h n = absurd (omega arith)
answer-refused (s ∷ a) h n = rw (ne_eqb s 0 n)

pub answer-given : (a : List ℕ) → 0 < length a → get_or a 0 0 ≡ 0 → answer_text a ≡ line_of 0 (take (length a - 1) (drop 1 a))
unfolding answer_text
answer-given [] h n = absurd (omega arith)
answer-given (s ∷ a) h n = rw (rest 1 (s ∷ a)) (rw (eq-eqb s 0 n) (ap (λ (x : ℕ). line_of x a) n))

pub file-refused : (a : List ℕ) → (get_or a 0 0 ≡ 0 → ⊥) → file_text a ≡ line_of (get_or a 0 0) []
unfolding file_text
file-refused a n = rw (ne_eqb (get_or a 0 0) 0 n)

take_min : (n k : ℕ) (l : List ℕ) → length l ≤ k → take (min n k) l ≡ take n l
take_min n k l h =
    cases (leb n k) (λ t. let e : min n k ≡ n = omega (arith, leb-true n k t) in rw e)
    (λ t.
    let f = leb-false n k t in
    let e : min n k ≡ k = omega arith in
    rw e (take_all k l h ∙ sym (take_all n l (omega arith))))

pub file-given : (a : List ℕ) (n e : ℕ) → get_or a 0 0 ≡ 0 → n ≡ high32 a → e ≡ min n (length a - 5) → file_text a ≡ line_of 0 (take (5 + e - 5) (drop 5 a))
unfolding file_text
file-given a n e s h k =
    let d : 5 + e - 5 ≡ e = omega arith in
    rw (eq-eqb (get_or a 0 0) 0 s, s, d, k, take_min n (length a - 5) (drop 5 a) (omega (arith, length-drop 5 a)), h)

-- how long they are
pub answer-short : (a : List ℕ) → length (answer_text a) ≤ 2 * length a + 1
unfolding answer_text
answer-short [] = omega arith
answer-short (s ∷ a) = cases (eqb s 0) (λ t. rw t (omega (arith, length-line s a))) (λ t. rw t (omega (arith, length-line s [])))

pub state-short : (a : List ℕ) → length (state_text a) ≤ 39
state-short a = omega (arith, answer-short (take 19 a), length-take 19 a)

pub item-short : (i : Item) (a : List ℕ) → length (item_text i a) ≤ 2 * length a + 3
unfolding item_text
item-short (SaveRead x) a = omega (arith, answer-short a)
item-short (SaveWrite x v) a = omega (arith, answer-short a)
item-short EepromRead a = omega (arith, answer-short a)
item-short (EepromWrite v) a = omega (arith, answer-short a)
item-short (BeginDma words) a = omega (arith, answer-short a)
item-short TakeFlag a = omega (arith, answer-short a)
item-short ChipState a = omega (arith, answer-short (take 19 a), length-take 19 a)
item-short (LoadSave n) a = omega (arith, answer-short a)
item-short (SaveData n) a = omega (arith, answer-short a)
item-short Cut a = omega (arith, answer-short a)
item-short Bad a = omega (arith, length-line 0xff [])

file-short : (a : List ℕ) → 5 ≤ length a → length (file_text a) ≤ 2 * length a
unfolding file_text
file-short a h =
    cases (eqb (get_or a 0 0) 0)
    (λ t. rw t (omega (arith, length-line (get_or a 0 0) (take (high32 a) (drop 5 a)), length-take (high32 a) (drop 5 a), length-drop 5 a)))
    (λ t. rw t (omega (arith, length-line (get_or a 0 0) [])))

pub shown-behind : (front text out o o' : List ℕ) (n k : ℕ) → n ≤ length out → Shows front n o out → Shows text k o' (take (length o - n) (drop n o))
    → Shows (front ++ text) (n + k) (take n o ++ (o' ++ drop (length o - n) (drop n o))) out
shown-behind front text out o o' n k h f t =
    (omega (arith, length-append front text, f.0, t.0), put-behind front text out o o' n f.0 h f.1 t.1)

-- the ending, from a part that is as long
part-part : (p n k : ℕ) (a : List ℕ) → k ≤ n → take k (drop p (take (p + n) a)) ≡ take k (drop p a)
part-part zero n k a h = rw zero-add (take-take k n a h)
part-part (suc p) n k [] h = rw (take-nil (suc p + n))
part-part (suc p) n k (x ∷ a) h = rw suc-add (part-part p n k a h)

pub ending-part : (m : ℕ) (a : List ℕ) → ending_text m (take (ending_room m) a) ≡ ending_text m a
unfolding ending_text
ending-part m a = rw (take-take (5 + m) (ending_room m) a (omega arith), part-part (5 + m) 21 19 a (omega arith))

pub ending-shown : (m : ℕ) (a out o o' : List ℕ) (n k : ℕ) → length a ≡ ending_room m → n ≤ length out → Shows (file_text (take (5 + m) a)) n o out
    → Shows (state_text (take (length a - (5 + m)) (drop (5 + m) a))) k o' (take (length o - n) (drop n o))
    → Shows (ending_text m a) (n + k) (take n o ++ (o' ++ drop (length o - n) (drop n o))) out
unfolding ending_text
ending-shown m a out o o' n k l h f t =
    shown-behind (file_text (take (5 + m) a)) (state_text (drop (5 + m) a)) out o o' n k h f (rw (rest (5 + m) a) at t)

pub item-bad : {i : Item} (a : List ℕ) → i ≡ Bad → item_text i a ≡ line_of 0xff []
unfolding item_text
item-bad a e = rw e

pub item-state : {i : Item} (a : List ℕ) → i ≡ ChipState → item_text i a ≡ state_text a
unfolding item_text
item-state a e = rw e

-- what the arm for all but these two says
pub item-other : (i : Item) (a : List ℕ) → OneOf (0 ∷ 1 ∷ 2 ∷ 3 ∷ 4 ∷ 5 ∷ 7 ∷ 8 ∷ 9 ∷ []) (tag_of the_type i) → item_text i a ≡ answer_text a
unfolding item_text
item-other (SaveRead x) a k = refl
item-other (SaveWrite x v) a k = refl
item-other EepromRead a k = refl
item-other (EepromWrite v) a k = refl
item-other (BeginDma words) a k = refl
item-other TakeFlag a k = refl
item-other ChipState a k = absurd (miss (0 ∷ 1 ∷ 2 ∷ 3 ∷ 4 ∷ 5 ∷ 7 ∷ 8 ∷ 9 ∷ []) 6 tt k)
item-other (LoadSave n) a k = refl
item-other (SaveData n) a k = refl
item-other Cut a k = refl
item-other Bad a k = absurd (miss (0 ∷ 1 ∷ 2 ∷ 3 ∷ 4 ∷ 5 ∷ 7 ∷ 8 ∷ 9 ∷ []) 10 tt k)

pub file-fits : (m : ℕ) (a : List ℕ) → length a ≡ ending_room m → length (file_text (take (5 + m) a)) ≤ 2 * (5 + m)
file-fits m a h =
    let l = length-take-le (5 + m) a (omega arith) in
    omega (arith, l, file-short (take (5 + m) a) (omega (arith, l)))

pub ending-short : (m : ℕ) (a : List ℕ) → length a ≡ ending_room m → length (ending_text m a) ≤ 2 * ending_room m + 1
unfolding ending_text
ending-short m a h =
    omega (arith, length-append (file_text (take (5 + m) a)) (state_text (drop (5 + m) a)), file-fits m a h, state-short (drop (5 + m) a))

-- a text that was put into a room is no longer than it
pub shows-fits : (text o' o : List ℕ) {n : ℕ} → Shows text n o' o → length o' ≡ length o → n ≤ length o
unfolding into
shows-fits text o' o f l = omega (arith, f.0, l, ap length f.1, length-append text (drop (length text) o))
