-- An item's bytes in the list. Assumes nothing.
use mathlib.Core.Path.{◌≡◌, refl, sym, ap, ◌∙◌}
use mathlib.Core.Bool.{Bool, true, false, cond}
use mathlib.Core.List.{List, [], ◌∷◌, ◌++◌, append-nil, append_assoc}
use mathlib.Core.Option.{none, some}
use Prim.Native.Nat.{ℕ, ◌+◌, ◌*◌, ◌-◌, ◌/◌, ◌≤◌, ◌<◌}
use native.Mathlib.Omega.{arith}
use types.Run.{OneOf, miss}
use denote.Enum.Declared.{tag_of}
use lib.Dec.{eqb}
use lib.ListN.{length, take, drop, length-append, length-take, length-drop}
use lib.Seq.{length-take-le, take-append-add, take-append-le}
use borrow.Author.Tests.{eq-eqb, ne_eqb}
use Rattle.lists.proofs.Bools.{cases}
use Rattle.lists.proofs.Parts.{rest}
use Rattle.carttrace_lib.specs.Trace.{lines_from}
use Rattle.cuttrace_lib.proofs.Texts.{next-line, no_line}
use Rattle.call_list.specs.contracts.Item.{the_type}
use Rattle.call_list.specs.declared.Item.{Item}
use Rattle.call_list.specs.declared.Item.TheVariants.{SaveRead, SaveWrite, EepromRead, EepromWrite, BeginDma, TakeFlag, ChipState, LoadSave, SaveData, Cut, Bad}
use Rattle.call_list.specs.Items.{item_in, item_length, is_item}
use Rattle.cuttrace_lib.specs.Lines.{unhex, whole_item, line_item, line_code, code_length, list_of, line_length}

-- what the arm for all but `Bad` says
pub an_item : (i : Item) → OneOf (0 ∷ 1 ∷ 2 ∷ 3 ∷ 4 ∷ 5 ∷ 6 ∷ 7 ∷ 8 ∷ 9 ∷ []) (tag_of the_type i) → is_item i ≡ true
an_item (SaveRead a) k = refl
an_item (SaveWrite a v) k = refl
an_item EepromRead k = refl
an_item (EepromWrite v) k = refl
an_item (BeginDma words) k = refl
an_item TakeFlag k = refl
an_item ChipState k = refl
an_item (LoadSave n) k = refl
an_item (SaveData n) k = refl
an_item Cut k = refl
an_item Bad k = absurd (miss (0 ∷ 1 ∷ 2 ∷ 3 ∷ 4 ∷ 5 ∷ 6 ∷ 7 ∷ 8 ∷ 9 ∷ []) 10 tt k)

-- a line read: its item, and its bytes at the front of the room
abbrev pub Read : List ℕ → Item → List ℕ → Type 0
Read line i room = (i ≡ line_item line) × ((take (code_length i) room ≡ line_code line) × (2 * code_length i ≤ length line))

no_item : (line room : List ℕ) → line_item line ≡ Bad → Read line Bad room
unfolding line_code
no_item line room e = (sym e, (rw e, omega arith))

pub read_short : (line room : List ℕ) → length line / 2 ≡ 0 → Read line Bad room
unfolding line_item whole_item unhex item_in
read_short [] room h = no_item [] room refl
read_short (a ∷ []) room h = no_item (a ∷ []) room refl
read_short (a ∷ b ∷ line) room h = absurd (omega arith)

-- what the digits are said to be
abbrev pub Unhexed : List ℕ → Bool → List ℕ → Type 0
Unhexed line r room = unhex line ≡ cond r (some (take (length line / 2) room)) none

pub read-other : (line room room' : List ℕ) (r : Bool) → r ≡ false → Unhexed line r room' → Read line Bad room
unfolding line_item whole_item
read-other line room room' r f e =
    let q : unhex line ≡ none = rw f at e in
    no_item line room (rw q)

digits-said : (line room : List ℕ) (r : Bool) → r ≡ true → Unhexed line r room → unhex line ≡ some (take (length line / 2) room)
digits-said line room r f e = rw f at e

bytes-long : (line room : List ℕ) → length line ≤ 2 * length room → length (take (length line / 2) room) ≡ length line / 2
bytes-long line room h = length-take-le (length line / 2) room (omega arith)

pub read-longer : (line room : List ℕ) (r : Bool) (i : Item) (n : ℕ) → length line ≤ 2 * length room → r ≡ true → Unhexed line r room
    → i ≡ item_in (take (length line / 2) room) → n ≡ item_length i → (n ≡ length line / 2 → ⊥) → Read line Bad room
unfolding line_item whole_item
read-longer line room r i n h f e q l d =
    let t : eqb (item_length (item_in (take (length line / 2) room))) (length (take (length line / 2) room)) ≡ false =
    ne_eqb (item_length (item_in (take (length line / 2) room))) (length (take (length line / 2) room)) (λ z. d (l ∙ ap item_length q ∙ z ∙ bytes-long line room h)) in
    no_item line room (rw (digits-said line room r f e, t))

pub read_whole : (line room : List ℕ) (r : Bool) (i : Item) (n : ℕ) → length line ≤ 2 * length room → r ≡ true → Unhexed line r room
    → i ≡ item_in (take (length line / 2) room) → n ≡ item_length i → n ≡ length line / 2 → Read line i room
unfolding line_item whole_item line_code
read_whole line room r i n h f e q l d =
    let t : eqb (item_length (item_in (take (length line / 2) room))) (length (take (length line / 2) room)) ≡ true =
    eq-eqb (item_length (item_in (take (length line / 2) room))) (length (take (length line / 2) room)) (sym (ap item_length q) ∙ sym l ∙ d ∙ sym (bytes-long line room h)) in
    let w : i ≡ line_item line = q ∙ sym (rw (digits-said line room r f e, t)) in
    let k : item_length i ≡ length line / 2 = sym l ∙ d in
    cases (is_item i)
    (λ a. (w, (rw (← w, a, digits-said line room r f e, k), rw (a, k) (omega arith))))
    (λ a. (w, (rw (← w, a), rw a (omega arith))))

-- the loop that collects: what holds before each line
pub record Collected (text room₀ room : List ℕ) (used i : ℕ) : Type 0 where
  pub place_ok : i ≤ length text + 1
  pub used_ok : 2 * used ≤ i
  pub same_ok : length room ≡ length room₀
  pub room_ok : length text ≤ 2 * length room₀
  pub whole_is : list_of (lines_from [] text) ≡ take used room ++ list_of (lines_from [] (drop i text))

pub collect-start : (text room : List ℕ) → length text ≤ 2 * length room → Collected text room room 0 0
collect-start text room h = record { place_ok = omega arith; used_ok = omega arith; same_ok = refl; room_ok = h; whole_is = refl }

-- the room with a part of it passed and left as o
pub put-code : (room o code : List ℕ) (used k : ℕ) → used ≤ length room → k ≤ length o → take k o ≡ code
    → take (used + k) (take used room ++ (o ++ drop (length room - used) (drop used room))) ≡ take used room ++ code
put-code room o code used k h l e =
    let b : used + k ≡ length (take used room) + k = omega (arith, length-take-le used room h) in
    ap (λ (n : ℕ). take n (take used room ++ (o ++ drop (length room - used) (drop used room)))) b
    ∙ take-append-add (take used room) (o ++ drop (length room - used) (drop used room)) k
    ∙ ap (λ (l : List ℕ). take used room ++ l) (take-append-le k o (drop (length room - used) (drop used room)) l ∙ e)

pub collect-more : {text room₀ room : List ℕ} {used i : ℕ} (n k : ℕ) (item : Item) (o : List ℕ) → Collected text room₀ room used i → i < length text
    → n ≡ line_length (take (length text - i) (drop i text)) → n ≤ length (take (length text - i) (drop i text))
    → Read (take (i + n - i) (drop i text)) item o → k ≡ code_length item → length o ≡ length (take (length room - used) (drop used room))
    → Collected text room₀ (take used room ++ (o ++ drop (length room - used) (drop used room))) (used + k) (i + n + 1)
unfolding list_of
collect-more {text} {room₀} {room} {used} {i} n k item o f h e m r c l =
    let lo : length o ≡ length room - used = l ∙ rw (rest used room) (length-drop used room) in
    let lt : n ≤ length text - i = rw (rest i text, length-drop i text) at m in
    let ll : length (take (i + n - i) (drop i text)) ≤ n = omega (arith, length-take (i + n - i) (drop i text)) in
    let u : used ≤ length room = omega (arith, f.used_ok, f.place_ok, f.same_ok, f.room_ok) in
    let kk : 2 * k ≤ n = omega (arith, c, r.1.1, ll) in
    record {
      place_ok = omega arith;
      used_ok = omega (arith, f.used_ok);
      same_ok = simp (length-append, length-drop) (omega (arith, length-take-le used room u, f.same_ok));
      room_ok = f.room_ok;
      whole_is =
          f.whole_is ∙ rw (next-line text i n h e, ← append_assoc, put-code room o (line_code (take (i + n - i) (drop i text))) used k u (omega (arith, f.used_ok, f.same_ok, f.room_ok)) (ap (λ (x : ℕ). take x o) c ∙ r.1.0));
    }

pub collect-all : {text room₀ room : List ℕ} {used i : ℕ} → Collected text room₀ room used i → length text ≤ i → take used room ≡ list_of (lines_from [] text)
unfolding list_of
collect-all {text} {room₀} {room} {used} {i} f h = sym (f.whole_is ∙ rw (no_line text i h) (append-nil (take used room)))
