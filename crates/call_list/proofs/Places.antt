-- Where the items of a list are. Assumes nothing.
use mathlib.Core.Path.{◌≡◌, refl, ap, ◌∙◌}
use mathlib.Core.List.{List, [], ◌∷◌}
use Prim.Native.Nat.{ℕ, zero, suc, ◌+◌, ◌-◌, ◌≤◌, ◌<◌}
use native.Mathlib.Omega.{arith}
use lib.Dec.{eqb, leb}
use lib.ListN.{length, get_or, drop, length-drop}
use lib.Seq.{drop-drop}
use borrow.Author.Tests.{leb-true}
use Rattle.lists.proofs.Bools.{split, either}
use Rattle.call_list.specs.declared.Item.{Item}
use Rattle.call_list.specs.declared.Item.TheVariants.{SaveRead, SaveWrite, EepromRead, EepromWrite, BeginDma, TakeFlag, ChipState, LoadSave, SaveData, Cut, Bad}
use Rattle.call_list.specs.Items.{Place, high16, high32, within, item_in, item_length, item_room, items}

-- an item ends within the list, and its answer is at most a number, a length and as many bytes as four bytes say
abbrev Small : List ℕ → Item → Type 0
Small l i = high32 l < 4294967296 → item_room i ≤ 4294967300

abbrev Stands : List ℕ → Item → Type 0
Stands l i = (item_length i ≤ length l) × Small l i

stands-within : (l : List ℕ) (i : Item) → 0 < length l → Small l i → Stands l (within (item_length i) l i)
stands-within l i h s =
    split (Stands l) (leb (item_length i) (length l)) (λ t. (leb-true (item_length i) (length l) t, s)) (λ _. (h, λ _. omega arith))

stands-in : (l : List ℕ) → 0 < length l → Stands l (item_in l)
unfolding item_in
stands-in l h =
    let tag = get_or l 0 0 in
    either (Stands l) (eqb tag 1) (stands-within l (SaveRead (high32 l)) h (λ _. omega arith))
    (either (Stands l) (eqb tag 2) (stands-within l (SaveWrite (high32 l) (get_or l 5 0)) h (λ _. omega arith))
    (either (Stands l) (eqb tag 3) (h, λ _. omega arith)
    (either (Stands l) (eqb tag 4) (stands-within l (EepromWrite (high16 l)) h (λ _. omega arith))
    (either (Stands l) (eqb tag 5) (stands-within l (BeginDma (high16 l)) h (λ _. omega arith))
    (either (Stands l) (eqb tag 6) (h, λ _. omega arith)
    (either (Stands l) (eqb tag 7) (h, λ _. omega arith)
    (either (Stands l) (eqb tag 8) (stands-within l (LoadSave (high32 l)) h (λ _. omega arith))
    (either (Stands l) (eqb tag 9) (stands-within l (SaveData (high32 l)) h (λ b. omega (arith, b)))
    (either (Stands l) (eqb tag 10) (h, λ _. omega arith) (h, λ _. omega arith))))))))))

pub takes-some : (i : Item) → 0 < item_length i
takes-some (SaveRead a) = omega arith
takes-some (SaveWrite a v) = omega arith
takes-some EepromRead = omega arith
takes-some (EepromWrite v) = omega arith
takes-some (BeginDma words) = omega arith
takes-some TakeFlag = omega arith
takes-some ChipState = omega arith
takes-some (LoadSave n) = omega arith
takes-some (SaveData n) = omega arith
takes-some Cut = omega arith
takes-some Bad = omega arith

pub item-fits : (l : List ℕ) → 0 < length l → (item_length (item_in l) ≤ length l) × (0 < item_length (item_in l))
item-fits l h = ((stands-in l h).0, takes-some (item_in l))

-- what the code says of an item that it found in bytes
pub decoded : (l : List ℕ) (i : Item) → 0 < length l → ((k : ℕ) → get_or l k 0 < 256) → i ≡ item_in l
    → (item_length i ≤ length l) × (item_room i ≤ 4294967300)
decoded l i h b e = rw e ((stands-in l h).0, (stands-in l h).1 (omega (arith, b 1, b 2, b 3, b 4)))

passed : (k : ℕ) (l : List ℕ) → items k l ≡ items 0 (drop k l)
unfolding items
passed zero l = refl
passed (suc k) [] = refl
passed (suc k) (b ∷ l) = passed k l

behind : (b : ℕ) (l : List ℕ) (n : ℕ) → 0 < n → drop (n - 1) l ≡ drop n (b ∷ l)
behind b l zero h = absurd (omega arith)
behind b l (suc n) h = let e : suc n - 1 ≡ n = omega arith in rw e

pub first-item : (l : List ℕ) → 0 < length l → items 0 l ≡ (record { item = item_in l; bytes = l } ∷ items 0 (drop (item_length (item_in l)) l))
unfolding items
first-item [] h = absurd (omega arith)
first-item (b ∷ l) h =
    let i = item_in (b ∷ l) in
    let here : Place = record { item = i; bytes = b ∷ l } in
    ap (λ (ps : List Place). here ∷ ps)
    (passed (item_length i - 1) l ∙ ap (λ (r : List ℕ). items 0 r) (behind b l (item_length i) (takes-some i)))

-- at any place before the end is an item, and after it the others
pub next-item : (l : List ℕ) (i : ℕ) → i < length l
    → items 0 (drop i l) ≡ (record { item = item_in (drop i l); bytes = drop i l } ∷ items 0 (drop (i + item_length (item_in (drop i l))) l))
next-item l i h =
    let here : Place = record { item = item_in (drop i l); bytes = drop i l } in
    first-item (drop i l) (simp length-drop (omega arith))
    ∙ ap (λ (r : List ℕ). here ∷ items 0 r) (drop-drop (item_length (item_in (drop i l))) i l)
