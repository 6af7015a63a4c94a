-- What a survey says of the whole list. Assumes nothing.
use mathlib.Core.Path.{◌≡◌, refl, sym, ap, ◌∙◌}
use mathlib.Core.Bool.{true, false, ◌&&◌, ◌||◌, and-true, and_assoc, or-false, or_assoc}
use mathlib.Core.List.{List, [], ◌∷◌}
use Prim.Native.Nat.{ℕ, ◌+◌, ◌-◌, ◌<◌}
use native.Mathlib.Omega.{arith}
use lib.Dec.{leb}
use lib.ListN.{length, take, drop}
use borrow.Author.Tests.{leb-true, leb-false, le-leb, lt-leb}
use Rattle.lists.proofs.Bools.{cases}
use Rattle.lists.proofs.Parts.{rest}
use Rattle.std.specs.Prelude.{Option, None, Some}
use Rattle.call_list.specs.declared.Item.{Item}
use Rattle.call_list.specs.declared.Survey.{Survey}
use Rattle.call_list.specs.Items.{Place, item_in, item_length, item_room, is_item, is_write, items, good, byte_writes, room}
use Rattle.call_list.specs.Surveys.{survey_with, left_after, surveyed, surveyed_all}
use Rattle.call_list.proofs.Places.{first-item}

-- a turn of the loop over what is left of the list, and its end
pub survey-more : (l : List ℕ) (n : ℕ) (item : Item) (s t whole : Survey) → 0 < length l → item ≡ item_in l → n ≡ item_length item
    → t ≡ surveyed s item → whole ≡ surveyed_all s (items 0 l) → whole ≡ surveyed_all t (items 0 (take (length l - n) (drop n l)))
unfolding surveyed_all
survey-more l n item s t whole h e k f w = rw (rest n l, f, k, e) (w ∙ ap (surveyed_all s) (first-item l h))

pub survey-end : (l : List ℕ) (s whole : Survey) → length l ≡ 0 → whole ≡ surveyed_all s (items 0 l) → s ≡ whole
unfolding surveyed_all items
survey-end [] s whole h e = sym e
survey-end (b ∷ l) s whole h e = absurd (omega arith)

-- what it says of the list
survey-good : (s : Survey) (list : List Place) → (surveyed_all s list).good ≡ (s.good && good list)
unfolding surveyed_all surveyed good
survey-good s [] = sym (and-true s.good)
survey-good s (p ∷ list) = survey-good (surveyed s p.item) list ∙ and_assoc s.good (is_item p.item) (good list)

survey-writes : (s : Survey) (list : List Place) → (surveyed_all s list).writes ≡ (s.writes || byte_writes list)
unfolding surveyed_all surveyed byte_writes
survey-writes s [] = sym (or-false s.writes)
survey-writes s (p ∷ list) = survey-writes (surveyed s p.item) list ∙ or_assoc s.writes (is_write p.item) (byte_writes list)

twice : (o : Option ℕ) (a b : ℕ) → left_after (left_after o a) b ≡ left_after o (a + b)
twice None a b = refl
twice (Some r) a b =
    cases (leb (a + b) r)
    (λ t.
    let h = leb-true (a + b) r t in
    let e : r - a - b ≡ r - (a + b) = omega (arith, h) in
    rw (t, le-leb a r (omega (arith, h)), le-leb b (r - a) (omega (arith, h)), e))
    (λ t.
    let h = leb-false (a + b) r t in
    cases (leb a r) (λ f. let k = leb-true a r f in rw (t, f, lt-leb b (r - a) (omega (arith, h, k)))) (λ f. rw (t, f)))

none_more : (o : Option ℕ) → o ≡ left_after o 0
none_more None = refl
none_more (Some r) = let e : r ≡ r - 0 = omega arith in rw (le-leb 0 r (omega arith)) (ap Some e)

survey-left : (s : Survey) (list : List Place) → (surveyed_all s list).left ≡ left_after s.left (room list)
unfolding surveyed_all surveyed room
survey-left s [] = none_more s.left
survey-left s (p ∷ list) = survey-left (surveyed s p.item) list ∙ twice s.left (item_room p.item) (room list)

pub survey-said : (s : Survey) (list : List Place) (o : Option ℕ) → s ≡ surveyed_all (survey_with true false o) list
    → (s.good ≡ good list) × (s.writes ≡ byte_writes list) × (s.left ≡ left_after o (room list))
survey-said s list o e =
    let whole = survey_with true false o in
    ((λ i. (e i).good) ∙ survey-good whole list, (λ i. (e i).writes) ∙ survey-writes whole list, (λ i. (e i).left) ∙ survey-left whole list)
