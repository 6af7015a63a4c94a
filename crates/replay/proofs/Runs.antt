-- The loop over a list: what holds before each item. Assumes nothing.
use mathlib.Core.Path.{◌≡◌, refl, sym, ap, subst, ◌∙◌}
use mathlib.Core.Bool.{Bool, true, false, ◌&&◌, ◌||◌}
use mathlib.Core.List.{List, [], ◌∷◌, ◌++◌, append-nil, append_assoc}
use Prim.Native.Nat.{ℕ, ◌+◌, ◌-◌, ◌≤◌, ◌<◌}
use native.Mathlib.Omega.{arith}
use lib.ListN.{length, take, drop, length-append, length-drop}
use lib.Seq.{drop-length}
use Rattle.lists.specs.Lists.{into}
use Rattle.lists.specs.Questions.{asked}
use Rattle.lists.proofs.Parts.{into_more, length-into}
use Rattle.kind.specs.Kind.{uses_eeprom, detect_save_type}
use Rattle.part.specs.Part.{part_of, number_fits}
use Rattle.cart.specs.declared.Cartridge.{Cartridge}
use Rattle.cart.specs.Record.{State, open_questions, fresh}
use Rattle.cart.specs.Replies.{state, tallied}
use Rattle.cart.proofs.Recoverable.{Recoverable}
use Rattle.call_list.specs.declared.Item.{Item}
use Rattle.call_list.specs.Items.{Place, item_in, item_length, item_room, ending_room, items, is_write, byte_writes, room}
use Rattle.call_list.proofs.Places.{next-item, item-fits}
use Rattle.replay.specs.Replay.{Answered, answered, play, play_all, ending, not_cut, cut_at, shown_by, uncut_run, left}
use Rattle.replay.proofs.Same.{part-stands, fresh-stands, plays-same, plays-on, ending-apart}

-- the items from byte i on
abbrev pub items_from : ℕ → List ℕ → List Place
items_from i list = items 0 (drop i list)

-- what was answered before, and what comes after it
abbrev behind : List ℕ → Answered → Answered
behind front a = answered (front ++ a.bytes) a.next

-- front: the answers of the items before byte i
pub record Ran (image : List ℕ) (part : ℕ) (list m₀ ts₀ scratch₀ out₀ m ts scratch out : List ℕ) (cart : Cartridge) (at i : ℕ) : Type 0 where
  pub front : List ℕ
  pub place_ok : i ≤ length list
  pub at_is : at ≡ length front
  pub room_ok : at + room (items_from i list) + ending_room (length m) ≤ length out₀
  pub out_is : out ≡ into front out₀
  pub memory_ok : length m ≡ length m₀
  pub tallies_ok : length ts ≡ length ts₀
  pub scratch_ok : length scratch ≡ length scratch₀
  pub writes_ok : byte_writes (items_from i list) && uses_eeprom (detect_save_type image) ≡ false
  pub part_ok : number_fits part (detect_save_type image) ≡ true
  pub stands : Recoverable image part (tallied cart m ts)
  pub whole_is : play_all not_cut (items 0 list) (fresh image (part_of part)) ≡ behind front (play_all not_cut (items_from i list) (tallied cart m ts))

pub ran-start : (image : List ℕ) (part : ℕ) (list m ts scratch out : List ℕ) (cart : Cartridge) → tallied cart m ts ≡ fresh image (part_of part) → asked (open_questions image part m ts) ≡ 0
    → byte_writes (items 0 list) && uses_eeprom (detect_save_type image) ≡ false → room (items 0 list) + ending_room (length m) ≤ length out
    → Ran image part list m ts scratch out m ts scratch out cart 0 0
unfolding into
ran-start image part list m ts scratch out cart e q w h =
    record {
      front = [];
      place_ok = omega arith;
      at_is = refl;
      room_ok = omega (arith, h);
      out_is = refl;
      memory_ok = refl;
      tallies_ok = refl;
      scratch_ok = refl;
      writes_ok = w;
      part_ok = part-stands image part m ts q;
      stands = rw e (fresh-stands image part m ts q);
      whole_is = ap (play_all not_cut (items 0 list)) (sym e);
    }

-- an answer, put after those before it
put-piece : (front o out₀ out : List ℕ) (at n : ℕ) → at ≡ length front → at ≤ length out₀ → out ≡ into front out₀ → length o ≡ n
    → take at out ++ (o ++ drop n (drop at out)) ≡ into (front ++ o) out₀
unfolding into
put-piece front o out₀ out at n l k e z = rw (sym z, e) (unfold into in into_more front o out₀ at l k)

pub both_false : (a b e : Bool) → (a || b) && e ≡ false → (a && e ≡ false) × (b && e ≡ false)
both_false true true e h = (h, h)
both_false true false e h = (h, refl)
both_false false b e h = (refl, h)

pub writes_more : (p : Place) (list : List Place) (e : Bool) → byte_writes (p ∷ list) && e ≡ false → (is_write p.item || byte_writes list) && e ≡ false
unfolding byte_writes
writes_more p list e h = h

room-more : (p : Place) (list : List Place) → room (p ∷ list) ≡ item_room p.item + room list
unfolding room
room-more p list = refl

played-more : (front : List ℕ) (p : Place) (list : List Place) (t : State) → let q = play not_cut p.item p.bytes t in
    behind front (play_all not_cut (p ∷ list) t) ≡ behind (front ++ q.bytes) (play_all not_cut list q.next)
unfolding play_all
played-more front p list t =
    let q = play not_cut p.item p.bytes t in
    let a = play_all not_cut list q.next in
    ap (λ (l : List ℕ). answered l a.next) (sym (append_assoc front q.bytes a.bytes))

module _ {image : List ℕ} {part : ℕ} {list m₀ ts₀ scratch₀ out₀ m ts scratch out : List ℕ} {cart : Cartridge} {at i : ℕ} (r : Ran image part list m₀ ts₀ scratch₀ out₀ m ts scratch out cart at i) where
  pub out-length : length out ≡ length out₀
  out-length = ap length r.out_is ∙ length-into r.front out₀ (omega (arith, r.at_is, r.room_ok))

  here-and-more : i < length list → (item : Item) → item ≡ item_in (drop i list) → (k : ℕ) → k ≡ item_length item
      → items_from i list ≡ record { item = item; bytes = drop i list } ∷ items_from (i + k) list
  here-and-more h item e k a =
      let w : item_length (item_in (drop i list)) ≡ k = ap item_length (sym e) ∙ sym a in
      next-item list i h ∙ (λ j. record { item = sym e j; bytes = drop i list } ∷ items_from (i + w j) list)

  -- there is room for what it answers, and for the ending
  pub has_room : i < length list → (item : Item) → item ≡ item_in (drop i list) → at + item_room item + ending_room (length m) ≤ length out₀
  has_room h item e =
      let g : room (items_from i list) ≡ item_room item + room (items_from (i + item_length item) list) =
      ap room (here-and-more h item e (item_length item) refl) ∙ room-more (record { item = item; bytes = drop i list }) (items_from (i + item_length item) list) in
      omega (arith, r.room_ok, g)

  -- an item: o is what it answers, stored from `at` on
  pub goes_on : i < length list → (item : Item) → item ≡ item_in (drop i list) → (n k : ℕ) → n ≡ item_room item → k ≡ item_length item → {m' ts' scratch' o out' : List ℕ} {cart' : Cartridge}
      → ◌≡◌ {A = State × List ℕ} (tallied cart' m' ts', o) (left (play (cut_at image part) item (drop i list) (tallied cart m ts)))
      → length o ≡ n → length m' ≡ length m → length ts' ≡ length ts → length scratch' ≡ length scratch → out' ≡ take at out ++ (o ++ drop n (drop at out))
      → Ran image part list m₀ ts₀ scratch₀ out₀ m' ts' scratch' out' cart' (at + n) (i + k)
  goes_on h item y' n k z a {m'} {ts'} {scratch'} {o} {out'} {cart'} e l lm lt ls d =
      let s : State = tallied cart m ts in
      let more : List Place = items_from (i + k) list in
      let here : Place = record { item = item; bytes = drop i list } in
      let x : items_from i list ≡ here ∷ more = here-and-more h item y' k a in
      let w = both_false (is_write item) (byte_writes more) (uses_eeprom (detect_save_type image)) (writes_more here more (uses_eeprom (detect_save_type image)) (ap (λ (ps : List Place). byte_writes ps && uses_eeprom (detect_save_type image)) (sym x) ∙ r.writes_ok)) in
      let q : Answered = play not_cut item (drop i list) s in
      let y = e ∙ ap left (plays-same image part s r.stands r.part_ok item (drop i list)) in
      let b : o ≡ q.bytes = λ j. (y j).1 in
      let x' : tallied cart' m' ts' ≡ q.next = λ j. (y j).0 in
      let g : room (items_from i list) ≡ item_room item + room more = ap room x ∙ room-more here more in
      let f : length (drop i list) ≡ length list - i = length-drop i list in
      let v = item-fits (drop i list) (omega (arith, f, h)) in
      let u : item_length item ≡ item_length (item_in (drop i list)) = ap item_length y' in
      record {
        front = r.front ++ q.bytes;
        place_ok = omega (arith, u, v.0, f, h, a);
        at_is = omega (arith, r.at_is, length-append r.front q.bytes, l, ap length b);
        room_ok = omega (arith, r.room_ok, g, z, lm);
        out_is =
            d ∙ put-piece r.front o out₀ out at n r.at_is (omega (arith, r.room_ok)) r.out_is l
            ∙ ap (λ (bs : List ℕ). into (r.front ++ bs) out₀) b;
        memory_ok = lm ∙ r.memory_ok;
        tallies_ok = lt ∙ r.tallies_ok;
        scratch_ok = ls ∙ r.scratch_ok;
        writes_ok = w.1;
        part_ok = r.part_ok;
        stands = subst (Recoverable image part) (sym x') (plays-on image part s r.stands item (drop i list) w.0);
        whole_is =
            r.whole_is ∙ ap (λ (ps : List Place). behind r.front (play_all not_cut ps s)) x ∙ played-more r.front here more s
            ∙ ap (λ (z : State). behind (r.front ++ q.bytes) (play_all not_cut more z)) (sym x');
      }

  -- what comes after the last item
  pub ends : length list ≤ i → (n : ℕ) {o out' : List ℕ} → o ≡ ending (state cart m) → length o ≡ n → out' ≡ take at out ++ (o ++ drop n (drop at out))
      → ◌≡◌ {A = List ℕ × List ℕ} (m, out') (shown_by (uncut_run (items 0 list) (fresh image (part_of part))) out₀)
  unfolding uncut_run play_all items
  ends h n {o} {out'} e l d =
      let y : i ≡ length list = omega (arith, h, r.place_ok) in
      let z : drop i list ≡ [] = ap (λ (k : ℕ). drop k list) y ∙ drop-length list in
      let s : State = tallied cart m ts in
      let w : play_all not_cut (items 0 list) (fresh image (part_of part)) ≡ answered r.front s =
      r.whole_is ∙ (λ j. behind r.front (play_all not_cut (items 0 (z j)) s)) ∙ (λ j. answered (append-nil r.front j) s) in
      let t : o ≡ ending s = e ∙ sym (ending-apart ts (state cart m)) in
      let g : out' ≡ into (r.front ++ ending s) out₀ =
      d ∙ put-piece r.front o out₀ out at n r.at_is (omega (arith, r.room_ok)) r.out_is l ∙ ap (λ (bs : List ℕ). into (r.front ++ bs) out₀) t in
      (λ j. (m, g j)) ∙ (λ j. shown_by (answered ((sym w j).bytes ++ ending (sym w j).next) (sym w j).next) out₀)
