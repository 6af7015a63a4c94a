-- The loop that prints: what holds before each line. Assumes nothing.
use mathlib.Core.Path.{◌≡◌, refl, sym, ap, ◌∙◌}
use mathlib.Core.List.{List, [], ◌++◌, append_assoc}
use Prim.Native.Nat.{ℕ, ◌+◌, ◌*◌, ◌-◌, ◌≤◌, ◌<◌}
use native.Mathlib.Omega.{arith}
use lib.ListN.{length, take, drop, length-take}
use lib.Seq.{drop-drop}
use Rattle.lists.proofs.Parts.{length-into}
use Rattle.carttrace_lib.specs.Trace.{lines_from}
use Rattle.call_list.specs.declared.Item.{Item}
use Rattle.call_list.specs.Items.{item_room, ending_room}
use Rattle.cuttrace_lib.specs.Lines.{line_length, line_item}
use Rattle.cuttrace_lib.specs.Printing.{Shows, item_text, ending_text, lines_text, lines_room}
use Rattle.cuttrace_lib.proofs.Texts.{next-line, no_line, part-long}
use Rattle.cuttrace_lib.proofs.Answers.{shows, shows-none, shown-behind, item-short, ending-part}

-- front: the text of the lines before place i
pub record Printed (text : List ℕ) (m : ℕ) (answers room₀ out₀ room out : List ℕ) (len at i : ℕ) : Type 0 where
  pub front : List ℕ
  pub place_ok : i ≤ length text + 1
  pub len_ok : len ≤ 2 * at + 3 * i
  pub at_ok : at + (lines_room (lines_from [] (drop i text)) + ending_room m) ≤ length answers
  pub same_ok : length room ≡ length room₀
  pub room_ok : length text ≤ 2 * length room₀
  pub out_ok : 2 * length answers + 3 * length text + 9 ≤ length out₀
  pub shown_ok : Shows front len out out₀
  pub whole_is : lines_text m (lines_from [] text) answers ≡ front ++ lines_text m (lines_from [] (drop i text)) (drop at answers)

pub print-start : (text : List ℕ) (m : ℕ) (answers room out : List ℕ) → length text ≤ 2 * length room → lines_room (lines_from [] text) + ending_room m ≤ length answers
    → 2 * length answers + 3 * length text + 9 ≤ length out → Printed text m answers room out room out 0 0 0
print-start text m answers room out h k l =
    record { front = []; place_ok = omega arith; len_ok = omega arith; at_ok = omega arith; same_ok = refl; room_ok = h; out_ok = l; shown_ok = shows-none out refl; whole_is = refl }

pub out-length : {text : List ℕ} {m : ℕ} {answers room₀ out₀ room out : List ℕ} {len at i : ℕ} → Printed text m answers room₀ out₀ room out len at i → length out ≡ length out₀
out-length {out₀ = out₀} f =
    ap length f.shown_ok.1 ∙ length-into f.front out₀ (omega (arith, f.shown_ok.0, f.len_ok, f.at_ok, f.place_ok, f.out_ok))

-- the answer to the line at place i is within the answers
pub here-fits : {text : List ℕ} {m : ℕ} {answers room₀ out₀ room out : List ℕ} {len at i : ℕ} (n : ℕ) (item : Item) → Printed text m answers room₀ out₀ room out len at i
    → i < length text → n ≡ line_length (take (length text - i) (drop i text)) → item ≡ line_item (take (i + n - i) (drop i text))
    → at + (item_room item + lines_room (lines_from [] (drop (i + n + 1) text)) + ending_room m) ≤ length answers
unfolding lines_room
here-fits {text} {i = i} n item f h e q = rw (next-line text i n h e, ← q) at f.at_ok

pub print-more : {text : List ℕ} {m : ℕ} {answers room₀ out₀ room out : List ℕ} {len at i : ℕ} (n k : ℕ) (item : Item) (room' o : List ℕ) (p : ℕ)
    → Printed text m answers room₀ out₀ room out len at i → i < length text → n ≡ line_length (take (length text - i) (drop i text))
    → n ≤ length (take (length text - i) (drop i text)) → item ≡ line_item (take (i + n - i) (drop i text)) → k ≡ item_room item → length room' ≡ length room
    → Shows (item_text item (take (at + k - at) (drop at answers))) p o (take (length out - len) (drop len out))
    → Printed text m answers room₀ out₀ room' (take len out ++ (o ++ drop (length out - len) (drop len out))) (len + p) (at + k) (i + n + 1)
unfolding lines_text
print-more {text} {m} {answers} {room₀} {out₀} {room} {out} {len} {at} {i} n k item room' o p f h e l q c s w =
    let d : at + k - at ≡ k = omega arith in
    let answer = take (at + k - at) (drop at answers) in
    let z : length answer ≤ k = omega (arith, length-take (at + k - at) (drop at answers)) in
    let lines = lines_from [] (drop (i + n + 1) text) in
    let fits = here-fits n item f h e q in
    let place = part-long text i in
    record {
      front = f.front ++ item_text item answer;
      place_ok = omega (arith, l, place);
      len_ok = omega (arith, f.len_ok, w.0, item-short item answer, z);
      at_ok = omega (arith, fits, c);
      same_ok = s ∙ f.same_ok;
      room_ok = f.room_ok;
      out_ok = f.out_ok;
      shown_ok = shown-behind f.front (item_text item answer) out₀ out o len p (omega (arith, f.len_ok, f.at_ok, f.out_ok, h)) f.shown_ok w;
      whole_is =
          f.whole_is ∙ rw (next-line text i n h e, ← q, ← c, drop-drop k at answers, d) (sym (append_assoc f.front (item_text item (take k (drop at answers))) (lines_text m lines (drop (at + k) answers))));
    }

-- after the last line, the ending
pub print-all : {text : List ℕ} {m : ℕ} {answers room₀ out₀ room out : List ℕ} {len at i : ℕ} (n : ℕ) (o : List ℕ) (p : ℕ) → Printed text m answers room₀ out₀ room out len at i
    → length text ≤ i → n ≡ ending_room m → Shows (ending_text m (take (at + n - at) (drop at answers))) p o (take (length out - len) (drop len out))
    → Shows (lines_text m (lines_from [] text) answers) (len + p) (take len out ++ (o ++ drop (length out - len) (drop len out))) out₀
unfolding lines_text
print-all {text} {m} {answers} {room₀} {out₀} {room} {out} {len} {at} {i} n o p f h k w =
    let d : at + n - at ≡ ending_room m = omega arith in
    let e : lines_text m (lines_from [] text) answers ≡ f.front ++ ending_text m (take (at + n - at) (drop at answers)) =
    f.whole_is ∙ rw (no_line text i h, d, ending-part m (drop at answers)) in
    let s = shown-behind f.front (ending_text m (take (at + n - at) (drop at answers))) out₀ out o len p (omega (arith, f.len_ok, f.at_ok, f.out_ok, f.place_ok)) f.shown_ok w in
    shows out₀ e s.0 s.1
