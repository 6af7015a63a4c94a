-- Where the items of a list made of lines are, and how much they answer. Assumes nothing.
use mathlib.Core.Path.{◌≡◌, refl, sym, ap, ◌∙◌}
use mathlib.Core.Bool.{true, false}
use mathlib.Core.List.{List, [], ◌∷◌, ◌++◌}
use mathlib.Core.Option.{Option, none, some}
use Prim.Native.Nat.{ℕ, ◌+◌, ◌≤◌}
use native.Mathlib.Nat.{zero-add}
use native.Mathlib.Omega.{arith}
use lib.Dec.{eqb, leb}
use lib.ListN.{length, get_or, drop, length-append, get_or-append}
use lib.Seq.{drop_at}
use borrow.Author.Tests.{leb-true, le-leb, eqb-true}
use Rattle.lists.proofs.Bools.{cases}
use Rattle.memory.specs.Memory.{erased}
use Rattle.memory.proofs.Memory.{length-erased}
use Rattle.call_list.specs.declared.Item.{Item}
use Rattle.call_list.specs.declared.Item.TheVariants.{SaveRead, SaveWrite, EepromRead, EepromWrite, BeginDma, TakeFlag, ChipState, LoadSave, SaveData, Cut, Bad}
use Rattle.call_list.specs.Items.{Place, high16, high32, within, item_in, item_length, item_room, is_item, items, room}
use Rattle.call_list.proofs.Places.{next-item, takes-some}
use Rattle.kind.specs.declared.SaveType.{SaveType}
use Rattle.kind.specs.declared.SaveType.TheVariants.{None, Sram, Flash64, Flash128, Eeprom512, Eeprom8k}
use Rattle.cuttrace_lib.specs.Lines.{unhex, whole_item, line_item, line_code, list_of, or_none}
use Rattle.cuttrace_lib.specs.Printing.{lines_room}
use Rattle.cuttrace_lib.specs.Setup.{prelude, prelude_room}

never : {P : Type 0} → true ≡ false → P
never e = let z : ◌≡◌ {A = ℕ} 0 1 = cc in absurd (omega arith)

within-stays : (n : ℕ) (l r : List ℕ) (x y : Item) → is_item (within n l x) ≡ true → (n ≤ length l → y ≡ x) → within n (l ++ r) y ≡ within n l x
within-stays n l r x y e f =
    cases (leb n (length l))
    (λ t.
    let h = leb-true n (length l) t in
    rw (t, le-leb n (length (l ++ r)) (omega (arith, length-append l r, h))) (f h))
    (λ t. never (sym (rw t at e)))

high16-stays : (l r : List ℕ) → 3 ≤ length l → high16 (l ++ r) ≡ high16 l
high16-stays l r h = rw (get_or-append l r 0 1 (omega arith), get_or-append l r 0 2 (omega arith))

high32-stays : (l r : List ℕ) → 5 ≤ length l → high32 (l ++ r) ≡ high32 l
high32-stays l r h =
    rw (get_or-append l r 0 1 (omega arith), get_or-append l r 0 2 (omega arith), get_or-append l r 0 3 (omega arith), get_or-append l r 0 4 (omega arith))

load-stays : (l r : List ℕ) → is_item (within (5 + high32 l) l (LoadSave (high32 l))) ≡ true
    → within (5 + high32 (l ++ r)) (l ++ r) (LoadSave (high32 (l ++ r))) ≡ within (5 + high32 l) l (LoadSave (high32 l))
load-stays l r e =
    cases (leb (5 + high32 l) (length l))
    (λ t.
    ap (λ (x : ℕ). within (5 + x) (l ++ r) (LoadSave x)) (high32-stays l r (omega (arith, leb-true (5 + high32 l) (length l) t)))
    ∙ within-stays (5 + high32 l) l r (LoadSave (high32 l)) (LoadSave (high32 l)) e (λ _. refl))
    (λ t. never (sym (rw t at e)))

-- an item stays what it is, whatever comes after it
item-stays : (l r : List ℕ) → is_item (item_in l) ≡ true → item_in (l ++ r) ≡ item_in l
unfolding item_in
item-stays [] r e = never (sym e)
item-stays (b ∷ t) r e =
    let l = b ∷ t in
    cases (eqb b 1)
    (λ t1. rw t1 (within-stays 5 l r (SaveRead (high32 l)) (SaveRead (high32 (l ++ r))) (rw t1 at e) (λ h. ap SaveRead (high32-stays l r h))))
    (λ f1. cases (eqb b 2)
    (λ t2. rw (f1, t2) (within-stays 6 l r (SaveWrite (high32 l) (get_or l 5 0)) (SaveWrite (high32 (l ++ r)) (get_or (l ++ r) 5 0)) (rw (f1, t2) at e) (λ h. λ i. SaveWrite (high32-stays l r (omega arith) i) (get_or-append l r 0 5 (omega arith) i))))
    (λ f2. cases (eqb b 3)
    (λ t3. rw (f1, f2, t3))
    (λ f3. cases (eqb b 4)
    (λ t4. rw (f1, f2, f3, t4) (within-stays 3 l r (EepromWrite (high16 l)) (EepromWrite (high16 (l ++ r))) (rw (f1, f2, f3, t4) at e) (λ h. ap EepromWrite (high16-stays l r h))))
    (λ f4. cases (eqb b 5)
    (λ t5. rw (f1, f2, f3, f4, t5) (within-stays 3 l r (BeginDma (high16 l)) (BeginDma (high16 (l ++ r))) (rw (f1, f2, f3, f4, t5) at e) (λ h. ap BeginDma (high16-stays l r h))))
    (λ f5. cases (eqb b 6)
    (λ t6. rw (f1, f2, f3, f4, f5, t6))
    (λ f6. cases (eqb b 7)
    (λ t7. rw (f1, f2, f3, f4, f5, f6, t7))
    (λ f7. cases (eqb b 8)
    (λ t8. rw (f1, f2, f3, f4, f5, f6, f7, t8) (load-stays l r (rw (f1, f2, f3, f4, f5, f6, f7, t8) at e)))
    (λ f8. cases (eqb b 9)
    (λ t9. rw (f1, f2, f3, f4, f5, f6, f7, f8, t9) (within-stays 5 l r (SaveData (high32 l)) (SaveData (high32 (l ++ r))) (rw (f1, f2, f3, f4, f5, f6, f7, f8, t9) at e) (λ h. ap SaveData (high32-stays l r h))))
    (λ f9. rw (f1, f2, f3, f4, f5, f6, f7, f8, f9))))))))))

-- the place of bytes that are exactly one item
abbrev placed : List ℕ → List ℕ → Place
placed code rest = record { item = item_in code; bytes = code ++ rest }

code_items : (code rest : List ℕ) → is_item (item_in code) ≡ true → length code ≡ item_length (item_in code) → items 0 (code ++ rest) ≡ (placed code rest ∷ items 0 rest)
code_items code rest e l =
    let s = item-stays code rest e in
    let d : drop (0 + item_length (item_in (code ++ rest))) (code ++ rest) ≡ rest =
    ap (λ (n : ℕ). drop n (code ++ rest)) (zero-add (item_length (item_in (code ++ rest))) ∙ ap item_length s) ∙ drop_at code rest (item_length (item_in code)) l in
    next-item (code ++ rest) 0 (omega (arith, length-append code rest, l, takes-some (item_in code)))
    ∙ (λ j. record { item = s j; bytes = code ++ rest } ∷ items 0 (d j))

-- a line's bytes are its item
whole_code : (o : Option (List ℕ)) → is_item (whole_item o) ≡ true → (item_in (or_none o) ≡ whole_item o) × (length (or_none o) ≡ item_length (whole_item o))
unfolding whole_item
whole_code none e = never (sym e)
whole_code (some bytes) e =
    cases (eqb (item_length (item_in bytes)) (length bytes))
    (λ t. rw t (refl, sym (eqb-true (item_length (item_in bytes)) (length bytes) t)))
    (λ t. never (sym (rw t at e)))

line_code_lem : (line : List ℕ) → is_item (line_item line) ≡ true → (item_in (line_code line) ≡ line_item line) × (length (line_code line) ≡ item_length (line_item line))
unfolding line_code line_item
line_code_lem line e = rw e (whole_code (unhex line) e)

line-items : (line rest : List ℕ) → is_item (line_item line) ≡ true
    → items 0 (line_code line ++ rest) ≡ (record { item = line_item line; bytes = line_code line ++ rest } ∷ items 0 rest)
line-items line rest e =
    let k = line_code_lem line e in
    let t : is_item (item_in (line_code line)) ≡ true = ap is_item k.0 ∙ e in
    code_items (line_code line) rest t (k.1 ∙ ap item_length (sym k.0))
    ∙ (λ j. record { item = k.0 j; bytes = line_code line ++ rest } ∷ items 0 rest)

no_code : (line : List ℕ) → is_item (line_item line) ≡ false → line_code line ≡ []
unfolding line_code
no_code line e = rw e

bad-item : (i : Item) → is_item i ≡ false → i ≡ Bad
bad-item (SaveRead a) e = never e
bad-item (SaveWrite a v) e = never e
bad-item EepromRead e = never e
bad-item (EepromWrite v) e = never e
bad-item (BeginDma words) e = never e
bad-item TakeFlag e = never e
bad-item ChipState e = never e
bad-item (LoadSave n) e = never e
bad-item (SaveData n) e = never e
bad-item Cut e = never e
bad-item Bad e = refl

-- what the answers take
lines-room : (lines : List (List ℕ)) → room (items 0 (list_of lines)) ≡ lines_room lines
unfolding list_of lines_room items room
lines-room [] = refl
lines-room (line ∷ lines) =
    cases (is_item (line_item line))
    (λ t. ap room (line-items line (list_of lines) t) ∙ ap (λ (n : ℕ). item_room (line_item line) + n) (lines-room lines))
    (λ t. rw (no_code line t, bad-item (line_item line) t) (lines-room lines ∙ sym (zero-add (lines_room lines))))

load_code : item_in (prelude Eeprom8k) ≡ LoadSave 8192
unfolding item_in prelude
load_code = rw (le-leb 8197 (length (8 ∷ 0 ∷ 0 ∷ 0x20 ∷ 0 ∷ erased 8192)) (omega (arith, length-erased 8192)))

load-length : length (prelude Eeprom8k) ≡ 8197
unfolding prelude
load-length = omega (arith, length-erased 8192)

load-items : (rest : List ℕ) → items 0 (prelude Eeprom8k ++ rest) ≡ (record { item = LoadSave 8192; bytes = prelude Eeprom8k ++ rest } ∷ items 0 rest)
load-items rest =
    code_items (prelude Eeprom8k) rest (ap is_item load_code) (load-length ∙ ap item_length (sym load_code))
    ∙ (λ j. record { item = load_code j; bytes = prelude Eeprom8k ++ rest } ∷ items 0 rest)

pub list-room : (kind : SaveType) (lines : List (List ℕ)) → room (items 0 (prelude kind ++ list_of lines)) ≡ prelude_room kind + lines_room lines
unfolding prelude room
list-room None lines = lines-room lines ∙ sym (zero-add (lines_room lines))
list-room Sram lines = lines-room lines ∙ sym (zero-add (lines_room lines))
list-room Flash64 lines = lines-room lines ∙ sym (zero-add (lines_room lines))
list-room Flash128 lines = lines-room lines ∙ sym (zero-add (lines_room lines))
list-room Eeprom512 lines = lines-room lines ∙ sym (zero-add (lines_room lines))
list-room Eeprom8k lines = ap room (load-items (list_of lines)) ∙ ap (λ (n : ℕ). 1 + n) (lines-room lines)
