-- The bytes and the record give each other back. Assumes nothing.
use mathlib.Core.Path.{◌≡◌, refl, sym, ap, ◌∙◌}
use mathlib.Core.Bool.{Bool, true, false, ◌&&◌}
use mathlib.Core.List.{List, [], ◌∷◌, ◌++◌}
use Prim.Native.Nat.{ℕ, suc, ◌+◌, ◌*◌, ◌/◌, ◌%◌, ◌^◌, ◌≤◌, ◌<◌}
use native.Mathlib.Nat.{div-div-eq-div-mul}
use native.Mathlib.Omega.{arith}
use lib.Dec.{leb, eqb}
use lib.ListN.{length, get_or, take, drop, replicate, length-drop, length-take, take-append-drop, drop_of_length-le}
use lib.Pow.{are_bytes}
use lib.Seq.{drop-cons, drop-drop, take_all, get_or-take, get_or-drop}
use borrow.Author.Tests.{leb-true, eqb-true, eqb-false, lt-ltb, lt-leb, le-leb}
use Rattle.lists.specs.Lists.{low_first, low_value, bit}
use Rattle.lists.specs.Questions.{asked}
use Rattle.lists.proofs.Bools.{split, and_left, and_right, bit_le, bit-back}
use Rattle.lists.proofs.Digits.{low-back, low-forth, low-at, bytes_drop, bytes_take}
use Rattle.lists.proofs.Parts.{spelled, spells}
use Rattle.image.specs.Image.{image_length}
use Rattle.kind.specs.declared.SaveType.TheVariants.{None}
use Rattle.kind.specs.Kind.{kind_number, kind_of}
use Rattle.kind.proofs.Numbers.{kind-le, kind-back, kind-forth}
use Rattle.part.specs.declared.Part.TheVariants.{Usual}
use Rattle.part.specs.Part.{part_number, part_of, part_fits, number_fits}
use Rattle.part.proofs.Numbers.{part-le, part-back, part-forth}
use Rattle.chip_record.specs.declared.ChipRecord.{ChipRecord}
use Rattle.cart.specs.declared.Cartridge.{Cartridge}
use Rattle.chip_record.specs.ChipState.{chip_bytes, chip_of, field_questions}
use Rattle.cart.specs.Record.{record_allowed, fresh_cart}
use Rattle.chip_record.proofs.ChipState.{own-size, chip-back, bytes_back}
use Rattle.c_record.specs.RecordBytes.{record_bytes, chip_in, cart_of, is_record, Valid}
use Rattle.c_record.specs.Claims.{RecordAndBytes}

-- four bytes as one number, and a number's four bytes
pub low-four : (r : List ℕ) → get_or r 0 0 + 256 * (get_or r 1 0 + 256 * (get_or r 2 0 + 256 * get_or r 3 0)) ≡ low_value (take 4 r)
unfolding low_value
low-four r = sym (low-at r 0 3 ∙ rw (low-at r 1 2, low-at r 2 1, low-at r 3 0) (omega arith))

pub four_bytes : (x : ℕ) → low_first 4 x ≡ x % 256 ∷ x / 256 % 256 ∷ x / 65536 % 256 ∷ x / 16777216 % 256 ∷ []
unfolding low_first
four_bytes x = rw (div-div-eq-div-mul x 256 256, div-div-eq-div-mul x 65536 256)

bit-forth : (n : ℕ) → leb n 1 ≡ true → bit (eqb n 1) ≡ n
bit-forth n h =
    let l = leb-true n 1 h in
    split (λ x. x ≡ n) (eqb n 1) (λ e. sym (eqb-true n 1 e)) (λ e. let q = eqb-false n 1 e in omega arith)

-- the chip record's bytes, with one after them
module _ (x : ChipRecord) (p : ℕ) where
  pub chip-front : take 18 (chip_bytes x ++ (p ∷ [])) ≡ chip_bytes x
  unfolding chip_bytes low_first
  chip-front = refl

  chip-last : get_or (chip_bytes x ++ (p ∷ [])) 18 0 ≡ p
  unfolding chip_bytes low_first
  chip-last = refl

  chip-longer : length (chip_bytes x ++ (p ∷ [])) ≡ 19
  unfolding chip_bytes low_first
  chip-longer = refl

-- where they are in a record
pub chip-at : (r : List ℕ) (i : ℕ) → i < 18 → get_or (chip_in r) i 0 ≡ get_or r (6 + i) 0
chip-at r i h = get_or-take 18 (drop 6 r) i 0 h ∙ get_or-drop 6 r i 0

-- what is asked of a record's bytes, one by one
pub record Yes (r : List ℕ) : Type 0 where
  pub kind_ok : leb (get_or r 4 0) 5 ≡ true
  pub flag_ok : leb (get_or r 5 0) 1 ≡ true
  pub len_ok : image_length (low_value (take 4 r)) ≡ true
  pub part_ok : number_fits (get_or r 24 0) (kind_of (get_or r 4 0)) ≡ true
  pub size_ok : length r ≡ 25
  pub chip_ok : asked (field_questions (chip_in r)) ≡ 0

pub yes : (r : List ℕ) → is_record r ≡ true → Yes r
unfolding is_record
yes r h =
    let s : Bool = eqb (length r) 25 in
    let k : Bool = leb (get_or r 4 0) 5 in
    let f : Bool = leb (get_or r 5 0) 1 in
    let l : Bool = image_length (low_value (take 4 r)) in
    let p : Bool = number_fits (get_or r 24 0) (kind_of (get_or r 4 0)) in
    let n : ℕ = asked (field_questions (chip_in r)) in
    let skpfl = and_left (s && k && p && f && l) (eqb n 0) h in
    let skpf = and_left (s && k && p && f) l skpfl in
    let skp = and_left (s && k && p) f skpf in
    let sk = and_left (s && k) p skp in
    record {
      kind_ok = and_right s k sk;
      flag_ok = and_right (s && k && p) f skpf;
      len_ok = and_right (s && k && p && f) l skpfl;
      part_ok = and_right (s && k) p skp;
      size_ok = eqb-true (length r) 25 (and_left s k sk);
      chip_ok = eqb-true n 0 (and_right (s && k && p && f && l) (eqb n 0) h);
    }

image-lt : (n : ℕ) → image_length n ≡ true → n < 256 ^ 4
unfolding image_length
image-lt n h = omega (arith, leb-true n 33554432 (and_right (leb 192 n) (leb n 33554432) h))

written : (c : Cartridge) → record_allowed c ≡ true → c.chip.eeprom.acc < 2 ^ 64 → (is_record (record_bytes c) ≡ true) × (cart_of (record_bytes c) ≡ c)
unfolding is_record record_bytes cart_of record_allowed low_first
written c h a =
    let l : Bool = image_length c.len in
    let f : Bool = part_fits c.part c.kind in
    let n : ℕ = asked (field_questions (chip_bytes c.chip)) in
    let lf = and_left (l && f) (eqb n 0) h in
    let len_ok = and_left l f lf in
    let x = c.chip in
    let p = part_number c.part in
    let back : low_value (low_first 4 c.len) ≡ c.len = low-back 4 c.len (image-lt c.len len_ok) in (
      rw (chip-longer x p, chip-front x p, chip-last x p, kind-le c.kind, bit_le c.dirty, back, len_ok, part-le c.part, part-back c.part, kind-back c.kind, and_right l f lf, and_right (l && f) (eqb n 0) h),
      λ i.
          record {
            len = back i;
            kind = kind-back c.kind i;
            part = (ap part_of (chip-last x p) ∙ part-back c.part) i;
            dirty = bit-back c.dirty i;
            chip = (ap chip_of (chip-front x p) ∙ chip-back x a) i;
          },
    )

-- the chip record and the part are the last 19 bytes
last-bytes : (r : List ℕ) → length r ≡ 25 → chip_in r ++ (get_or r 24 0 ∷ []) ≡ drop 6 r
last-bytes r n =
    let l : length r ≤ 25 = omega arith in
    let z : drop 25 r ≡ [] = drop_of_length-le r l in
    ap (λ (l : List ℕ). chip_in r ++ l) (sym (drop-drop 18 6 r ∙ drop-cons r 24 0 (omega arith) ∙ ap (λ (l : List ℕ). get_or r 24 0 ∷ l) z))
    ∙ take-append-drop 18 (drop 6 r)

read : (r : List ℕ) → are_bytes r ≡ true → is_record r ≡ true → (record_allowed (cart_of r) ≡ true) × (record_bytes (cart_of r) ≡ r)
unfolding record_bytes cart_of record_allowed
read r b h =
    let y = yes r h in
    let d = chip_in r in
    let n : length r ≡ 25 = y.size_ok in
    let m : length d ≡ 18 = simp (length-take, length-drop) (omega arith) in
    let p : ℕ = get_or r 24 0 in
    let f : Bool = part_fits (part_of p) (kind_of (get_or r 4 0)) in
    let k : chip_bytes (chip_of d) ≡ d = bytes_back d (bytes_take 18 (drop 6 r) (bytes_drop 6 r b)) m y.chip_ok in
    let t : length (take 4 r) ≡ 4 = length-take 4 r ∙ omega arith in (
      rw (k, y.len_ok, and_right (leb p 5) f y.part_ok, y.chip_ok),
      rw (k, kind-forth (get_or r 4 0) y.kind_ok, part-forth p (and_left (leb p 5) f y.part_ok), bit-forth (get_or r 5 0) y.flag_ok, low-forth 4 (take 4 r) t (bytes_take 4 r b), last-bytes r n)
          (ap (λ (l : List ℕ). take 4 r ++ l) (sym (drop-cons r 4 0 (omega arith) ∙ ap (λ (l : List ℕ). get_or r 4 0 ∷ l) (drop-cons r 5 0 (omega arith)))) ∙ take-append-drop 4 r),
    )

nothing : record_bytes (fresh_cart 0 None Usual) ≡ replicate 25 0
unfolding record_bytes fresh_cart chip_bytes low_first
nothing = refl

pub record-and-bytes : RecordAndBytes
record-and-bytes = record { written = written; read = read; nothing = nothing }

-- the bytes, written one by one
pub record-spelled : (c : Cartridge) (k d p : ℕ) (b : List ℕ) → k ≡ kind_number c.kind → d ≡ bit c.dirty → p ≡ part_number c.part → b ≡ chip_bytes c.chip
    → c.len % 256 ∷ c.len / 256 % 256 ∷ c.len / 65536 % 256 ∷ c.len / 16777216 % 256 ∷ k ∷ d ∷ (spelled b 0 0 18 ++ (p ∷ [])) ≡ record_bytes c
unfolding record_bytes
record-spelled c k d p b e f h g =
    let n : length b ≡ 18 = ap length g ∙ own-size c.chip in
    let s : spelled b 0 0 18 ≡ b = sym (spells b 0 18 0 (omega arith)) ∙ take_all 18 b (omega arith) in
    sym (rw (four_bytes c.len, ← e, ← f, ← h, ← g)
    (ap (λ (l : List ℕ). c.len % 256 ∷ c.len / 256 % 256 ∷ c.len / 65536 % 256 ∷ c.len / 16777216 % 256 ∷ k ∷ d ∷ (l ++ (p ∷ []))) (sym s)))

-- bytes of which question 2 is answered yes
pub are-bytes : (l : List ℕ) → ((i : ℕ) → get_or l i 0 < 256) → are_bytes l ≡ true
are-bytes [] h = refl
are-bytes (b ∷ l) h = rw (lt-ltb b 256 (h 0), are-bytes l (λ i. h (suc i)))

pub valid-record : (r : List ℕ) → ((i : ℕ) → get_or r i 0 < 256) → is_record r ≡ true → Valid r
valid-record r b h = let y = read r (are-bytes r b) h in record { yes = h; allowed = y.0; back = y.1 }

-- the questions of a record's bytes, up to the first no
module _ (r : List ℕ) (n : length r ≡ 25) where
  abbrev known : Bool
  known = leb (get_or r 4 0) 5 && number_fits (get_or r 24 0) (kind_of (get_or r 4 0))

  pub no_part : known ≡ false → false ≡ is_record r
  unfolding is_record
  no_part p = rw (n, p)

  pub no_flag : known ≡ true → 1 < get_or r 5 0 → false ≡ is_record r
  unfolding is_record
  no_flag p f = rw (n, p, lt-leb (get_or r 5 0) 1 f)

  pub no_length : known ≡ true → get_or r 5 0 ≤ 1 → image_length (low_value (take 4 r)) ≡ false → false ≡ is_record r
  unfolding is_record
  no_length p f l = rw (n, p, le-leb (get_or r 5 0) 1 f, l)

  pub by-chip : {x : ℕ} → known ≡ true → get_or r 5 0 ≤ 1 → image_length (low_value (take 4 r)) ≡ true → x ≡ asked (field_questions (chip_in r)) → eqb x 0 ≡ is_record r
  unfolding is_record
  by-chip p f l e = rw (n, p, le-leb (get_or r 5 0) 1 f, l, e)
