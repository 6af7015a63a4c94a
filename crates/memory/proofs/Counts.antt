-- What a store answers, and how many places it changes. Assumes nothing.
use mathlib.Core.Path.{◌≡◌, refl, sym, ap, ◌∙◌}
use mathlib.Core.List.{List, ◌++◌}
use Prim.Native.Nat.{ℕ, ◌+◌, ◌*◌, ◌-◌, ◌/◌, ◌%◌, ◌≤◌}
use native.Mathlib.Omega.{arith}
use lib.ListN.{length, get_or, set, take, drop, length-take, length-drop, length-set}
use Rattle.lists.specs.Lists.{with_part, digits}
use Rattle.lists.proofs.Parts.{mid-part}
use Rattle.counts.specs.Counts.{differing}
use Rattle.counts.proofs.Counts.{differs-1, differing-le, differing-same, differing-part, differing-set}
use Rattle.counts.specs.Tallies.{Words}
use Rattle.counts.proofs.Retallied.{retallied-same, retallied-part}
use Rattle.memory.specs.declared.Store.{Store}
use Rattle.memory.specs.declared.Store.TheVariants.{Nothing, Byte, Block, Sector, Chip, File}
use Rattle.memory.specs.Memory.{erased, stored, with_count, Fits, most}
use Rattle.memory.specs.Replaced.{noted}
use Rattle.memory.proofs.Memory.{length-erased, length-word, length-block, length-sector, length-filled}

-- a store's answer, what it leaves, and the tallies after it
pub count-is : {n : ℕ} {l ts : List ℕ} {p : ℕ × List ℕ × List ℕ} → (n, l, ts) ≡ p → n ≡ p.0
count-is e = ap (λ (q : ℕ × List ℕ × List ℕ). q.0) e

pub memory-is : {n : ℕ} {l ts : List ℕ} {p : ℕ × List ℕ × List ℕ} → (n, l, ts) ≡ p → l ≡ p.1
memory-is e = ap (λ (q : ℕ × List ℕ × List ℕ). q.1) e

pub tallies-are : {n : ℕ} {l ts : List ℕ} {p : ℕ × List ℕ × List ℕ} → (n, l, ts) ≡ p → ts ≡ p.2
tallies-are e = ap (λ (q : ℕ × List ℕ × List ℕ). q.2) e

-- all three at once
pub with-count : {n : ℕ} {l ts : List ℕ} {p : ℕ × List ℕ × List ℕ} → n ≡ p.0 → l ≡ p.1 → ts ≡ p.2 → (n, l, ts) ≡ p
with-count a b c = rw (a, b, c)

-- nothing stored
pub none-counted : (m ts : List ℕ) → Words ts → (0, m, ts) ≡ with_count m m ts
none-counted m ts w = with-count (sym (differing-same m)) refl (sym (retallied-same m ts w))

-- the answer of a leaf that is passed the part from place a to place e, within stretch k, is the memory's
pub part-counted : (m ts : List ℕ) (a e k : ℕ) (zs : List ℕ) → e ≡ a + length zs → e ≤ length m
    → k ≡ a / 4096 → a % 4096 + length zs ≤ 4096 → Words ts
    → {n t : ℕ} {ys : List ℕ} → (n, ys, t) ≡ noted (take (e - a) (drop a m)) zs (get_or ts k 0)
    → (n, take a m ++ (ys ++ drop (e - a) (drop a m)), set ts k t) ≡ with_count m (with_part m a zs) ts
part-counted m ts a e k zs h l i g w p =
    let s : e - a ≡ length zs = omega arith in
    let q = rw s at p in
    with-count
    (ap (λ (x : ℕ × List ℕ × ℕ). x.0) q ∙ sym (differing-part m a zs (omega arith)))
    (ap (λ (x : ℕ × List ℕ × ℕ). take a m ++ (x.1 ++ drop (e - a) (drop a m))) p ∙ mid-part m a e zs h)
    (ap (λ (x : ℕ × List ℕ × ℕ). set ts k x.2) q ∙ rw i (sym (retallied-part ts m a zs (omega arith) g w)))

-- a store keeps the memory's length, and changes no more places than its own
pub length-stored : (store : Store) (f m : List ℕ) → Fits store (length m) → length (stored store f m) ≡ length m
unfolding stored
length-stored Nothing f m h = refl
length-stored (Byte a v) f m h = length-set m a v
length-stored (Block k d) f m h = length-block m k d h
length-stored (Sector a) f m h = length-sector m a h
length-stored Chip f m h = length-erased (length m)
length-stored File f m h = length-filled (length m) f

part-most : (m : List ℕ) (a : ℕ) (ys : List ℕ) (n : ℕ) → length ys ≡ n → a + n ≤ length m → differing m (with_part m a ys) ≤ n
part-most m a ys n e h =
    let o : List ℕ = take (length ys) (drop a m) in
    let l : length o ≤ n = simp (length-take, length-drop) (omega arith) in
    omega (arith, differing-part m a ys (omega arith), differing-le o ys)

pub most-stored : (store : Store) (f m : List ℕ) → Fits store (length m) → differing m (stored store f m) ≤ most store (length m)
unfolding stored
most-stored Nothing f m h = omega (arith, differing-same m)
most-stored (Byte a v) f m h = omega (arith, differing-set m a v h, differs-1 (get_or m a 0) v)
most-stored (Block k d) f m h = part-most m (8 * k) (digits 256 8 d) 8 (length-word d) h
most-stored (Sector a) f m h = part-most m (a / 4096 * 4096) (erased 4096) 4096 (length-erased 4096) h
most-stored Chip f m h = differing-le m (erased (length m))
most-stored File f m h = differing-le m (stored File f m)
