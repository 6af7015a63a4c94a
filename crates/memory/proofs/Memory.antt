-- Lengths and ends of the memory behind each store. Assumes nothing.
use mathlib.Core.Path.{◌≡◌, refl, sym, ap, subst, ◌∙◌}
use mathlib.Core.List.{List, [], ◌∷◌, ◌++◌, append-nil}
use Prim.Native.Nat.{ℕ, ◌+◌, ◌*◌, ◌-◌, ◌/◌, ◌%◌, ◌^◌, ◌≤◌}
use native.Mathlib.Nat.{sub-zero, div-one}
use native.Mathlib.Omega.{arith}
use lib.ListN.{length, take, drop, length-append, length-take, length-replicate, length-drop, take-append-drop}
use lib.Seq.{take_all, take-nil, drop-append-add, length-take-le}
use Rattle.lists.specs.Lists.{digits, with_part}
use Rattle.lists.proofs.Parts.{length_part, drop-part, drop-replicate}
use Rattle.memory.specs.declared.Store.{Store}
use Rattle.memory.specs.Memory.{erased, stored, with_count, filled}

pub length-erased : (n : ℕ) → length (erased n) ≡ n
unfolding erased
length-erased n = length-replicate n 255

pub drop-erased : (i n : ℕ) → drop i (erased n) ≡ erased (n - i)
unfolding erased
drop-erased i n = drop-replicate i n 255

pub erased-0 : erased 0 ≡ []
unfolding erased
erased-0 = refl

-- the eight bytes of a block, and a sector
pub length-word : (d : ℕ) → length (digits 256 8 d) ≡ 8
unfolding digits
length-word d = refl

pub length-block : (m : List ℕ) (k d : ℕ) → 8 * k + 8 ≤ length m → length (with_part m (8 * k) (digits 256 8 d)) ≡ length m
length-block m k d h = length_part m (8 * k) (digits 256 8 d) (omega (arith, length-word d))

pub length-sector : (m : List ℕ) (a : ℕ) → a / 4096 * 4096 + 4096 ≤ length m → length (with_part m (a / 4096 * 4096) (erased 4096)) ≡ length m
length-sector m a h = length_part m (a / 4096 * 4096) (erased 4096) (omega (arith, length-erased 4096))

-- a file loaded
pub length-filled : (n : ℕ) (f : List ℕ) → length (filled n f) ≡ n
unfolding filled
length-filled n f = simp (length-append, length-take, length-erased) (omega arith)

-- the whole memory as a file gives the memory back
pub filled-whole : (n : ℕ) (m : List ℕ) → length m ≡ n → filled n m ≡ m
unfolding filled
filled-whole n m e =
    let h : length m ≤ n = omega arith in
    let z : n - length m ≡ 0 = omega arith in
    rw (take_all n m h, z, erased-0, append-nil)

-- and so does its front, where all behind it is erased
pub filled-front : (n k : ℕ) (m : List ℕ) → length m ≡ n → k ≤ n → drop k m ≡ erased (n - k) → filled n (take k m) ≡ m
unfolding filled
filled-front n k m e h d =
    let l : length (take k m) ≡ k = length-take-le k m (omega arith) in
    let q : length (take k m) ≤ n = omega arith in
    rw (take_all n (take k m) q, l, ← d, take-append-drop)

-- an empty file erases all
pub filled_none : (n : ℕ) → filled n [] ≡ erased n
unfolding filled
filled_none n = rw (take-nil n, sub-zero n)

-- what a short file leaves erased
pub drop-filled : (n k : ℕ) (f : List ℕ) → k ≤ n → length f ≤ k → drop k (filled n f) ≡ erased (n - k)
unfolding filled
drop-filled n k f h l =
    let j : length f ≤ n = omega arith in
    let e : k ≡ length f + (k - length f) = omega arith in
    let z : n - length f - (k - length f) ≡ n - k = omega arith in
    rw (take_all n f j)
    (subst (λ (i : ℕ). drop i (f ++ erased (n - length f)) ≡ erased (n - k)) (sym e)
    (drop-append-add f (erased (n - length f)) (k - length f) ∙ drop-erased (k - length f) (n - length f) ∙ ap erased z))

-- a block stored below byte n leaves what lies from there on
pub drop_block : (m : List ℕ) (k d n : ℕ) → 8 * k ≤ length m → 8 * k + 8 ≤ n → drop n (with_part m (8 * k) (digits 256 8 d)) ≡ drop n m
drop_block m k d n h l = drop-part m (8 * k) (digits 256 8 d) n h (omega (arith, length-word d))

-- a word's bytes as shifts give them
pub word_bytes : (d : ℕ)
    → digits 256 8 d
    ≡ d / 2 ^ 56 % 256 ∷ d / 2 ^ 48 % 256 ∷ d / 2 ^ 40 % 256 ∷ d / 2 ^ 32 % 256 ∷ d / 2 ^ 24 % 256 ∷ d / 2 ^ 16 % 256 ∷ d / 2 ^ 8 % 256 ∷ d % 256 ∷ []
unfolding digits
word_bytes d = rw (div-one d)

-- the length of the k places from a on
pub length-mid : (m : List ℕ) (a k : ℕ) → a + k ≤ length m → length (take (a + k - a) (drop a m)) ≡ k
length-mid m a k h = simp (length-take, length-drop) (omega arith)

-- what each store leaves, by its case
pub stored-case : (store known : Store) (f m ts : List ℕ) {p : ℕ × List ℕ × List ℕ} → store ≡ known
    → p ≡ with_count m (stored known f m) ts → p ≡ with_count m (stored store f m) ts
stored-case store known f m ts e q = q ∙ ap (λ (s : Store). with_count m (stored s f m) ts) (sym e)
