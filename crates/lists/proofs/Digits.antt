-- Numbers as digits. Assumes nothing.
use mathlib.Core.Path.{◌≡◌, refl, sym, ap, ◌∙◌}
use mathlib.Core.Bool.{true}
use mathlib.Core.List.{List, [], ◌∷◌, ◌++◌}
use Prim.Native.Nat.{ℕ, zero, suc, ◌+◌, ◌*◌, ◌/◌, ◌%◌, ◌^◌, ◌-◌, ◌≤◌, ◌<◌}
use native.Mathlib.Nat.{mod-lt, pow-suc, pow-succ', div-div-eq-div-mul, mod-eq_of_lt, div-le_self, add_comm, suc-add, zero-add}
use native.Mathlib.Omega.{arith}
use lib.Arith.{mod-mul, digits_div, digits_mod}
use lib.Dec.{ltb}
use lib.ListN.{length, get_or, take, drop}
use lib.Pow.{are_bytes, pow-add, pow_pos, shr-shr}
use lib.Seq.{take-nil}
use borrow.Author.Tests.{ltb-true}
use Rattle.lists.proofs.Bools.{and_left, and_right}
use Rattle.lists.specs.Lists.{digits, low_first, low_value}

-- a number is what its bytes are
pub low-back : (n x : ℕ) → x < 256 ^ n → low_value (low_first n x) ≡ x
unfolding low_first low_value
low-back zero x h = omega arith
low-back (suc n) x h = rw (low-back n (x / 256) (omega (arith, pow-succ' 256 n))) (omega arith)

-- and bytes are those of the number that they are
pub low-forth : (n : ℕ) (l : List ℕ) → length l ≡ n → are_bytes l ≡ true → low_first n (low_value l) ≡ l
unfolding low_first low_value
low-forth zero [] e h = refl
low-forth zero (b ∷ l) e h = absurd (omega arith)
low-forth (suc n) [] e h = absurd (omega arith)
low-forth (suc n) (b ∷ l) e h =
    let p : b < 256 = ltb-true b 256 (and_left (ltb b 256) (are_bytes l) h) in
    let m : (b + 256 * low_value l) % 256 ≡ b = omega arith in
    let d : (b + 256 * low_value l) / 256 ≡ low_value l = omega arith in
    rw (m, d, low-forth n l (omega arith) (and_right (ltb b 256) (are_bytes l) h))

pub bytes_drop : (n : ℕ) (l : List ℕ) → are_bytes l ≡ true → are_bytes (drop n l) ≡ true
bytes_drop zero l h = h
bytes_drop (suc n) [] h = h
bytes_drop (suc n) (b ∷ l) h = bytes_drop n l (and_right (ltb b 256) (are_bytes l) h)

pub bytes_take : (n : ℕ) (l : List ℕ) → are_bytes l ≡ true → are_bytes (take n l) ≡ true
bytes_take zero l h = refl
bytes_take (suc n) [] h = h
bytes_take (suc n) (b ∷ l) h =
    rw (and_left (ltb b 256) (are_bytes l) h) (bytes_take n l (and_right (ltb b 256) (are_bytes l) h))

pub byte-lt : (l : List ℕ) (i : ℕ) → are_bytes l ≡ true → get_or l i 0 < 256
byte-lt [] i h = omega arith
byte-lt (b ∷ l) zero h = ltb-true b 256 (and_left (ltb b 256) (are_bytes l) h)
byte-lt (b ∷ l) (suc i) h = byte-lt l i (and_right (ltb b 256) (are_bytes l) h)

-- with n binary digits of x still to come an accumulator holds x / 2 ^ n: the next digit keeps that
pub shift-digit : (x n : ℕ) → x < 2 ^ 64 → (2 * (x / 2 ^ suc n) + x / 2 ^ n % 2) % 2 ^ 64 ≡ x / 2 ^ n
shift-digit x n h =
    let e : x / 2 ^ suc n ≡ x / 2 ^ n / 2 = ap (λ (k : ℕ). x / k) (pow-suc 2 n) ∙ sym (div-div-eq-div-mul x (2 ^ n) 2) in
    let d : 2 * (x / 2 ^ suc n) + x / 2 ^ n % 2 ≡ x / 2 ^ n = rw e (omega arith) in
    let l : x / 2 ^ n < 2 ^ 64 = omega (arith, div-le_self x (2 ^ n)) in
    rw d (mod-eq_of_lt l)

-- the digits of a sum of lengths, and the low digits do not see what is above them
pub digits-add : (n k x : ℕ) → digits 2 (n + k) x ≡ digits 2 n (x / 2 ^ k) ++ digits 2 k x
unfolding digits
digits-add zero k x = rw zero-add
digits-add (suc n) k x = rw (suc-add, digits-add n k x, shr-shr x k n, add_comm n k)

digit-mod : (i r x : ℕ) → x % 2 ^ (suc r + i) / 2 ^ i % 2 ≡ x / 2 ^ i % 2
digit-mod i r x =
    rw (
      pow-add 2 (suc r) i,
      mod-mul x (pow_pos (suc r)) (pow_pos i),
      digits_div (x / 2 ^ i % 2 ^ suc r) (mod-lt x (pow_pos i)),
      pow-suc 2 r,
      mod-mul (x / 2 ^ i) {c = 2} (pow_pos r) (omega arith),
    )
    (digits_mod (x / 2 ^ i / 2 % 2 ^ r) (mod-lt (x / 2 ^ i) {m = 2} (omega arith)))

pub digits_low : (n j x : ℕ) → n ≤ j → digits 2 n (x % 2 ^ j) ≡ digits 2 n x
unfolding digits
digits_low zero j x h = refl
digits_low (suc n) j x h =
    let e : suc (j - suc n) + n ≡ j = omega arith in
    let b : x % 2 ^ j / 2 ^ n % 2 ≡ x / 2 ^ n % 2 = rw e at (digit-mod n (j - suc n) x) in
    rw (b, digits_low n j x (omega arith))

-- the number of the bytes from place a on, one byte at a time; past the end a byte counts as 0
pub low-at : (l : List ℕ) (a n : ℕ) → low_value (take (suc n) (drop a l)) ≡ get_or l a 0 + 256 * low_value (take n (drop (suc a) l))
unfolding low_value
low-at [] zero n = rw take-nil
low-at [] (suc a) n = rw take-nil
low-at (b ∷ l) zero n = refl
low-at (b ∷ l) (suc a) n = low-at l a n

-- a number's eight bytes as shifts give them
pub low-bytes : (x : ℕ)
    → low_first 8 x
    ≡ x % 256 ∷ x / 2 ^ 8 % 256 ∷ x / 2 ^ 16 % 256 ∷ x / 2 ^ 24 % 256 ∷ x / 2 ^ 32 % 256 ∷ x / 2 ^ 40 % 256 ∷ x / 2 ^ 48 % 256 ∷ x / 2 ^ 56 % 256 ∷ []
unfolding low_first
low-bytes x =
    rw (
      div-div-eq-div-mul x 256 256,
      div-div-eq-div-mul x (2 ^ 16) 256,
      div-div-eq-div-mul x (2 ^ 24) 256,
      div-div-eq-div-mul x (2 ^ 32) 256,
      div-div-eq-div-mul x (2 ^ 40) 256,
      div-div-eq-div-mul x (2 ^ 48) 256,
    )
