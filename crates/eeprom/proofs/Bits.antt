-- A word, bit by bit. Assumes nothing.
use mathlib.Core.Path.{◌≡◌, sym, ap, ap₂, ◌∙◌}
use mathlib.Core.List.{List, ◌++◌, append-nil}
use Prim.Native.Nat.{ℕ, ◌+◌, ◌*◌, ◌/◌, ◌%◌, ◌^◌, ◌<◌}
use native.Mathlib.Nat.{div-one}
use native.Mathlib.Omega.{arith}
use lib.Arith.{digits_mod}
use lib.Bits.{bit_or, or_shifted}
use Rattle.lists.specs.Lists.{digits}
use Rattle.lists.proofs.Digits.{digits-add, digits_low}
use Rattle.eeprom.specs.Gbatek.{bits, bits_of_bytes}

-- the bits of a block's eight bytes are the 64 bits of the word that was stored there
byte-on : (k x : ℕ) (l : List ℕ) → l ≡ bits k x → bits 8 (x / 2 ^ k % 256) ++ l ≡ bits (8 + k) x
byte-on k x l e = ap₂ ◌++◌ (digits_low 8 8 (x / 2 ^ k) (omega arith)) e ∙ sym (digits-add 8 k x)

pub bits-word : (d : ℕ) → bits_of_bytes (digits 256 8 d) ≡ bits 64 d
unfolding bits_of_bytes
bits-word d =
    unfold digits in
    byte-on 56 d _ (byte-on 48 d _ (byte-on 40 d _ (byte-on 32 d _ (byte-on 24 d _ (byte-on 16 d _ (byte-on 8 d _
    (append-nil _ ∙ digits_low 8 8 (d / 1) (omega arith) ∙ ap (bits 8) (div-one d))))))))

-- an accumulator moved up by a shift, and the bit put in
pub put_in : (acc b : ℕ) → b < 2 → bit_or (acc * 2 % 2 ^ 64) b ≡ (2 * acc + b) % 2 ^ 64
put_in acc b h =
    let e : acc * 2 % 2 ^ 64 ≡ acc % 2 ^ 63 * 2 ^ 1 = omega arith in
    let q : 2 * acc + b ≡ acc / 2 ^ 63 * 2 ^ 64 + (acc % 2 ^ 63 * 2 ^ 1 + b) = omega arith in
    let r : acc % 2 ^ 63 * 2 ^ 1 + b < 2 ^ 64 = omega arith in
    ap (λ (x : ℕ). bit_or x b) e ∙ or_shifted (acc % 2 ^ 63) 1 b h ∙ sym (ap (λ (x : ℕ). x % 2 ^ 64) q ∙ digits_mod (acc / 2 ^ 63) r)
