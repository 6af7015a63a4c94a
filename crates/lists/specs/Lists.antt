-- Bytes, texts and digits: what the other definitions are made of.
use Rattle.std.specs.Prelude.{Bool, true, false, cond, ◌&&◌, List, [], ◌∷◌, ◌++◌, ℕ, zero, suc, ◌+◌, ◌*◌, ◌/◌, ◌%◌, ◌^◌, eqb, length, take, drop, replicate}
use Prim.Native.Char.{code}
use Prim.Native.String.{String, len, char_at}

-- the codes of the n characters of an ASCII text from place i on, and of all of them
abbrev pub codes : String → ℕ → ℕ → List ℕ
codes s i zero = []
codes s i (suc n) = code (char_at s i) ∷ codes s (suc i) n

abbrev pub ascii : String → List ℕ
ascii s = codes s 0 (len s)

-- the n lowest digits of x to the base b, highest first
unfoldable pub digits : ℕ → ℕ → ℕ → List ℕ
digits b zero x = []
digits b (suc n) x = x / b ^ n % b ∷ digits b n x

-- the n lowest bytes of x, low byte first, and the number that such bytes are
unfoldable pub low_first : ℕ → ℕ → List ℕ
low_first zero x = []
low_first (suc n) x = x % 256 ∷ low_first n (x / 256)

unfoldable pub low_value : List ℕ → ℕ
low_value [] = 0
low_value (b ∷ bs) = b + 256 * low_value bs

-- a Boolean as a number
abbrev pub bit : Bool → ℕ
bit b = cond b 1 0

-- the function f over the bytes, from the left
unfoldable pub fold : (ℕ → ℕ → ℕ) → ℕ → List ℕ → ℕ
fold f x [] = x
fold f x (b ∷ bs) = fold f (f x b) bs

-- m with the bytes ys from place a on
unfoldable pub with_part : List ℕ → ℕ → List ℕ → List ℕ
with_part m a ys = take a m ++ (ys ++ drop (a + length ys) m)

-- a destination with the output at its front; "bytes past it keep their values"
unfoldable pub into : List ℕ → List ℕ → List ℕ
into output destination = output ++ drop (length output) destination

-- s begins with p
unfoldable pub begins : List ℕ → List ℕ → Bool
begins [] s = true
begins (b ∷ p) [] = false
begins (b ∷ p) (c ∷ s) = cond (eqb b c) (begins p s) false

-- n bytes FFh, and whether all bytes are
unfoldable pub erased : ℕ → List ℕ
erased n = replicate n 0xff

unfoldable pub all_ff : List ℕ → Bool
all_ff [] = true
all_ff (b ∷ bs) = eqb b 0xff && all_ff bs
