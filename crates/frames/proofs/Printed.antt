-- A line written two digits at a time. Assumes nothing.
use mathlib.Core.Path.{◌≡◌, refl, sym, ap, ◌∙◌}
use mathlib.Core.List.{List, [], ◌∷◌, ◌++◌}
use Prim.Native.Nat.{ℕ, ◌+◌, ◌*◌, ◌/◌, ◌%◌, ◌≤◌, ◌<◌}
use native.Mathlib.Numerals.{add-one}
use native.Mathlib.Omega.{arith}
use lib.ListN.{length, get_or, set, take, length-append}
use lib.Seq.{take-suc, take-length, length-take-le}
use Rattle.lists.specs.Lists.{into}
use Rattle.lists.proofs.Parts.{put_next, into-again}
use Rattle.hex_text.specs.Hex.{character, hex}
use Rattle.frames.specs.Frames.{line_of}

pub length-hex : (xs : List ℕ) → length (hex xs) ≡ 2 * length xs
unfolding hex
length-hex [] = refl
length-hex (x ∷ xs) = omega (arith, length-hex xs)

hex-next : (xs : List ℕ) (b : ℕ) → hex (xs ++ (b ∷ [])) ≡ (hex xs ++ (character (b / 16 % 16) ∷ [])) ++ (character (b % 16) ∷ [])
unfolding hex
hex-next [] b = refl
hex-next (x ∷ xs) b = rw (hex-next xs b)

put-digits : (xs m : List ℕ) (b e : ℕ) → e ≡ 2 * length xs → e + 2 ≤ length m
    → set (set (into (hex xs) m) e (character (b / 16 % 16))) (e + 1) (character (b % 16)) ≡ into (hex (xs ++ (b ∷ []))) m
put-digits xs m b e h k =
    let l : e ≡ length (hex xs) = h ∙ sym (length-hex xs) in
    let n : e + 1 ≡ length (hex xs ++ (character (b / 16 % 16) ∷ [])) = sym (length-append (hex xs) (character (b / 16 % 16) ∷ []) ∙ rw (sym l)) in
    rw (put_next (hex xs) m e (character (b / 16 % 16)) l (omega arith), put_next (hex xs ++ (character (b / 16 % 16) ∷ [])) m (e + 1) (character (b % 16)) n (omega arith), hex-next xs b)

-- a turn of the loop: the digits of byte i, and the line feed at the end
pub put_byte : (status : ℕ) (bytes m : List ℕ) (i e : ℕ) → i < length bytes → e ≡ 2 * i + 2 → e + 2 ≤ length m
    → set (set (into (hex (status ∷ take i bytes)) m) e (character (get_or bytes i 0 / 16 % 16))) (e + 1) (character (get_or bytes i 0 % 16)) ≡ into (hex (status ∷ take (i + 1) bytes)) m
put_byte status bytes m i e h k f =
    let l : length (take i bytes) ≡ i = length-take-le i bytes (omega arith) in
    put-digits (status ∷ take i bytes) m (get_or bytes i 0) e (omega arith) f
    ∙ ap (λ (l : List ℕ). into (hex (status ∷ l)) m) (sym (ap (λ (n : ℕ). take n bytes) (add-one i) ∙ take-suc bytes i 0 h))

-- the status' digits are there before the loop begins, and are written once
pub put-status : (status : ℕ) (m : List ℕ) → 2 ≤ length m → set (set m 0 (character (status / 16 % 16))) 1 (character (status % 16)) ≡ into (hex (status ∷ [])) m
unfolding into hex
put-status status m h = put-digits [] m status 0 refl h

pub status-stands : (status : ℕ) (m o : List ℕ) → 2 ≤ length m → o ≡ set (set m 0 (character (status / 16 % 16))) 1 (character (status % 16)) → o ≡ into (hex (status ∷ [])) o
unfolding hex
status-stands status m o h e =
    let f = e ∙ put-status status m h in
    f ∙ sym (ap (into (hex (status ∷ []))) f ∙ into-again (hex (status ∷ [])) [] m h)

pub length-line : (status : ℕ) (bytes : List ℕ) → length (line_of status bytes) ≡ 2 * length bytes + 3
unfolding line_of
length-line status bytes = length-append (hex (status ∷ bytes)) (0x0a ∷ []) ∙ omega (arith, length-hex (status ∷ bytes))

pub put-end : (status : ℕ) (bytes m : List ℕ) (i e : ℕ) → i ≡ length bytes → e ≡ 2 * i + 2 → e < length m
    → set (into (hex (status ∷ take i bytes)) m) e 0x0a ≡ into (line_of status bytes) m
unfolding line_of
put-end status bytes m i e h k f =
    rw (h, take-length bytes) (put_next (hex (status ∷ bytes)) m e 0x0a (omega (arith, length-hex (status ∷ bytes))) f)

pub line-once : (status : ℕ) (bytes m o : List ℕ) → 2 ≤ length m → o ≡ set (set m 0 (character (status / 16 % 16))) 1 (character (status % 16)) → into (line_of status bytes) o ≡ into (line_of status bytes) m
unfolding line_of hex
line-once status bytes m o h e =
    ap (into (line_of status bytes)) (e ∙ put-status status m h) ∙ into-again (hex (status ∷ [])) (hex bytes ++ (0x0a ∷ [])) m h
