-- What every step of the serial chip keeps, from a fresh one on. Assumes nothing.
use mathlib.Core.Path.{◌≡◌, refl, subst}
use mathlib.Core.Logic.{◌≢◌}
use mathlib.Core.Bool.{Bool, true, false, cond, ◌||◌, not}
use Prim.Native.Nat.{ℕ, ◌+◌, ◌*◌, ◌%◌, ◌^◌, ◌≤◌, ◌<◌}
use native.Mathlib.Nat.{mod-le, mod-lt, pow-succ'}
use native.Mathlib.Numerals.{add-one}
use native.Mathlib.Omega.{arith}
use lib.Dec.{ltb, eqb}
use lib.Pow.{pow_mono}
use borrow.Author.Tests.{ltb-true, eqb-true, eqb-false}
use Rattle.lists.proofs.Bools.{split, either}
use Rattle.memory.specs.declared.Store.TheVariants.{Block}
use Rattle.eeprom.specs.declared.EepromPhase.{EepromPhase}
use Rattle.eeprom.specs.declared.EepromPhase.TheVariants.{Opcode, ReadAddress, WriteAddress, WriteData, ReadStop, WriteStop, Reading}
use Rattle.eeprom.specs.declared.Eeprom.{Eeprom}
use Rattle.eeprom.specs.declared.EepromStep.{EepromStep}
use Rattle.eeprom.specs.declared.Drawn.{Drawn}
use Rattle.eeprom.specs.declared.Shifted.{Shifted}
use Rattle.eeprom.specs.declared.Shifted.TheVariants.{More, Full}
use Rattle.eeprom.specs.Eeprom.{width_allowed, w, w_of, count_limit, told, tells6, tells14, begin_dma, is_address, dma_question, is_reading, serial, kept, shift_in, shifted, opcode_phase, opcode_bit, addressed, ended, turned_in, turned, write_bit, drawn_from, after_read}
use Rattle.eeprom.proofs.Turns.{by_turn}

-- phase, count, block, read place and acc of a chip whose address has w bits. Of acc only the bits shifted in are there, and a chip
-- that is not large has seen addresses of 6 bits alone, so its block is below 64.
pub record Serial (w : ℕ) (large : Bool) (p : EepromPhase) (n k r a : ℕ) : Type 0 where
  pub count_ok : n < count_limit p w
  pub block_ok : k < cond large 1024 64
  pub place_ok : r < 68
  pub acc_ok : a < 2 ^ n

pub record Sound (e : Eeprom) : Type 0 where
  pub width_ok : width_allowed e.width ≡ true
  pub width_small : e.width ≤ cond e.large 14 6
  pub serial_ok : Serial (w_of e) e.large e.phase e.count e.block e.place e.acc

-- serial shifting, once, over the length z
pub data Shift (z n : ℕ) : Shifted → Type 0 where
  more : {x : ℕ} → n + 1 < z → x < 2 ^ (n + 1) → Shift z n (More x (n + 1))
  full : {x : ℕ} → x < 2 ^ z → Shift z n (Full x)

shift-lt : (a b n : ℕ) → b < 2 → a < 2 ^ n → (2 * a + b) % 2 ^ 64 < 2 ^ (n + 1)
shift-lt a b n h k = rw add-one (omega (arith, pow-succ' 2 n, mod-le (2 * a + b) (2 ^ 64)))

pub shift : (a n z b : ℕ) → b < 2 → n < z → a < 2 ^ n → Shift z n (shift_in a n z b)
unfolding shift_in
shift a n z b hb hn ha =
    split (Shift z n) (eqb (n + 1) z)
    (λ t. full (subst (λ (i : ℕ). (2 * a + b) % 2 ^ 64 < 2 ^ i) (eqb-true (n + 1) z t) (shift-lt a b n hb ha)))
    (λ t. let q : n + 1 ≢ z = eqb-false (n + 1) z t in more (omega arith) (shift-lt a b n hb ha))

-- W
width-by : (x l : Bool) (n : ℕ) → n ≤ cond l 14 6 → (x ≡ false → 6 ≤ n) → (6 ≤ cond x (cond l 14 6) n) × (cond x (cond l 14 6) n ≤ cond l 14 6)
width-by true true n h f = omega arith
width-by true false n h f = omega arith
width-by false l n h f = (f refl, h)

pub told-6 : (n : ℕ) → width_allowed n ≡ true → eqb n 0 ≡ false → 6 ≤ n
unfolding width_allowed
told-6 n e z = by (eqb n 6) (eqb n 14) (eqb-true n 6) (eqb-true n 14) (rw z at e)
  where
    by : (x y : Bool) → (x ≡ true → n ≡ 6) → (y ≡ true → n ≡ 14) → x || y ≡ true → 6 ≤ n
    by true y f g h = omega (arith, f refl)
    by false true f g h = omega (arith, g refl)
    by false false f g h = let q : ◌≡◌ {A = Bool} false true = h in absurd (let i : ◌≡◌ {A = ℕ} 0 1 = cc in omega arith)

pub w-in : (e : Eeprom) → Sound e → (6 ≤ w_of e) × (w_of e ≤ cond e.large 14 6)
unfolding w
w-in e s = width-by (eqb e.width 0) e.large e.width s.width_small (told-6 e.width s.width_ok)

le-14 : (l : Bool) (n : ℕ) → n ≤ cond l 14 6 → n ≤ 14
le-14 true n h = h
le-14 false n h = omega arith

pub w-14 : (e : Eeprom) → Sound e → w_of e ≤ 14
w-14 e s = le-14 e.large (w_of e) (w-in e s).1

pub block-1024 : (l : Bool) (k : ℕ) → k < cond l 1024 64 → k < 1024
block-1024 true k h = h
block-1024 false k h = omega arith

-- a phase begins with count 0
pub limit-pos : (p : EepromPhase) (w : ℕ) → 6 ≤ w → 0 < count_limit p w
limit-pos Opcode w h = omega arith
limit-pos ReadAddress w h = omega arith
limit-pos WriteAddress w h = omega arith
limit-pos WriteData w h = omega arith
limit-pos ReadStop w h = omega arith
limit-pos WriteStop w h = omega arith
limit-pos Reading w h = omega arith

pub limit-64 : (p : EepromPhase) (w n : ℕ) → w ≤ 14 → n < count_limit p w → n < 64
limit-64 Opcode w n h k = omega arith
limit-64 ReadAddress w n h k = omega arith
limit-64 WriteAddress w n h k = omega arith
limit-64 WriteData w n h k = omega arith
limit-64 ReadStop w n h k = omega arith
limit-64 WriteStop w n h k = omega arith
limit-64 Reading w n h k = omega arith

pub count-64 : (e : Eeprom) → Sound e → e.count < 64
count-64 e s = limit-64 e.phase (w_of e) e.count (w-14 e s) s.serial_ok.count_ok

begun : (e : Eeprom) (p : EepromPhase) (k r : ℕ) → Sound e → k < cond e.large 1024 64 → r < 68 → Serial (w_of e) e.large p 0 k r 0
begun e p k r s hk hr =
    record { count_ok = limit-pos p (w_of e) (w-in e s).0; block_ok = hk; place_ok = hr; acc_ok = omega arith }

-- the ways that a bit in can go: nothing is stored, or a whole word into the chip's block
pub data Way (e : Eeprom) : EepromStep → Type 0 where
  keeps : {p : EepromPhase} {n k r a : ℕ} → Serial (w_of e) e.large p n k r a → Way e (kept (serial e p n k r a))
  word : {p : EepromPhase} {n k r a : ℕ} (d : ℕ) → Serial (w_of e) e.large p n k r a
      → Way e (record { eeprom = serial e p n k r a; store = Block e.block d })

collect : (e : Eeprom) (whole : ℕ → EepromStep) {t : Shifted} → Sound e → ((x : ℕ) → x < 2 ^ count_limit e.phase (w_of e) → Way e (whole x))
    → Shift (count_limit e.phase (w_of e)) e.count t → Way e (shifted e whole t)
collect e whole s f (more h k) =
    let o = s.serial_ok in
    keeps (record { count_ok = h; block_ok = o.block_ok; place_ok = o.place_ok; acc_ok = k })
collect e whole s f (full {x} h) = f x h

-- the whole address is a block of the chip
block-lt : (l : Bool) (n x : ℕ) → n ≤ cond l 14 6 → x < 2 ^ n → x % 1024 < cond l 1024 64
block-lt true n x h k = mod-lt x {m = 1024} (omega arith)
block-lt false n x h k = omega (arith, pow_mono h, mod-le x 1024)

address-way : (next : EepromPhase) (e : Eeprom) (x : ℕ) → Sound e → x < 2 ^ w_of e → Way e (addressed next e x)
address-way next e x s k =
    keeps (begun e next (x % 1024) e.place s (block-lt e.large (w_of e) x (w-in e s).1 k) s.serial_ok.place_ok)

sound-serial : (e : Eeprom) {p : EepromPhase} {n k r a : ℕ} → Sound e → Serial (w_of e) e.large p n k r a → Sound (serial e p n k r a)
sound-serial e s o = record { width_ok = s.width_ok; width_small = s.width_small; serial_ok = o }

pub sound-ended : (e : Eeprom) → Sound e → Sound (ended e)
sound-ended e s = sound-serial e s (begun e Opcode e.block 0 s s.serial_ok.block_ok (omega arith))

-- the bit that abandons a read is the first of an opcode
end-way : (e : Eeprom) (b : ℕ) → Sound e → b < 2 → Way e (opcode_bit (ended e) b)
unfolding opcode_bit shift_in
end-way e b s h =
    keeps {p = Opcode} {n = 1} {r = 0} (record { count_ok = omega arith; block_ok = s.serial_ok.block_ok; place_ok = omega arith; acc_ok = shift-lt 0 b 0 h (omega arith) })

turn-way : (p : EepromPhase) (e : Eeprom) (x b : ℕ) → e.phase ≡ p → Sound e → b < 2 → x < 2 ^ count_limit p (w_of e) → Way e (turned_in p e x b)
turn-way Opcode e x b q s h k = keeps (begun e (opcode_phase x) e.block e.place s s.serial_ok.block_ok s.serial_ok.place_ok)
turn-way ReadAddress e x b q s h k = address-way ReadStop e x s k
turn-way WriteAddress e x b q s h k = address-way WriteData e x s k
turn-way WriteData e x b q s h k = word x (begun e WriteStop e.block e.place s s.serial_ok.block_ok s.serial_ok.place_ok)
turn-way ReadStop e x b q s h k =
    let o = s.serial_ok in
    keeps {r = 0} (record { count_ok = rw q at o.count_ok; block_ok = o.block_ok; place_ok = omega arith; acc_ok = o.acc_ok })
turn-way WriteStop e x b q s h k = keeps (begun e Opcode e.block e.place s s.serial_ok.block_ok s.serial_ok.place_ok)
turn-way Reading e x b q s h k = end-way e b s h

pub way : (e : Eeprom) (b : ℕ) → Sound e → b < 2 → Way e (write_bit e b)
unfolding turned
way e b s h =
    let o = s.serial_ok in
    subst (Way e) (by_turn e b o.count_ok)
    (collect e (λ x. turned e x b) s (λ x k. turn-way e.phase e x b refl s h k)
    (shift e.acc e.count (count_limit e.phase (w_of e)) b h o.count_ok o.acc_ok))

pub sound-way : {e : Eeprom} {t : EepromStep} → Sound e → Way e t → Sound t.eeprom
sound-way {e} s (keeps o) = sound-serial e s o
sound-way {e} s (word d o) = sound-serial e s o

-- a bit out
pub sound-read : (e : Eeprom) → Sound e → Sound (after_read e)
unfolding after_read
sound-read e s =
    let o = s.serial_ok in
    let P : Drawn → Type 0 = λ d. Sound (drawn_from e d) in
    either P (is_reading e.phase)
    (split P (eqb e.place 67) (λ t. sound-ended e s)
    (λ t.
    let q : e.place ≢ 67 = eqb-false e.place 67 t in
    let r = o.place_ok in
    sound-serial e s (record { count_ok = o.count_ok; block_ok = o.block_ok; place_ok = omega arith; acc_ok = o.acc_ok })))
    s

-- a wider address: a DMA announcement, or a load that shows a large chip
pub limit-mono : (p : EepromPhase) (v w n : ℕ) → v ≤ w → n < count_limit p v → n < count_limit p w
limit-mono Opcode v w n h k = k
limit-mono ReadAddress v w n h k = omega arith
limit-mono WriteAddress v w n h k = omega arith
limit-mono WriteData v w n h k = k
limit-mono ReadStop v w n h k = k
limit-mono WriteStop v w n h k = k
limit-mono Reading v w n h k = k

block-mono : (l j : Bool) (k : ℕ) → (l ≡ true → j ≡ true) → k < cond l 1024 64 → k < cond j 1024 64
block-mono true true k f h = h
block-mono true false k f h = let z : ◌≡◌ {A = Bool} false true = f refl in absurd (let i : ◌≡◌ {A = ℕ} 0 1 = cc in omega arith)
block-mono false true k f h = omega arith
block-mono false false k f h = h

sound-told : (e : Eeprom) (n : ℕ) (l : Bool) → Sound e → (e.large ≡ true → l ≡ true) → width_allowed n ≡ true → n ≤ cond l 14 6
    → e.count < count_limit e.phase (w n l) → Sound (told n l e)
sound-told e n l s f a h k =
    let o = s.serial_ok in
    record {
      width_ok = a;
      width_small = h;
      serial_ok = record { count_ok = k; block_ok = block-mono e.large l e.block f o.block_ok; place_ok = o.place_ok; acc_ok = o.acc_ok };
    }

-- question 5 keeps the count below the width that is told
pub told-count : (p : EepromPhase) (v n : ℕ) → not (is_address p) || ltb n 6 ≡ true → n < count_limit p v → n < count_limit p 6
told-count Opcode v n h k = k
told-count ReadAddress v n h k = ltb-true n 6 h
told-count WriteAddress v n h k = ltb-true n 6 h
told-count WriteData v n h k = k
told-count ReadStop v n h k = k
told-count WriteStop v n h k = k
told-count Reading v n h k = k

least-6 : (l : Bool) → 6 ≤ cond l 14 6
least-6 true = omega arith
least-6 false = omega arith

-- where 6 is told, question 5 asks the rest
pub asked : (x y z : Bool) → x ≡ true → not x || y || z ≡ true → y || z ≡ true
asked x y z q h = rw q at h

pub sound-dma : (words : ℕ) (e : Eeprom) → Sound e → (dma_question words e).yes ≡ true → Sound (begin_dma words e)
unfolding begin_dma dma_question width_allowed w
sound-dma words e s h =
    split Sound (tells6 words)
    (λ t. sound-told e 6 e.large s (λ q. q) refl (least-6 e.large) (told-count e.phase (w_of e) e.count (asked (tells6 words) (not (is_address e.phase)) (ltb e.count 6) t h) s.serial_ok.count_ok))
    (λ t. either Sound (tells14 words)
    (sound-told e 14 true s (λ q. refl) refl (omega arith) (limit-mono e.phase (w_of e) 14 e.count (w-14 e s) s.serial_ok.count_ok))
    s)

pub w-mono : (x l b : Bool) (n : ℕ) → cond x (cond l 14 6) n ≤ cond x (cond (l || b) 14 6) n
w-mono true true b n = omega arith
w-mono true false true n = omega arith
w-mono true false false n = omega arith
w-mono false l b n = omega arith

most-14 : (l b : Bool) (n : ℕ) → n ≤ cond l 14 6 → n ≤ cond (l || b) 14 6
most-14 true b n h = h
most-14 false true n h = omega arith
most-14 false false n h = h

or-more : (l b : Bool) → l ≡ true → l || b ≡ true
or-more l b e = rw e

pub sound-load : (e : Eeprom) (b : Bool) → Sound e → Sound (told e.width (e.large || b) e)
unfolding w
sound-load e b s =
    sound-told e e.width (e.large || b) s (or-more e.large b) s.width_ok (most-14 e.large b e.width s.width_small)
    (limit-mono e.phase (w_of e) (w e.width (e.large || b)) e.count (w-mono (eqb e.width 0) e.large b e.width) s.serial_ok.count_ok)

pub sound-fresh : (l : Bool) → Sound (record { width = 0; large = l; phase = Opcode; count = 0; block = 0; place = 0; acc = 0 })
unfolding width_allowed
sound-fresh l =
    record {
      width_ok = refl;
      width_small = omega arith;
      serial_ok = record { count_ok = omega arith; block_ok = either (λ (n : ℕ). 0 < n) l (omega arith) (omega arith); place_ok = omega arith; acc_ok = omega arith };
    }
