-- What every step keeps of a chip whose fields are those that document 01's table allows. Assumes nothing.
use mathlib.Core.Path.{◌≡◌, refl, subst}
use mathlib.Core.Logic.{◌≢◌}
use mathlib.Core.Bool.{Bool, true, ◌||◌, not}
use Prim.Native.Nat.{ℕ, ◌+◌, ◌%◌, ◌≤◌, ◌<◌}
use native.Mathlib.Nat.{mod-lt}
use native.Mathlib.Omega.{arith}
use lib.Dec.{ltb, eqb}
use borrow.Author.Tests.{eqb-true, eqb-false}
use Rattle.lists.proofs.Bools.{split, either, cases}
use Rattle.eeprom.specs.declared.EepromPhase.{EepromPhase}
use Rattle.eeprom.specs.declared.EepromPhase.TheVariants.{Opcode, ReadAddress, WriteAddress, WriteData, ReadStop, WriteStop, Reading}
use Rattle.eeprom.specs.declared.Eeprom.{Eeprom}
use Rattle.eeprom.specs.declared.Drawn.{Drawn}
use Rattle.eeprom.specs.declared.Shifted.{Shifted}
use Rattle.eeprom.specs.Eeprom.{width_allowed, w, w_of, count_limit, told, tells6, tells14, begin_dma, is_address, dma_question, is_reading, serial, shift_in, shifted, opcode_phase, opcode_bit, turned_in, turned, write_bit, drawn_from, after_read}
use Rattle.eeprom.proofs.Turns.{by_turn}
use Rattle.eeprom.proofs.Sound.{told-6, limit-pos, limit-mono, told-count, asked, w-mono}

pub record Allowed (e : Eeprom) : Type 0 where
  pub width_ok : width_allowed e.width ≡ true
  pub count_ok : e.count < count_limit e.phase (w_of e)
  pub block_ok : e.block < 1024
  pub place_ok : e.place < 68

-- W
least : (n : ℕ) (large : Bool) → width_allowed n ≡ true → 6 ≤ w n large
unfolding w
least n large a =
    split (λ (k : ℕ). 6 ≤ k) (eqb n 0) (λ z. either (λ (k : ℕ). 6 ≤ k) large (omega arith) (omega arith)) (λ z. told-6 n a z)

pub w_le : (width : ℕ) (large : Bool) → width_allowed width ≡ true → w width large ≤ 14
unfolding width_allowed w
w_le width large e =
    cases (eqb width 0) (λ z. rw z (either (λ (k : ℕ). k ≤ 14) large (omega arith) (omega arith)))
    (λ z. rw z (cases (eqb width 6) (λ s. omega (arith, eqb-true width 6 s)) (λ s. omega (arith, eqb-true width 14 (rw (z, s) at e)))))

-- a phase begins
begun : (e : Eeprom) (p : EepromPhase) (k r a : ℕ) → Allowed e → k < 1024 → r < 68 → Allowed (serial e p 0 k r a)
begun e p k r a o hk hr =
    record { width_ok = o.width_ok; count_ok = limit-pos p (w_of e) (least e.width e.large o.width_ok); block_ok = hk; place_ok = hr }

block_in : (x : ℕ) → x % 1024 < 1024
block_in x = mod-lt x {m = 1024} (omega arith)

turn : (p : EepromPhase) (e : Eeprom) (x b : ℕ) → e.phase ≡ p → Allowed e → Allowed (turned_in p e x b).eeprom
unfolding opcode_bit shift_in
turn Opcode e x b q o = begun e (opcode_phase x) e.block e.place 0 o o.block_ok o.place_ok
turn ReadAddress e x b q o = begun e ReadStop (x % 1024) e.place 0 o (block_in x) o.place_ok
turn WriteAddress e x b q o = begun e WriteData (x % 1024) e.place 0 o (block_in x) o.place_ok
turn WriteData e x b q o = begun e WriteStop e.block e.place 0 o o.block_ok o.place_ok
turn ReadStop e x b q o = record { width_ok = o.width_ok; count_ok = rw q at o.count_ok; block_ok = o.block_ok; place_ok = omega arith }
turn WriteStop e x b q o = begun e Opcode e.block e.place 0 o o.block_ok o.place_ok
turn Reading e x b q o = record { width_ok = o.width_ok; count_ok = omega arith; block_ok = o.block_ok; place_ok = omega arith }

-- a bit in
pub allowed-bit : (e : Eeprom) (b : ℕ) → Allowed e → Allowed (write_bit e b).eeprom
unfolding turned shift_in
allowed-bit e b o =
    let z : ℕ = count_limit e.phase (w_of e) in
    let c = o.count_ok in
    subst (λ t. Allowed t.eeprom) (by_turn e b c)
    (split (λ (q : Shifted). Allowed (shifted e (λ x. turned e x b) q).eeprom) (eqb (e.count + 1) z)
    (λ t. turn e.phase e _ b refl o)
    (λ t.
    let q : e.count + 1 ≢ z = eqb-false (e.count + 1) z t in
    record { width_ok = o.width_ok; count_ok = omega arith; block_ok = o.block_ok; place_ok = o.place_ok }))

-- a bit out
pub allowed-read : (e : Eeprom) → Allowed e → Allowed (after_read e)
unfolding after_read
allowed-read e o =
    let P : Drawn → Type 0 = λ d. Allowed (drawn_from e d) in
    either P (is_reading e.phase)
    (split P (eqb e.place 67) (λ t. begun e Opcode e.block 0 0 o o.block_ok (omega arith))
    (λ t.
    let q : e.place ≢ 67 = eqb-false e.place 67 t in
    let r = o.place_ok in
    record { width_ok = o.width_ok; count_ok = o.count_ok; block_ok = o.block_ok; place_ok = omega arith }))
    o

-- a DMA announcement, and a load that shows a large chip
allowed-told : (e : Eeprom) (n : ℕ) (l : Bool) → Allowed e → width_allowed n ≡ true → e.count < count_limit e.phase (w n l) → Allowed (told n l e)
allowed-told e n l o a h = record { width_ok = a; count_ok = h; block_ok = o.block_ok; place_ok = o.place_ok }

pub allowed-dma : (words : ℕ) (e : Eeprom) → Allowed e → (dma_question words e).yes ≡ true → Allowed (begin_dma words e)
unfolding begin_dma dma_question width_allowed w
allowed-dma words e o h =
    split Allowed (tells6 words)
    (λ t. allowed-told e 6 e.large o refl (told-count e.phase (w_of e) e.count (asked (tells6 words) (not (is_address e.phase)) (ltb e.count 6) t h) o.count_ok))
    (λ t. either Allowed (tells14 words)
    (allowed-told e 14 true o refl (limit-mono e.phase (w_of e) 14 e.count (w_le e.width e.large o.width_ok) o.count_ok))
    o)

pub allowed-load : (e : Eeprom) (b : Bool) → Allowed e → Allowed (told e.width (e.large || b) e)
unfolding w
allowed-load e b o =
    allowed-told e e.width (e.large || b) o o.width_ok
    (limit-mono e.phase (w_of e) (w e.width (e.large || b)) e.count (w-mono (eqb e.width 0) e.large b e.width) o.count_ok)
