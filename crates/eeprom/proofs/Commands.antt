-- GBATEK's serial commands. Assumes nothing.
use mathlib.Core.Path.{◌≡◌, refl, sym, ap, subst, ◌∙◌}
use mathlib.Core.Logic.{◌≢◌}
use mathlib.Core.Bool.{Bool, true, cond}
use mathlib.Core.List.{List, [], ◌∷◌, ◌++◌, map, map-append}
use Prim.Native.Nat.{ℕ, zero, suc, ◌+◌, ◌*◌, ◌-◌, ◌/◌, ◌%◌, ◌^◌, ◌≤◌, ◌<◌}
use native.Mathlib.Nat.{add-zero, mod-mod, div-one, div-eq_of_lt}
use native.Mathlib.Numerals.{add-one}
use native.Mathlib.Omega.{arith}
use lib.Dec.{ltb}
use lib.ListN.{length, take, drop, length-append, length-map}
use lib.Pow.{pow_mono}
use borrow.Author.Tests.{eq-eqb, ne_eqb}
use Rattle.lists.specs.Lists.{digits, with_part}
use Rattle.lists.proofs.Digits.{shift-digit}
use Rattle.lists.proofs.Parts.{spelled, spells}
use Rattle.memory.specs.Memory.{Held, stored}
use Rattle.eeprom.specs.declared.EepromPhase.{EepromPhase}
use Rattle.eeprom.specs.declared.EepromPhase.TheVariants.{Opcode, ReadAddress, WriteAddress, WriteData, ReadStop, WriteStop, Reading}
use Rattle.eeprom.specs.declared.Eeprom.{Eeprom}
use Rattle.eeprom.specs.Eeprom.{w as width_of, w_of, tells6, tells14, begin_dma, serial, shift_in, opcode_phase, opcode_bit, turned, write_bit, bit_in, bit_of_block, read_bit, after_read}
use Rattle.eeprom.specs.Gbatek.{bits, set_address, write_block, Carries, bits_of_bytes, read_out, fed, drawn, drained, held, Width, six, fourteen, block_of, SerialChipClaim, OpcodeLost, Abandons}

fed-append : (xs ys : List ℕ) (x : Held Eeprom) → fed (xs ++ ys) x ≡ fed ys (fed xs x)
unfolding fed
fed-append [] ys x = refl
fed-append (v ∷ xs) ys x = fed-append xs ys (bit_in x v)

-- the phases that collect bits: phase, length
data Taking (w : ℕ) : EepromPhase → ℕ → Type 0 where
  opcode : Taking w Opcode 2
  read_at : Taking w ReadAddress w
  write_at : Taking w WriteAddress w
  word : Taking w WriteData 64

module _ (e : Eeprom) where
  abbrev at : EepromPhase → ℕ → ℕ → ℕ → ℕ → List ℕ → Bool → Held Eeprom
  at p n k r a m d = held (serial e p n k r a) m d

  -- the chip behind the last bit of each
  abbrev full : {p : EepromPhase} {n : ℕ} → Taking (w_of e) p n → ℕ → ℕ → ℕ → List ℕ → Bool → Held Eeprom
  full opcode k r a m d = at (opcode_phase a) 0 k r 0 m d
  full read_at k r a m d = at ReadStop 0 (a % 1024) r 0 m d
  full write_at k r a m d = at WriteData 0 (a % 1024) r 0 m d
  full word k r a m d = at WriteStop 0 k r 0 (with_part m (8 * k) (digits 256 8 a)) true

  more : {p : EepromPhase} {z : ℕ} → Taking (w_of e) p z → (n k r a : ℕ) (m : List ℕ) (d : Bool) (v : ℕ) → n + 1 ≢ z
      → bit_in (at p n k r a m d) v ≡ at p (n + 1) k r ((2 * a + v % 2) % 2 ^ 64) m d
  unfolding bit_in write_bit turned shift_in stored
  more opcode n k r a m d v h = rw (ne_eqb (n + 1) 2 h)
  more read_at n k r a m d v h = rw (ne_eqb (n + 1) (w_of e) h)
  more write_at n k r a m d v h = rw (ne_eqb (n + 1) (w_of e) h)
  more word n k r a m d v h = rw (ne_eqb (n + 1) 64 h)

  last : {p : EepromPhase} {z : ℕ} (t : Taking (w_of e) p z) (n k r a : ℕ) (m : List ℕ) (d : Bool) (v : ℕ) → n + 1 ≡ z
      → bit_in (at p n k r a m d) v ≡ full t k r ((2 * a + v % 2) % 2 ^ 64) m d
  unfolding bit_in write_bit turned shift_in stored
  last opcode n k r a m d v h = rw (eq-eqb (n + 1) 2 h)
  last read_at n k r a m d v h = rw (eq-eqb (n + 1) (w_of e) h)
  last write_at n k r a m d v h = rw (eq-eqb (n + 1) (w_of e) h)
  last word n k r a m d v h = rw (eq-eqb (n + 1) 64 h)

  -- with n + 1 bits of y still to come, acc holds those above them
  collects : {p : EepromPhase} {z : ℕ} (t : Taking (w_of e) p z) (n j y k r : ℕ) (m : List ℕ) (d : Bool) → j + suc n ≡ z → y < 2 ^ 64
      → fed (bits (suc n) y) (at p j k r (y / 2 ^ suc n) m d) ≡ full t k r y m d
  unfolding digits fed
  collects t zero j y k r m d q h =
      last t j k r (y / 2 ^ 1) m d (y / 2 ^ 0 % 2) (omega arith) ∙ rw (mod-mod (y / 2 ^ 0) 2, shift-digit y 0 h, div-one y)
  collects t (suc n) j y k r m d q h =
      ap (fed (bits (suc n) y))
      (more t j k r (y / 2 ^ suc (suc n)) m d (y / 2 ^ suc n % 2) (omega arith) ∙ rw (mod-mod (y / 2 ^ suc n) 2, shift-digit y (suc n) h))
      ∙ collects t n (j + 1) y k r m d (omega arith) h

  -- a whole phase, from its start
  phase : {p : EepromPhase} {n : ℕ} (t : Taking (w_of e) p n) (y k r : ℕ) (m : List ℕ) (d : Bool) → 0 < n → n ≤ 64 → y < 2 ^ n
      → fed (bits n y) (at p 0 k r 0 m d) ≡ full t k r y m d
  phase {p} {n} t y k r m d h0 h hy =
      let q : suc (n - 1) ≡ n = omega arith in
      rw (div-eq_of_lt hy) at
      (subst (λ (i : ℕ). fed (bits i y) (at p 0 k r (y / 2 ^ i) m d) ≡ full t k r y m d) q
      (collects t (n - 1) 0 y k r m d (omega arith) (omega (arith, pow_mono h))))

  -- two bits after any acc
  abbrev opcode_of : ℕ → ℕ → ℕ → ℕ
  opcode_of a b c = (2 * ((2 * a + b % 2) % 2 ^ 64) + c % 2) % 2 ^ 64

  two-bits : (k r a b c : ℕ) (m : List ℕ) (d : Bool) → fed (b ∷ c ∷ []) (at Opcode 0 k r a m d) ≡ at (opcode_phase (opcode_of a b c)) 0 k r 0 m d
  unfolding fed
  two-bits k r a b c m d = ap (λ (x : Held Eeprom). bit_in x c) (more opcode 0 k r a m d b (omega arith)) ∙ last opcode 1 k r ((2 * a + b % 2) % 2 ^ 64) m d c refl

  opens-read : (k r a : ℕ) (m : List ℕ) (d : Bool) → a % 2 ^ 62 ≡ 0 → fed (1 ∷ 1 ∷ []) (at Opcode 0 k r a m d) ≡ at ReadAddress 0 k r 0 m d
  unfolding opcode_phase
  opens-read k r a m d h = let q : opcode_of a 1 1 ≡ 3 = omega arith in two-bits k r a 1 1 m d ∙ rw q

  opens-write : (k r a : ℕ) (m : List ℕ) (d : Bool) → a % 2 ^ 62 ≡ 0 → fed (1 ∷ 0 ∷ []) (at Opcode 0 k r a m d) ≡ at WriteAddress 0 k r 0 m d
  unfolding opcode_phase
  opens-write k r a m d h = let q : opcode_of a 1 0 ≡ 2 = omega arith in two-bits k r a 1 0 m d ∙ rw q

  opens-none : (k r a b c : ℕ) (m : List ℕ) (d : Bool) → a % 2 ^ 62 ≢ 0 → fed (b ∷ c ∷ []) (at Opcode 0 k r a m d) ≡ at Opcode 0 k r 0 m d
  unfolding opcode_phase
  opens-none k r a b c m d h =
      let q : 4 ≤ opcode_of a b c = omega arith in
      two-bits k r a b c m d ∙ rw (ne_eqb (opcode_of a b c) 3 (omega (arith, q)), ne_eqb (opcode_of a b c) 2 (omega (arith, q)))

  -- each step with `fed` as a word, so that no comparison plays the 64 bits
  write-steps : (block y z k r a : ℕ) (m : List ℕ) (d : Bool) → a % 2 ^ 62 ≡ 0 → 0 < w_of e → w_of e ≤ 64 → block < 2 ^ w_of e → y < 2 ^ 64
      → fed (write_block (w_of e) block y z) (at Opcode 0 k r a m d) ≡ fed (z ∷ []) (full word (block % 1024) r y m d)
  unfolding write_block
  write-steps block y z k r a m d ha h0 h hb hy =
      fed-append (1 ∷ 0 ∷ []) (bits (w_of e) block ++ (bits 64 y ++ (z ∷ []))) (at Opcode 0 k r a m d)
      ∙ ap (fed (bits (w_of e) block ++ (bits 64 y ++ (z ∷ [])))) (opens-write k r a m d ha)
      ∙ fed-append (bits (w_of e) block) (bits 64 y ++ (z ∷ [])) (at WriteAddress 0 k r 0 m d)
      ∙ ap (fed (bits 64 y ++ (z ∷ []))) (phase write_at block k r m d h0 h hb)
      ∙ fed-append (bits 64 y) (z ∷ []) (at WriteData 0 (block % 1024) r 0 m d)
      ∙ ap (fed (z ∷ [])) (phase word y (block % 1024) r m d (omega arith) (omega arith) hy)

  write-end : (block y z r : ℕ) (m : List ℕ) (d : Bool)
      → fed (z ∷ []) (full word (block % 1024) r y m d) ≡ at Opcode 0 (block % 1024) r 0 (with_part m (8 * (block % 1024)) (digits 256 8 y)) true
  unfolding fed bit_in write_bit turned stored
  write-end block y z r m d = refl

  whole-write : (block y z k r a : ℕ) (m : List ℕ) (d : Bool) → a % 2 ^ 62 ≡ 0 → 0 < w_of e → w_of e ≤ 64 → block < 2 ^ w_of e → y < 2 ^ 64
      → fed (write_block (w_of e) block y z) (at Opcode 0 k r a m d) ≡ at Opcode 0 (block % 1024) r 0 (with_part m (8 * (block % 1024)) (digits 256 8 y)) true
  whole-write block y z k r a m d ha h0 h hb hy = write-steps block y z k r a m d ha h0 h hb hy ∙ write-end block y z r m d

  whole-address : (block z k r a : ℕ) (m : List ℕ) (d : Bool) → a % 2 ^ 62 ≡ 0 → 0 < w_of e → w_of e ≤ 64 → block < 2 ^ w_of e
      → fed (set_address (w_of e) block z) (at Opcode 0 k r a m d) ≡ at Reading 0 (block % 1024) 0 0 m d
  unfolding set_address fed bit_in write_bit turned stored
  whole-address block z k r a m d ha h0 h hb =
      fed-append (1 ∷ 1 ∷ []) (bits (w_of e) block ++ (z ∷ [])) (at Opcode 0 k r a m d)
      ∙ ap (fed (bits (w_of e) block ++ (z ∷ []))) (opens-read k r a m d ha)
      ∙ fed-append (bits (w_of e) block) (z ∷ []) (at ReadAddress 0 k r 0 m d)
      ∙ ap (fed (z ∷ [])) (phase read_at block k r m d h0 h hb)

  -- bits out
  abbrev outs : List ℕ → ℕ → ℕ → ℕ → List ℕ
  outs m k p zero = []
  outs m k p (suc n) = cond (ltb p 4) 0 (bit_of_block m k (p - 4)) ∷ outs m k (suc p) n

  draws : (n p k : ℕ) (m : List ℕ) → p + n ≡ 68 → drawn n (serial e Reading 0 k p 0) m ≡ outs m k p n
  unfolding drawn read_bit after_read
  draws zero p k m q = refl
  draws (suc zero) p k m q = refl
  draws (suc (suc n)) p k m q =
      rw (ne_eqb p 67 (omega arith), add-one p) (ap (λ (l : List ℕ). cond (ltb p 4) 0 (bit_of_block m k (p - 4)) ∷ l) (draws (suc n) (suc p) k m (omega arith)))

  drains : (n p k : ℕ) → p + suc n ≡ 68 → drained (suc n) (serial e Reading 0 k p 0) ≡ serial e Opcode 0 k 0 0
  unfolding drained after_read
  drains zero p k q = rw (eq-eqb p 67 (omega arith))
  drains (suc n) p k q = rw (ne_eqb p 67 (omega arith), add-one p) (drains n (suc p) k (omega arith))

  outs-by : (m : List ℕ) (k : ℕ) → outs m k 0 68 ≡ read_out (spelled m (8 * k) 0 8)
  unfolding read_out bits_of_bytes digits bit_of_block
  outs-by m k = refl

block-spelled : (m : List ℕ) (k : ℕ) → 8 * k + 8 ≤ length m → block_of m k ≡ spelled m (8 * k) 0 8
block-spelled m k h = subst (λ (q : ℕ). take 8 (drop q m) ≡ spelled m (8 * k) 0 8) (add-zero (8 * k)) (spells m (8 * k) 8 0 (omega arith))

idle-at : (e : Eeprom) → e.phase ≡ Opcode → e.count ≡ 0 → e ≡ serial e Opcode 0 e.block e.place e.acc
idle-at e p c = λ j. serial e (p j) (c j) e.block e.place e.acc

width-in : {w : ℕ} → Width w → (0 < w) × (w ≤ 64)
width-in six = omega arith
width-in fourteen = omega arith

told-write : {w : ℕ} → Width w → (e : Eeprom) → w_of (begin_dma (w + 67) e) ≡ w
unfolding begin_dma tells6 tells14 width_of
told-write six e = refl
told-write fourteen e = refl

told-read : {w : ℕ} → Width w → (e : Eeprom) → w_of (begin_dma (w + 3) e) ≡ w
unfolding begin_dma tells6 tells14 width_of
told-read six e = refl
told-read fourteen e = refl

-- a halfword counts by its bit 0
abbrev low_bits : List ℕ → List ℕ
low_bits vs = map (λ v. v % 2) vs

bit-low : (x : Held Eeprom) (v : ℕ) → bit_in x v ≡ bit_in x (v % 2)
unfolding bit_in
bit-low x v = rw (mod-mod v 2)

fed-low : (vs : List ℕ) (x : Held Eeprom) → fed vs x ≡ fed (low_bits vs) x
unfolding fed
fed-low [] x = refl
fed-low (v ∷ vs) x = ap (fed vs) (bit-low x v) ∙ fed-low vs (bit_in x (v % 2))

fed-carried : (vs bs : List ℕ) (x : Held Eeprom) → Carries vs bs → fed vs x ≡ fed bs x
fed-carried vs bs x c = fed-low vs x ∙ ap (λ (l : List ℕ). fed l x) c

-- and bits are their own
low-bits : (n x : ℕ) → low_bits (bits n x) ≡ bits n x
unfolding digits
low-bits zero x = refl
low-bits (suc n) x = rw (mod-mod (x / 2 ^ n) 2, low-bits n x)

low-write : (w block y : ℕ) → low_bits (write_block w block y 0) ≡ write_block w block y 0
unfolding write_block
low-write w block y =
    simp (map-append (λ (v : ℕ). v % 2) (bits w block), map-append (λ (v : ℕ). v % 2) (bits 64 y), low-bits w block, low-bits 64 y)

low-address : (w block : ℕ) → low_bits (set_address w block 0) ≡ set_address w block 0
unfolding set_address
low-address w block = simp (map-append (λ (v : ℕ). v % 2) (bits w block), low-bits w block)

-- how many halfwords they are
length-bits : (n x : ℕ) → length (bits n x) ≡ n
unfolding digits
length-bits zero x = refl
length-bits (suc n) x = ap suc (length-bits n x)

length-carried : (vs bs : List ℕ) → Carries vs bs → length vs ≡ length bs
length-carried vs bs c = sym (length-map vs (λ (v : ℕ). v % 2)) ∙ ap length c

length-write : (w block y z : ℕ) → length (write_block w block y z) ≡ w + 67
unfolding write_block
length-write w block y z =
    simp (length-append (bits w block), length-append (bits 64 y), length-bits w block, length-bits 64 y) (omega arith)

length-address : (w block z : ℕ) → length (set_address w block z) ≡ w + 3
unfolding set_address
length-address w block z = simp (length-append (bits w block), length-bits w block) (omega arith)

pub serial-chip : SerialChipClaim
serial-chip w e x i =
    let r : Eeprom = serial e Opcode 0 e.block e.place e.acc in
    let at0 : e ≡ r = idle-at e i.phase0 i.count0 in
    record {
      writes = λ block y vs m d q c.
          let k : ℕ = block % 1024 in
          fed-carried vs (write_block w block y c.last) (held e m d) c.carries
          ∙ ap (λ (z : Eeprom). fed (write_block w block y c.last) (held z m d)) at0
          ∙ subst (λ (z : ℕ). fed (write_block z block y c.last) (held r m d) ≡ held (serial e Opcode 0 k e.place 0) (with_part m (8 * k) (digits 256 8 y)) true) q
          (whole-write e block y c.last e.block e.place e.acc m d i.acc_ok (rw q (width-in x).0) (rw q (width-in x).1) (rw q c.block_ok) c.word_ok);
      addresses = λ block vs m d q c.
          fed-carried vs (set_address w block c.last) (held e m d) c.carries
          ∙ ap (λ (z : Eeprom). fed (set_address w block c.last) (held z m d)) at0
          ∙ subst (λ (z : ℕ). fed (set_address z block c.last) (held r m d) ≡ held (serial e Reading 0 (block % 1024) 0 0) m d) q
          (whole-address e block c.last e.block e.place e.acc m d i.acc_ok (rw q (width-in x).0) (rw q (width-in x).1) (rw q c.block_ok));
      reads = λ block m h.
          let k : ℕ = block % 1024 in
          draws e 68 0 k m refl ∙ outs-by e m k ∙ ap read_out (sym (block-spelled m k h));
      ends = λ block. drains e 67 0 block refl;
      announces_write = told-write x e;
      announces_read = told-read x e;
      write_length = λ block y vs c. length-carried vs (write_block w block y c.last) c.carries ∙ length-write w block y c.last;
      address_length = λ block vs c. length-carried vs (set_address w block c.last) c.carries ∙ length-address w block c.last;
      gbatek_write = λ block y hb hy. record { block_ok = hb; word_ok = hy; last = 0; carries = low-write w block y };
      gbatek_address = λ block hb. record { block_ok = hb; last = 0; carries = low-address w block };
    }

pub opcode-lost : OpcodeLost
opcode-lost e a b m d p c h =
    ap (λ (z : Eeprom). fed (a ∷ b ∷ []) (held z m d)) (idle-at e p c) ∙ opens-none e e.block e.place e.acc a b m d h

pub abandons : Abandons
unfolding opcode_bit turned write_bit
abandons e b p = rw p
