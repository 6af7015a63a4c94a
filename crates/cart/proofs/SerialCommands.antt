-- GBATEK's serial commands through the machine. Assumes nothing.
use mathlib.Core.Path.{◌≡◌, refl, sym, ap, subst, ◌∙◌}
use mathlib.Core.Logic.{◌≢◌}
use mathlib.Core.Bool.{Bool, true, false, cond, ◌||◌, not}
use mathlib.Core.List.{List, [], ◌∷◌, ◌++◌, map}
use Prim.Native.Nat.{ℕ, zero, suc, ◌+◌, ◌*◌, ◌%◌, ◌≤◌, ◌<◌}
use native.Mathlib.Omega.{arith}
use lib.Dec.{ltb, eqb}
use lib.ListN.{length, take, drop, replicate}
use borrow.Author.Tests.{ltb-true, ltb-false, eqb-true, eqb-false}
use Rattle.lists.specs.Lists.{digits, with_part}
use Rattle.lists.proofs.Bools.{cases, either}
use Rattle.lists.proofs.Parts.{part-before, part_same, drop-part}
use Rattle.memory.specs.Memory.{Held}
use Rattle.memory.proofs.Memory.{length-word}
use Rattle.kind.specs.Kind.{uses_eeprom}
use Rattle.eeprom.specs.declared.Eeprom.{Eeprom}
use Rattle.eeprom.specs.declared.EepromPhase.TheVariants.{Opcode, Reading}
use Rattle.eeprom.specs.Eeprom.{told, tells6, tells14, begin_dma, dma_question, serial, bit_in, read_bit, after_read}
use Rattle.eeprom.specs.Gbatek as eeprom
use Rattle.eeprom.specs.Gbatek.{Width, Writing, Addressing, bits, bits_of_bytes, read_out, fed, drawn, drained, held, block_of}
use Rattle.eeprom.proofs.Bits.{bits-word}
use Rattle.eeprom.proofs.Commands.{serial-chip}
use Rattle.cart.specs.Record.{State, outcome, counted}
use Rattle.cart.specs.Calls.{eeprom_begin_dma, eeprom_write, eeprom_read, eeprom_of, with_eeprom, with_chip, questions, accepted, step}
use Rattle.cart.specs.Gbatek.{Ran, ran, calls, Usable, SerialBitsClaim, write, read, behind, SerialClaim}
use Rattle.cart.proofs.Sound.{step-accepted, eeprom-size}
use Rattle.cart.proofs.Tallies.{tallies-stay, tallies-again}
use Rattle.cart.proofs.Usable.{memory-yes, tallies-yes, usable-step}
use Rattle.cart.proofs.Runs.{then, nothing, calls-then, usable-on}

-- bits in and bits out are accepted one after the other
bit-step : (s : State) (v : ℕ) → uses_eeprom s.cart.kind ≡ true → Usable s → step (eeprom_write v) [] s ≡ counted s (outcome [] (with_eeprom s (bit_in (eeprom_of s) v)) [])
unfolding questions accepted
bit-step s v u k = step-accepted (eeprom_write v) [] s (k.valid, (memory-yes s k, (tallies-yes s k, (u, tt))))

run-bits : (vs : List ℕ) (s : State) → uses_eeprom s.cart.kind ≡ true → Usable s → calls (map eeprom_write vs) s ≡ ran [] (with_eeprom s (fed vs (eeprom_of s)))
unfolding fed
run-bits [] s u k = nothing s ∙ ap (ran []) (sym (tallies-stay s k.words))
run-bits (v ∷ vs) s u k =
    let t : State = with_eeprom s (bit_in (eeprom_of s) v) in
    let b = bit-step s v u k in
    then (eeprom_write v) (map eeprom_write vs) s b
    (run-bits vs t u (rw b at (usable-step (eeprom_write v) [] s k))
    ∙ ap (ran []) (tallies-again s t.memory (with_eeprom s (fed vs (eeprom_of t)))))

out_step : (s : State) → uses_eeprom s.cart.kind ≡ true → Usable s
    → step eeprom_read [] s ≡ counted s (outcome (read_bit true s.cart.chip.eeprom s.memory ∷ []) (with_chip s (after_read s.cart.chip.eeprom)) [])
unfolding questions accepted
out_step s u k = step-accepted eeprom_read [] s (k.valid, (memory-yes s k, tt)) ∙ rw u

run-outs : (n : ℕ) (s : State) → uses_eeprom s.cart.kind ≡ true → Usable s
    → calls (replicate n eeprom_read) s ≡ ran (drawn n s.cart.chip.eeprom s.memory) (with_chip s (drained n s.cart.chip.eeprom))
unfolding drawn drained
run-outs zero s u k = nothing s
run-outs (suc n) s u k =
    let t : State = with_chip s (after_read s.cart.chip.eeprom) in
    let o = out_step s u k in
    then eeprom_read (replicate n eeprom_read) s o (run-outs n t u (rw o at (usable-step eeprom_read [] s k)))

pub serial-bits : SerialBitsClaim
serial-bits s k u = record { accepts = λ vs. run-bits vs s u k; gives = λ n. run-outs n s u k }

-- the announcement of a command's halfwords
free : (t c : Bool) → not t || true || c ≡ true
free true c = refl
free false c = refl

abbrev ToldFrom : Eeprom → Eeprom → Type 0
ToldFrom e x = eeprom.Idle x × (x.place ≡ e.place)

told-by : (e : Eeprom) (n : ℕ) (b : Bool) → eeprom.Idle e → ToldFrom e (told n b e)
told-by e n b i = (record { phase0 = i.phase0; count0 = i.count0; acc_ok = i.acc_ok }, refl)

told-idle : (n : ℕ) (e : Eeprom) → eeprom.Idle e → ToldFrom e (begin_dma n e)
unfolding begin_dma
told-idle n e i =
    either (ToldFrom e) (tells6 n) (told-by e 6 e.large i) (either (ToldFrom e) (tells14 n) (told-by e 14 true i) (i, refl))

-- blocks of a memory in which one was stored
block_same : (m : List ℕ) (k d : ℕ) → 8 * k + 8 ≤ length m → block_of (with_part m (8 * k) (digits 256 8 d)) k ≡ digits 256 8 d
block_same m k d h =
    subst (λ (n : ℕ). take n (drop (8 * k) (with_part m (8 * k) (digits 256 8 d))) ≡ digits 256 8 d) (length-word d)
    (part_same m (8 * k) (digits 256 8 d) (omega arith))

block-other : (m : List ℕ) (k d j : ℕ) → 8 * k + 8 ≤ length m → k ≢ j → block_of (with_part m (8 * k) (digits 256 8 d)) j ≡ block_of m j
block-other m k d j h n =
    cases (ltb j k)
    (λ t. let l : j < k = ltb-true j k t in part-before m (8 * k) (digits 256 8 d) 8 (8 * j) (omega arith) (omega arith))
    (λ t.
    let l : k ≤ j = ltb-false j k t in
    ap (take 8) (drop-part m (8 * k) (digits 256 8 d) (8 * j) (omega arith) (omega (arith, length-word d))))

-- a usable state of an EEPROM kind that awaits a command
record Waits (s : State) : Type 0 where
  usable : Usable s
  kind : uses_eeprom s.cart.kind ≡ true
  idle : eeprom.Idle s.cart.chip.eeprom

module _ (s : State) (i : Waits s) where
  abbrev e : Eeprom
  e = s.cart.chip.eeprom

  abbrev m : List ℕ
  m = s.memory

  room : (k : ℕ) → 8 * (k % 1024) + 8 ≤ length m
  room k = omega (arith, i.usable.memory_ok, eeprom-size s.cart.kind i.kind)

  tell : (n : ℕ) → step (eeprom_begin_dma n) [] s ≡ counted s (outcome [] (with_chip s (begin_dma n e)) [])
  unfolding questions accepted dma_question
  tell n =
      let q : (dma_question n e).yes ≡ true = rw i.idle.phase0 (free (tells6 n) (ltb e.count 6)) in
      step-accepted (eeprom_begin_dma n) [] s (i.usable.valid, (q, tt))

  -- the announcement, then bits
  told-bits : (n : ℕ) (vs : List ℕ) → calls (eeprom_begin_dma n ∷ map eeprom_write vs) s ≡ ran [] (with_eeprom s (fed vs (held (begin_dma n e) m s.cart.dirty)))
  told-bits n vs =
      then (eeprom_begin_dma n) (map eeprom_write vs) s (tell n)
      (run-bits vs (with_chip s (begin_dma n e)) i.kind (rw (tell n) at (usable-step (eeprom_begin_dma n) [] s i.usable)))

  writes-block : (w : ℕ) → Width w → (block word : ℕ) (vs : List ℕ) → Writing w block word vs
      → calls (write w vs) s ≡ ran [] (behind s true (w + 67) (block % 1024) e.place (with_part m (8 * (block % 1024)) (digits 256 8 word)))
  writes-block w x block y vs c =
      let n : ℕ = w + 67 in
      let t = told-idle n e i.idle in
      told-bits n vs
      ∙ ap (λ (z : Held Eeprom). ran [] (with_eeprom s z)) ((serial-chip w (begin_dma n e) x t.0).writes block y vs m s.cart.dirty (serial-chip w e x i.idle).announces_write c)
      ∙ ap (λ (p : ℕ). ran [] (behind s true n (block % 1024) p (with_part m (8 * (block % 1024)) (digits 256 8 y)))) t.1

  reads-block : (w : ℕ) → Width w → (block : ℕ) (vs : List ℕ) → Addressing w block vs
      → calls (read w vs) s ≡ ran (read_out (block_of m (block % 1024))) (behind s s.cart.dirty (w + 3) (block % 1024) 0 m)
  reads-block w x block vs h =
      let n : ℕ = w + 3 in
      let k : ℕ = block % 1024 in
      let c = serial-chip w (begin_dma n e) x (told-idle n e i.idle).0 in
      let cs = eeprom_begin_dma n ∷ map eeprom_write vs in
      let u = i.usable.words in
      let t : State = with_chip s (serial (begin_dma n e) Reading 0 k 0 0) in
      let a : calls cs s ≡ ran [] t =
      told-bits n vs
      ∙ ap (λ (z : Held Eeprom). ran [] (with_eeprom s z)) (c.addresses block vs m s.cart.dirty (serial-chip w e x i.idle).announces_read h)
      ∙ ap (ran []) (tallies-stay t u)
      in
      calls-then cs (replicate 68 eeprom_read) s a (run-outs 68 t i.kind (usable-on cs s i.usable a))
      ∙ (λ j. ran (c.reads block m (room block) j) (with_chip s (c.ends k j)))
      ∙ ap (ran (read_out (block_of m k))) (sym (tallies-stay (with_chip s (serial (begin_dma n e) Opcode 0 k 0 0)) u))

-- a read gives what the last write stored, and other blocks are untouched
after : (w : ℕ) → Width w → (s : State) → Waits s → (block word other : ℕ) (vs us : List ℕ) → Writing w block word vs → Addressing w other us
    → (calls (write w vs ++ read w us) s).given
    ≡ replicate 4 0 ++ cond (eqb (block % 1024) (other % 1024)) (bits 64 word) (bits_of_bytes (block_of s.memory (other % 1024)))
unfolding read_out
after w x s i block y other vs us c h =
    let k : ℕ = block % 1024 in
    let j : ℕ = other % 1024 in
    let m' : List ℕ = with_part s.memory (8 * k) (digits 256 8 y) in
    let t : State = behind s true (w + 67) k s.cart.chip.eeprom.place m' in
    let p = writes-block s i w x block y vs c in
    let l : Waits t = record { usable = usable-on (write w vs) s i.usable p; kind = i.kind; idle = record { phase0 = refl; count0 = refl; acc_ok = refl } } in
    ap (λ (r : Ran). r.given) (calls-then (write w vs) (read w us) s p (reads-block t l w x other us h))
    ∙ ap (λ (q : List ℕ). replicate 4 0 ++ q)
    (cases (eqb k j)
    (λ b. rw b (ap (λ (n : ℕ). bits_of_bytes (block_of m' n)) (sym (eqb-true k j b)) ∙ ap bits_of_bytes (block_same s.memory k y (room s i block)) ∙ bits-word y))
    (λ b. rw b (ap bits_of_bytes (block-other s.memory k y j (room s i block) (eqb-false k j b)))))

idle-ready : (s : State) → Waits s → calls (eeprom_read ∷ []) s ≡ ran (1 ∷ []) s
unfolding read_bit after_read
idle-ready s i =
    let o : step eeprom_read [] s ≡ counted s (outcome (1 ∷ []) s []) = out_step s i.kind i.usable ∙ rw i.idle.phase0 in
    then eeprom_read [] s o (nothing s)

pub serial-commands : SerialClaim
serial-commands w s x u k h =
    let i : Waits s = record { usable = u; kind = k; idle = h } in
    record { writes = writes-block s i w x; reads = reads-block s i w x; write_read = after w x s i; ready = idle-ready s i }
