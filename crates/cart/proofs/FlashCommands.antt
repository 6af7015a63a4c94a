-- GBATEK's flash commands through the machine. Assumes nothing.
use mathlib.Core.Path.{◌≡◌, refl, sym, ap, ◌∙◌}
use mathlib.Core.Bool.{true, false, cond}
use mathlib.Core.List.{List, [], ◌∷◌, ◌++◌}
use Prim.Native.Nat.{ℕ, ◌+◌, ◌%◌, ◌<◌}
use native.Mathlib.Omega.{arith}
use lib.Dec.{eqb}
use lib.ListN.{length, get_or, set, length-set}
use Rattle.lists.proofs.Parts.{set_at, eqb-add}
use Rattle.memory.specs.Memory.{Held}
use Rattle.kind.specs.declared.SaveType.{SaveType}
use Rattle.kind.specs.Kind.{memory_size}
use Rattle.part.specs.declared.Part.{Part}
use Rattle.part.specs.Part.{id_word}
use Rattle.flash.specs.declared.Flash.{Flash}
use Rattle.flash.specs.Flash.{place, id_byte, shown_byte, write_byte}
use Rattle.flash.specs.Gbatek.{Write, At, gbatek, bus, written, program, half_erase, place_of, base, ChipBytes, bytes64_k, bytes128_k, Idle, idle_chip}
use Rattle.flash.proofs.Commands.{flash-chip}
use Rattle.byte_step.specs.ByteStep.{read_byte, write_step}
use Rattle.cart.specs.Record.{State, outcome, counted}
use Rattle.cart.specs.Calls.{save_read, save_write, flash_of, with_flash, read_save, write_save, questions, accepted, step}
use Rattle.cart.specs.Gbatek.{Ran, ran, calls, Usable, FlashPart, sst64_k, macronix64_k, panasonic64_k, usual64_k, sanyo128_k, macronix128_k, usual128_k, writes, FlashClaim}
use Rattle.cart.proofs.Bounds.{allowed-bounds}
use Rattle.cart.proofs.Sound.{place-lt, step-accepted}
use Rattle.cart.proofs.Tallies.{tallies-stay, tallies-again}
use Rattle.cart.proofs.Usable.{memory-yes, tallies-yes, usable-step}
use Rattle.cart.proofs.Runs.{then, nothing, calls-then, usable-on}

write-part : {kind : SaveType} {part : Part} {maker device : ℕ} → FlashPart kind part maker device → (s : State) (a v : ℕ) → write_save kind s a v ≡ with_flash s (write_byte (flash_of s) a v)
unfolding write_save write_step write_byte
write-part sst64_k s a v = refl
write-part macronix64_k s a v = refl
write-part panasonic64_k s a v = refl
write-part usual64_k s a v = refl
write-part sanyo128_k s a v = refl
write-part macronix128_k s a v = refl
write-part usual128_k s a v = refl

-- in ID mode, and not
id-part : {kind : SaveType} {part : Part} {maker device : ℕ} → FlashPart kind part maker device
    → (f : Flash) (m : List ℕ) (a : ℕ) → f.id ≡ true → read_byte kind part f m a ≡ cond (eqb (a % 2) 0) maker device
unfolding read_byte id_word id_byte
id-part sst64_k f m a e = rw e refl
id-part macronix64_k f m a e = rw e refl
id-part panasonic64_k f m a e = rw e refl
id-part usual64_k f m a e = rw e refl
id-part sanyo128_k f m a e = rw e refl
id-part macronix128_k f m a e = rw e refl
id-part usual128_k f m a e = rw e refl

byte-part : {kind : SaveType} {part : Part} {maker device : ℕ} → FlashPart kind part maker device
    → (f : Flash) (m : List ℕ) (a : ℕ) → f.id ≡ false → read_byte kind part f m a ≡ get_or m (place f (length m) a) 0
unfolding read_byte shown_byte
byte-part sst64_k f m a e = rw e refl
byte-part macronix64_k f m a e = rw e refl
byte-part panasonic64_k f m a e = rw e refl
byte-part usual64_k f m a e = rw e refl
byte-part sanyo128_k f m a e = rw e refl
byte-part macronix128_k f m a e = rw e refl
byte-part usual128_k f m a e = rw e refl

size-part : {kind : SaveType} {part : Part} {maker device : ℕ} → FlashPart kind part maker device → ChipBytes (memory_size kind)
size-part sst64_k = bytes64_k
size-part macronix64_k = bytes64_k
size-part panasonic64_k = bytes64_k
size-part usual64_k = bytes64_k
size-part sanyo128_k = bytes128_k
size-part macronix128_k = bytes128_k
size-part usual128_k = bytes128_k

size-pos : {n : ℕ} → ChipBytes n → 0 < n
size-pos bytes64_k = omega arith
size-pos bytes128_k = omega arith

reads : (s : State) (a v : ℕ) → read_save s.cart.kind s a ≡ v → Usable s → calls (save_read a ∷ []) s ≡ ran (v ∷ []) s
unfolding questions accepted
reads s a v e u =
    then (save_read a) [] s
    (step-accepted (save_read a) [] s (u.valid, (memory-yes s u, tt)) ∙ ap (λ (x : ℕ). counted s (outcome (x ∷ []) s [])) e)
    (nothing s)

module _ {maker device : ℕ} where
  write_step_lem : (s : State) (a v : ℕ) → FlashPart s.cart.kind s.cart.part maker device → Usable s → step (save_write a v) [] s ≡ counted s (outcome [] (with_flash s (write_byte (flash_of s) a v)) [])
  unfolding questions accepted
  write_step_lem s a v f u =
      step-accepted (save_write a v) [] s (u.valid, (memory-yes s u, (tallies-yes s u, tt))) ∙ ap (λ (t : State). counted s (outcome [] t [])) (write-part f s a v)

  run-writes : (ws : List Write) (s : State) → FlashPart s.cart.kind s.cart.part maker device → Usable s → calls (writes ws) s ≡ ran [] (with_flash s (written ws (flash_of s)))
  unfolding written
  run-writes [] s f u = nothing s ∙ ap (ran []) (sym (tallies-stay s u.words))
  run-writes (w ∷ ws) s f u =
      let t : State = with_flash s (write_byte (flash_of s) w.address w.value) in
      let o = write_step_lem s w.address w.value f u in
      then (save_write w.address w.value) (writes ws) s o
      (run-writes ws t f (rw o at (usable-step (save_write w.address w.value) [] s u))
      ∙ ap (ran []) (tallies-again s t.memory (with_flash s (written ws (flash_of t)))))

  shows : (s : State) → FlashPart s.cart.kind s.cart.part maker device → Usable s → s.cart.chip.flash.id ≡ false
      → (a : ℕ) → calls (save_read a ∷ []) s ≡ ran (get_or s.memory (place_of (flash_of s) a) 0 ∷ []) s
  unfolding read_save
  shows s f u e a = reads s a _ (byte-part f s.cart.chip.flash s.memory a e) u

  identifies : (s : State) → FlashPart s.cart.kind s.cart.part maker device → Usable s → s.cart.chip.flash.id ≡ true
      → (a : ℕ) → calls (save_read a ∷ []) s ≡ ran (cond (eqb (a % 2) 0) maker device ∷ []) s
  unfolding read_save
  identifies s f u e a = reads s a _ (id-part f s.cart.chip.flash s.memory a e) u

  idle : (s : State) → FlashPart s.cart.kind s.cart.part maker device → Usable s → s.cart.chip.flash.state ≡ 0 → Idle (flash_of s)
  idle s f u z = record { size = rw u.memory_ok (size-part f); state0 = z; bank_ok = (allowed-bounds s.cart u.valid).bank_ok }

-- the byte that a read shows after a program
program-read : {maker device : ℕ} (s : State) → Usable s → FlashPart s.cart.kind s.cart.part maker device → s.cart.chip.flash.state ≡ 0 → s.cart.chip.flash.id ≡ false
    → (t : At) (a v c : ℕ)
    → (calls (writes (program t a v) ++ (save_read c ∷ [])) s).given
    ≡ cond (eqb (place_of (flash_of s) c) (place_of (flash_of s) a)) v (get_or s.memory (place_of (flash_of s) c) 0) ∷ []
unfolding place
program-read s u f z e t a v c =
    let i = idle s f u z in
    let m : List ℕ = s.memory in
    let q : ℕ = place_of (flash_of s) a in
    let y : State = with_flash s (idle_chip s.cart.chip.flash.bank s.cart.chip.flash.id (set m q v) true) in
    let p : calls (writes (program t a v)) s ≡ ran [] y = run-writes (program t a v) s f u ∙ ap (λ x. ran [] (with_flash s x)) ((flash-chip (flash_of s) i).0.programs t a v) in
    let l : Usable y = usable-on (writes (program t a v)) s u p in
    let h : q < length m = place-lt s.cart.chip.flash (length m) a (size-pos i.size) in
    ap (λ (x : Ran). x.given) (calls-then (writes (program t a v)) (save_read c ∷ []) s p (shows y f l e c))
    ∙ ap (λ (x : ℕ). x ∷ []) (rw (length-set m q v) (set_at m q v (place_of (flash_of s) c) h))

gbatek-read : {maker device : ℕ} (s : State) → Usable s → FlashPart s.cart.kind s.cart.part maker device → s.cart.chip.flash.state ≡ 0 → s.cart.chip.flash.id ≡ false
    → (a v c : ℕ) → a < 65536 → c < 65536
    → (calls (writes (program gbatek (bus a) v) ++ (save_read (bus c) ∷ [])) s).given
    ≡ cond (eqb c a) v (get_or s.memory (base (flash_of s) + c) 0) ∷ []
gbatek-read s u f z e a v c ha hc =
    let g = (flash-chip (flash_of s) (idle s f u z)).1 in
    program-read s u f z e gbatek (bus a) v (bus c) ∙ rw (g.byte_at a ha, g.byte_at c hc, eqb-add (base (flash_of s)) c a)

pub flash-commands : FlashClaim
flash-commands maker device s u f =
    record {
      accepts = λ ws. run-writes ws s f u;
      shows = shows s f u;
      identifies = identifies s f u;
      does = λ z. flash-chip (flash_of s) (idle s f u z);
      program_read = program-read s u f;
      gbatek_read = gbatek-read s u f;
    }

-- case (i): without the second unlock nothing is erased
pub no-erase : (s : State) (maker device : ℕ) → Usable s → FlashPart s.cart.kind s.cart.part maker device → s.cart.chip.flash.state ≡ 0 → (t : At) (a : ℕ)
    → (calls (writes (half_erase t a)) s).last.memory ≡ s.memory
no-erase s maker device u f z t a =
    ap (λ (x : Ran). x.last.memory) (run-writes (half_erase t a) s f u)
    ∙ ap (λ (x : Held Flash). x.memory) ((flash-chip (flash_of s) (idle s f u z)).0.spares t a)
