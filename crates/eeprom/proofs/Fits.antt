-- What a bit in stores lies within the chip. Assumes nothing.
use Prim.Native.Nat.{ℕ, ◌+◌, ◌*◌, ◌≤◌}
use Rattle.memory.specs.Memory.{Fits}
use Rattle.eeprom.specs.declared.EepromPhase.{EepromPhase}
use Rattle.eeprom.specs.declared.EepromPhase.TheVariants.{Opcode, ReadAddress, WriteAddress, WriteData, ReadStop, WriteStop, Reading}
use Rattle.eeprom.specs.declared.Eeprom.{Eeprom}
use Rattle.eeprom.specs.declared.EepromStep.{EepromStep}
use Rattle.eeprom.specs.declared.Shifted.{Shifted}
use Rattle.eeprom.specs.declared.Shifted.TheVariants.{More, Full}
use Rattle.eeprom.specs.Eeprom.{w_of, by_phase, shift_in, shifted, opcode_bit, turned_in, turned, write_bit}

-- what holds of a bit of each length, and of a phase's last bit
each : (P : EepromStep → Type 0) (p : EepromPhase) {x y z t : EepromStep} → P x → P y → P z → P t → P (by_phase p x y y z t t t)
each P Opcode i j k l = i
each P ReadAddress i j k l = j
each P WriteAddress i j k l = j
each P WriteData i j k l = k
each P ReadStop i j k l = l
each P WriteStop i j k l = l
each P Reading i j k l = l

module _ (n : ℕ) where
  shifted_fits : (e : Eeprom) (full : ℕ → EepromStep) (q : Shifted) → ((acc : ℕ) → Fits (full acc).store n) → Fits (shifted e full q).store n
  shifted_fits e full (More acc count) h = tt
  shifted_fits e full (Full acc) h = h acc

  in-fits : (p : EepromPhase) (e : Eeprom) (acc b : ℕ) → 8 * e.block + 8 ≤ n → Fits (turned_in p e acc b).store n
  unfolding opcode_bit shift_in
  in-fits Opcode e acc b h = tt
  in-fits ReadAddress e acc b h = tt
  in-fits WriteAddress e acc b h = tt
  in-fits WriteData e acc b h = h
  in-fits ReadStop e acc b h = tt
  in-fits WriteStop e acc b h = tt
  in-fits Reading e acc b h = tt

  pub turned-fits : (e : Eeprom) (acc b : ℕ) → 8 * e.block + 8 ≤ n → Fits (turned e acc b).store n
  unfolding turned
  turned-fits e acc b h = in-fits e.phase e acc b h

  pub write-fits : (e : Eeprom) (b : ℕ) → 8 * e.block + 8 ≤ n → Fits (write_bit e b).store n
  unfolding write_bit
  write-fits e b h =
      let at : (length : ℕ) → Fits (shifted e (λ acc. turned e acc b) (shift_in e.acc e.count length b)).store n =
      λ length. shifted_fits e (λ acc. turned e acc b) (shift_in e.acc e.count length b) (λ acc. turned-fits e acc b h) in
      each (λ t. Fits t.store n) e.phase (at 2) (at (w_of e)) (at 64) (turned-fits e e.acc b h)
