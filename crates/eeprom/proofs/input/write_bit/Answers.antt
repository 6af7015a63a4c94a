-- `eeprom::input::write_bit` meets its contract. Assumes nothing.
use mathlib.Core.Path.{◌≡◌, sym, ap, ◌∙◌}
use Prim.Native.Nat.{ℕ, ◌<◌}
use Rattle.eeprom.specs.declared.Eeprom.{Eeprom}
use Rattle.eeprom.specs.declared.Shifted.{Shifted}
use Rattle.eeprom.specs.Eeprom.{w_of, count_limit, shift_in, shifted, turned, write_bit}
use Rattle.eeprom.proofs.Turns.{by_turn}
use Rattle.eeprom.proofs.input.write_bit.Goals as goal

-- the bit shifted in at the width that `w` returns
taken : (e : Eeprom) (b : ℕ) {v : ℕ} {s t : Shifted} → e.count < count_limit e.phase (w_of e) → v ≡ w_of e
    → s ≡ shift_in e.acc e.count (count_limit e.phase v) b → s ≡ t → shifted e (λ acc. turned e acc b) t ≡ write_bit e b
taken e b h w s t =
    ap (shifted e (λ acc. turned e acc b)) (sym t ∙ s ∙ ap (λ (l : ℕ). shift_in e.acc e.count (count_limit e.phase l) b) w)
    ∙ by_turn e b h

pub returns-in-More : goal.returns-in-More
returns-in-More c =
    let x = c in
    c.more.ensures
    ∙ taken x.args.e x.args.b x.requires.0 c.w.ensures c.shift.ensures c.in-More.is

pub returns-in-Full : goal.returns-in-Full
returns-in-Full c =
    let x = c in
    c.turn.ensures
    ∙ taken x.args.e x.args.b x.requires.0 c.w.ensures c.shift.ensures c.in-Full.is
