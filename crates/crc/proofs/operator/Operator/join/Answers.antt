-- `crc::operator::Operator::join` meets its contract. Assumes nothing.
use mathlib.Core.Path.{ap, ◌∙◌}
use mathlib.Core.List.{List}
use Prim.Native.Nat.{ℕ}
use native.Mathlib.Omega.{arith}
use lib.Bits.{bit_xor}
use Rattle.crc.specs.Operator.{picked}
use Rattle.crc.proofs.Digits.{later}
use Rattle.crc.proofs.operator.Operator.join.Goals as goal

pub returns : goal.returns
returns c =
    let a = c.args in
    ap (λ (x : ℕ). bit_xor x a.b)
    (c.pick.ensures
    ∙ ap (λ (l : List ℕ). picked l a.a) a.self.right
    ∙ later 32768 a.a (omega arith))
