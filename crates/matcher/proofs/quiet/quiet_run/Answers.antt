-- `matcher::quiet::quiet_run` meets its contract. The invariant: no pair up to place n. Assumes nothing.
use mathlib.Core.Path.{refl, sym, ◌∙◌}
use Prim.Native.Nat.{◌+◌, ◌-◌}
use native.Mathlib.Omega.{arith}
use Rattle.matcher.proofs.Pairs.{pairs-join, pairs_first, window, quiet_none}
use Rattle.matcher.proofs.quiet.quiet_run.Goals as goal

pub loop-n-init : goal.loop-n-init
loop-n-init c =
    let a = c.args in
    (omega arith, (λ h. absurd (h refl)), pairs_first a.before a.part.now (omega arith) c.if-before-part.false)

pub loop-n-preserved : goal.loop-n-preserved
loop-n-preserved c =
    let a = c.args in
    let b = c.loop-n in
    let s = a.part.now in (
      omega arith,
      (λ _. omega arith),
      pairs-join a.before s b.n 32 (omega arith) b.invariant.2
          (sym (window s b.n (b.n + 33 - b.n) (omega arith) (omega arith)) ∙ sym c.pair_in.ensures ∙ c.if-pair_in.false),
    )

pub returns-then-part-lt33 : goal.returns-then-part-lt33
returns-then-part-lt33 c = quiet_none _ _

pub returns-then-before-part : goal.returns-then-before-part
returns-then-before-part c = quiet_none _ _

pub returns-then-n-eq0 : goal.returns-then-n-eq0
returns-then-n-eq0 c = quiet_none _ _
