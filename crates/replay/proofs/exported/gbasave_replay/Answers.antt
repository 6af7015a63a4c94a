-- `replay::exported::gbasave_replay` meets its contract. Assumes nothing.
use mathlib.Core.Path.{refl, ap, ◌∙◌}
use Prim.Native.Nat.{ℕ}
use lib.ListN.{replicate}
use Rattle.refusal.specs.Refusals.{refusal_number}
use Rattle.refusal.proofs.Passed.{not-0}
use Rattle.replay.proofs.Whole.{refused, accepted}
use Rattle.replay.proofs.exported.gbasave_replay.Goals as goal

pub returns-in-Err : goal.returns-in-Err
returns-in-Err c =
    let a = c.args in
    let e = c.in-Err.refusal in
    ap (λ (n : ℕ). (n, a.memory.now, a.scratch.now, a.out.now)) (c.from.ensures ∙ c.number.ensures)
    ∙ refused a.image.now a.part a.list.now a.memory.now a.scratch.now a.out.now (refusal_number e) c.in-Err.ensures (not-0 e)

pub returns : goal.returns
returns c =
    let a = c.args in
    accepted a.image.now a.part a.list.now a.memory.now a.scratch.now a.out.now 0 c.in_default.ensures refl
    c.open_and_run.ensures (c.fill.ensures.after (λ y e. e) ∙ ap (λ (n : ℕ). replicate n 0) c.scratch-1.given)
