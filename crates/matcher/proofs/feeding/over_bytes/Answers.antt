-- `matcher::feeding::over_bytes` meets its contract: the bytes that are left, read from the present state, give the whole. Assumes nothing.
use mathlib.Core.Path.{◌≡◌, ap, ◌∙◌}
use Prim.Native.Nat.{◌+◌}
use native.Mathlib.Omega.{arith}
use lib.ListN.{length, drop}
use Rattle.matcher.specs.declared.Matcher.{Matcher}
use Rattle.matcher.specs.Reading.{reads, more}
use Rattle.matcher.proofs.Reading.{read_one, read-end, read-stop}
use Rattle.matcher.proofs.feeding.over_bytes.Goals as goal

pub returns-then-now : goal.returns-then-now
returns-then-now c =
    let b = c.loop-count in
    read-stop b.now (drop b.count c.args.part.now) b.count c.if-now.true ∙ b.invariant

pub loop-count-preserved : goal.loop-count-preserved
loop-count-preserved c =
    let b = c.loop-count in
    let s = c.args.part.now in
    ap (λ (m : Matcher). more (b.count + 1) (reads m (drop (b.count + 1) s))) c.step-now.ensures ∙ read_one b.now s b.count (omega arith) c.if-now.false ∙ b.invariant

pub returns : goal.returns
returns c =
    let b = c.loop-count in
    let s = c.args.part.now in
    let all : length s ≡ b.count = omega arith in
    rw all (read-end b.now s b.count (omega arith) ∙ b.invariant)
