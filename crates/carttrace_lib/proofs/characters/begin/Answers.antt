use mathlib.Core.Path.{refl, sym, ap, ◌∙◌}
use native.Mathlib.Omega.{arith}
use lib.ListN.{replicate}
use Rattle.kind.proofs.Sizes.{memory-small, tallies-few}
use Rattle.memory.specs.Memory.{erased}
use Rattle.frames.specs.Frames.{FirstLine}
use Rattle.std.specs.Prelude.{Some, None}
use Rattle.carttrace_lib.specs.declared.Stage.TheVariants.{Playing, Over}
use Rattle.carttrace_lib.specs.Trace.{fresh_kind}
use Rattle.carttrace_lib.specs.Session.{buffers, session_with, begun, told}
use Rattle.carttrace_lib.proofs.Heard.{tells, new-front}
use Rattle.carttrace_lib.proofs.characters.begin.Goals as goal

pub returns-in-Some : goal.returns-in-Some
unfolding begun fresh_kind
returns-in-Some c =
    let n = c.memory_size-n.ensures in
    let k = c.tally_count-k.ensures in
    let g = c.requires in
    let a = c.args in
    let m = buffers a.memory.now a.tallies.now in
    let kind = c.in-Some.kind in
    tells (begun (Some kind) a.session m) a.out.now c.told_with.ensures
    (c.session_with.ensures ∙ (λ i. session_with Playing (c.empty_line.ensures i) (c.fresh_cart.ensures i)))
    c.print_status.ensures
    (new-front erased a.memory.now n (omega (arith, n, memory-small kind, g.in_bounds)) c.blank.ensures.memory_after)
    (new-front (λ j. replicate j 0) a.tallies.now k (omega (arith, k, tallies-few kind, g.in_bounds_2)) c.blank.ensures.tallies_after)
    ∙ ap (λ (x : FirstLine). told (begun x a.session m) a.out.now) (sym c.in-Some.is)

pub returns-in-None : goal.returns-in-None
unfolding begun
returns-in-None c =
    let a = c.args in
    let m = buffers a.memory.now a.tallies.now in
    tells (begun None a.session m) a.out.now c.told_with-in-None.ensures
    (c.session_with-in-None.ensures ∙ (λ i. session_with Over (c.empty_line-in-None.ensures i) a.session.cart))
    c.print_status-in-None.ensures
    refl
    refl
    ∙ ap (λ (f : FirstLine). told (begun f a.session m) a.out.now) (sym c.in-None.is)
