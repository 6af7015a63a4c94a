use mathlib.Core.Path.{◌∙◌}
use mathlib.Core.List.{◌++◌}
use lib.ListN.{take, drop}
use Rattle.cart.specs.Replies.{tallied}
use Rattle.carttrace_lib.specs.declared.Stage.TheVariants.{Playing}
use Rattle.carttrace_lib.specs.Trace.{play, shown}
use Rattle.carttrace_lib.specs.Session.{buffers, session_with, continued}
use Rattle.carttrace_lib.proofs.Heard.{tells}
use Rattle.carttrace_lib.proofs.characters.go_on.Goals as goal

pub returns : goal.returns
unfolding continued
returns c =
    let a = c.args in
    let n = c.memory_size-n.ensures in
    let k = c.tally_count-k.ensures in
    let e = c.play-p.ensures ∙ (λ i. shown (play (c.frame_in.ensures i) (tallied a.session.cart (take (n i) a.memory.now) (take (k i) a.tallies.now))) a.out.now) in
    tells (continued a.session (buffers a.memory.now a.tallies.now)) a.out.now c.told_with.ensures
    (c.session_with.ensures ∙ (λ i. session_with Playing (c.empty_line.ensures i) (e i).0.cart))
    (λ i. ((e i).0.len, (e i).3))
    (λ i. (e i).1 ++ drop (n i) a.memory.now)
    (λ i. (e i).2 ++ drop (k i) a.tallies.now)
