use Rattle.std.proofs.Common.{ℕ, List, ap, ◌∙◌}
use Rattle.carttrace_lib.specs.Trace.{played_with, left}
use Rattle.carttrace_lib.proofs.Answers.{low-digits}
use Rattle.carttrace_lib.proofs.one_frame.show_value.Goals as goal

pub returns-in-Ok : goal.returns-in-Ok
returns-in-Ok c =
    let p = c.print_line.ensures in
    let x = c.in-Ok.accepted in
    let k = c.played_with.ensures ∙ (λ i. played_with x.cart (p.value i)) in
    rw c.in-Ok.is ((λ i. (k i, p.out_after i)) ∙ ap (λ (l : List ℕ). left x.cart l c.args.out.now) (low-digits x.value))
