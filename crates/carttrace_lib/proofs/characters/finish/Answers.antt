use mathlib.Core.Path.{◌≡◌, refl, sym, ◌∙◌}
use mathlib.Core.List.{[]}
use native.Mathlib.Omega.{arith}
use lib.ListN.{length}
use Rattle.lists.specs.Lists.{into}
use Rattle.carttrace_lib.specs.Session.{buffers, heard, line_ended, told}
use Rattle.carttrace_lib.proofs.Heard.{tells, finished-empty, finished-full}
use Rattle.carttrace_lib.proofs.Short.{ended-short}
use Rattle.carttrace_lib.proofs.characters.finish.Goals as goal

pub returns-then-is_empty : goal.returns-then-is_empty
unfolding into
returns-then-is_empty c =
    let a = c.args in
    let m = buffers a.memory.now a.tallies.now in
    let n : c.told_with.result.len ≡ 0 = λ i. (c.told_with.ensures i).len in record {
      out_after = tells (heard [] a.session m) a.out.now c.told_with.ensures refl refl refl refl
          ∙ (λ i. told (sym (finished-empty a.session m (sym c.is_empty.ensures ∙ c.if-is_empty.true)) i) a.out.now);
      len_in_bounds = omega (arith, n);
    }

pub returns : goal.returns
returns c =
    let a = c.args in
    let m = buffers a.memory.now a.tallies.now in
    let n : c.end_line.result.len ≡ length (line_ended a.session m).text = λ i. (c.end_line.ensures i).0.len in record { out_after = c.end_line.ensures ∙ (λ i. told (sym (finished-full a.session m (sym c.is_empty.ensures ∙ c.if-is_empty.false)) i) a.out.now); len_in_bounds = omega (arith, n, ended-short a.session m, c.requires) }
