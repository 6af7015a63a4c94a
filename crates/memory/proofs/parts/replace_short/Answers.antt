-- `memory::parts::replace_short` meets its contract. Assumes nothing.
use mathlib.Core.Path.{sym, ap, ◌∙◌}
use native.Mathlib.Omega.{arith}
use Rattle.counts.specs.Counts.{used}
use Rattle.counts.proofs.Counts.{differing-0, used_le}
use Rattle.memory.proofs.Replaced.{into-whole}
use Rattle.memory.proofs.parts.replace_short.Goals as goal

pub returns-then-changed-eq0 : goal.returns-then-changed-eq0
returns-then-changed-eq0 c =
    let s = c in
    let d = sym c.differing_short-changed.ensures ∙ c.if-changed-eq0.true in
    let e = differing-0 s.args.part.now s.args.bytes.now (sym s.requires.1) d in record {
      part_after = sym e;
      replaced = record { count = c.default.ensures.0 ∙ sym d; balance = omega (arith, c.default.ensures, ap used e); most-before = omega arith; most-after = omega arith };
    }

pub returns : goal.returns
returns c =
    let s = c in
    let old = s.args.part.now in
    let new = s.args.bytes.now in
    let b = c.used_short-before.ensures in
    let a = c.used_short-after.ensures in record {
      part_after = c.copy_file.ensures ∙ into-whole new old s.requires.1;
      replaced = record {
        count = c.from.ensures ∙ c.differing_short-changed.ensures;
        balance = omega arith;
        most-before = omega (arith, used_le old);
        most-after = omega (arith, used_le new);
      };
    }
