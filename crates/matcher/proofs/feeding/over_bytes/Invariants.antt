-- `matcher::feeding::over_bytes` meets its contract: the bytes that are left, read from the present state, give the whole. Assumes nothing.
use mathlib.Core.Path.{◌≡◌}
use lib.ListN.{drop}
use Rattle.matcher.specs.Reading.{reads, more}
use Rattle.matcher.proofs.feeding.over_bytes.Given as goal

abbrev pub invariant-loop-count : goal.invariant-loop-count
invariant-loop-count l = more l.count (reads l.now (drop l.count l.part)) ≡ reads l.initial.now l.part
