-- `kind::markers::contains` meets its contract. The invariant: the marker does not stand before this place. Assumes nothing.
use mathlib.Core.Path.{◌≡◌}
use lib.ListN.{drop}
use Rattle.kind.specs.Kind.{stands}
use Rattle.kind.proofs.markers.contains.Given as goal

abbrev pub invariant-loop-place : goal.invariant-loop-place
invariant-loop-place l = stands l.marker (drop l.place l.s) ≡ stands l.marker l.s
