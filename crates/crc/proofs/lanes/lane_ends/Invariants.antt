-- `crc::lanes::lane_ends` meets its contract: each register is the fold over its lane's bytes so far. Assumes nothing.
use mathlib.Core.Path.{◌≡◌}
use Prim.Native.Nat.{◌+◌, ◌-◌, ◌*◌}
use Rattle.crc.specs.Lanes.{lane_ends}
use Rattle.crc.proofs.Rounds.{leaves}
use Rattle.crc.proofs.lanes.lane_ends.Given as goal

abbrev pub invariant-loop-word : goal.invariant-loop-word
invariant-loop-word l = l.registers ≡ lane_ends l.c l.s (4 * l.word)

abbrev pub invariant-loop : goal.invariant-loop
invariant-loop l = leaves (4 - l.counter) l.registers ≡ lane_ends l.c l.s (4 * l.word + 4)
