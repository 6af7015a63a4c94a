use mathlib.Core.Path.{◌≡◌}
use mathlib.Core.List.{◌∷◌}
use Prim.Native.Nat.{◌+◌, ◌*◌}
use lib.ListN.{length, take}
use Rattle.lists.specs.Lists.{into}
use Rattle.hex_text.specs.Hex.{hex}
use Rattle.frames.proofs.print.print_line.Given as goal

abbrev pub invariant-loop-byte : goal.invariant-loop-byte
invariant-loop-byte l = (l.end ≡ 2 * l.byte-index + 2) × (length l.out ≡ length l.initial.out) × (l.out ≡ into (hex (l.status ∷ take l.byte-index l.bytes)) l.initial.out)
