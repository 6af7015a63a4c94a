-- The archive's version, as `include/gbasave.h` has it: major × 10,000 + minor × 100 + patch.
use Rattle.std.specs.Prelude.{ℕ}

abbrev pub version : ℕ
version = 700
