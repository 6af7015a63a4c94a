-- What is claimed of a trace that is settled: the program reads no further.
use Rattle.std.specs.Prelude.{◌≡◌, true, List, [], ◌++◌, ℕ, ◌<◌, length}
use Rattle.carttrace_lib.specs.Claims.{bad_first}
use Rattle.cuttrace_lib.specs.Cuttrace.{longest_trace, cuttrace, settled}

pub record Settles : Type 0 where
  -- "FF for a bad line .., and ends if that is line 1"; and a trace that is too long
  pub at_bad_first : (text : List ℕ) → bad_first [] text ≡ true → settled text ≡ true
  pub too_long : (text : List ℕ) → longest_trace < length text → settled text ≡ true
  -- whatever follows a settled trace, the same is printed
  pub nothing_more : (text more memory scratch answers : List ℕ) → settled text ≡ true
      → cuttrace (text ++ more) memory scratch answers ≡ cuttrace text memory scratch answers
