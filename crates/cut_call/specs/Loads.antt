-- After a cut: the same image opened with the same part, the file loaded where there is one, the state restored.
use Rattle.std.specs.Prelude.{cond, List, [], ℕ, eqb, length}
use Rattle.cart.specs.Record.{State, from_bytes}
use Rattle.cart.specs.Calls.{load_save, step, restore}

-- "load the file where there is one": no file has no bytes
abbrev pub loaded_from : List ℕ → State → State
loaded_from f t = cond (eqb (length f) 0) t (step (load_save f) [] t).next

abbrev pub resumed : List ℕ → ℕ → List ℕ → List ℕ → List ℕ → List ℕ → State
resumed image part memory tallies file bytes =
    (restore bytes (loaded_from file (from_bytes image part memory tallies).next)).next
