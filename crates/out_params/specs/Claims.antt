-- What is claimed of the 0 that stands for "none" in the answer of `save_fit`.
use Rattle.std.specs.Prelude.{◌≡◌, List, ℕ, ltb}
use Rattle.file_sizes.specs.SaveFit.{taken, save_fit_of}
use Rattle.out_params.specs.Places.{fit_answer}

-- `save_fit` keeps more than 0 bytes of just those files that it takes
abbrev pub NoneIsZero : Type 0
NoneIsZero = (image : List ℕ) (file : ℕ) → ltb 0 (fit_answer image file).value ≡ taken (save_fit_of image file)
