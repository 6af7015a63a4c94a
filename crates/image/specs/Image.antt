-- What is asked of the image alone. Document 01, "Questions at the door" and "Beside the machine".
use Rattle.std.specs.Prelude.{ℕ, ◌+◌, ◌-◌, ◌%◌, Bool, cond, ◌&&◌, List, [], ◌∷◌, length, take, drop, ◌==◌, nat_le, Result, Ok, Err}
use Rattle.std.proofs.Math.Seq.{slice}
use Rattle.lists.specs.Lists.{low_value, fold}
use Rattle.lists.specs.Questions.{Question, ◌else◌, asked}
use Rattle.refusal.specs.declared.Refusal.{Refusal}
use Rattle.refusal.specs.Refusals.{refusal_number}

-- 1: "Is the image 192 to 33,554,432 bytes?"
unfoldable pub image_length : ℕ → Bool
image_length n = nat_le 192 n && nat_le n 33554432

abbrev pub image_question : List ℕ → Question
image_question image = image_length (length image) else 1

-- "(Title and header check: at least 192.)"
abbrev pub header_question : List ℕ → Question
header_question image = nat_le 192 (length image) else 1

-- the number of a refusal or 0, and the value asked for
pub record Answer : Type 0 where
  pub refusal : ℕ
  pub value : ℕ

-- "A no returns the number"; with it goes the value 0
abbrev pub accepted : ℕ → Answer
accepted v = record { refusal = 0; value = v }

abbrev pub refused : ℕ → Answer
refused n = record { refusal = n; value = 0 }

-- the answer that a result is
abbrev pub answer_of : Result ℕ Refusal → Answer
answer_of (Ok v) = accepted v
answer_of (Err r) = refused (refusal_number r)

abbrev pub answered : List Question → ℕ → Answer
answered qs v = cond (asked qs == 0) (accepted v) (refused (asked qs))

-- `read`, `read16`, `read32` have 1, 2, 4 bytes: "little end first, 0 past the image and past FFFFFFFFh", where no
-- accepted image reaches
unfoldable pub read_at : ℕ → List ℕ → ℕ → ℕ
read_at bytes image address = low_value (take bytes (drop address image))

unfoldable pub read : ℕ → List ℕ → ℕ → Answer
read bytes image address = answered (image_question image ∷ []) (read_at bytes image address)

-- x minus a byte, modulo 256
unfoldable pub less : ℕ → ℕ → ℕ
less x b = (x + 256 - b) % 256

-- "0 minus bytes A0h–BCh minus 19h, modulo 256"
unfoldable pub header_sum : List ℕ → ℕ
header_sum image = less (fold less 0 (slice 0xa0 0xbd image)) 0x19

unfoldable pub header_checksum : List ℕ → Answer
header_checksum image = answered (header_question image ∷ []) (header_sum image)
