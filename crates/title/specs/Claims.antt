-- What is claimed of every title.
use Rattle.std.specs.Prelude.{List, ℕ, ◌≤◌, length}
use Rattle.title.specs.Title.{title_bytes}

-- twelve bytes of the header, and at most three shown for each
abbrev pub title_room : ℕ
title_room = 36

pub record TitleFits : Type 0 where
  pub at_most : (image : List ℕ) → length (title_bytes image) ≤ title_room
