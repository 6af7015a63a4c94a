-- A title's answer, where its questions are answered. Assumes nothing.
use mathlib.Core.Path.{◌≡◌, sym, ap, ◌∙◌}
use mathlib.Core.List.{List}
use Prim.Native.Nat.{ℕ, ◌≤◌, ◌<◌}
use native.Mathlib.Omega.{arith}
use lib.ListN.{length, take, drop, length-take}
use lib.Seq.{length-take-le}
use Rattle.std.proofs.lemmas.List.{take-take}
use borrow.Author.Tests.{le-leb, lt-leb}
use Rattle.lists.specs.Lists.{into}
use Rattle.lists.proofs.Parts.{slice-part}
use Rattle.image.specs.Image.{accepted, refused}
use Rattle.title.specs.Title.{replaced, trimmed, title_bytes, header_title}

-- the title asks for 192 bytes, then for room; k bytes of `text` are the title
pub title-short : (image d : List ℕ) → length image < 192 → (refused 1, d) ≡ header_title image d
unfolding header_title
title-short image d h = rw (lt-leb 192 (length image) h)

pub title-text : (image text : List ℕ) (n k : ℕ) → take n text ≡ replaced 0 (take 12 (drop 0xa0 image)) → k ≤ length (take n text)
    → take k (take n text) ≡ trimmed (take n text) → take k text ≡ title_bytes image
unfolding title_bytes
title-text image text n k e h f =
    let l : k ≤ n = omega (arith, length-take n text) in
    sym (take-take k n text l) ∙ f ∙ ap trimmed (e ∙ ap (replaced 0) (sym (slice-part 0xa0 12 image)))

module _ (image d text : List ℕ) (k : ℕ) (h : 192 ≤ length image) (l : k ≤ length text) (t : take k text ≡ title_bytes image) where
  title-length : length (title_bytes image) ≡ k
  title-length = ap length (sym t) ∙ length-take-le k text l

  pub title-13 : length d < k → (refused 13, d) ≡ header_title image d
  unfolding header_title
  title-13 q = rw (le-leb 192 (length image) h, title-length, lt-leb k (length d) q)

  pub title-done : {out : List ℕ} → k ≤ length d → out ≡ into (take k text) d → (accepted k, out) ≡ header_title image d
  unfolding header_title
  title-done q f = rw (f, t, le-leb 192 (length image) h, title-length, le-leb k (length d) q)
