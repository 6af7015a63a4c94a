-- A title has at most 36 bytes. Assumes nothing.
use mathlib.Core.List.{List, [], ◌∷◌}
use Prim.Native.Nat.{ℕ, zero, suc, pred, ◌+◌, ◌*◌, ◌≤◌}
use native.Mathlib.Omega.{arith}
use lib.Dec.{eqb}
use lib.ListN.{length, take, drop, length-append, length-take}
use Rattle.lists.proofs.Bools.{split}
use Rattle.lists.proofs.Parts.{slice-part}
use Rattle.title.specs.Title.{sequence, size, shown, replaced, unless_last0, trimmed, title_bytes}
use Rattle.title.specs.Claims.{TitleFits}
use Rattle.title.proofs.Sequences.{sequence-size}
use Rattle.title.proofs.Texts.{shown-length}

-- k bytes of s belong to the sequence before
replaced-length : (k : ℕ) (s : List ℕ) → k ≤ length s → length (replaced k s) + 3 * k ≤ 3 * length s
unfolding replaced
replaced-length k [] h = omega (arith, h)
replaced-length zero (b ∷ s) h =
    let q = sequence (b ∷ s) in
    let z = sequence-size (b ∷ s) (omega arith) in
    let i = replaced-length (pred (size q)) s (omega (arith, z)) in
    let f = shown-length q (b ∷ s) z.0 z.1 in
    rw (length-append (shown q (b ∷ s)) (replaced (pred (size q)) s)) (omega (arith, i, f, z))
replaced-length (suc k) (b ∷ s) h = omega (arith, replaced-length k s (omega arith))

last-length : (b : ℕ) (s : List ℕ) → length (unless_last0 b s) ≤ suc (length s)
last-length b [] = split (λ l. length l ≤ 1) (eqb b 0) (λ e. omega arith) (λ e. omega arith)
last-length b (c ∷ s) = omega arith

trimmed-length : (s : List ℕ) → length (trimmed s) ≤ length s
unfolding trimmed
trimmed-length [] = omega arith
trimmed-length (b ∷ s) = omega (arith, last-length b (trimmed s), trimmed-length s)

pub title-fits : TitleFits
unfolding title_bytes
title-fits =
    record {
      at_most = λ image.
          let s = take 12 (drop 0xa0 image) in
          rw (slice-part 0xa0 12 image)
          (omega (arith, trimmed-length (replaced 0 s), replaced-length 0 s (omega arith), length-take 12 (drop 0xa0 image)));
    }
