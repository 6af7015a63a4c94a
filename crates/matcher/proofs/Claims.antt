-- The claims of `specs/Claims.antt`. Assumes nothing.
use mathlib.Core.Path.{◌≡◌, sym, ap, ◌∙◌}
use mathlib.Core.List.{List, [], ◌∷◌, ◌++◌, flatten, append-nil}
use Prim.Native.Nat.{ℕ}
use lib.ListN.{length, take}
use Rattle.matcher.specs.declared.Matcher.{Matcher}
use Rattle.matcher.specs.declared.Fed.{Fed}
use Rattle.matcher.specs.Matcher.{start, steps}
use Rattle.matcher.specs.Reading.{reads, fed_all}
use Rattle.matcher.specs.Search.{handed, found, kind_after}
use Rattle.matcher.specs.Claims.{SingleReading, InPieces}
use Rattle.matcher.proofs.Reading.{reads-steps}
use Rattle.matcher.proofs.Seen.{sees}
use Rattle.matcher.proofs.Deciding.{header-kind, read-kind, read_count, alone-kind}
use Rattle.matcher.proofs.Pieces.{all-joined}

fed : (f : Fed) {m : Matcher} {n : ℕ} → f.matcher ≡ m → f.count ≡ n → f ≡ record { matcher = m; count = n }
fed f {m} p q =
    ap (λ (x : Matcher). record { matcher = x; count = f.count }) p
    ∙ ap (λ (k : ℕ). record { matcher = m; count = k }) q

pub single-reading : SingleReading
unfolding found
single-reading =
    record {
      sees = sees;
      alone = λ image. sym (header-kind image (length image) (steps start (take (handed image) image)) ∙ alone-kind image);
      reading =
          λ image e.
          fed (reads start image)
          (reads-steps start image ∙ ap (λ (n : ℕ). steps start (take n image)) (read_count image e))
          (read_count image e);
    }

pub in-pieces : InPieces
unfolding found flatten
in-pieces =
    record {
      two = λ m a b. all-joined m (a ∷ b ∷ []) ∙ ap (λ (s : List ℕ). reads m (a ++ s)) (append-nil b);
      all = all-joined;
      kind =
          λ image pieces e.
          header-kind image (length image) (fed_all start pieces).matcher
          ∙ ap (λ (f : Fed). kind_after image (length image) f.matcher) (all-joined start pieces ∙ ap (reads start) e)
          ∙ read-kind image;
      number =
          λ image pieces e n.
          ap (λ (f : Fed). f.count) (all-joined start pieces ∙ ap (reads start) e) ∙ read_count image n;
    }
