-- Pieces handed over one after another are the joined piece. Assumes nothing.
use mathlib.Core.Path.{◌≡◌, refl, sym, ap, ◌∙◌}
use mathlib.Core.List.{List, [], ◌∷◌, ◌++◌, flatten}
use Prim.Native.Nat.{ℕ}
use lib.ListN.{length}
use Rattle.lists.proofs.Bools.{cases}
use Rattle.matcher.specs.declared.Matcher.{Matcher}
use Rattle.matcher.specs.declared.Fed.{Fed}
use Rattle.matcher.specs.Matcher.{step}
use Rattle.matcher.specs.Reading.{more, reads, fed_all}
use Rattle.matcher.proofs.Reading.{more-more, more-none, reads-stop, reads-one, reads-nine}

-- what is read after f
abbrev pub then : List ℕ → Fed → Fed
then b f = more f.count (reads f.matcher b)

pub joined : (m : Matcher) (a b : List ℕ) → then b (reads m a) ≡ reads m (a ++ b)
unfolding reads
joined m [] b = more-none (reads m b)
joined m (x ∷ a) b =
    cases m.sram
    (λ e. ap (then b) (reads-stop m (x ∷ a) e) ∙ more-none (reads m b) ∙ reads-stop m b e ∙ sym (reads-stop m (x ∷ (a ++ b)) e))
    (λ e.
    let f = reads (step m x) a in
    ap (then b) (reads-one m x a e)
    ∙ sym (more-more 1 f.count (reads f.matcher b))
    ∙ ap (more 1) (joined (step m x) a b)
    ∙ sym (reads-one m x (a ++ b) e))

pub all-nine : (m : Matcher) (pieces : List (List ℕ)) → length m.last ≡ 9 → length (fed_all m pieces).matcher.last ≡ 9
unfolding fed_all
all-nine m [] h = h
all-nine m (piece ∷ pieces) h = all-nine (reads m piece).matcher pieces (reads-nine m piece h)

pub all-joined : (m : Matcher) (pieces : List (List ℕ)) → fed_all m pieces ≡ reads m (flatten pieces)
unfolding fed_all flatten reads
all-joined m [] = refl
all-joined m (piece ∷ pieces) =
    ap (more (reads m piece).count) (all-joined (reads m piece).matcher pieces) ∙ joined m piece (flatten pieces)
