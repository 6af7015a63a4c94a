-- The calls on a matcher's bytes give what the whole search gives. Assumes nothing.
use mathlib.Core.Path.{◌≡◌, refl, sym, ap, ◌∙◌}
use mathlib.Core.Bool.{true, ◌&&◌}
use mathlib.Core.List.{List, [], ◌∷◌, ◌++◌, flatten}
use Prim.Native.Nat.{ℕ}
use native.Mathlib.Omega.{arith}
use lib.Dec.{leb, eqb}
use lib.ListN.{length, get_or}
use lib.Seq.{drop-cons}
use borrow.Author.Tests.{eqb-true, eq-eqb, le-leb}
use Rattle.lists.specs.Lists.{bit}
use Rattle.lists.proofs.Bools.{and_left, and_right, bit_le, bit-back, bit-forth}
use Rattle.kind.specs.Kind.{marker, detect_save_type}
use Rattle.matcher.specs.declared.Matcher.{Matcher}
use Rattle.matcher.specs.declared.Fed.{Fed}
use Rattle.matcher.specs.Matcher.{start}
use Rattle.matcher.specs.Reading.{reads, fed_all}
use Rattle.matcher.specs.Search.{kind_after}
use Rattle.matcher.proofs.Deciding.{header-kind, read-sram, read-kind}
use Rattle.matcher.proofs.Pieces.{joined, all-joined, all-nine}
use Rattle.matcher.proofs.Reading.{reads-stop}
use Rattle.out_params.specs.Places.{kind_answer}
use Rattle.c_matcher_calls.specs.MatcherBytes.{matcher_size, matcher_bytes, matcher_of, is_matcher}
use Rattle.c_matcher_calls.specs.Calls.{starts, feeds, finishes}
use Rattle.c_matcher_calls.specs.Claims.{fed_pieces, Ends, PieceCalls}

-- to bytes and back
module _ (m : Matcher) (h : length m.last ≡ 9) where
  is-own : is_matcher (matcher_bytes m) ≡ true
  unfolding is_matcher matcher_bytes
  is-own =
      rw (
        eq-eqb (length (matcher_bytes m)) matcher_size (omega arith),
        bit_le m.sram,
        bit_le m.flash64,
        bit_le m.flash128,
        bit_le m.eeprom,
      )

  own_back : matcher_of (matcher_bytes m) ≡ m
  unfolding matcher_of matcher_bytes
  own_back = rw (bit-back m.sram, bit-back m.flash64, bit-back m.flash128, bit-back m.eeprom)

  -- a piece fed to a matcher's bytes
  abbrev next : List ℕ → Matcher
  next piece = (reads m piece).matcher

  own-fed : (piece : List ℕ) (d : ℕ) → feeds (matcher_bytes m) piece d ≡ (0, matcher_bytes (next piece), bit (next piece).sram)
  unfolding feeds
  own-fed piece d = rw (is-own, own_back)

bytes_back : (b : List ℕ) → is_matcher b ≡ true → matcher_bytes (matcher_of b) ≡ b
unfolding is_matcher matcher_bytes matcher_of
bytes_back b h =
    let n = eqb (length b) matcher_size in
    let t0 = leb (get_or b 0 0) 1 in
    let t1 = leb (get_or b 1 0) 1 in
    let t2 = leb (get_or b 2 0) 1 in
    let t3 = leb (get_or b 3 0) 1 in
    let h3 = and_left (n && t0 && t1 && t2) t3 h in
    let h2 = and_left (n && t0 && t1) t2 h3 in
    let h1 = and_left (n && t0) t1 h2 in
    let l = eqb-true (length b) matcher_size (and_left n t0 h1) in
    rw (
      bit-forth (get_or b 0 0) (and_right n t0 h1),
      bit-forth (get_or b 1 0) (and_right (n && t0) t1 h2),
      bit-forth (get_or b 2 0) (and_right (n && t0 && t1) t2 h3),
      bit-forth (get_or b 3 0) (and_right (n && t0 && t1 && t2) t3 h),
    )
    (sym (drop-cons b 0 0 (omega arith) ∙ ap (λ (s : List ℕ). get_or b 0 0 ∷ s) (drop-cons b 1 0 (omega arith) ∙ ap (λ (s : List ℕ). get_or b 1 0 ∷ s) (drop-cons b 2 0 (omega arith) ∙ ap (λ (s : List ℕ). get_or b 2 0 ∷ s) (drop-cons b 3 0 (omega arith))))))

-- the pieces fed one after another
all-fed : (m : Matcher) (pieces : List (List ℕ)) → length m.last ≡ 9 → fed_pieces (matcher_bytes m) pieces ≡ matcher_bytes (fed_all m pieces).matcher
unfolding fed_pieces fed_all
all-fed m [] h = refl
all-fed m (piece ∷ pieces) h =
    ap (λ (x : ℕ × List ℕ × ℕ). fed_pieces x.1 pieces) (own-fed m h piece 0)
    ∙ all-fed (reads m piece).matcher pieces (all-nine m (piece ∷ []) h)

module _ (pieces : List (List ℕ)) where
  abbrev matcher : Matcher
  matcher = (fed_all start pieces).matcher

  nine : length matcher.last ≡ 9
  unfolding start
  nine = all-nine start pieces refl

  bytes : fed_pieces starts.1 pieces ≡ matcher_bytes matcher
  unfolding starts start
  bytes = all-fed start pieces refl

  fed : (piece : List ℕ) (d : ℕ) → feeds (fed_pieces starts.1 pieces) piece d ≡ (0, matcher_bytes (reads matcher piece).matcher, bit (reads matcher piece).matcher.sram)
  fed piece d = ap (λ (b : List ℕ). feeds b piece d) bytes ∙ own-fed matcher nine piece d

  told : (piece : List ℕ) → (reads matcher piece).matcher.sram ≡ marker (flatten pieces ++ piece) "SRAM_V"
  told piece =
      ap (λ (f : Fed). (reads f.matcher piece).matcher.sram) (all-joined start pieces)
      ∙ ap (λ (f : Fed). f.matcher.sram) (joined start (flatten pieces) piece)
      ∙ read-sram (flatten pieces ++ piece)

  -- where the matcher is that of the whole image, so is the kind
  ends : (image header : List ℕ) → matcher ≡ (reads start image).matcher → Ends image pieces header
  unfolding finishes kind_answer
  ends image header same l h t =
      let n = length image in
      let k : kind_after header n matcher ≡ detect_save_type image =
      sym (header-kind header n matcher) ∙ ap (λ (s : List ℕ). kind_after s n matcher) t ∙ header-kind image n matcher
      ∙ ap (kind_after image n) same
      ∙ read-kind image in
      rw (bytes, l, le-leb 192 (length header) h, is-own matcher nine, own_back matcher nine, k)

  at-end : (image : List ℕ) → flatten pieces ≡ image → matcher ≡ (reads start image).matcher
  at-end image e = ap (λ (f : Fed). f.matcher) (all-joined start pieces) ∙ ap (λ (s : List ℕ). (reads start s).matcher) e

  before-end : (image rest : List ℕ) → flatten pieces ++ rest ≡ image → marker (flatten pieces) "SRAM_V" ≡ true → matcher ≡ (reads start image).matcher
  before-end image rest e seen =
      let f = reads start (flatten pieces) in
      ap (λ (x : Fed). x.matcher) (all-joined start pieces)
      ∙ ap (λ (x : Fed). x.matcher) (sym (reads-stop f.matcher rest (read-sram (flatten pieces) ∙ seen)))
      ∙ ap (λ (x : Fed). x.matcher) (joined start (flatten pieces) rest)
      ∙ ap (λ (s : List ℕ). (reads start s).matcher) e

pub piece-calls : PieceCalls
piece-calls =
    record {
      written = λ m h. (is-own m h, own_back m h);
      read = bytes_back;
      next = λ pieces piece d. (ap (λ (x : ℕ × List ℕ × ℕ). x.0) (fed pieces piece d), ap (λ (x : ℕ × List ℕ × ℕ). x.2) (fed pieces piece d) ∙ ap bit (told pieces piece));
      end = λ image pieces header e. ends pieces image header (at-end pieces image e);
      early = λ image pieces rest header e s. ends pieces image header (before-end pieces image rest e s);
    }
