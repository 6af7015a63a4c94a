-- The single reading gives the kind of `detect_save_type`. Assumes nothing.
use mathlib.Core.Path.{◌≡◌, refl, sym, ap, ◌∙◌}
use mathlib.Core.Bool.{Bool, true, false, cond, ◌||◌}
use mathlib.Core.List.{List, []}
use Prim.Native.Nat.{ℕ, ◌≤◌}
use native.Mathlib.Omega.{arith}
use lib.ListN.{length, take}
use lib.Seq.{take-length}
use Rattle.lists.specs.Lists.{ascii}
use Rattle.lists.proofs.Bools.{cases}
use Rattle.kind.specs.declared.SaveType.{SaveType}
use Rattle.kind.specs.declared.SaveType.TheVariants.{Sram, Flash128}
use Rattle.kind.specs.Kind.{marker, sram_code, flash_code, detect_save_type}
use Rattle.matcher.specs.declared.Matcher.{Matcher}
use Rattle.matcher.specs.declared.Fed.{Fed}
use Rattle.matcher.specs.declared.Found.{Found}
use Rattle.matcher.specs.Matcher.{start, steps, seen}
use Rattle.matcher.specs.Reading.{reads}
use Rattle.matcher.specs.Search.{code_decides, behind_first, handed, found, header_size, header_of, kind_after}
use Rattle.matcher.proofs.Standing.{begins-part, stands-front}
use Rattle.matcher.proofs.Reading.{reads-steps, reads-within}
use Rattle.matcher.proofs.Seen.{sees, knows_start, handed-over, whole}

answer : {j k : SaveType} {a b : ℕ} → j ≡ k → a ≡ b → ◌≡◌ {A = Found} (record { kind = j; count = a }) (record { kind = k; count = b })
answer p q = cc

module _ (image : List ℕ) where
  -- the header is enough
  header-sram : sram_code (header_of image) ≡ sram_code image
  header-sram =
      rw (
        begins-part 0xac header_size (ascii "GBXP") image (omega arith),
        begins-part 0xac header_size (ascii "GBXJ") image (omega arith),
        begins-part 0xac header_size (ascii "GBXE") image (omega arith),
      )

  header-flash : flash_code (header_of image) ≡ flash_code image
  header-flash =
      rw (
        begins-part 0xac header_size (ascii "GB4P") image (omega arith),
        begins-part 0xac header_size (ascii "GB4J") image (omega arith),
        begins-part 0xac header_size (ascii "GB4E") image (omega arith),
      )

  pub header-kind : (n : ℕ) (m : Matcher) → kind_after (header_of image) n m ≡ kind_after image n m
  unfolding kind_after
  header-kind n m = rw (header-sram, header-flash, begins-part 0xa0 header_size (ascii "POKEMON RUBY") image (omega arith))

  -- a game code decides, whatever was seen
  by_code : (s f : Bool) (x y p q : SaveType) → s || f ≡ true → cond s x (cond f y p) ≡ cond s x (cond f y q)
  by_code true f x y p q e = refl
  by_code false true x y p q e = refl
  by_code false false x y p q e = let z : ◌≡◌ {A = Bool} false true = e in cc

  code-kind : (m : Matcher) → code_decides image ≡ true → kind_after image (length image) m ≡ detect_save_type image
  unfolding kind_after detect_save_type
  code-kind m e = by_code (sram_code image) (flash_code image) Sram Flash128 _ _ e

  -- the bytes handed over
  counted : (reads start image).count ≡ behind_first (ascii "SRAM_V") image
  unfolding start
  counted = omega (arith, handed-over start [] image knows_start refl)

  known : (reads start image).matcher ≡ seen (take (reads start image).count image)
  known = reads-steps start image ∙ sees (take (reads start image).count image)

  -- SRAM_V was seen where it stands in the image
  pub read-sram : (reads start image).matcher.sram ≡ marker image "SRAM_V"
  unfolding seen
  read-sram =
      let r = reads start image in
      let k : r.matcher.sram ≡ marker (take r.count image) "SRAM_V" = ap (λ (m : Matcher). m.sram) known in
      cases r.matcher.sram
      (λ s. s ∙ sym (stands-front (ascii "SRAM_V") image r.count (omega arith) (sym k ∙ s)))
      (λ s. k ∙ ap (λ (l : List ℕ). marker l "SRAM_V") (ap (λ (n : ℕ). take n image) (whole start image s) ∙ take-length image))

  -- it was seen, or all markers of the image were
  same-sram : (m : Matcher) → m.sram ≡ true → marker image "SRAM_V" ≡ true → kind_after image (length image) m ≡ detect_save_type image
  unfolding kind_after detect_save_type
  same-sram m s t = rw (s, t)

  same-all : (m : Matcher) → m ≡ seen image → kind_after image (length image) m ≡ detect_save_type image
  unfolding kind_after detect_save_type seen
  same-all m e = ap (kind_after image (length image)) e

  pub read-kind : kind_after image (length image) (reads start image).matcher ≡ detect_save_type image
  unfolding seen
  read-kind =
      cases (reads start image).matcher.sram
      (λ s.
      same-sram (reads start image).matcher s (sym read-sram ∙ s))
      (λ s.
      let all : take (reads start image).count image ≡ image = ap (λ (n : ℕ). take n image) (whole start image s) ∙ take-length image in
      same-all (reads start image).matcher (known ∙ ap seen all))

  pub read_count : code_decides image ≡ false → (reads start image).count ≡ handed image
  unfolding handed
  read_count e = counted ∙ rw e

  -- the number's bytes alone
  none-handed : code_decides image ≡ true → handed image ≡ 0
  unfolding handed
  none-handed e = rw e

  pub alone-kind : kind_after image (length image) (steps start (take (handed image) image)) ≡ detect_save_type image
  alone-kind =
      cases (code_decides image)
      (λ e. code-kind (steps start (take (handed image) image)) e)
      (λ e.
      ap (λ (n : ℕ). kind_after image (length image) (steps start (take n image))) (sym (read_count e))
      ∙ ap (kind_after image (length image)) (sym (reads-steps start image))
      ∙ read-kind)

  pub handed-le : handed image ≤ length image
  handed-le =
      cases (code_decides image) (λ e. omega (arith, none-handed e)) (λ e. omega (arith, read_count e, reads-within start image))

  -- what the search answers
  pub code-found : (k : SaveType) (m : Matcher) → code_decides image ≡ true → k ≡ kind_after image (length image) m
      → record { kind = k; count = 0 } ≡ found image
  unfolding found
  code-found k m e h = answer (h ∙ code-kind m e) (sym (none-handed e))

  pub read_found : (k : SaveType) (f : Fed) → code_decides image ≡ false → f ≡ reads start image → k ≡ kind_after image (length image) f.matcher
      → record { kind = k; count = f.count } ≡ found image
  unfolding found
  read_found k f e r h =
      answer (h ∙ ap (λ (x : Fed). kind_after image (length image) x.matcher) r ∙ read-kind) (ap (λ (x : Fed). x.count) r ∙ read_count e)
