-- Which part numbers fit which kinds. Assumes nothing.
use mathlib.Core.Path.{◌≡◌, refl, sym, ◌∙◌}
use mathlib.Core.Logic.{◌≢◌}
use mathlib.Core.Bool.{true, false}
use Prim.Native.Nat.{ℕ, zero, suc, ◌+◌, ◌*◌, ◌≤◌, ◌<◌}
use native.Mathlib.Omega.{arith}
use lib.Dec.{leb, eqb}
use borrow.Author.Tests.{lt-leb, ne_eqb, leb-true, leb-false, eqb-true, eqb-false}
use Rattle.lists.proofs.Bools.{either, cases}
use Rattle.kind.specs.declared.SaveType.{SaveType}
use Rattle.kind.specs.declared.SaveType.TheVariants.{Flash64, Flash128}
use Rattle.kind.specs.Kind.{memory_size, kind_of}
use Rattle.part.specs.Part.{part_of, part_fits, number_fits}

-- the numbers of parts, and any other
by_number : (P : ℕ → Type 0) (n : ℕ) → P 0 → P 1 → P 2 → P 3 → P 4 → P 5 → ((m : ℕ) → 5 < m → P m) → P n
by_number P zero a b c d e f g = a
by_number P (suc zero) a b c d e f g = b
by_number P (suc (suc zero)) a b c d e f g = c
by_number P (suc (suc (suc zero))) a b c d e f g = d
by_number P (suc (suc (suc (suc zero)))) a b c d e f g = e
by_number P (suc (suc (suc (suc (suc zero))))) a b c d e f g = f
by_number P (suc (suc (suc (suc (suc (suc n)))))) a b c d e f g = g _ (omega arith)

module _ (n : ℕ) where
  fits-64 : n ≢ 0 → leb n 3 ≡ number_fits n Flash64
  unfolding part_of part_fits
  fits-64 =
      by_number (λ m. m ≢ 0 → leb m 3 ≡ number_fits m Flash64) n (λ z. absurd (z refl)) (λ z. refl) (λ z. refl) (λ z. refl) (λ z. refl) (λ z. refl)
      (λ m k z. rw (lt-leb m 3 (omega arith), lt-leb m 5 k))

  fits-128 : 3 < n → leb n 5 ≡ number_fits n Flash128
  unfolding part_of part_fits
  fits-128 =
      by_number (λ m. 3 < m → leb m 5 ≡ number_fits m Flash128) n (λ z. absurd (omega arith)) (λ z. absurd (omega arith)) (λ z. absurd (omega arith)) (λ z. absurd (omega arith)) (λ z. refl) (λ z. refl)
      (λ m k z. rw (lt-leb m 5 k))

  short-128 : n ≢ 0 → n ≤ 3 → false ≡ number_fits n Flash128
  unfolding part_of part_fits
  short-128 =
      by_number (λ m. m ≢ 0 → m ≤ 3 → false ≡ number_fits m Flash128) n (λ z l. absurd (z refl)) (λ z l. refl) (λ z l. refl) (λ z l. refl) (λ z l. absurd (omega arith)) (λ z l. absurd (omega arith))
      (λ m k z l. absurd (omega arith))

  no-flash : (kind : SaveType) → memory_size kind ≤ 32768 → n ≢ 0 → false ≡ number_fits n kind
  unfolding part_of part_fits
  no-flash kind s =
      let small = ne_eqb 65536 (memory_size kind) (λ e. omega arith) in
      let large = ne_eqb 131072 (memory_size kind) (λ e. omega arith) in
      by_number (λ m. m ≢ 0 → false ≡ number_fits m kind) n (λ z. absurd (z refl)) (λ z. rw small) (λ z. rw small) (λ z. rw small) (λ z. rw large) (λ z. rw large)
      (λ m k z. rw (lt-leb m 5 k))

  other-kinds : (k : ℕ) → k ≢ 2 → k ≢ 3 → n ≢ 0 → false ≡ number_fits n (kind_of k)
  unfolding kind_of
  other-kinds k a b z =
      let P : SaveType → Type 0 = λ kind. false ≡ number_fits n kind in
      rw (ne_eqb k 2 a, ne_eqb k 3 b)
      (either P (eqb k 0) (no-flash _ (omega arith) z) (either P (eqb k 1) (no-flash _ (omega arith) z) (either P (eqb k 4) (no-flash _ (omega arith) z) (no-flash _ (omega arith) z))))

above-3 : (p k : ℕ) → k ≡ 2 → p ≢ 0 → p * 8 + k ≢ 10 → p * 8 + k ≢ 18 → p * 8 + k ≢ 26 → 3 < p
above-3 p k e z a b c = omega arith

above-5 : (p k : ℕ) → k ≡ 3 → 3 < p → p * 8 + k ≢ 35 → p * 8 + k ≢ 43 → 5 < p
above-5 p k e l a b = omega arith

-- by eight times the part and the kind: the usual part
pub usual-at : (p k : ℕ) → p * 8 + k ≤ 5 → number_fits p (kind_of k) ≡ true
unfolding part_of part_fits
usual-at p k h = let z : p ≡ 0 = omega arith in rw z

pub named : (p k : ℕ) → k ≤ 5 → 5 < p * 8 + k → p ≢ 0
named p k h l z = omega arith

-- the named ones that fit
module _ (p k : ℕ) (h : k ≤ 5) where
  pub fits-at : (q j : ℕ) → j ≤ 5 → p * 8 + k ≡ q * 8 + j → number_fits p (kind_of k) ≡ number_fits q (kind_of j)
  fits-at q j l e =
      let a : p ≡ q = omega arith in
      let b : k ≡ j = omega arith in
      rw (a, b)

  -- and all others
  pub fits_not : p ≢ 0 → p * 8 + k ≢ 10 → p * 8 + k ≢ 18 → p * 8 + k ≢ 26 → p * 8 + k ≢ 35 → p * 8 + k ≢ 43 → false ≡ number_fits p (kind_of k)
  unfolding kind_of
  fits_not z a b c d e =
      cases (eqb k 2)
      (λ t. let two = eqb-true k 2 t in rw two (sym (lt-leb p 3 (above-3 p k two z a b c)) ∙ fits-64 p z))
      (λ t. cases (eqb k 3)
      (λ u.
      let three = eqb-true k 3 u in
      cases (leb p 3) (λ v. rw three (short-128 p z (leb-true p 3 v)))
      (λ v.
      let more = leb-false p 3 v in
      rw three (sym (lt-leb p 5 (above-5 p k three more d e)) ∙ fits-128 p more)))
      (λ u. unfold kind_of in other-kinds p k (eqb-false k 2 t) (eqb-false k 3 u) z))
