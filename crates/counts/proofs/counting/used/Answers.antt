-- `counts::counting::used` meets its contract. Assumes nothing.
use mathlib.Core.Path.{◌≡◌, ap}
use Prim.Native.Nat.{ℕ, ◌*◌, ◌/◌, ◌<◌, ◌^◌}
use mathlib.Core.List.{List}
use native.Mathlib.Omega.{arith}
use lib.ListN.{length, drop}
use Rattle.std.proofs.Common.{rules}
use Rattle.std.proofs.lemmas.Iterator.{YieldsList-from_slice, YieldsList-from_map}
use Rattle.std.proofs.lemmas.Iterator.Consumers.{fits_by_from_yields_list, sum_by_from_yields_List}
use Rattle.std.specs.List.{sum_by}
use Rattle.std.specs.Simd.{first_chunks}
use Rattle.lists.proofs.Bools.{tests}
use Rattle.counts.specs.Counts.{used}
use Rattle.counts.proofs.Counts.{used_le, used-parts}
use Rattle.counts.proofs.counting.used.Goals as goal

pub sum-requires-clause-fits : goal.sum-requires-clause-fits
sum-requires-clause-fits c =
    let s = c.args.s.now in
    let parts : List (List ℕ) = first_chunks 128 (length s / 128) s in
    let small : sum_by used parts < 2 ^ 32 = omega (arith, used_le s, used-parts (length s / 128) s) in
    fits_by_from_yields_list used parts _ (2 ^ 32)
    (YieldsList-from_map _ used (YieldsList-from_slice parts cc) c.map.ensures.closure (λ x r q k. search (rules, tests))) small

pub overflow_add-result : goal.overflow_add-result
overflow_add-result c =
    let s = c.args.s.now in
    let parts : List (List ℕ) = first_chunks 128 (length s / 128) s in
    let n : c.sum.result ≡ sum_by used parts =
    sum_by_from_yields_List used parts _ _ c.sum.ensures.ran
    (YieldsList-from_map _ used (YieldsList-from_slice parts cc) c.map.ensures.closure (λ x r q k. search (rules, tests)))
    in
    let e : used c.as_chunks.result.1.now ≡ used (drop (length s / 128 * 128) s) = ap used c.as_chunks.ensures.back in
    omega (arith, n, e, c.used_short.ensures, c.from.ensures, used_le s, used-parts (length s / 128) s)

pub returns : goal.returns
returns c =
    let s = c.args.s.now in
    let parts : List (List ℕ) = first_chunks 128 (length s / 128) s in
    let n : c.sum.result ≡ sum_by used parts =
    sum_by_from_yields_List used parts _ _ c.sum.ensures.ran
    (YieldsList-from_map _ used (YieldsList-from_slice parts cc) c.map.ensures.closure (λ x r q k. search (rules, tests)))
    in
    let e : used c.as_chunks.result.1.now ≡ used (drop (length s / 128 * 128) s) = ap used c.as_chunks.ensures.back in
    omega (arith, n, e, c.used_short.ensures, c.from.ensures, used-parts (length s / 128) s)
