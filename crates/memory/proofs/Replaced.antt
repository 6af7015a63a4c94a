-- A part of one stretch that new bytes replace, short part by short part, and the rest erased. Assumes nothing.
use mathlib.Core.Path.{◌≡◌, sym, ap, ◌∙◌}
use mathlib.Core.List.{List, ◌++◌, append-nil, append_assoc}
use Prim.Native.Nat.{ℕ, ◌+◌, ◌-◌, ◌≤◌}
use native.Mathlib.Omega.{arith}
use lib.ListN.{length, take, drop, length-take, length-drop, take-append-drop, drop_of_length-le}
use lib.Seq.{take_all, take_at, drop_at, drop-drop, take-add, length-take-le}
use Rattle.lists.specs.Lists.{into}
use Rattle.lists.proofs.Parts.{rest, past-rest}
use Rattle.counts.specs.Counts.{differing, used}
use Rattle.counts.specs.Tallies.{retally}
use Rattle.counts.proofs.Counts.{differing-le, differing-append, differing-on, differing-end, differing-blank, used_le, used-append, used-on, used-end, used-blank}
use Rattle.counts.proofs.Retallied.{retally-by}
use Rattle.memory.specs.declared.parts.Change.{Change}
use Rattle.memory.specs.Memory.{erased, filled}
use Rattle.memory.specs.Replaced.{noted, plus, Replaced}

-- all of a part, replaced
pub into-whole : (f m : List ℕ) → length m ≡ length f → into f m ≡ f
unfolding into
into-whole f m e =
    let h : length m ≤ length f = omega arith in
    rw (drop_of_length-le m h, append-nil f)

-- what is counted of a part says how its stretch's tally changes
pub replaced-noted : (tally : ℕ) {old new ys : List ℕ} {c : Change} {t : ℕ} → length old ≤ 4096 → ys ≡ new → Replaced old new c
    → t ≡ retally c.before c.after tally → (c.changed, ys, t) ≡ noted old new tally
replaced-noted tally {old} {new} {ys} {c} h p r q =
    let s : retally c.before c.after tally ≡ retally (used old) (used new) tally =
    retally-by c.before c.after (used old) (used new) tally (omega (arith, r.most-before)) (omega (arith, used_le old)) r.balance
    in
    rw (r.count, p, q, s)

-- a list whose first i elements are already those of another: its part up to place e is replaced next
module _ (old new : List ℕ) (i e : ℕ) (order : i ≤ e) (fits : e ≤ length new) where
  length_front : length (take i new) ≡ i
  length_front = length-take-le i new (omega arith)

  pub rest-is : {cur : List ℕ} → cur ≡ take i new ++ drop i old → drop i cur ≡ drop i old
  rest-is p = ap (drop i) p ∙ drop_at (take i new) (drop i old) i length_front

  pub front-on : {cur ys : List ℕ} → cur ≡ take i new ++ drop i old → ys ≡ take (e - i) (drop i new)
      → take i cur ++ (ys ++ drop (e - i) (drop i cur)) ≡ take e new ++ drop e old
  front-on {cur} {ys} p q =
      let g : i + (e - i) ≡ e = omega arith in
      let f : take i cur ≡ take i new = ap (take i) p ∙ take_at (take i new) (drop i old) i length_front in
      let t : take i new ++ take (e - i) (drop i new) ≡ take e new = sym (take-add i (e - i) new) ∙ ap (λ (n : ℕ). take n new) g in
      rw (f, q, rest-is p, drop-drop (e - i) i old, g)
      (sym (append_assoc (take i new) (take (e - i) (drop i new)) (drop e old)) ∙ ap (λ (l : List ℕ). l ++ drop e old) t)

-- below place i the part is new and counted; the rest is as it was
pub record Below (i : ℕ) (old new cur : List ℕ) (c : Change) : Type 0 where
  pub front : cur ≡ take i new ++ drop i old
  pub count : c.changed + differing (drop i old) (drop i new) ≡ differing old new
  pub balance : c.after + used old + used (drop i new) ≡ c.before + used new + used (drop i old)
  pub most-before : c.before ≤ i
  pub most-after : c.after ≤ i

pub below_on : {i e : ℕ} {old new cur ys : List ℕ} {c d : Change} → i ≤ e → e ≤ length new → length old ≡ length new
    → Below i old new cur c → ys ≡ take (e - i) (drop i new) → Replaced (take (e - i) (drop i cur)) (take (e - i) (drop i new)) d
    → Below e old new (take i cur ++ (ys ++ drop (e - i) (drop i cur))) (plus c d)
below_on {i} {e} {old} {new} h k l b p r =
    let q = rw (rest-is old new i e h k b.front) at r in
    let n : length (take (e - i) (drop i old)) ≡ e - i = simp (length-take, length-drop) (omega arith) in
    record {
      front = front-on old new i e h k b.front p;
      count = omega (arith, b.count, q.count, differing-on old new i e h l);
      balance = omega (arith, b.balance, q.balance, used-on old i e h, used-on new i e h);
      most-before = omega (arith, b.most-before, q.most-before);
      most-after = omega (arith, b.most-after, q.most-after);
    }

-- sums stay small
pub plus-le : {i : ℕ} {old new cur part zs : List ℕ} {c d : Change} → Below i old new cur c → Replaced part zs d → length part ≤ 4096
    → ((plus c d).changed ≤ length old + 4096) × ((plus c d).before ≤ i + 4096) × ((plus c d).after ≤ i + 4096)
plus-le {i} {old} {new} {cur} {part} {zs} b r h = (
  omega (arith, b.count, differing-le old new, r.count, differing-le part zs),
  omega (arith, b.most-before, r.most-before),
  omega (arith, b.most-after, r.most-after),
)

pub below_all : {i : ℕ} {old new cur : List ℕ} {c : Change} → i ≡ length old → length old ≡ length new → Below i old new cur c
    → (cur ≡ new) × Replaced old new c
below_all {i} {old} {new} e l b =
    let h : length old ≤ i = omega arith in
    let k : length new ≤ i = omega arith in (
      b.front ∙ rw (take_all i new k, drop_of_length-le old h, append-nil new),
      record {
        count = omega (arith, b.count, differing-end old new i h);
        balance = omega (arith, b.balance, used-end old i h, used-end new i k);
        most-before = omega (arith, b.most-before);
        most-after = omega (arith, b.most-after);
      },
    )

-- FFh everywhere
used-erased : (n : ℕ) → used (erased n) ≡ 0
unfolding erased
used-erased n = used-blank n

differing-erased : (l : List ℕ) (n : ℕ) → n ≡ length l → differing l (erased n) ≡ used l
unfolding erased
differing-erased l n e = differing-blank l n e

-- new bytes at a part's front, and what lies after them erased
used-filled : (n : ℕ) (f : List ℕ) → length f ≤ n → used (filled n f) ≡ used f
unfolding filled
used-filled n f h = rw (take_all n f h, used-append f (erased (n - length f)), used-erased (n - length f)) (omega arith)

differing-filled : (m f : List ℕ) → length f ≤ length m → differing m (filled (length m) f) ≡ differing (take (length f) m) f + used (drop (length f) m)
unfolding filled
differing-filled m f h =
    let n : ℕ = length f in
    let e : length (take n m) ≡ n = length-take-le n m h in
    rw (take_all (length m) f h)
    (ap (λ (l : List ℕ). differing l (f ++ erased (length m - n))) (sym (take-append-drop n m))
    ∙ differing-append (take n m) (drop n m) f (erased (length m - n)) e
    ∙ ap (λ (i : ℕ). differing (take n m) f + i) (differing-erased (drop n m) (length m - n) (sym (length-drop n m))))

-- the front of a part replaced by ys, and what lies after it, as the erase is passed it
abbrev held : List ℕ → List ℕ → List ℕ → List ℕ
held m f ys = ys ++ drop (length f) m

abbrev behind : List ℕ → List ℕ → List ℕ → List ℕ
behind m f ys = take (length (held m f ys) - length f) (drop (length f) (held m f ys))

-- the part that it leaves, with zs where that was
abbrev left : List ℕ → List ℕ → List ℕ → List ℕ → List ℕ
left m f ys zs = take (length f) (held m f ys) ++ (zs ++ drop (length (held m f ys) - length f) (drop (length f) (held m f ys)))

behind-is : (m f : List ℕ) {ys : List ℕ} → ys ≡ f → behind m f ys ≡ drop (length f) m
behind-is m f {ys} p = rest (length f) (held m f ys) ∙ drop_at ys (drop (length f) m) (length f) (ap length p)

-- the front replaced and the rest erased: the part is filled, and both counts together are its own
module _ (m f : List ℕ) (fits : length f ≤ length m) {c : Change} {u : ℕ} {ys zs : List ℕ}
    (front : ys ≡ f) (replaced : Replaced (take (length f) m) f c)
    (counted : u ≡ used (behind m f ys)) (erases : zs ≡ erased (length (behind m f ys))) where
  rest-used : u ≡ used (drop (length f) m)
  rest-used = counted ∙ ap used (behind-is m f front)

  pub filled-changed : c.changed + u ≡ differing m (filled (length m) f)
  filled-changed = omega (arith, replaced.count, rest-used, differing-filled m f fits)

  filled_is : left m f ys zs ≡ filled (length m) f
  unfolding filled
  filled_is =
      rw (take_at ys (drop (length f) m) (length f) (ap length front), past-rest (length f) (held m f ys), append-nil zs)
      (rw (erases, behind-is m f front, length-drop (length f) m, front, take_all (length m) f fits))

  -- and the tally's change is that of the bytes in use
  pub before-le : c.before + u ≤ length m
  before-le = omega (arith, replaced.most-before, rest-used, used_le (drop (length f) m), length-drop (length f) m, length-take-le (length f) m fits)

  pub after-le : c.after ≤ length m
  after-le = omega (arith, replaced.most-after, length-take-le (length f) m fits)

  pub filled-noted : (tally : ℕ) → length m ≤ 4096 → {t : ℕ} → t ≡ retally (c.before + u) c.after tally
      → (c.changed + u, left m f ys zs, t) ≡ noted m (filled (length m) f) tally
  filled-noted tally h p =
      let s : used m ≡ used (take (length f) m) + used (drop (length f) m) =
      ap used (sym (take-append-drop (length f) m)) ∙ used-append (take (length f) m) (drop (length f) m)
      in
      let q : retally (c.before + u) c.after tally ≡ retally (used m) (used (filled (length m) f)) tally =
      retally-by (c.before + u) c.after (used m) (used (filled (length m) f)) tally (omega (arith, before-le)) (omega (arith, used_le m))
      (omega (arith, s, rest-used, replaced.balance, used-filled (length m) f fits))
      in
      rw (filled-changed, filled_is, p, q)
