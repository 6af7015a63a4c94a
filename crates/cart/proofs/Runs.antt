-- Calls one after the other. Assumes nothing.
use mathlib.Core.Path.{◌≡◌, refl, sym, ap, subst, ◌∙◌}
use mathlib.Core.List.{List, [], ◌∷◌, ◌++◌, append_assoc}
use mathlib.Core.Bool.{Bool, true, false, cond}
use Prim.Native.Nat.{ℕ}
use lib.Dec.{eqb}
use Rattle.cart.specs.Record.{State, outcome, counted}
use Rattle.cart.specs.Calls.{Call, step}
use Rattle.cart.specs.Gbatek.{Ran, and_then, ran, calls, Usable}
use Rattle.cart.proofs.Usable.{usable-step}

pub nothing : (s : State) → calls [] s ≡ ran [] s
unfolding calls
nothing s = refl

-- an accepted call, then others
pub then : (c : Call) (cs : List Call) (s : State) {g l : List ℕ} {t u : State} → step c [] s ≡ counted s (outcome g t []) → calls cs t ≡ ran l u → calls (c ∷ cs) s ≡ ran (g ++ l) u
unfolding calls
then c cs s p q = rw (p, q)

-- two lists, one after the other
first_by : (b : Bool) (x y z : ℕ) → eqb x 0 ≡ b → cond b (cond (eqb y 0) z y) x ≡ cond (eqb (cond b y x) 0) z (cond b y x)
first_by true x y z e = refl
first_by false x y z e = rw e

then-then : (x y : ℕ) (g h : List ℕ) (r : Ran) → and_then x g (and_then y h r) ≡ and_then (cond (eqb x 0) y x) (g ++ h) r
then-then x y g h r =
    let p = first_by (eqb x 0) x y r.refusal refl in
    let q : g ++ (h ++ r.given) ≡ g ++ h ++ r.given = sym (append_assoc g h r.given) in
    λ i. record { refusal = p i; given = q i; last = r.last }

calls-append : (xs ys : List Call) (s : State) → calls (xs ++ ys) s ≡ and_then (calls xs s).refusal (calls xs s).given (calls ys (calls xs s).last)
unfolding calls
calls-append [] ys s = refl
calls-append (x ∷ xs) ys s =
    let o = step x [] s in
    let r = calls xs o.next in
    ap (and_then o.refusal o.given) (calls-append xs ys o.next) ∙ then-then o.refusal r.refusal o.given r.given (calls ys r.last)

pub calls-then : (xs ys : List Call) (s : State) {g l : List ℕ} {t u : State} → calls xs s ≡ ran g t → calls ys t ≡ ran l u → calls (xs ++ ys) s ≡ ran (g ++ l) u
calls-then xs ys s p q = calls-append xs ys s ∙ rw (p, q)

-- and what calls reach from a usable state is usable
usable-calls : (cs : List Call) (s : State) → Usable s → Usable (calls cs s).last
unfolding calls
usable-calls [] s u = u
usable-calls (c ∷ cs) s u = usable-calls cs (step c [] s).next (usable-step c [] s u)

pub usable-on : (cs : List Call) (s : State) {g : List ℕ} {t : State} → Usable s → calls cs s ≡ ran g t → Usable t
usable-on cs s u e = subst Usable (ap (λ (x : Ran). x.last) e) (usable-calls cs s u)
