use Rattle.std.proofs.Common.{◌≡◌, ℕ, ◌-◌, List, ◌∷◌, ap, arith, replicate, length, ◌∙◌}
use lib.ListN.{set, length-set}
use Rattle.lists.proofs.Parts.{length_rest}
use Rattle.replay.proofs.Pieces.{byte-and-rest}
use Rattle.replay.proofs.answers.put_state.Goals as goal

pub returns-in-Ok : goal.returns-in-Ok
returns-in-Ok c =
    rw c.in-Ok.is (byte-and-rest c.args.out.now c.copy_from_slice.new.self 0 (omega (arith, c.requires)) ∙ ap (λ (l : List ℕ). 0 ∷ l) c.copy_from_slice.ensures.after)

pub returns-in-Err : goal.returns-in-Err
returns-in-Err c =
    let n = c.number.result in
    let out = set c.args.out.now 0 n in
    let q : length out - 1 ≡ 20 = simp length-set (omega (arith, c.requires)) in
    let f = c.fill.ensures.after (λ y e. e) ∙ ap (λ (k : ℕ). replicate k 0) (length_rest 1 out ∙ q) in
    rw c.in-Err.is (byte-and-rest c.args.out.now c.fill.new.self n (omega (arith, c.requires)) ∙ (λ i. c.number.ensures i ∷ f i))
