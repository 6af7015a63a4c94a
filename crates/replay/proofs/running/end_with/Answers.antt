use mathlib.Core.Path.{◌≡◌, ◌∙◌}
use mathlib.Core.List.{◌∷◌, ◌++◌}
use Prim.Native.Nat.{◌+◌, ◌-◌}
use native.Mathlib.Omega.{arith}
use lib.ListN.{length, take, replicate}
use lib.Seq.{length-take-le}
use Rattle.cart.specs.Calls.{save_data, step}
use Rattle.cart.specs.Replies.{state}
use Rattle.replay.specs.Replay.{file_answer, ending}
use Rattle.replay.proofs.Pieces.{tail-of-front}
use Rattle.replay.proofs.running.end_with.Goals as goal

pub returns : goal.returns
unfolding ending
returns c = let a = c.args in
    let n = length a.memory.now in
    let s = state a.cart a.memory.now in
    let f = c.put_file.new.out in
    let t = length-take-le (5 + n) a.out.now (omega (arith, c.requires)) in
    let q : length (take (5 + n) a.out.now) - 5 ≡ n = omega (arith, t) in
    let k = c.chip_state.ensures a.memory.now in
    tail-of-front a.out.now f c.put_state.new.out (5 + n) (c.put_file.ensures.out_len_unchanged ∙ t)
    ∙ (λ i. c.put_file.ensures.out_after i ++ c.put_state.ensures i)
    ∙ (λ i. (file_answer (step save_data (replicate (q i) 0) s)).bytes ++ ((k i).0.refusal ∷ (k i).0.bytes))
