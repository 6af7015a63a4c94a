-- `cut_call::cut` meets its contract. Assumes nothing.
use mathlib.Core.Path.{sym, ap, ap₂, ◌∙◌}
use mathlib.Core.List.{List, ◌++◌}
use Rattle.cut_call.specs.Loads.{loaded_from}
use mathlib.Core.Option.{Option}
use Prim.Native.Nat.{ℕ}
use native.Mathlib.Omega.{arith}
use lib.ListN.{length, take, drop, length-append}
use lib.Seq.{length-take-le}
use Rattle.cart.specs.Record.{State, from_bytes}
use Rattle.cart.specs.Calls.{restore}
use Rattle.cart.specs.Cut.{reloaded, cut}
use Rattle.cart.specs.Replies.{state, reply_from}
use Rattle.cart.proofs.Stretches.{file-left-apart, bytes-left-apart}
use Rattle.cut_call.proofs.Cuts.{bytes-or, value-fits, reloads, bytes-are}
use Rattle.cut_call.proofs.cut.Goals as goal

pub slice_bounds-resume-end : goal.slice_bounds-resume-end
slice_bounds-resume-end c =
    let d = c in
    let s = c in
    let a = s.args in
    let left = d.save_data-exported.new.destination in
    let v = value-fits a.scratch.now left a.cart a.memory.now (reply_from a.cart d.save_data-exported.result) s.requires.cart_value s.requires.memory_len s.requires.memory_in_bounds d.save_data-exported.ensures in
    omega (arith, v, c.value_of-len.ensures a.cart, length-append left (drop (length a.memory.now) a.scratch.now))

pub slice_bounds-resume-end-2 : goal.slice_bounds-resume-end-2
slice_bounds-resume-end-2 c =
    let d = c in
    let s = c in
    let a = s.args in
    let left = d.save_data-exported.new.destination in
    let v = value-fits a.scratch.now left a.cart a.memory.now (reply_from a.cart d.save_data-exported.result) s.requires.cart_value s.requires.memory_len s.requires.memory_in_bounds d.save_data-exported.ensures in
    sym (length-take-le _ _ (omega (arith, v, c.value_of-len.ensures a.cart, length-append left (drop (length a.memory.now) a.scratch.now))))

pub returns : goal.returns
unfolding cut
returns c =
    let d = c in
    let s = c in
    let a = s.args in
    let m = a.memory.now in
    let ts = a.tallies.now in
    let t = state a.cart m in
    let f = (from_bytes a.image.now a.part m ts).next in
    let k = c.chip_state.ensures m in
    c.resume.ensures
    ∙ ap₂ (λ (b : List ℕ) (u : State). (restore b u).next)
    (c.unwrap_or-bytes.ensures ∙ sym (bytes-or c.chip_state.result) ∙ (λ i. (k i).0.bytes) ∙ bytes-are t s.requires.cart_value ∙ sym (bytes-left-apart ts t))
    (ap (λ (n : ℕ). loaded_from (take n (d.save_data-exported.new.destination ++ drop (length m) a.scratch.now)) f) (c.value_of-len.ensures a.cart)
    ∙ reloads a.scratch.now d.save_data-exported.new.destination a.cart m (reply_from a.cart d.save_data-exported.result) s.requires.cart_value s.requires.memory_len s.requires.memory_in_bounds d.save_data-exported.ensures
    (drop (length m) a.scratch.now) f
    ∙ ap (λ (o : Option (List ℕ)). reloaded o f) (sym (file-left-apart ts t)))
