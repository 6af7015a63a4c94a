use mathlib.Core.Path.{refl, ap, sym, ◌∙◌}
use mathlib.Core.List.{[]}
use lib.ListN.{length}
use Prim.Native.Nat.{ℕ}
use Rattle.lists.specs.Lists.{into}
use Rattle.chip_record.specs.States.{eighteen_of}
use Rattle.cart.specs.Calls.{save_read, eeprom_read, eeprom_begin_dma, take_save_dirty, chip_state, step}
use Rattle.cart.specs.Replies.{state, tallied, replied, flag_replied}
use Rattle.cart.proofs.Stretches.{stretches}
use Rattle.state_calls.specs.StateAnswer.{state_answer, or_zeros}
use Rattle.frames.specs.declared.Frame.{Frame}
use Rattle.frames.specs.declared.Frame.TheVariants.{BeginDma}
use Rattle.frames.specs.Frames.{line_of}
use Rattle.carttrace_lib.specs.Trace.{play, status_line, value_line, state_line, shown, played_with}
use Rattle.carttrace_lib.proofs.Answers.{beside, shows, read-line, write-line, dma-line, bit-in-line, bit-out-line, record-line}
use Rattle.carttrace_lib.proofs.one_frame.play.Goals as goal

pub returns-in-SaveRead : goal.returns-in-SaveRead
unfolding play
returns-in-SaveRead c =
    let a = c.args in
    let m = a.memory.now in
    let ts = a.tallies.now in
    let s = tallied a.cart m ts in
    shows value_line (λ r. r.cart) a.out.now (beside replied (save_read c.in-SaveRead.address) a.cart m ts (λ o. refl) refl c.save_read.ensures) c.show_value.ensures (read-line c.in-SaveRead.address s)
    ∙ ap (λ (f : Frame). shown (play f s) a.out.now) (sym c.in-SaveRead.is)

pub returns-in-SaveWrite : goal.returns-in-SaveWrite
unfolding play
returns-in-SaveWrite c =
    let a = c.args in
    let s = tallied a.cart a.memory.now a.tallies.now in
    shows status_line (λ r. r.cart) a.out.now c.save_write.ensures c.show_status.ensures (write-line c.in-SaveWrite.address c.in-SaveWrite.value s)
    ∙ ap (λ (f : Frame). shown (play f s) a.out.now) (sym c.in-SaveWrite.is)

pub returns-in-EepromRead : goal.returns-in-EepromRead
unfolding play
returns-in-EepromRead c =
    let a = c.args in
    let m = a.memory.now in
    let ts = a.tallies.now in
    let s = tallied a.cart m ts in
    shows value_line (λ r. r.cart) a.out.now (beside replied eeprom_read a.cart m ts (λ o. refl) refl c.eeprom_read.ensures) c.show_value-in-EepromRead.ensures (bit-out-line s)
    ∙ ap (λ (f : Frame). shown (play f s) a.out.now) (sym c.in-EepromRead.is)

pub returns-in-EepromWrite : goal.returns-in-EepromWrite
unfolding play
returns-in-EepromWrite c =
    let a = c.args in
    let s = tallied a.cart a.memory.now a.tallies.now in
    shows status_line (λ r. r.cart) a.out.now c.eeprom_write.ensures c.show_status-in-EepromWrite.ensures (bit-in-line c.in-EepromWrite.value s)
    ∙ ap (λ (f : Frame). shown (play f s) a.out.now) (sym c.in-EepromWrite.is)

pub returns-in-BeginDma : goal.returns-in-BeginDma
unfolding play
returns-in-BeginDma c =
    let a = c.args in
    let m = a.memory.now in
    let ts = a.tallies.now in
    let s = tallied a.cart m ts in
    shows status_line (λ r. r.cart) a.out.now (beside replied (eeprom_begin_dma c.from.result) a.cart m ts (λ o. refl) refl (c.eeprom_begin_dma.ensures m)) c.show_status-in-BeginDma.ensures (dma-line c.from.result s)
    ∙ ap (λ (n : ℕ). shown (play (BeginDma n) s) a.out.now) c.from.ensures
    ∙ ap (λ (f : Frame). shown (play f s) a.out.now) (sym c.in-BeginDma.is)

pub returns-in-TakeFlag : goal.returns-in-TakeFlag
unfolding play
returns-in-TakeFlag c =
    let a = c.args in
    let m = a.memory.now in
    let ts = a.tallies.now in
    let s = tallied a.cart m ts in
    shows value_line (λ r. r.cart) a.out.now (beside flag_replied take_save_dirty a.cart m ts (λ o. refl) refl (c.take_save_dirty.ensures m)) c.show_value-in-TakeFlag.ensures (refl)
    ∙ ap (λ (f : Frame). shown (play f s) a.out.now) (sym c.in-TakeFlag.is)

pub returns-in-ChipState : goal.returns-in-ChipState
unfolding play
returns-in-ChipState c =
    let a = c.args in
    let m = a.memory.now in
    let ts = a.tallies.now in
    let s = tallied a.cart m ts in
    let o = step chip_state [] s in
    let text = line_of o.refusal (eighteen_of o.given) in
    let e = c.chip_state.ensures m in
    let p = c.print_state.ensures in
    let k = c.played_with.ensures ∙ (λ i. played_with a.cart (p i).0) in
    let b = beside (λ o. (state_answer o.refusal (or_zeros o.given), o.next.memory)) chip_state a.cart m ts (λ o. refl) refl (λ i. ((e i).0, (e i).1.memory)) in
    let q = sym (stretches.apart ts chip_state [] (state a.cart m) refl) in
    shows state_line (λ r. a.cart) a.out.now b (λ i. (k i, (p i).1)) (record-line s)
    ∙ (λ i. (played_with (e i).1.cart (length text), o.next.memory, o.next.tallies, into text a.out.now))
    ∙ (λ i. (played_with (q i).next.cart (length text), o.next.memory, o.next.tallies, into text a.out.now))
    ∙ ap (λ (f : Frame). shown (play f s) a.out.now) (sym c.in-ChipState.is)

pub returns-in-Bad : goal.returns-in-Bad
unfolding play
returns-in-Bad c =
    let a = c.args in
    let s = tallied a.cart a.memory.now a.tallies.now in
    let p = c.print_status.ensures in
    let k = c.played_with-in-Bad.ensures ∙ (λ i. played_with a.cart (p i).0) in
    (λ i. (k i, a.memory.now, a.tallies.now, (p i).1))
    ∙ ap (λ (f : Frame). shown (play f s) a.out.now) (sym c.in-Bad.is)
