use mathlib.Core.Path.{refl, sym, ap, ◌∙◌}
use mathlib.Core.List.{List, []}
use Prim.Native.Nat.{ℕ, ◌-◌}
use lib.ListN.{length, replicate}
use Rattle.cart.specs.Record.{Outcome}
use Rattle.cart.specs.Calls.{save_read, eeprom_begin_dma, eeprom_read, load_save, save_data, chip_state, take_save_dirty, step}
use Rattle.cart.specs.Replies.{state, tallied}
use Rattle.cart.proofs.Stretches.{stretches}
use Rattle.call_list.specs.declared.Item.{Item}
use Rattle.call_list.specs.declared.Item.TheVariants.{BeginDma}
use Rattle.call_list.specs.Items.{item_room}
use Rattle.replay.specs.Replay.{status_answer, value_answer, flag_answer, record_answer, file_answer, left, play, cut_at}
use Rattle.replay.proofs.Shown.{shows-status, beside, shows-value, shows-flag, shows-state, export-next, nothing, loaded-part, file-room}
use Rattle.replay.proofs.playing.play.Goals as goal

pub returns-in-SaveRead : goal.returns-in-SaveRead
unfolding play
returns-in-SaveRead c = let a = c.args in
    let ts = a.tallies.now in
    let u = state a.cart a.memory.now in
    let s = tallied a.cart a.memory.now ts in
    shows-value (step (save_read c.in-SaveRead.address) [] u) ts c.save_read.ensures c.show_value.ensures
    ∙ ap (λ (o : Outcome). left (value_answer o)) (sym (stretches.apart ts (save_read c.in-SaveRead.address) [] u refl))
    ∙ ap (λ (i : Item). left (play (cut_at a.image.now a.part) i a.list.now s)) (sym c.in-SaveRead.is)

pub returns-in-SaveWrite : goal.returns-in-SaveWrite
unfolding play
returns-in-SaveWrite c = let a = c.args in
    let ts = a.tallies.now in
    let u = state a.cart a.memory.now in
    let s = tallied a.cart a.memory.now ts in
    shows-status c.save_write.ensures c.show_status.ensures
    ∙ ap (λ (i : Item). left (play (cut_at a.image.now a.part) i a.list.now s)) (sym c.in-SaveWrite.is)

pub returns-in-EepromRead : goal.returns-in-EepromRead
unfolding play
returns-in-EepromRead c = let a = c.args in
    let ts = a.tallies.now in
    let u = state a.cart a.memory.now in
    let s = tallied a.cart a.memory.now ts in
    shows-value (step eeprom_read [] u) ts c.eeprom_read.ensures c.show_value-in-EepromRead.ensures
    ∙ ap (λ (o : Outcome). left (value_answer o)) (sym (stretches.apart ts eeprom_read [] u refl))
    ∙ ap (λ (i : Item). left (play (cut_at a.image.now a.part) i a.list.now s)) (sym c.in-EepromRead.is)

pub returns-in-EepromWrite : goal.returns-in-EepromWrite
unfolding play
returns-in-EepromWrite c = let a = c.args in
    let ts = a.tallies.now in
    let u = state a.cart a.memory.now in
    let s = tallied a.cart a.memory.now ts in
    shows-status c.eeprom_write.ensures c.show_status-in-EepromWrite.ensures
    ∙ ap (λ (i : Item). left (play (cut_at a.image.now a.part) i a.list.now s)) (sym c.in-EepromWrite.is)

pub returns-in-BeginDma : goal.returns-in-BeginDma
unfolding play
returns-in-BeginDma c = let a = c.args in
    let ts = a.tallies.now in
    let u = state a.cart a.memory.now in
    let s = tallied a.cart a.memory.now ts in
    shows-status (beside ts (c.eeprom_begin_dma.ensures a.memory.now)) c.show_status-in-BeginDma.ensures
    ∙ ap (λ (o : Outcome). left (status_answer o)) (sym (stretches.apart ts (eeprom_begin_dma c.from.result) [] u refl))
    ∙ ap (λ (n : ℕ). left (play (cut_at a.image.now a.part) (BeginDma n) a.list.now s)) c.from.ensures
    ∙ ap (λ (i : Item). left (play (cut_at a.image.now a.part) i a.list.now s)) (sym c.in-BeginDma.is)

pub returns-in-TakeFlag : goal.returns-in-TakeFlag
unfolding play
returns-in-TakeFlag c = let a = c.args in
    let ts = a.tallies.now in
    let u = state a.cart a.memory.now in
    let s = tallied a.cart a.memory.now ts in
    shows-flag (step take_save_dirty [] u) ts (c.take_save_dirty.ensures a.memory.now) c.show_value-in-TakeFlag.ensures
    ∙ ap (λ (o : Outcome). left (flag_answer o)) (sym (stretches.apart ts take_save_dirty [] u refl))
    ∙ ap (λ (i : Item). left (play (cut_at a.image.now a.part) i a.list.now s)) (sym c.in-TakeFlag.is)

pub returns-in-ChipState : goal.returns-in-ChipState
unfolding play
returns-in-ChipState c = let a = c.args in
    let ts = a.tallies.now in
    let u = state a.cart a.memory.now in
    let s = tallied a.cart a.memory.now ts in
    shows-state (step chip_state [] u) ts (c.chip_state.ensures a.memory.now) c.put_state.ensures
    ∙ ap (λ (o : Outcome). left (record_answer o)) (sym (stretches.apart ts chip_state [] u refl))
    ∙ ap (λ (i : Item). left (play (cut_at a.image.now a.part) i a.list.now s)) (sym c.in-ChipState.is)

pub returns-in-LoadSave : goal.returns-in-LoadSave
unfolding play
returns-in-LoadSave c = let a = c.args in
    let ts = a.tallies.now in
    let u = state a.cart a.memory.now in
    let s = tallied a.cart a.memory.now ts in
    shows-status c.load_save.ensures c.show_status-in-LoadSave.ensures
    ∙ ap (λ (f : List ℕ). left (status_answer (step (load_save f) [] s))) (loaded-part c.in-LoadSave.n a.list.now)
    ∙ ap (λ (i : Item). left (play (cut_at a.image.now a.part) i a.list.now s)) (sym c.in-LoadSave.is)

pub returns-in-SaveData : goal.returns-in-SaveData
unfolding play
returns-in-SaveData c = let a = c.args in
    let ts = a.tallies.now in
    let u = state a.cart a.memory.now in
    let s = tallied a.cart a.memory.now ts in
    (λ i. (s, c.put_file.ensures.out_after i))
    ∙ (λ i. (sym (export-next (replicate (length a.out.now - 5) 0) s) i, (file_answer (sym (stretches.apart ts save_data (replicate (length a.out.now - 5) 0) u refl) i)).bytes))
    ∙ ap (λ (n : ℕ). left (file_answer (step save_data (replicate n 0) s))) (file-room a.item _ (length a.out.now) c.in-SaveData.is c.requires.out_len)
    ∙ ap (λ (i : Item). left (play (cut_at a.image.now a.part) i a.list.now s)) (sym c.in-SaveData.is)

pub returns-in-Cut : goal.returns-in-Cut
unfolding play
returns-in-Cut c = let a = c.args in
    let ts = a.tallies.now in
    let u = state a.cart a.memory.now in
    let s = tallied a.cart a.memory.now ts in
    (λ i. (c.cut.ensures i, nothing a.out.now (c.requires.out_len ∙ ap item_room c.in-Cut.is) i))
    ∙ ap (λ (i : Item). left (play (cut_at a.image.now a.part) i a.list.now s)) (sym c.in-Cut.is)

pub returns-in-Bad : goal.returns-in-Bad
unfolding play
returns-in-Bad c = let a = c.args in
    let ts = a.tallies.now in
    let u = state a.cart a.memory.now in
    let s = tallied a.cart a.memory.now ts in
    (λ i. (s, nothing a.out.now (c.requires.out_len ∙ ap item_room c.in-Bad.is) i))
    ∙ ap (λ (i : Item). left (play (cut_at a.image.now a.part) i a.list.now s)) (sym c.in-Bad.is)
