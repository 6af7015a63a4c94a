-- `state_calls::eeprom_window_start` meets its contract. Assumes nothing.
use Rattle.std.proofs.Common.{[], ◌∷◌}
use Rattle.kind.specs.Kind.{window_start}
use Rattle.image.proofs.Answers.{answered-no, answered-yes}
use Rattle.cart.specs.Record.{record_question}
use Rattle.cart.specs.Calls.{eeprom_window_start}
use Rattle.state_calls.proofs.eeprom_window_start.Goals as goal

pub returns-in_err-ask_record : goal.returns-in_err-ask_record
unfolding eeprom_window_start
returns-in_err-ask_record c = answered-no (record_question c.args.cart ∷ []) (window_start c.args.cart.len) c.from_residual.result c.in_err-ask_record.field-0.0 c.from_residual.ensures.1 c.in_err-ask_record.ensures

pub returns : goal.returns
unfolding eeprom_window_start
returns c = answered-yes (record_question c.args.cart ∷ []) (window_start c.args.cart.len) _ c.in_ok-ask_record.ensures c.window_start.ensures
