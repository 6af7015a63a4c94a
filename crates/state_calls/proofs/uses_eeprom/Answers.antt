-- `state_calls::uses_eeprom` meets its contract. Assumes nothing.
use Rattle.std.proofs.Common.{ap, [], ◌∷◌, ◌∙◌}
use Rattle.lists.specs.Lists.{bit}
use Rattle.kind.specs.Kind.{uses_eeprom}
use Rattle.image.proofs.Answers.{answered-no, answered-yes}
use Rattle.cart.specs.Record.{record_question}
use Rattle.cart.specs.Calls.{uses_eeprom_of}
use Rattle.state_calls.proofs.uses_eeprom.Goals as goal

pub returns-in_err-ask_record : goal.returns-in_err-ask_record
unfolding uses_eeprom_of
returns-in_err-ask_record c = answered-no (record_question c.args.cart ∷ []) (bit (uses_eeprom c.args.cart.kind)) c.from_residual.result c.in_err-ask_record.field-0.0 c.from_residual.ensures.1 c.in_err-ask_record.ensures

pub returns : goal.returns
unfolding uses_eeprom_of
returns c = answered-yes (record_question c.args.cart ∷ []) (bit (uses_eeprom c.args.cart.kind)) _ c.in_ok-ask_record.ensures (c.from.ensures ∙ c.bit.ensures ∙ ap bit c.uses_eeprom.ensures)
