-- `state_calls::is_blank` meets its contract. Assumes nothing.
use Rattle.std.proofs.Common.{ap, ◌∙◌}
use Rattle.lists.specs.Lists.{bit}
use Rattle.counts.specs.Tallies.{blank}
use Rattle.image.proofs.Answers.{answered-no, answered-yes}
use Rattle.cart.specs.Calls.{is_blank, tally_questions}
use Rattle.state_calls.proofs.is_blank.Goals as goal

pub returns-in_err-ask_tallies : goal.returns-in_err-ask_tallies
unfolding is_blank
returns-in_err-ask_tallies c = answered-no (tally_questions c.args.cart c.args.tallies.now) (bit (blank c.args.tallies.now)) c.from_residual.result c.in_err-ask_tallies.field-0.0 c.from_residual.ensures.1 c.in_err-ask_tallies.ensures

pub returns : goal.returns
unfolding is_blank
returns c = answered-yes (tally_questions c.args.cart c.args.tallies.now) (bit (blank c.args.tallies.now)) _ c.in_ok-ask_tallies.ensures (c.from.ensures ∙ c.bit.ensures ∙ ap bit c.is_blank.ensures)
