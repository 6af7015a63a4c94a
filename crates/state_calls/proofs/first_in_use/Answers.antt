-- `state_calls::first_in_use` meets its contract. Assumes nothing.
use Rattle.counts.specs.Tallies.{first_in_use, in_use_number}
use Rattle.image.proofs.Answers.{answered-no, answered-yes}
use Rattle.cart.specs.Calls.{in_use, tally_questions}
use Rattle.state_calls.proofs.first_in_use.Goals as goal

pub returns-in_err-ask_tallies : goal.returns-in_err-ask_tallies
unfolding in_use
returns-in_err-ask_tallies c = answered-no (tally_questions c.args.cart c.args.tallies.now) (in_use_number (first_in_use c.args.tallies.now)) c.from_residual.result c.in_err-ask_tallies.field-0.0 c.from_residual.ensures.1 c.in_err-ask_tallies.ensures

pub returns : goal.returns
unfolding in_use
returns c = answered-yes (tally_questions c.args.cart c.args.tallies.now) (in_use_number (first_in_use c.args.tallies.now)) _ c.in_ok-ask_tallies.ensures c.first_in_use.ensures
