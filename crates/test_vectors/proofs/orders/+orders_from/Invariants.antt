use Rattle.std.proofs.Common.{◌-◌}
use Rattle.test_vectors.proofs.orders.+orders_from.Given as goal

abbrev pub decreases-orders_from : goal.decreases-orders_from
decreases-orders_from g l = 5 - l.place
