use Rattle.epoch_core.proofs.Order.{in_order, in_order_unproposed}
use Rattle.epoch_core.proofs.epochs.order_laws.Goals as goal

pub returns-clause-kept : goal.returns-clause-kept
returns-clause-kept c = in_order

pub returns-clause-unproposed : goal.returns-clause-unproposed
returns-clause-unproposed c = in_order_unproposed
