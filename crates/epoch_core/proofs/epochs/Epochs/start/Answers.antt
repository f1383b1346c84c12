use Rattle.std.proofs.Common.{arith}
use Rattle.epoch_core.proofs.Desk.{Starts-taken}
use Rattle.epoch_core.proofs.epochs.Epochs.start.Goals as goal

pub returns-clause-ok : goal.returns-clause-ok
returns-clause-ok c =
    rw (← c.self.view_is) (Starts-taken _ c.take.new.self c.take.result c.args.due.now.votes c.reserve.new.self.votes c.push_first.new.due.votes
    c.self.invariant.some (omega (arith, c.self.invariant.enough)) c.self.invariant.placed c.take.ensures.after c.push_first.ensures.votes c.take.ensures.value
    c.reserve.ensures.votes)
