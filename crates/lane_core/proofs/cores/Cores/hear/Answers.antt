use Rattle.std.proofs.Common.{false, sym, ◌∙◌}
use Rattle.hb_rules.specs.Hearing.{hearing}
use Rattle.hb_wire.specs.Votes.{epoch_of}
use Rattle.lane_core.proofs.Results.{err_not}
use Rattle.lane_core.proofs.Epoch.{HearsOne-nothing}
use Rattle.lane_core.proofs.cores.Cores.hear.Goals as goal

pub returns-else-is_for_agreement-clause-ok : goal.returns-else-is_for_agreement-clause-ok
returns-else-is_for_agreement-clause-ok c = λ n i j at.
    HearsOne-nothing n i j (epoch_of c.args.vote.now) c.args.self.now (hearing c.args.from c.args.vote.now) c.args.due.now.votes at
    (sym c.is_for_broadcast.ensures ∙ c.if-is_for_broadcast.false) (sym c.is_for_agreement.ensures ∙ c.if-is_for_agreement.false)

pub returns-then-is_for_agreement-clause-due : goal.returns-then-is_for_agreement-clause-due
returns-then-is_for_agreement-clause-due c = err_not c.hear_agreement.result _ c.hear_agreement.ensures.room

pub returns-then-is_for_agreement-clause-kept : goal.returns-then-is_for_agreement-clause-kept
returns-then-is_for_agreement-clause-kept c = err_not c.hear_agreement.result _ c.hear_agreement.ensures.room
