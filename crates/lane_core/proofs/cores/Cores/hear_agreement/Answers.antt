use Rattle.std.proofs.Common.{refl}
use Rattle.hb_wire.specs.Votes.{epoch_of}
use Rattle.hb_rules.specs.Hearing.{hearing}
use Rattle.lane_core.proofs.Results.{on_ok}
use Rattle.lane_core.proofs.Epoch.{HearsOne-agreed, agreement_fits}
use Rattle.lane_core.proofs.cores.Cores.hear_agreement.Goals as goal

pub returns-clause-ok : goal.returns-clause-ok
returns-clause-ok c =
    on_ok c.hear.result _ _
    (λ hears n i j at.
    HearsOne-agreed n i j (epoch_of c.args.vote.now) c.args.self.now _ (hearing c.args.from c.args.vote.now) c.args.due.now.votes c.hear.new.due.votes at
    c.requires.other c.requires.kind refl hears)
    (rw c.vote.ensures at c.hear.ensures.ok)

pub returns-clause-room : goal.returns-clause-room
returns-clause-room c = c.hear.ensures.room (agreement_fits c.args.self.now c.args.vote.now c.args.due.now.spare c.requires.room)
