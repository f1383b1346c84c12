use Rattle.lane_core.proofs.Lanes.{StaysAt-in, StandsOn-in, open_below}
use Rattle.lane_core.proofs.Results.{on_err}
use Rattle.std.proofs.Common.{sym, subst, ℕ, length, ◌<◌}
use Rattle.hb_wire.specs.Votes.{epoch_of}
use Rattle.lane_core.proofs.lane.hear_in.Goals as goal

pub returns-clause-at : goal.returns-clause-at
returns-clause-at c =
    StaysAt-in c.args.epochs.now c.epoch-epoch.result (epoch_of c.args.vote.now) _ c.hear_at.new.place c.epoch-epoch.ensures
    (subst (λ (k : ℕ). k < length c.args.epochs.now) (sym c.epoch-epoch.ensures) (open_below c.args.epochs.now (epoch_of c.args.vote.now) c.args.from c.requires.cores))
    c.hear_at.ensures.at

pub returns-clause-kept : goal.returns-clause-kept
returns-clause-kept c =
    on_err c.hear_at.result _ _
    (StandsOn-in c.args.epochs.now c.epoch-epoch.result (epoch_of c.args.vote.now) _ c.hear_at.new.place c.epoch-epoch.ensures
    (subst (λ (k : ℕ). k < length c.args.epochs.now) (sym c.epoch-epoch.ensures) (open_below c.args.epochs.now (epoch_of c.args.vote.now) c.args.from c.requires.cores)))
    c.hear_at.ensures.kept
