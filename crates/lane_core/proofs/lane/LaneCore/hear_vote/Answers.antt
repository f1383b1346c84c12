use Rattle.std.proofs.Common.{◌≤◌, ℕ, List, subst, arith}
use Rattle.hb_wire.specs.Votes.{epoch_of}
use Rattle.hb_rules.specs.Hearing.{hearing}
use Rattle.lane_core.specs.Lane.{LaneView, Opens, Hears}
use Rattle.hb_wire.specs.declared.vote.Vote.{Vote}
use Rattle.lane_core.proofs.Results.{on_ok, on_err}
use Rattle.lane_core.proofs.Lanes.{Hears-outside, Hears-opened}
use Rattle.lane_core.proofs.lane.LaneCore.hear_vote.Goals as goal

pub returns-then-epoch-epochs-clause-ok : goal.returns-then-epoch-epochs-clause-ok
returns-then-epoch-epochs-clause-ok c =
    Hears-outside c.args.self.now (hearing c.args.from c.args.vote.now) c.args.due.now.votes
    (subst (λ (l : LaneView). l.config.epochs ≤ epoch_of c.args.vote.now) c.self.view_is
    (omega (arith, c.if-epoch-epochs.true, c.epochs.ensures.value, c.epoch-epoch.ensures)))

pub returns-clause-ok : goal.returns-clause-ok
returns-clause-ok c =
    on_ok c.hear_open.result _ _
    (λ hears. subst (λ (before : List Vote). Hears c.args.self.now c.hear_open.new.self (hearing c.args.from c.args.vote.now) before c.hear_open.new.due.votes)
    c.reserve.ensures.votes
    (Hears-opened c.args.self.now c.make_cores.new.self c.hear_open.new.self (epoch_of c.args.vote.now) (hearing c.args.from c.args.vote.now)
    c.reserve.new.self.votes c.hear_open.new.due.votes
    (subst (λ (k : ℕ). Opens c.args.self.now c.make_cores.new.self k) c.epoch-epoch.ensures c.in_ok-make_cores.ensures.ok) hears))
    c.hear_open.ensures.ok

pub returns-clause-kept : goal.returns-clause-kept
returns-clause-kept c =
    on_err c.hear_open.result _ _
    (λ keeps own heard stands. keeps own heard (c.in_ok-make_cores.ensures.ok.stands own heard stands))
    c.hear_open.ensures.kept
