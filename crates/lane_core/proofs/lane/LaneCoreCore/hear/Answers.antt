use Rattle.hb_rules.specs.Hearing.{hearing}
use Rattle.lane_core.proofs.Results.{on_ok}
use Rattle.lane_core.proofs.Owing.{short_by, hears_owed, hears_stands, terms_same}
use Rattle.lane_core.proofs.lane.LaneCoreCore.hear.Goals as goal

pub hear_vote-requires-clause-from : goal.hear_vote-requires-clause-from
hear_vote-requires-clause-from c = c.requires.heard.known

pub hear_vote-requires-clause-short : goal.hear_vote-requires-clause-short
hear_vote-requires-clause-short c = short_by c.args.self.now.config c.args.vote.now c.requires.heard.spelled

pub returns-clause-terms : goal.returns-clause-terms
returns-clause-terms c = terms_same c.args.self.now c.hear_vote.new.self c.hear_vote.ensures.same

pub returns-clause-owed : goal.returns-clause-owed
returns-clause-owed c =
    on_ok c.hear_vote.result _ _
    (hears_owed c.args.self.now c.hear_vote.new.self (hearing c.args.from c.args.vote.now) c.args.due.now.votes c.hear_vote.new.due.votes
    c.hear_vote.ensures.known)
    c.hear_vote.ensures.ok

pub returns-clause-stands : goal.returns-clause-stands
returns-clause-stands c =
    on_ok c.hear_vote.result _ _
    (hears_stands c.args.self.now c.hear_vote.new.self (hearing c.args.from c.args.vote.now) c.args.due.now.votes c.hear_vote.new.due.votes
    c.hear_vote.ensures.known)
    c.hear_vote.ensures.ok
