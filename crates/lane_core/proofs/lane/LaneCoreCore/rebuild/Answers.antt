use Rattle.lane_core.proofs.Results.{on_ok, both_ok}
use Rattle.lane_core.proofs.Owing.{kept_idle, kept_due, kept_stands, terms_same}
use Rattle.lane_core.proofs.lane.LaneCoreCore.rebuild.Goals as goal

pub restore-requires : goal.restore-requires
restore-requires c = record { own = c.requires.own.1.spelled }

pub returns-clause-terms : goal.returns-clause-terms
returns-clause-terms c = terms_same c.args.self.now c.restore.new.self c.restore.ensures.same

pub returns-clause-owed : goal.returns-clause-owed
returns-clause-owed c =
    on_ok c.restore.result _ _
    (λ known.
    kept_due c.args.self.now c.args.own.now _ known (kept_idle c.args.self.now c.requires.own.0 c.args.own.now known c.requires.own.1))
    c.restore.ensures.known

pub returns-clause-stands : goal.returns-clause-stands
returns-clause-stands c =
    on_ok c.restore.result _ _
    (λ both.
    let idle = kept_idle c.args.self.now c.requires.own.0 c.args.own.now both.0 c.requires.own.1 in
    kept_stands c.args.self.now c.restore.new.self c.args.own.now both.0 idle (both.1 idle))
    (both_ok c.restore.result _ _ c.restore.ensures.known c.restore.ensures.stands)
