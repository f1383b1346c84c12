use Rattle.std.proofs.Common.{Option, subst}
use Rattle.lane_core.specs.declared.cores.Cores.{Cores}
use Rattle.lane_core.specs.Cores.{StandsAt}
use Rattle.lane_core.specs.Lane.{AreAtEpoch}
use Rattle.lane_core.proofs.Results.{on_err}
use Rattle.lane_core.proofs.lane.hear_at.Goals as goal

pub returns-in-Some-clause-at : goal.returns-in-Some-clause-at
returns-in-Some-clause-at c = record {
  stays = λ n i j e at. c.hear.ensures.at n i j e (subst (λ (place : Option Cores). AreAtEpoch n i j e place) c.in-Some.is at);
}

pub returns-in-Some-clause-kept : goal.returns-in-Some-clause-kept
returns-in-Some-clause-kept c =
    on_err c.hear.result _ _
    (λ on. record {
      stands = λ e own heard stands. on.stand e own heard (subst (λ (place : Option Cores). StandsAt e place own heard) c.in-Some.is stands);
    })
    c.hear.ensures.kept
