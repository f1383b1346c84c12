use Rattle.std.proofs.Common.{◌≤◌, ◌-◌, ◌^◌, ℕ, Option, min, ap, ◌∙◌, arith}
use Rattle.std.specs.Option.{unwrap_or}
use Rattle.acs_world.specs.Common.{common_epochs}
use Rattle.acs_world.proofs.Running.{ledgers_common}
use Rattle.acs_world.proofs.common.common_epochs.Goals as goal

pub returns-clause-exact : goal.returns-clause-exact
returns-clause-exact c = c.clamped.ensures ∙ ap (λ (o : Option ℕ). min (unwrap_or o 0) (2 ^ 32 - 1)) c.least_count.ensures

pub returns-clause-legal : goal.returns-clause-legal
returns-clause-legal c = λ legal premise.
    let is = returns-clause-exact c in
    let few : c.clamped.result ≤ common_epochs c.args.report.now = grind (arith, is) in
    ledgers_common c.args.report.now c.clamped.result few c.liars-sound.ensures.sound legal premise
