use Rattle.std.proofs.Common.{ℕ, ap, ◌∙◌, replicate, arith}
use Rattle.acs_core.specs.Shown.{nothing}
use Rattle.acs_core.proofs.Standing.{Stands-fresh, fresh_is}
use Rattle.acs_core.proofs.acs.Acs.rebuild.Goals as goal

pub returns-clause-exact : goal.returns-clause-exact
returns-clause-exact c =
    fresh_is c.args.config.now c.args.node c.args.epoch _ _ _ c.has_no_more.ensures
    (c.in_ok-lanes.ensures ∙ ap (λ (n : ℕ). replicate n nothing) c.n-n.ensures.value)

pub returns-clause-stands : goal.returns-clause-stands
returns-clause-stands c =
    Stands-fresh _ c.args.own.now (omega (arith, c.n-n.ensures.value, c.f-f.ensures.value, c.f-f.ensures.bounds.1)) c.has_no_more.ensures
    (c.in_ok-lanes.ensures ∙ ap (λ (n : ℕ). replicate n nothing) c.n-n.ensures.value)
