use Rattle.std.proofs.Common.{◌≡◌, refl, sym, ap, ◌∙◌, subst}
use Rattle.hb_wire.specs.declared.vote.Vote.{Vote}
use Rattle.hb_wire.specs.declared.vote.Vote.TheVariants.{Delivered}
use Rattle.hb_rules.specs.Hearing.{hearing}
use Rattle.acs_core.specs.Subset.{Hears}
use Rattle.acs_core.proofs.Noting.{none_elsewhere, other_kind}
use Rattle.acs_core.proofs.Standing.{Hears-nothing, on_ok}
use Rattle.acs_core.proofs.acs.Acs.hear.Goals as goal

pub returns-else-epoch-self-clause-ok : goal.returns-else-epoch-self-clause-ok
returns-else-epoch-self-clause-ok c =
    rw (c.in-Decided.is, ← c.self.view_is) (Hears-nothing _ _ c.args.due.now.votes
    (none_elsewhere c.in-Decided.epoch c.self.inside.epoch c.in-Decided.bit c.if-epoch-self.false) refl)

pub returns-then-epoch-self-2-clause-ok : goal.returns-then-epoch-self-2-clause-ok
returns-then-epoch-self-2-clause-ok c =
    let epoch : c.in-Delivered.epoch ≡ c.args.self.now.epoch = rw (← c.self-in-Delivered.view_is) c.if-epoch-self-2.true in
    let vote : c.args.vote.now ≡ Delivered c.args.self.now.epoch c.in-Delivered.value =
    c.in-Delivered.is ∙ ap (λ e. Delivered e c.in-Delivered.value) epoch in
    on_ok c.hear_delivery.result _ _
    (λ hears.
    subst (λ (v : Vote). Hears c.args.self.now c.hear_delivery.new.self (hearing c.args.lane v) c.args.due.now.votes c.args.due.now.votes) (sym vote)
    (hears c.args.due.now.votes))
    c.hear_delivery.ensures.ok

pub returns-else-epoch-self-2-clause-ok : goal.returns-else-epoch-self-2-clause-ok
returns-else-epoch-self-2-clause-ok c =
    rw (c.in-Delivered.is, ← c.self-in-Delivered.view_is) (Hears-nothing _ _ c.args.due.now.votes
    refl (none_elsewhere c.in-Delivered.epoch c.self-in-Delivered.inside.epoch c.in-Delivered.value c.if-epoch-self-2.false))

pub returns-in_default-clause-ok : goal.returns-in_default-clause-ok
returns-in_default-clause-ok c =
    let other = other_kind c.args.self.now.epoch c.args.vote.now c.in_default.not-Decided c.in_default.not-Delivered in
    Hears-nothing c.args.self.now _ c.args.due.now.votes other.0 other.1
