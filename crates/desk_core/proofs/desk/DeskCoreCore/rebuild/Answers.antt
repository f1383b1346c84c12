use Rattle.std.proofs.Common.{◌≡◌, ◌<◌, [], ◌++◌, Some, sym, ap, subst, ◌∙◌, arith}
use Rattle.hb_base.specs.Numbers.{Numbers}
use Rattle.epoch_core.specs.Epochs.{Stands, AreInOrder}
use Rattle.desk_core.specs.Desk.{DeskView, StandsFor, desk_terms}
use Rattle.desk_core.proofs.Keeping.{kept_in_order}
use Rattle.desk_core.proofs.Standing.{starts_owed, starts_stands}
use Rattle.desk_core.proofs.desk.DeskCoreCore.rebuild.Goals as goal

-- the state is of this desk
same_config : (c : goal.Joined-self) → c.in_ok-epochs.epochs.config ≡ c.args.self.now.config
same_config c = c.in_ok-epochs.ensures.config ∙ ap (λ (d : DeskView). d.config) c.self.view_is

stood : (c : goal.Joined-self) → Stands c.in_ok-epochs.epochs c.args.self.now.submitted c.args.own.now []
stood c =
    let d = c.args.self.now in
    let config : c.self.inside.config ≡ d.config = ap (λ (v : DeskView). v.config) c.self.view_is in
    let submitted : c.self.inside.submitted.items ≡ d.submitted = ap (λ (v : DeskView). v.submitted) c.self.view_is in
    let some : 0 < d.config.n = omega (arith, c.self.invariant.known, ap (λ (numbers : Numbers). numbers.n) config) in
    c.in_ok-epochs.ensures.stands d.submitted (cc (c.in_ok-pool.ensures, c.deref.ensures.value, submitted))
    (subst (λ (numbers : Numbers). AreInOrder numbers c.args.own.now) (sym config)
    (kept_in_order d.config d.submitted d.node c.requires.own.0 c.args.own.now some
    c.order_laws.ensures.kept c.order_laws.ensures.none (c.desk_slot_laws.ensures.owed d.config d.submitted c.args.own.now []) c.requires.own.1))

pub returns-clause-owed : goal.returns-clause-owed
returns-clause-owed c =
    starts_owed c.args.self.now c.in_ok-epochs.epochs c.start.new.self c.args.own.now c.args.due.now.votes c.start.new.due.votes
    c.slot_laws.ensures.unique c.desk_slot_laws.ensures.owed (same_config c) (stood c) c.in_ok-start.ensures.ok

pub returns-clause-stands : goal.returns-clause-stands
returns-clause-stands c =
    let d = c.args.self.now in
    subst (λ (v : DeskView). StandsFor (record v { epochs = Some c.start.new.self }) (c.args.own.now ++ (desk_terms d).owed c.args.own.now []) [])
    (sym c.self.view_is)
    (starts_stands d c.in_ok-epochs.epochs c.start.new.self c.args.own.now c.args.due.now.votes c.start.new.due.votes
    c.slot_laws.ensures.unique c.desk_slot_laws.ensures.owed (same_config c) (stood c) c.in_ok-start.ensures.ok)
