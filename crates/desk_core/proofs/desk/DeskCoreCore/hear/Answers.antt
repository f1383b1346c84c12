use Rattle.std.proofs.Common.{◌≡◌, [], ◌∷◌, ◌++◌, Some, sym, ap, subst, ◌∙◌}
use Rattle.hb_rules.specs.Hearing.{hearing}
use Rattle.epoch_core.specs.Epochs.{Hears}
use Rattle.desk_core.specs.Desk.{DeskView, StandsFor, desk_terms}
use Rattle.desk_core.proofs.Standing.{on_ok, hears_owed, hears_stands}
use Rattle.desk_core.proofs.desk.DeskCoreCore.hear.Goals as goal

there : (c : goal.After-hear) → c.args.self.now.epochs ≡ Some c.in-Some.epochs
there c = sym (ap (λ (d : DeskView). d.epochs) c.self.view_is) ∙ c.in-Some.is

pub returns-clause-owed : goal.returns-clause-owed
returns-clause-owed c =
    on_ok c.hear.result _ _
    (hears_owed c.args.self.now c.in-Some.epochs c.hear.new.self (hearing c.args.from c.args.vote.now) c.args.due.now.votes c.hear.new.due.votes
    c.slot_laws.ensures.unique c.desk_slot_laws.ensures.owed (there c))
    (rw c.vote.ensures at c.hear.ensures.ok)

pub returns-clause-stands : goal.returns-clause-stands
returns-clause-stands c =
    let d = c.args.self.now in
    let h = hearing c.args.from c.args.vote.now in
    on_ok c.hear.result (Hears c.in-Some.epochs c.hear.new.self h c.args.due.now.votes c.hear.new.due.votes) _
    (λ hears own heard stands.
    subst (λ (v : DeskView). StandsFor (record v { epochs = Some c.hear.new.self }) (own ++ (desk_terms d).owed own (heard ++ h ∷ [])) (heard ++ h ∷ []))
    (sym c.self.view_is)
    (hears_stands d c.in-Some.epochs c.hear.new.self h c.args.due.now.votes c.hear.new.due.votes
    c.slot_laws.ensures.unique c.desk_slot_laws.ensures.owed (there c) hears own heard stands))
    (rw c.vote.ensures at c.hear.ensures.ok)
