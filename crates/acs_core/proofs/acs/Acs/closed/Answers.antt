use Rattle.std.proofs.Common.{◌≡◌, List, length, Option, Some, None, sym, ap, ◌∙◌, subst}
use Rattle.std.specs.Option.{option_map}
use Rattle.hb_wire.specs.declared.items.Item.{Item}
use Rattle.hb_wire.specs.declared.vote.Vote.{Vote}
use Rattle.hb_wire.specs.declared.vote.Vote.TheVariants.{Closed}
use Rattle.acs_core.specs.declared.shown.Shown.{Shown}
use Rattle.acs_core.specs.Shown.{accepted_of}
use Rattle.acs_core.specs.Subset.{AcsView}
use Rattle.acs_core.proofs.Accepting.{closing_heard}
use Rattle.acs_core.proofs.acs.Acs.closed.Goals as goal

pub returns-in-Some-clause-heard : goal.returns-in-Some-clause-heard
returns-in-Some-clause-heard c = λ own heard stands.
    closing_heard c.args.self.now own heard (Some (Closed c.self.inside.epoch c.in-Some.list)) stands
    (subst (λ (a : AcsView). Some (Closed c.self.inside.epoch c.in-Some.list) ≡ option_map (Closed a.epoch) (accepted_of a.lanes a.config.n)) c.self.view_is
    (ap (λ (o : Option (List Item)). option_map (Closed c.self.inside.epoch) o)
    (sym c.in-Some.is ∙ c.in_ok-list.ensures ∙ ap (λ (lanes : List Shown). accepted_of lanes (length lanes)) c.deref.ensures.value
    ∙ ap (accepted_of c.self.inside.lanes.items) c.self.invariant)))

pub returns-in-None-clause-heard : goal.returns-in-None-clause-heard
returns-in-None-clause-heard c = λ own heard stands.
    closing_heard c.args.self.now own heard None stands
    (subst (λ (a : AcsView). let none : Option Vote = None in none ≡ option_map (Closed a.epoch) (accepted_of a.lanes a.config.n)) c.self.view_is
    (ap (λ (o : Option (List Item)). option_map (Closed c.self.inside.epoch) o)
    (sym c.in-None.is ∙ c.in_ok-list.ensures ∙ ap (λ (lanes : List Shown). accepted_of lanes (length lanes)) c.deref.ensures.value
    ∙ ap (accepted_of c.self.inside.lanes.items) c.self.invariant)))
