use Rattle.std.proofs.Common.{◌≡◌, ℕ, List, length, set, ap, ◌∙◌, arith, length-set}
use Rattle.std.specs.Vec.{with_items}
use Rattle.std.proofs.lemmas.List.{with_items_is}
use Rattle.acs_core.specs.declared.shown.Shown.{Shown}
use Rattle.acs_core.specs.Shown.{shown_at, with_value}
use Rattle.acs_core.proofs.Standing.{Hears-delivered}
use Rattle.acs_core.proofs.acs.Acs.hear_delivery.Goals as goal

pub returns-clause-ok : goal.returns-clause-ok
returns-clause-ok c =
    let lanes : List Shown = c.self.inside.lanes.items in
    let sets : c.note_value.new.lanes ≡ set lanes c.args.lane (with_value (shown_at lanes c.args.lane) c.args.value.now) =
    c.note_value.ensures
    ∙ ap (λ (lanes : List Shown). set lanes c.args.lane (with_value (shown_at lanes c.args.lane) c.in_ok-value.value)) c.deref_mut.ensures.value
    ∙ ap (λ (value : List ℕ). set lanes c.args.lane (with_value (shown_at lanes c.args.lane) value)) c.in_ok-value.ensures.cases in
    let count : length c.note_value.new.lanes ≡ length lanes =
    ap (λ (lanes : List Shown). length lanes) sets ∙ length-set lanes c.args.lane (with_value (shown_at lanes c.args.lane) c.args.value.now) in
    let lane = rw (← c.self.view_is) at c.requires in
    λ due. rw (← c.self.view_is) (Hears-delivered _ (with_items c.self.inside.lanes c.note_value.new.lanes).items c.args.lane c.args.value.now due
    (omega (arith, lane, c.self.invariant))
    (with_items_is c.self.inside.lanes c.note_value.new.lanes (omega (arith, count, c.self.inside.lanes.ok.0)) ∙ sets))
