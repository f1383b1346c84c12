use Rattle.std.proofs.Common.{◌≡◌, List, length, set, ap, ◌∙◌, arith, length-set}
use Rattle.std.specs.Vec.{with_items}
use Rattle.std.proofs.lemmas.List.{with_items_is}
use Rattle.acs_core.specs.declared.shown.Shown.{Shown}
use Rattle.acs_core.specs.Shown.{shown_at, with_decision}
use Rattle.acs_core.proofs.Standing.{Hears-decided}
use Rattle.acs_core.proofs.acs.Acs.hear_decision.Goals as goal

pub returns-clause-ok : goal.returns-clause-ok
returns-clause-ok c =
    let lanes : List Shown = c.self.inside.lanes.items in
    let sets : c.note_decision.new.lanes ≡ set lanes c.args.lane (with_decision (shown_at lanes c.args.lane) c.args.bit) =
    c.note_decision.ensures
    ∙ ap (λ (lanes : List Shown). set lanes c.args.lane (with_decision (shown_at lanes c.args.lane) c.args.bit)) c.deref_mut.ensures.value in
    let count : length c.note_decision.new.lanes ≡ length lanes =
    ap (λ (lanes : List Shown). length lanes) sets ∙ length-set lanes c.args.lane (with_decision (shown_at lanes c.args.lane) c.args.bit) in
    let lane = rw (← c.self.view_is) at c.requires in
    rw (← c.self.view_is) (Hears-decided _ c.cast_no_more.new.self (with_items c.self.inside.lanes c.note_decision.new.lanes).items c.args.lane c.args.bit
    c.args.due.now.votes c.reserve.new.self.votes c.cast_no_more.new.due.votes (omega (arith, lane, c.self.invariant))
    (with_items_is c.self.inside.lanes c.note_decision.new.lanes (omega (arith, count, c.self.inside.lanes.ok.0)) ∙ sets)
    c.cast_no_more.ensures.state c.cast_no_more.ensures.votes c.reserve.ensures.votes)
