use Rattle.std.proofs.Common.{◌≡◌, true, false, Bool, length, List, ℕ, refl, sym, ap, ◌∙◌, arith, length-append}
use Rattle.std.specs.List.{list_any}
use Rattle.hb_wire.specs.Votes.{epoch_of}
use Rattle.hb_wire.specs.declared.vote.Vote.{Vote}
use Rattle.hb_rules.specs.Claims.{is_any_delivery}
use Rattle.hb_rules.specs.Hearing.{hearing}
use Rattle.lane_core.proofs.Results.{on_ok, err_not, any_err}
use Rattle.lane_core.proofs.Parts.{for_broadcast_only}
use Rattle.lane_core.proofs.Epoch.{HearsOne-passed, HearsOne-delivered, broadcast_stands_on, added_votes, agreement_fits_then}
use Rattle.lane_core.proofs.cores.Cores.hear_broadcast.Goals as goal

pub returns-in_err-hear-clause-kept : goal.returns-in_err-hear-clause-kept
returns-in_err-hear-clause-kept c = any_err _ _ (broadcast_stands_on c.args.self.now _ c.in_err-hear.ensures.err refl)

pub votes_from-requires : goal.votes_from-requires
votes_from-requires c =
    omega (
      arith,
      ap length c.votes-before.ensures,
      ap length c.votes.ensures,
      ap length c.in_ok-hear.ensures.ok.due,
      length-append c.args.due.now.votes c.in_ok-hear.ensures.ok.votes,
    )

pub returns-then-has_delivery-clause-ok : goal.returns-then-has_delivery-clause-ok
returns-then-has_delivery-clause-ok c =
    let hears = c.in_ok-hear.ensures.ok in
    let added = added_votes c.args.due.now.votes hears.votes c.votes.result.now c.votes_from.result.now (length c.votes-before.result.now) c.votes_from.ensures
    (ap length c.votes-before.ensures) (c.votes.ensures ∙ hears.due) in
    let some : list_any (is_any_delivery (epoch_of c.args.vote.now)) hears.votes ≡ true =
    ap (list_any (is_any_delivery (epoch_of c.args.vote.now))) (sym added)
    ∙ ap (λ (e : ℕ). list_any (is_any_delivery e) c.votes_from.result.now) (sym c.epoch.ensures) ∙ sym c.has_delivery.ensures ∙ c.if-has_delivery.true in
    on_ok c.input.result _ _
    (λ takes n i j at.
    HearsOne-delivered n i j (epoch_of c.args.vote.now) c.args.self.now _ (hearing c.args.from c.args.vote.now) c.args.due.now.votes c.hear.new.due.votes
    c.input.new.due.votes at c.requires.kind (for_broadcast_only c.args.vote.now c.requires.kind) hears some takes)
    c.input.ensures.ok

pub returns-then-has_delivery-clause-due : goal.returns-then-has_delivery-clause-due
returns-then-has_delivery-clause-due c =
    err_not c.input.result _
    (c.input.ensures.room (agreement_fits_then c.args.self.now c.args.vote.now c.args.due.now.spare c.hear.new.due.spare c.requires.kind c.requires.room
    c.hear.ensures.room))

pub returns-then-has_delivery-clause-kept : goal.returns-then-has_delivery-clause-kept
returns-then-has_delivery-clause-kept c =
    err_not c.input.result _
    (c.input.ensures.room (agreement_fits_then c.args.self.now c.args.vote.now c.args.due.now.spare c.hear.new.due.spare c.requires.kind c.requires.room
    c.hear.ensures.room))

pub returns-else-has_delivery-clause-ok : goal.returns-else-has_delivery-clause-ok
returns-else-has_delivery-clause-ok c = λ n i j at.
    let hears = c.in_ok-hear.ensures.ok in
    let added = added_votes c.args.due.now.votes hears.votes c.votes.result.now c.votes_from.result.now (length c.votes-before.result.now) c.votes_from.ensures
    (ap length c.votes-before.ensures) (c.votes.ensures ∙ hears.due) in
    let none : list_any (is_any_delivery (epoch_of c.args.vote.now)) hears.votes ≡ false =
    ap (list_any (is_any_delivery (epoch_of c.args.vote.now))) (sym added)
    ∙ ap (λ (e : ℕ). list_any (is_any_delivery e) c.votes_from.result.now) (sym c.epoch.ensures) ∙ sym c.has_delivery.ensures ∙ c.if-has_delivery.false in
    HearsOne-passed n i j (epoch_of c.args.vote.now) c.args.self.now _ (hearing c.args.from c.args.vote.now) c.args.due.now.votes c.hear.new.due.votes at
    c.requires.kind (for_broadcast_only c.args.vote.now c.requires.kind) hears refl none
