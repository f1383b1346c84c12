use Rattle.std.proofs.Common.{ℕ, sym, ap, ◌∙◌, subst, arith}
use Rattle.hb_wire.specs.declared.vote.Vote.{Vote}
use Rattle.hb_wire.specs.Reading.{vote_at}
use Rattle.hb_wire.specs.Votes.{Spells}
use Rattle.journaled_actor.proofs.Payloads.{IsReading, reading_next, reading_ends, reading_stops, piece_smaller}
use Rattle.journaled_actor.proofs.payload.read_votes.Goals as goal

pub returns-in-Err-NotAMessage-clause-votes : goal.returns-in-Err-NotAMessage-clause-votes
returns-in-Err-NotAMessage-clause-votes c =
    let config = c.args.config.now in
    let piece = c.in-Some.piece.now in
    reading_stops config c.args.text.now c.loop-piece.left.now c.loop-piece.votes.items (omega (arith, c.n-n.ensures.value, c.n-n.ensures.bounds.1))
    c.loop-piece.invariant piece c.in-Some.rest.now c.in-Some.ensures
    (sym (ap (λ (m : ℕ). vote_at m config.version piece) c.n-n.ensures.value)
    ∙ sym (ap (λ (m : ℕ). vote_at c.n-n.result m piece) c.version-version.ensures.value)
    ∙ c.in-Err-NotAMessage.ensures.refused.0 (cc (c.in-Err-NotAMessage.field-0-is)))

pub loop-piece-smaller : goal.loop-piece-smaller
loop-piece-smaller c = piece_smaller c.loop-piece.left.now c.in-Some.piece.now c.in-Some.rest.now c.loop-piece.invariant.bytes c.in-Some.ensures

pub loop-piece-preserved : goal.loop-piece-preserved
loop-piece-preserved c =
    let config = c.args.config.now in
    let piece = c.in-Some.piece.now in
    let vote : Vote = c.in-Ok.vote in
    subst (IsReading config c.args.text.now c.in-Some.rest.now) (sym c.in_ok-push-in-Ok.ensures.items)
    (reading_next config c.args.text.now c.loop-piece.left.now c.loop-piece.votes.items
    (omega (arith, c.n-n.ensures.value, c.n-n.ensures.bounds.1)) c.loop-piece.invariant piece c.in-Some.rest.now vote c.in-Some.ensures
    (subst (λ (m : ℕ). Spells m config.version piece vote) c.n-n.ensures.value
    (subst (λ (m : ℕ). Spells c.n-n.result m piece vote) c.version-version.ensures.value c.in-Ok.ensures.found)))

pub returns-clause-votes : goal.returns-clause-votes
returns-clause-votes c =
    reading_ends c.args.config.now c.args.text.now c.loop-piece.left.now c.loop-piece.votes.items
    (omega (arith, c.n-n.ensures.value, c.n-n.ensures.bounds.1)) c.loop-piece.invariant c.in_default.ensures
