use Rattle.std.proofs.Common.{ap, sym, ◌∙◌, subst, arith}
use Rattle.std.proofs.lemmas.List.{take_all}
use Rattle.hb_rules.specs.History.{HasSpelling}
use Rattle.journaled_actor.specs.Payload.{payload, AreWritten}
use Rattle.journaled_actor.proofs.Payloads.{IsWriting, writing_begins, writing_next, holds_at}
use Rattle.journaled_actor.proofs.payload.write_votes.Goals as goal

pub loop-vote-init : goal.loop-vote-init
loop-vote-init c =
    subst (IsWriting c.args.config.now c.args.votes.now 0) (sym c.in_ok-entry.ensures.payload) (writing_begins c.args.config.now c.args.votes.now)

pub put_vote-requires : goal.put_vote-requires
put_vote-requires c =
    holds_at (HasSpelling c.args.config.now) c.args.votes.now c.loop-vote.vote-index c.vote-item.result c.requires c.loop-vote-test.true c.vote-item.is

pub loop-vote-preserved : goal.loop-vote-preserved
loop-vote-preserved c =
    writing_next c.args.config.now c.args.votes.now c.loop-vote.vote-index c.vote-item.result c.loop-vote.entry.payload c.put_vote.new.entry.payload
    c.loop-vote-test.true c.vote-item.is c.in_ok-put_vote.ensures.text c.in_ok-put_vote.ensures.written c.loop-vote.invariant

pub returns-clause-text : goal.returns-clause-text
returns-clause-text c = c.loop-vote.invariant.text_is ∙ ap payload (take_all c.loop-vote.vote-index c.args.votes.now (omega arith))

pub returns-clause-written : goal.returns-clause-written
returns-clause-written c =
    subst (AreWritten c.args.config.now) (take_all c.loop-vote.vote-index c.args.votes.now (omega arith)) c.loop-vote.invariant.written
