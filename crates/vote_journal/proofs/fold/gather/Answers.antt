use Rattle.std.proofs.Common.{sym, length}
use Rattle.std.specs.List.{concat}
use Rattle.vote_journal.specs.Text.{entries_in}
use Rattle.vote_journal.proofs.Walk.{gather_on, gather_ends}
use Rattle.vote_journal.proofs.fold.gather.Goals as goal

pub loop-payload-preserved : goal.loop-payload-preserved
loop-payload-preserved c =
    gather_on c.loop-payload.text.items c.extend_from_slice.new.self.items c.in-Some.payload.now c.loop-payload.rest.now c.in-Some.after.now
    (concat (entries_in (length c.args.bytes.now) c.args.bytes.now))
    c.loop-payload.invariant (sym c.in-Some.ensures.some) c.in-Some.ensures.payload c.in-Some.ensures.rest c.in_ok-extend_from_slice.ensures.items

pub returns : goal.returns
returns c = gather_ends c.loop-payload.text.items c.loop-payload.rest.now (concat (entries_in (length c.args.bytes.now) c.args.bytes.now))
    c.loop-payload.invariant (sym c.in_default.ensures.some)
