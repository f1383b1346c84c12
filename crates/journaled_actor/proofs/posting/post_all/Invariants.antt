use Rattle.std.proofs.Common.{◌≡◌}
use Rattle.journaled_actor.proofs.Posted.{IsPosting}
use Rattle.journaled_actor.proofs.posting.post_all.Given as goal

abbrev pub invariant-loop-vote : goal.invariant-loop-vote
invariant-loop-vote g l =
    let b = g.B.Book in
    b.knows l.book l.seat
    × ((b.config l.seat ≡ b.config l.fn.seat) × (b.node l.seat ≡ b.node l.fn.seat) × (b.actor l.seat ≡ b.actor l.fn.seat))
    × b.moved (b.node l.fn.seat) (b.actor l.fn.seat) l.fn.book l.book
    × IsPosting (g.C.Core.terms l.core) (b.seen l.fn.seat) (b.seen l.seat) l.votes l.vote-index l.fn.out l.out
