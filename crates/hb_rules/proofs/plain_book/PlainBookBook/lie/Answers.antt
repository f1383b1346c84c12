use Rattle.std.proofs.Common.{◌≡◌, ℕ, List, [], ◌∷◌, ◌++◌, ap}
use Rattle.hb_rules.specs.Book.{SeatView, BookView, lie_of}
use Rattle.hb_rules.proofs.Seats.{Posted-seen, OnOk-copied}
use Rattle.hb_rules.proofs.plain_book.PlainBookBook.lie.Goals as goal

pub returns-clause-posted : goal.returns-clause-posted
returns-clause-posted c =
    let book : BookView = c.args.self.now in
    let seat : SeatView = c.args.seat.now in
    let bytes : List ℕ = c.args.bytes.now in
    Posted-seen c.add_lie-posted.result book c.add_lie-posted.new.self seat c.look.new.self
    (lie_of seat.node c.args.as_actor c.args.to bytes) c.requires.seat (ap (λ (s : SeatView). s.seen) c.look.ensures.seen)
    (rw c.self.view_is at c.add_lie-posted.ensures.number)
    (OnOk-copied c.add_lie-posted.result c.copy-bytes.result bytes
    (λ b. c.add_lie-posted.new.self ≡ record book { posts = book.posts ++ lie_of seat.node c.args.as_actor c.args.to b ∷ [] })
    c.copy-bytes.ensures (rw (c.self.view_is, c.node.ensures) at c.add_lie-posted.ensures.added))
