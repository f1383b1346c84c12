use Rattle.std.proofs.Common.{◌≡◌, ◌<◌, ℕ, List, [], ◌∷◌, ◌++◌, ap, subst}
use Rattle.std.specs.Prelude.{IfOk, OnErr}
use Rattle.hb_base.specs.Limits.{most_posts}
use Rattle.hb_wire.specs.declared.post.Post.{Post}
use Rattle.hb_rules.specs.Book.{Watched, Posted, lie_of}
use Rattle.hb_rules.proofs.Seats.{OnOk-copied}
use Rattle.turn_book.specs.SeatState.{SeatState}
use Rattle.post_book.specs.SharedSeats.{SharedView}
use Rattle.post_book.proofs.Turns.{posted, refused}
use Rattle.post_book.proofs.shared_book.SharedBookBook.lie.Goals as goal

pub returns-clause-posted : goal.returns-clause-posted
returns-clause-posted g c =
    let last : List Post = c.pass.new.seat.seen in
    let node : ℕ = c.seat.inside.node in
    let lie : List ℕ → Post = λ bytes. lie_of node c.args.as_actor c.args.to bytes in
    subst
    (λ (s : SharedView). IfOk c.add_lie-posted.result (λ k. (k < most_posts)
    × Posted s.seat.config s.seat.node s.seat.actor (lie_of s.seat.node c.args.as_actor c.args.to c.args.bytes.now) k s.seat.seen last))
    c.seat.view_is
    (posted c.add_lie-posted.result g.J.Naming.config node c.seat.inside.actor (lie c.args.bytes.now) c.seat.inside.seat.seen
    c.begin-posts.result c.add_lie-posted.new.self last c.begin-posts.ensures.watched c.add_lie-posted.ensures.number
    (OnOk-copied c.add_lie-posted.result c.copy-bytes.result c.args.bytes.now
    (λ b. c.add_lie-posted.new.self ≡ c.begin-posts.result ++ lie b ∷ []) c.copy-bytes.ensures c.add_lie-posted.ensures.added)
    (ap (λ (s : SeatState Post). s.seen) c.pass.ensures.turn))

pub returns-clause-refused : goal.returns-clause-refused
returns-clause-refused g c =
    let last : List Post = c.pass.new.seat.seen in
    subst (λ (s : SharedView). OnErr c.add_lie-posted.result (Watched s.seat.config s.seat.node s.seat.actor s.seat.seen last)) c.seat.view_is
    (refused c.add_lie-posted.result g.J.Naming.config c.seat.inside.node c.seat.inside.actor c.seat.inside.seat.seen c.begin-posts.result
    c.add_lie-posted.new.self last c.begin-posts.ensures.watched c.add_lie-posted.ensures.refused
    (ap (λ (s : SeatState Post). s.seen) c.pass.ensures.turn))
