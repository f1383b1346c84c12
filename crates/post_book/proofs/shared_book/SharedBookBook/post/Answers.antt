use Rattle.std.proofs.Common.{◌≡◌, ◌<◌, List, ap, sym, ◌∙◌, subst}
use Rattle.std.specs.Prelude.{IfOk, OnErr}
use Rattle.hb_base.specs.Limits.{most_posts}
use Rattle.hb_base.specs.Numbers.{Numbers}
use Rattle.hb_wire.specs.declared.post.Post.{Post}
use Rattle.hb_rules.specs.Book.{Watched, Posted, post_of}
use Rattle.hb_rules.specs.Echoes.{HasValidBranchIfCorrect}
use Rattle.hb_rules.specs.History.{HasSpelling, IsAllowed}
use Rattle.hb_rules.proofs.Seats.{IsAllowed-watched}
use Rattle.hb_rules.proofs.ValidEchoes.{valid_echo}
use Rattle.turn_book.specs.SeatState.{SeatState}
use Rattle.post_book.specs.SharedSeats.{SharedView}
use Rattle.post_book.proofs.Turns.{posted, refused}
use Rattle.post_book.proofs.shared_book.SharedBookBook.post.Goals as goal

pub spell_for-bytes-requires-clause-spelled : goal.spell_for-bytes-requires-clause-spelled
spell_for-bytes-requires-clause-spelled g c =
    let config : c.args.seat.now.seat.config ≡ c.book.inside.config =
    sym (ap (λ (s : SharedView). s.seat.config) c.seat.view_is) ∙ sym c.book.invariant in
    subst (λ (config : Numbers). HasSpelling config c.args.vote.now) config c.requires.spelled

pub spell_for-bytes-requires-clause-valid : goal.spell_for-bytes-requires-clause-valid
spell_for-bytes-requires-clause-valid g c =
    let seat = c.seat.inside in
    subst (λ (config : Numbers). HasValidBranchIfCorrect config seat.node c.args.vote.now) (sym c.book.invariant)
    (valid_echo g.J.Naming.config seat.node seat.actor seat.seat.seen c.seat.invariant.4 c.args.vote.now
    (subst (λ (s : SharedView). IsAllowed s.seat.config s.seat.node s.seat.actor s.seat.seen c.args.vote.now) (sym c.seat.view_is)
    c.requires.allowed))

pub add_vote-posted-requires-clause-allowed : goal.add_vote-posted-requires-clause-allowed
add_vote-posted-requires-clause-allowed g c =
    IsAllowed-watched g.J.Naming.config c.seat.inside.node c.seat.inside.actor c.seat.inside.seat.seen c.begin-posts.result c.args.vote.now
    c.begin-posts.ensures.watched
    (subst (λ (s : SharedView). IsAllowed s.seat.config s.seat.node s.seat.actor s.seat.seen c.args.vote.now) (sym c.seat.view_is)
    c.requires.allowed)

pub returns-clause-posted : goal.returns-clause-posted
returns-clause-posted g c =
    let last : List Post = c.pass.new.seat.seen in
    subst
    (λ (s : SharedView). IfOk c.add_vote-posted.result (λ k. (k < most_posts)
    × Posted s.seat.config s.seat.node s.seat.actor (post_of s.seat.node s.seat.actor c.args.vote.now) k s.seat.seen last))
    c.seat.view_is
    (posted c.add_vote-posted.result g.J.Naming.config c.seat.inside.node c.seat.inside.actor
    (post_of c.seat.inside.node c.seat.inside.actor c.args.vote.now) c.seat.inside.seat.seen c.begin-posts.result c.add_vote-posted.new.self last
    c.begin-posts.ensures.watched c.add_vote-posted.ensures.number c.add_vote-posted.ensures.added
    (ap (λ (s : SeatState Post). s.seen) c.pass.ensures.turn))

pub returns-clause-refused : goal.returns-clause-refused
returns-clause-refused g c =
    let last : List Post = c.pass.new.seat.seen in
    subst (λ (s : SharedView). OnErr c.add_vote-posted.result (Watched s.seat.config s.seat.node s.seat.actor s.seat.seen last)) c.seat.view_is
    (refused c.add_vote-posted.result g.J.Naming.config c.seat.inside.node c.seat.inside.actor c.seat.inside.seat.seen c.begin-posts.result
    c.add_vote-posted.new.self last c.begin-posts.ensures.watched c.add_vote-posted.ensures.refused
    (ap (λ (s : SeatState Post). s.seen) c.pass.ensures.turn))
