use Rattle.std.proofs.Common.{◌≡◌, List, ◌∙◌, sym, subst}
use Rattle.std.specs.Prelude.{All, Contains}
use Rattle.hb_wire.specs.declared.post.Post.{Post}
use Rattle.hb_rules.specs.Book.{mine_in}
use Rattle.post_book.specs.Numbering.{seat_number, post_number}
use Rattle.post_book.specs.SharedSeats.{FirstView, AllJoined}
use Rattle.post_book.proofs.Numbers.{entries_are_mine, given_alone}
use Rattle.post_book.proofs.book.PostBook.close.Goals as goal

pub close-requires-clause-ended : goal.close-requires-clause-ended
close-requires-clause-ended g c = subst AllJoined (sym c.first.view_is) c.requires.all

pub returns-clause-mine : goal.returns-clause-mine
returns-clause-mine g c = λ i x posts place stands.
    subst (λ (history : List Post). mine_in g.J.Naming.config i x history ≡ posts) (sym c.into_vec.ensures.posts)
    (sym (entries_are_mine g.J.Naming.config i x place c.close.result)
    ∙ c.close.ensures.ended (seat_number i x) posts
    (subst (λ (first : FirstView). Contains first.joined (seat_number i x, posts)) (sym c.first.view_is) stands))

pub returns-clause-others : goal.returns-clause-others
returns-clause-others g c =
    subst (λ (history : List Post). All (λ post. Contains c.args.first.given (post_number g.J.Naming.config post)) history)
    (sym c.into_vec.ensures.posts)
    (subst (λ (first : FirstView). All (λ post. Contains first.given (post_number g.J.Naming.config post)) c.close.result) c.first.view_is
    (given_alone g.J.Naming.config c.first.inside.seat.given c.close.result c.into_vec.ensures.actors c.close.ensures.others))
