use Rattle.std.proofs.Common.{List, ap, ◌∙◌}
use Rattle.hb_wire.specs.declared.post.Post.{Post}
use Rattle.book_cases.proofs.Runs.{may_post}
use Rattle.book_cases.proofs.crowd.desk_seat.Goals as goal

pub returns-clause-may : goal.returns-clause-may
returns-clause-may g c =
    may_post c.args.book.now g.J.Naming.config c.args.node c.seat_for.result c.requires.run
    (c.seat_for.ensures.seat
    ∙ ap (λ (seen : List Post). record {
      book = c.args.book.now;
      looks = 0;
      seat = record { config = g.J.Naming.config; node = c.args.node; actor = 5; seen = seen };
    }) c.requires.none)
