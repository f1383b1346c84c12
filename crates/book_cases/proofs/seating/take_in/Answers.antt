use Rattle.std.proofs.Common.{ap}
use Rattle.post_book.specs.SharedSeats.{FirstView}
use Rattle.book_cases.proofs.Seatings.{AreOut-joined}
use Rattle.book_cases.proofs.seating.take_in.Goals as goal

pub returns-clause-out : goal.returns-clause-out
returns-clause-out g c =
    AreOut-joined c.args.first.now c.join.new.first _ _ (ap (λ (s : FirstView). s.given) c.join.ensures.joined)
    (ap (λ (s : FirstView). s.joined) c.join.ensures.joined)
