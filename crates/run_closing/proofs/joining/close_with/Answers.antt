use Rattle.std.proofs.Common.{◌∙◌}
use Rattle.std.proofs.lemmas.List.{length-map}
use Rattle.post_book.specs.SharedSeats.{SharedView}
use Rattle.run_closing.specs.Joining.{seats_in}
use Rattle.run_closing.proofs.Joins.{all_joined}
use Rattle.run_closing.proofs.joining.close_with.Goals as goal

pub close-requires-clause-all : goal.close-requires-clause-all
close-requires-clause-all g c =
    all_joined g.K.Naming.config (seats_in c.args.seats.items) c.args.first c.join_all.new.first c.join_all.ensures
    (length-map c.args.seats.items (λ (one : SharedView). one.seat) ∙ c.requires.all)
