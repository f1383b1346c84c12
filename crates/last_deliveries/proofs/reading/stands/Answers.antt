use Rattle.std.proofs.Common.{sym, ◌∙◌}
use Rattle.std.proofs.lemmas.Option.{slice_get_within}
use Rattle.last_deliveries.proofs.reading.stands.Goals as goal

pub returns-in-Ok-Some-clause-stands : goal.returns-in-Ok-Some-clause-stands
returns-in-Ok-Some-clause-stands g c =
    λ _. slice_get_within (g.B.Book.seen (g.A.Actor.seat c.read_one.new.actor)) c.args.k c.in-Ok-Some.field-0-0 (sym c.in-Ok-Some.ensures.found ∙ c.in-Ok-Some.field-0-is)
