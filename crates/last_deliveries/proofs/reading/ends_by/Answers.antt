use Rattle.std.proofs.Common.{sym, ◌∙◌}
use Rattle.last_deliveries.proofs.Readings.{none_past}
use Rattle.last_deliveries.proofs.reading.ends_by.Goals as goal

pub returns-in-Ok-None-clause-few : goal.returns-in-Ok-None-clause-few
returns-in-Ok-None-clause-few g c =
    λ _. none_past (g.B.Book.seen (g.A.Actor.seat c.read_one.new.actor)) c.args.count (sym c.in-Ok-None.ensures.found ∙ c.in-Ok-None.field-0-is)
