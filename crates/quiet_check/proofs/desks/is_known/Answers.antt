use Rattle.std.proofs.Common.{Some, sym, ap, ◌∙◌}
use Rattle.quiet_check.proofs.DeskTests.{known_one}
use Rattle.quiet_check.proofs.desks.is_known.Goals as goal

pub returns-in-Some-true : goal.returns-in-Some-true
returns-in-Some-true c =
    c.has_delivered.ensures
    ∙ sym (known_one c.args.epoch c.args.lane c.args.heard.now
    (sym c.decision_of.ensures ∙ c.in-Some-true.is ∙ ap Some c.in-Some-true.field-0-test))
