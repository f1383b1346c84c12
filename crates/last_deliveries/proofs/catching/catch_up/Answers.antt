use Rattle.std.proofs.Common.{refl, sym, ◌∙◌}
use Rattle.last_deliveries.proofs.Catches.{running_fate}
use Rattle.last_deliveries.proofs.Players.{works_on}
use Rattle.last_deliveries.proofs.catching.catch_up.Goals as goal

pub returns-then-not-is_running-clause-all : goal.returns-then-not-is_running-clause-all
returns-then-not-is_running-clause-all g c =
    λ running. absurd (works_on c.args.player.now.fate running (sym c.is_running.ensures ∙ c.if-not-is_running.true))

pub returns-then-not-is_running-clause-unheard : goal.returns-then-not-is_running-clause-unheard
returns-then-not-is_running-clause-unheard g c = λ none. (none, refl)

pub receive-requires-clause-running : goal.receive-requires-clause-running
receive-requires-clause-running g c κs within = running_fate c.args.player.now.fate (sym c.is_running.ensures ∙ c.if-not-is_running.false)

pub receive-requires-clause-before : goal.receive-requires-clause-before
receive-requires-clause-before g c κs within = c.requires.before (running_fate c.args.player.now.fate (sym c.is_running.ensures ∙ c.if-not-is_running.false))
