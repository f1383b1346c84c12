use Rattle.std.proofs.Common.{◌≡◌, ◌-◌}
use Rattle.std.specs.List.{list_any, range_with_len}
use Rattle.hb_rules.specs.AgreementRows.{view_of, was_settled}
use Rattle.aba_judge.specs.Tests.{settles}
use Rattle.aba_judge.proofs.rows.was_settled.Given as goal

-- a round from here on settles the bit, if one does
abbrev pub invariant-loop-round : goal.invariant-loop-round
invariant-loop-round l =
    was_settled (view_of l.place.config l.place.node l.place.lane l.place.epoch l.own l.heard) l.place.config.rounds l.fn.bit
    ≡ list_any (settles (view_of l.place.config l.place.node l.place.lane l.place.epoch l.own l.heard) l.fn.bit)
    (range_with_len l.round (l.place.config.rounds - l.round))
