use Rattle.std.proofs.Common.{◌&&◌, List, take, sym, ap, ◌∙◌}
use Rattle.std.specs.List.{list_any}
use Rattle.hb_rules.specs.Claims.{is_bit}
use Rattle.aba_core.specs.declared.round.Round.{Round}
use Rattle.aba_core.specs.Bits.{holds}
use Rattle.aba_core.proofs.Made.{settled-made}
use Rattle.aba_core.proofs.rounds.Rounds.was_settled.Goals as goal

pub returns : goal.returns
returns c =
    let s = c.self.inside in
    rw (← c.self.view_is) (c.is_any_settled.ensures
    ∙ ap (λ (xs : List Round). list_any (λ (x : Round). holds x.marks.picks c.args.bit && is_bit c.args.bit x.coin) (take c.args.round xs)) c.as_slice.ensures.value
    ∙ sym (settled-made s.deal.value s.lane s.epoch s.made.items c.args.bit c.args.round))
