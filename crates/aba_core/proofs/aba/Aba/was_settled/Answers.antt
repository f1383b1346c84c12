use Rattle.std.proofs.Common.{◌&&◌, take, length, ap, ◌∙◌, arith}
use Rattle.std.specs.List.{list_any}
use Rattle.hb_rules.specs.Claims.{is_bit}
use Rattle.aba_core.specs.declared.round.Round.{Round}
use Rattle.aba_core.specs.Bits.{holds}
use Rattle.aba_core.specs.State.{AbaView}
use Rattle.aba_core.proofs.Ranges.{settled_before}
use Rattle.aba_core.proofs.aba.Aba.was_settled.Goals as goal

pub returns : goal.returns
returns c =
    c.was_settled.ensures
    ∙ ap (λ (a : AbaView). list_any (λ (x : Round). holds x.marks.picks c.args.bit && is_bit c.args.bit x.coin) (take c.args.round a.rounds)) c.self.view_is
    ∙ settled_before c.args.self.now c.args.round c.args.bit
    (omega (arith, c.requires, c.self.invariant.aba.count, ap (λ (a : AbaView). length a.rounds) c.self.view_is, ap (λ (a : AbaView). a.config.rounds) c.self.view_is))
