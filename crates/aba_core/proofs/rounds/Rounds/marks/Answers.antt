use Rattle.std.proofs.Common.{List, slice_index_or, sym, ap, ◌∙◌}
use Rattle.aba_core.specs.declared.round.Round.{Round}
use Rattle.aba_core.specs.Rounds.{blank}
use Rattle.aba_core.proofs.Made.{all-marks}
use Rattle.aba_core.proofs.rounds.Rounds.marks.Goals as goal

pub returns : goal.returns
returns c =
    let s = c.self.inside in
    rw (← c.self.view_is) (c.marks_in.ensures ∙ ap (λ (xs : List Round). (slice_index_or xs c.args.round blank).marks) c.as_slice.ensures.value
    ∙ sym (all-marks s.deal.value s.lane s.epoch s.made.items c.args.round (rw (← c.self.view_is) at c.requires)))
