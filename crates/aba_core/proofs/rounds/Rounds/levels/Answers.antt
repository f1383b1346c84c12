use Rattle.std.proofs.Common.{ap, ◌∙◌}
use Rattle.hb_base.specs.Numbers.{Numbers}
use Rattle.aba_core.specs.Levels.{levels_of}
use Rattle.aba_core.specs.Tables.{no_tables, count_in}
use Rattle.aba_core.proofs.Made.{all-levels}
use Rattle.aba_core.proofs.rounds.Rounds.levels.Goals as goal

pub returns : goal.returns
returns c =
    let s = c.self.inside in
    rw (← c.self.view_is) (all-levels s.deal.value s.lane s.epoch s.made.items c.args.round c.levels_in.result (rw (← c.self.view_is) at c.requires.round)
    (rw c.as_slice.ensures.value at c.levels_in.ensures.made)
    (λ past. (rw c.as_slice.ensures.value at c.levels_in.ensures.new) past
    ∙ ap (λ (n : Numbers). levels_of n (count_in no_tables) 0) (rw (← c.self.view_is) at c.requires.config)))
