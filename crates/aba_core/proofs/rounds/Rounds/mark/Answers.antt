use Rattle.std.proofs.Common.{◌≡◌, List, ap, ◌∙◌, subst}
use Rattle.hb_base.specs.Numbers.{Numbers}
use Rattle.aba_core.specs.declared.round.Round.{Round}
use Rattle.aba_core.specs.Made.{RoundsView, all_rounds}
use Rattle.aba_core.specs.declared.marks.Marks.{Marks}
use Rattle.aba_core.specs.Marks.{with_vote}
use Rattle.aba_core.proofs.Made.{made-is, all-replaced}
use Rattle.aba_core.proofs.rounds.Rounds.mark.Goals as goal

pub returns : goal.returns
returns c =
    let s = c.self.inside in
    let old = s.made.items in
    let made = c.make.new.made.items in
    let same : all_rounds s.deal.value s.lane s.epoch made ≡ all_rounds s.deal.value s.lane s.epoch old =
    subst (λ (n : Numbers). all_rounds n s.lane s.epoch made ≡ all_rounds n s.lane s.epoch old) (rw (← c.self.view_is) at c.requires.config) c.make.ensures.same in
    let was = made-is s.deal.value s.lane s.epoch made old c.args.round c.index_mut.result.now same c.make.ensures.made c.index_mut.ensures.value in
    rw (← c.self.view_is) (
    ap (λ (all : List Round). let v : RoundsView = record { config = s.deal.value; lane = s.lane; epoch = s.epoch; all = all } in v)
    (all-replaced s.deal.value s.lane s.epoch made old c.args.round _ _ same c.make.ensures.made
    (ap (λ (m : Marks). record c.index_mut.result.now { marks = m }) c.add.ensures
    ∙ ap (λ (z : Round). record z { marks = with_vote z.marks c.args.vote.now }) was)))
