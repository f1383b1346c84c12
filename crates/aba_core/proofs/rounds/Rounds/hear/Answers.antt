use Rattle.std.proofs.Common.{◌≡◌, ◌==◌, ◌&&◌, ◌||◌, List, slice_index_or, sym, ap, ◌∙◌, subst}
use Rattle.hb_base.specs.Numbers.{Numbers}
use Rattle.aba_core.specs.declared.round.Round.{Round}
use Rattle.aba_core.specs.Made.{RoundsView, all_rounds}
use Rattle.hb_base.specs.NodeSet.{is_in}
use Rattle.aba_core.specs.Levels.{levels_of}
use Rattle.aba_core.specs.Rounds.{blank}
use Rattle.aba_core.specs.Tables.{voters_in, count_in, claims}
use Rattle.aba_core.proofs.Made.{made-is, set-is, all-replaced}
use Rattle.aba_core.proofs.rounds.Rounds.hear.Goals as goal

pub returns-clause-replaced : goal.returns-clause-replaced
returns-clause-replaced c =
    let s = c.self.inside in
    let old = s.made.items in
    let made = c.make.new.made.items in
    let same : all_rounds s.deal.value s.lane s.epoch made ≡ all_rounds s.deal.value s.lane s.epoch old =
    subst (λ (n : Numbers). all_rounds n s.lane s.epoch made ≡ all_rounds n s.lane s.epoch old) (rw (← c.self.view_is) at c.requires.config) c.make.ensures.same in
    let was = made-is s.deal.value s.lane s.epoch made old c.args.round c.index_mut.result.now same c.make.ensures.made c.index_mut.ensures.value in
    let now = set-is s.deal.value s.lane s.epoch made c.args.round c.hear.new.self c.make.ensures.made in
    rw (← c.self.view_is) (
    ap (λ (all : List Round). let v : RoundsView = record { config = s.deal.value; lane = s.lane; epoch = s.epoch; all = all } in v)
    (all-replaced s.deal.value s.lane s.epoch made old c.args.round c.hear.new.self _ same c.make.ensures.made
    (sym now)))

pub returns-clause-same : goal.returns-clause-same
returns-clause-same c =
    let s = c.self.inside in
    let old = s.made.items in
    let made = c.make.new.made.items in
    let same : all_rounds s.deal.value s.lane s.epoch made ≡ all_rounds s.deal.value s.lane s.epoch old =
    subst (λ (n : Numbers). all_rounds n s.lane s.epoch made ≡ all_rounds n s.lane s.epoch old) (rw (← c.self.view_is) at c.requires.config) c.make.ensures.same in
    let was = made-is s.deal.value s.lane s.epoch made old c.args.round c.index_mut.result.now same c.make.ensures.made c.index_mut.ensures.value in
    let now = set-is s.deal.value s.lane s.epoch made c.args.round c.hear.new.self c.make.ensures.made in
    rw (← c.self.view_is) (
      λ h. ap (λ (x : Round). x.levels) now ∙ c.hear.ensures.same.0 h ∙ ap (λ (x : Round). x.levels) was,
      λ e. c.hear.ensures.same.1 (sym (ap (λ (x : Round). x.levels) now) ∙ e ∙ sym (ap (λ (x : Round). x.levels) was)),
    )

pub returns-clause-claims : goal.returns-clause-claims
returns-clause-claims c =
    let s = c.self.inside in
    let old = s.made.items in
    let made = c.make.new.made.items in
    let same : all_rounds s.deal.value s.lane s.epoch made ≡ all_rounds s.deal.value s.lane s.epoch old =
    subst (λ (n : Numbers). all_rounds n s.lane s.epoch made ≡ all_rounds n s.lane s.epoch old) (rw (← c.self.view_is) at c.requires.config) c.make.ensures.same in
    let was = made-is s.deal.value s.lane s.epoch made old c.args.round c.index_mut.result.now same c.make.ensures.made c.index_mut.ensures.value in
    let now = set-is s.deal.value s.lane s.epoch made c.args.round c.hear.new.self c.make.ensures.made in
    rw (← c.self.view_is) (λ claim node.
    ap (λ (x : Round). is_in (voters_in x.tables claim) node) now ∙ c.hear.ensures.claims claim node
    ∙ ap (λ (x : Round). (claims claim c.args.vote.now && (node == c.args.from)) || is_in (voters_in x.tables claim) node) was)

pub returns-clause-levels : goal.returns-clause-levels
returns-clause-levels c =
    let s = c.self.inside in
    let old = s.made.items in
    let made = c.make.new.made.items in
    let same : all_rounds s.deal.value s.lane s.epoch made ≡ all_rounds s.deal.value s.lane s.epoch old =
    subst (λ (n : Numbers). all_rounds n s.lane s.epoch made ≡ all_rounds n s.lane s.epoch old) (rw (← c.self.view_is) at c.requires.config) c.make.ensures.same in
    let was = made-is s.deal.value s.lane s.epoch made old c.args.round c.index_mut.result.now same c.make.ensures.made c.index_mut.ensures.value in
    let now = set-is s.deal.value s.lane s.epoch made c.args.round c.hear.new.self c.make.ensures.made in
    ap (λ (x : Round). x.levels) now ∙ c.hear.ensures.levels ∙ ap (λ (x : Round). levels_of c.args.config.now (count_in x.tables) 0) (sym now)

pub returns-clause-rest : goal.returns-clause-rest
returns-clause-rest c =
    let s = c.self.inside in
    let old = s.made.items in
    let made = c.make.new.made.items in
    let same : all_rounds s.deal.value s.lane s.epoch made ≡ all_rounds s.deal.value s.lane s.epoch old =
    subst (λ (n : Numbers). all_rounds n s.lane s.epoch made ≡ all_rounds n s.lane s.epoch old) (rw (← c.self.view_is) at c.requires.config) c.make.ensures.same in
    let was = made-is s.deal.value s.lane s.epoch made old c.args.round c.index_mut.result.now same c.make.ensures.made c.index_mut.ensures.value in
    let now = set-is s.deal.value s.lane s.epoch made c.args.round c.hear.new.self c.make.ensures.made in
    let before : Round = slice_index_or (all_rounds s.deal.value s.lane s.epoch old) c.args.round blank in
    rw (← c.self.view_is) (now ∙ c.hear.ensures.rest
    ∙ ap (λ (x : Round). record x { tables = c.hear.new.self.tables; levels = c.hear.new.self.levels }) was
    ∙ ap (λ (x : Round). record before { tables = x.tables; levels = x.levels }) (sym now))
