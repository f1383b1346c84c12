use Rattle.std.proofs.Common.{◌≡◌, ◌<◌, List, is_some, sym, ap, ◌∙◌, subst}
use Rattle.hb_base.specs.Numbers.{Numbers}
use Rattle.aba_core.specs.declared.round.Round.{Round}
use Rattle.aba_core.specs.Made.{RoundsView, all_rounds}
use Rattle.coin_deal.specs.Deal.{coin_root}
use Rattle.coin_deal.specs.Heard.{heard_share, IsGood}
use Rattle.aba_core.specs.Rounds.{after_share}
use Rattle.aba_core.proofs.Made.{made-is, all-replaced}
use Rattle.aba_core.proofs.rounds.Rounds.hear_share.Goals as goal

pub hear_share-requires-clause-from : goal.hear_share-requires-clause-from
hear_share-requires-clause-from c =
    let s = c.self.inside in
    let old = s.made.items in
    let made = c.make.new.made.items in
    let same : all_rounds s.deal.value s.lane s.epoch made ≡ all_rounds s.deal.value s.lane s.epoch old =
    subst (λ (n : Numbers). all_rounds n s.lane s.epoch made ≡ all_rounds n s.lane s.epoch old) (rw (← c.self.view_is) at c.requires.config) c.make.ensures.same in
    let was = made-is s.deal.value s.lane s.epoch made old c.args.round c.index_mut.result.now same c.make.ensures.made c.index_mut.ensures.value in
    let is = rw (← c.self.view_is) at c.requires.is_round in
    subst (λ n. c.args.from < n) (sym (ap (λ (x : Round). x.shares.n) was ∙ is.n)) (rw (← c.self.view_is) at c.requires.from)

-- the shares of the round are of the coin of which the share was dealt
pub hear_share-requires-clause-dealt : goal.hear_share-requires-clause-dealt
hear_share-requires-clause-dealt c = λ yes.
    let s = c.self.inside in
    let old = s.made.items in
    let made = c.make.new.made.items in
    let same : all_rounds s.deal.value s.lane s.epoch made ≡ all_rounds s.deal.value s.lane s.epoch old =
    subst (λ (n : Numbers). all_rounds n s.lane s.epoch made ≡ all_rounds n s.lane s.epoch old) (rw (← c.self.view_is) at c.requires.config) c.make.ensures.same in
    let was = made-is s.deal.value s.lane s.epoch made old c.args.round c.index_mut.result.now same c.make.ensures.made c.index_mut.ensures.value in
    let is = rw (← c.self.view_is) at c.requires.is_round in
    let a = heard_share c.args.from c.args.share c.args.salt.now c.args.branch.now in
    let good = rw (← c.self.view_is) at c.is_dealt-is_dealt.ensures.good in
    subst (λ root. IsGood root c.index_mut.result.now.shares.n a) (sym (ap (λ (x : Round). x.shares.root) was ∙ is.root))
    (subst (λ n. IsGood (coin_root s.deal.value s.epoch s.lane c.args.round) n a) (sym (ap (λ (x : Round). x.shares.n) was ∙ is.n)) (good yes))

pub returns-clause-same : goal.returns-clause-same
returns-clause-same c =
    let s = c.self.inside in
    let old = s.made.items in
    let made = c.make.new.made.items in
    let same : all_rounds s.deal.value s.lane s.epoch made ≡ all_rounds s.deal.value s.lane s.epoch old =
    subst (λ (n : Numbers). all_rounds n s.lane s.epoch made ≡ all_rounds n s.lane s.epoch old) (rw (← c.self.view_is) at c.requires.config) c.make.ensures.same in
    let was = made-is s.deal.value s.lane s.epoch made old c.args.round c.index_mut.result.now same c.make.ensures.made c.index_mut.ensures.value in
    rw (← c.self.view_is) (λ h.
    ap (λ (x : Round). x.coin) (sym (c.hear_share.ensures.exact ∙ ap (λ (x : Round). after_share x (heard_share c.args.from c.args.share c.args.salt.now c.args.branch.now)) was))
    ∙ c.hear_share.ensures.same h ∙ ap (λ (x : Round). x.coin) was)

pub returns-clause-known : goal.returns-clause-known
returns-clause-known c =
    let s = c.self.inside in
    let old = s.made.items in
    let made = c.make.new.made.items in
    let same : all_rounds s.deal.value s.lane s.epoch made ≡ all_rounds s.deal.value s.lane s.epoch old =
    subst (λ (n : Numbers). all_rounds n s.lane s.epoch made ≡ all_rounds n s.lane s.epoch old) (rw (← c.self.view_is) at c.requires.config) c.make.ensures.same in
    let was = made-is s.deal.value s.lane s.epoch made old c.args.round c.index_mut.result.now same c.make.ensures.made c.index_mut.ensures.value in
    let a = heard_share c.args.from c.args.share c.args.salt.now c.args.branch.now in
    rw (← c.self.view_is) (λ h.
    let known = c.hear_share.ensures.known h in (
      ap (λ (x : Round). is_some x.coin) (sym (c.hear_share.ensures.exact ∙ ap (λ (x : Round). after_share x a) was)) ∙ known.0,
      sym (ap (λ (x : Round). x.coin) was) ∙ known.1,
    ))

pub returns-clause-exact : goal.returns-clause-exact
returns-clause-exact c =
    let s = c.self.inside in
    let old = s.made.items in
    let made = c.make.new.made.items in
    let same : all_rounds s.deal.value s.lane s.epoch made ≡ all_rounds s.deal.value s.lane s.epoch old =
    subst (λ (n : Numbers). all_rounds n s.lane s.epoch made ≡ all_rounds n s.lane s.epoch old) (rw (← c.self.view_is) at c.requires.config) c.make.ensures.same in
    let was = made-is s.deal.value s.lane s.epoch made old c.args.round c.index_mut.result.now same c.make.ensures.made c.index_mut.ensures.value in
    rw (← c.self.view_is) (
    ap (λ (all : List Round). let v : RoundsView = record { config = s.deal.value; lane = s.lane; epoch = s.epoch; all = all } in v)
    (all-replaced s.deal.value s.lane s.epoch made old c.args.round c.hear_share.new.self _ same c.make.ensures.made
    (c.hear_share.ensures.exact ∙ ap (λ (x : Round). after_share x (heard_share c.args.from c.args.share c.args.salt.now c.args.branch.now)) was)))
