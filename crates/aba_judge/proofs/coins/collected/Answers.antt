use Rattle.std.proofs.Common.{◌≡◌, true, IfSome, sym, subst, arith}
use Rattle.coin_deal.specs.Heard.{IsGood}
use Rattle.coin_share.specs.Shares.{SharesView}
use Rattle.hb_rules.specs.Coins.{share_in}
use Rattle.hb_rules.specs.Hearing.{Hearing}
use Rattle.aba_judge.specs.Checked.{is_share_checked}
use Rattle.aba_judge.proofs.KnownCoins.{shown_next, share_good}
use Rattle.aba_judge.proofs.coins.collected.Goals as goal

pub add-requires : goal.add-requires
add-requires c =
    let p = c.args.place.now in
    let h : Hearing = c.said-item.result in
    let checked : is_share_checked p.config p.lane h.from h.vote ≡ true =
    subst (λ (g : Hearing). is_share_checked p.config p.lane g.from g.vote ≡ true) (sym c.said-item.is)
    (c.requires.checked c.loop-said.said-index h (omega (arith, c.loop-said-test.true))) in
    subst (λ (s : SharesView). IfSome (share_in p.epoch c.args.round h.from h.vote) (IsGood s.root s.n)) (sym c.loop-said.invariant)
    (share_good p.config p.epoch p.lane c.args.round h.from h.vote checked)

pub loop-said-preserved : goal.loop-said-preserved
loop-said-preserved c =
    shown_next c.args.place.now.config c.args.place.now.epoch c.args.place.now.lane c.args.round c.args.heard.now c.loop-said.said-index c.said-item.result
    c.loop-said.shares c.add.new.shares (omega (arith, c.loop-said-test.true)) c.said-item.is c.loop-said.invariant
    c.add.ensures
