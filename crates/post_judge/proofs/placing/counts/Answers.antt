use Rattle.std.proofs.Common.{◌≡◌, true, sym, ap, ◌∙◌, subst}
use Rattle.hb_base.specs.Numbers.{Numbers}
use Rattle.coin_deal.specs.Deal.{coin_root}
use Rattle.coin_deal.specs.Heard.{heard_share}
use Rattle.coin_deal.proofs.Shares.{is_good-from}
use Rattle.post_judge.specs.Places.{counts}
use Rattle.post_judge.proofs.placing.counts.Goals as goal

-- what was dealt is good
pub returns-then-is_dealt : goal.returns-then-is_dealt
returns-then-is_dealt c =
    let d = c.args.deal.now in
    let post = c.args.post.now in
    let own = c.in-Coin in
    subst (λ (n : Numbers). true ≡ counts n post.from post.actor c.args.vote.now) c.requires.deal
    (sym (ap (counts d post.from post.actor) own.is
    ∙ is_good-from (coin_root d own.epoch post.actor own.round) d.n (heard_share post.from own.share own.salt own.branch) (c.is_dealt.ensures.good c.if-is_dealt.true)))
