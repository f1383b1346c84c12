use Rattle.std.proofs.Common.{◌≡◌, ◌&&◌, sym, ◌∙◌, subst}
use Rattle.std.specs.Prelude.{nat_eq}
use Rattle.std.specs.Bool.{Decides}
use Rattle.coin_deal.specs.Deal.{coin_root}
use Rattle.coin_deal.specs.Heard.{IsGood}
use Rattle.coin_deal.proofs.Form.{same_heard}
use Rattle.coin_deal.proofs.Telling.{all_same}
use Rattle.coin_deal.proofs.dealt.Deal.is_dealt.Goals as goal
use Rattle.coin_deal.proofs.dealt.Deal.is_dealt.Goals.{After-eq-same_branch}

-- what is answered tells whether the dealt parts are those that were shown
told : (c : After-eq-same_branch) → Decides ((nat_eq c.dealt_to-dealt.result.share c.args.share && c.eq-same_salt.result) && c.eq-same_branch.result)
    (((c.dealt_to-dealt.result.share ≡ c.args.share) × (c.dealt_to-dealt.result.salt ≡ c.args.salt.now))
    × (c.dealt_to-dealt.result.branch ≡ c.args.branch.now))
told c =
    all_same c.dealt_to-dealt.result.share c.args.share c.dealt_to-dealt.result.salt c.args.salt.now c.dealt_to-dealt.result.branch c.args.branch.now
    c.eq-same_salt.result c.eq-same_branch.result c.eq-same_salt.ensures c.eq-same_branch.ensures

pub returns-clause-exact : goal.returns-clause-exact
returns-clause-exact c =
    let dealt = c.dealt_to-dealt.ensures in (
      λ yes. let same = (told c).0 yes in (sym same.0.0 ∙ dealt.share, sym same.0.1 ∙ dealt.salt, sym same.1 ∙ dealt.branch),
      λ is. (told c).1 ((dealt.share ∙ sym is.0, dealt.salt ∙ sym is.1), dealt.branch ∙ sym is.2),
    )

pub returns-clause-good : goal.returns-clause-good
returns-clause-good c = λ yes.
    let same = (told c).0 yes in
    subst (IsGood (coin_root c.args.self.now c.args.e c.args.j c.args.r) c.args.self.now.n)
    (same_heard c.args.m _ _ _ _ _ _ same.0.0 same.0.1 same.1) c.dealt_to-dealt.ensures.good
