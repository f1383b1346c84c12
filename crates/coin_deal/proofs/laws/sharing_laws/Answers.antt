use Rattle.std.proofs.Common.{sym, subst}
use Rattle.coin_deal.specs.Sharing.{HasShares}
use Rattle.coin_deal.proofs.Fitting.{values_bytes, polynomial_of, polynomial_of-has, only_one}
use Rattle.coin_deal.proofs.laws.sharing_laws.Goals as goal

pub returns : goal.returns
returns c f shares secret count apart bytes hs =
    let has = polynomial_of-has shares apart secret hs (values_bytes shares bytes) in (
      polynomial_of shares secret,
      subst (λ f. HasShares f shares secret (polynomial_of shares secret)) count has,
      λ other h. only_one shares apart secret other (polynomial_of shares secret) (subst (λ f. HasShares f shares secret other) (sym count) h) has,
    )
