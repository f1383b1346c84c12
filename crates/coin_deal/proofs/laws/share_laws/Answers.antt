use Rattle.coin_deal.proofs.Form.{share_form, share_good}
use Rattle.coin_deal.proofs.Shares.{is_good-Decides}
use Rattle.coin_deal.proofs.laws.share_laws.Goals as goal

pub returns : goal.returns
returns c = record { test = is_good-Decides; good = share_good; form = share_form }
