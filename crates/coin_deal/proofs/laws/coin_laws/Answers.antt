use Rattle.coin_deal.proofs.OneCoin.{dealt, one_coin, only_coin}
use Rattle.coin_deal.proofs.laws.coin_laws.Goals as goal

pub returns : goal.returns
returns c = record { dealt = dealt; one = one_coin; only = only_coin }
