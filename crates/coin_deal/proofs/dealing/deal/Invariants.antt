use Rattle.std.proofs.Common.{◌≡◌, length}
use Rattle.coin_deal.proofs.Coins.{start, HoldsCoins}
use Rattle.coin_deal.proofs.dealing.deal.Given as goal

-- the coins so far are drawn, with a cell each, and the words of the next one come next
abbrev pub invariant-loop : goal.invariant-loop
invariant-loop l = record {
  next : l.words ≡ start l.config l.counter;
  held : HoldsCoins l.config l.counter l.coefficients.items l.salts.items;
  cells : length l.trees.items ≡ l.counter;
}
