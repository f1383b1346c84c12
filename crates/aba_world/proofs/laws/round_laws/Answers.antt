use Rattle.aba_world.proofs.Theorems.{bits_estimates, votes_supported, picks_agree, votes_proper, coins_dealt}
use Rattle.aba_world.proofs.laws.round_laws.Goals as goal

pub returns-clause-estimates : goal.returns-clause-estimates
returns-clause-estimates c = bits_estimates

pub returns-clause-supported : goal.returns-clause-supported
returns-clause-supported c = votes_supported

pub returns-clause-picks : goal.returns-clause-picks
returns-clause-picks c = picks_agree

pub returns-clause-coins : goal.returns-clause-coins
returns-clause-coins c = coins_dealt

pub returns-clause-proper : goal.returns-clause-proper
returns-clause-proper c = votes_proper
