use Rattle.merkle_branch.proofs.HeightLemmas.{power_above}
use Rattle.std.proofs.Common.{arith}
use Rattle.merkle_branch.proofs.height.Goals as goal

pub returns-in-3-to-4-clause-least : goal.returns-in-3-to-4-clause-least
returns-in-3-to-4-clause-least c = λ h enough. power_above 1 c.args.n h (omega arith) enough

pub returns-in-5-to-8-clause-least : goal.returns-in-5-to-8-clause-least
returns-in-5-to-8-clause-least c = λ h enough. power_above 2 c.args.n h (omega arith) enough

pub returns-in_default-clause-least : goal.returns-in_default-clause-least
returns-in_default-clause-least c = λ h enough. power_above 3 c.args.n h (omega arith) enough
