use Rattle.std.proofs.Common.{◌∙◌}
use Rattle.rbc_judge.proofs.Shown.{shows_count}
use Rattle.rbc_judge.proofs.claims.count_echoes.Goals as goal

pub returns : goal.returns
returns c = c.count_claims.ensures ∙ shows_count c.args.n c.args.epoch c.args.root.now c.args.heard.now c.requires.checked
