use Rattle.post_judge.proofs.Adding.{AreTold-none}
use Rattle.post_judge.proofs.table.Table.new.Goals as goal

pub returns-clause-told : goal.returns-clause-told
returns-clause-told c = AreTold-none c.args.config.now c.new-2.result.by_place c.new-2.ensures.numbers c.new-2.ensures.votes
