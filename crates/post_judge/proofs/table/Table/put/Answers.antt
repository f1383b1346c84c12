use Rattle.std.proofs.Common.{sym, ◌∙◌}
use Rattle.post_judge.proofs.Adding.{AreTold-unread}
use Rattle.post_judge.proofs.table.Table.put.Goals as goal

pub returns-in-None-clause-told : goal.returns-in-None-clause-told
returns-in-None-clause-told c =
    let t = c.args.self.now in
    AreTold-unread t.config t.posts.items c.args.post.now t.buckets.by_place c.requires.told (sym c.requires.vote ∙ c.in-None.is)
