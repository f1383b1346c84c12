use Rattle.std.proofs.Common.{◌≡◌, false, sym, ◌∙◌, rules}
use Rattle.hb_base.specs.NodeSet.{is_in}
use Rattle.post_judge.proofs.Judging.{judges_unread}
use Rattle.post_judge.proofs.allowing.judged.Goals as goal

pub returns-in-None : goal.returns-in-None
returns-in-None c =
    let t = c.args.table.now in
    let correct : is_in t.config.liars c.args.post.now.from ≡ false = search rules in
    λ legal. judges_unread t.config t.posts.items c.args.post.now correct (sym c.requires.vote ∙ c.in-None.is)
