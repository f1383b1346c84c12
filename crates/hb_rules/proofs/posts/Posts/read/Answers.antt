use Rattle.std.proofs.Common.{◌<◌, ◌∙◌, ap, subst, sym}
use Rattle.hb_wire.specs.declared.post.Post.{Post}
use Rattle.hb_rules.specs.Book.{BookView, AreKept}
use Rattle.hb_rules.proofs.Histories.{known_at}
use Rattle.hb_rules.proofs.posts.Posts.read.Goals as goal

pub returns-in_ok-clone-in-Some-clause-known : goal.returns-in_ok-clone-in-Some-clause-known
returns-in_ok-clone-in-Some-clause-known c =
    let there = c.in-Some.ensures.lookup in
    subst (λ (post : Post). post.from < c.args.self.now.config.n) (sym c.in_ok-clone-in-Some.ensures.cases)
    (known_at c.args.self.now c.deref.result.now c.args.k c.in-Some.post.now (subst AreKept c.self.view_is c.self.invariant)
    (c.deref.ensures.value ∙ ap (λ (book : BookView). book.posts) c.self.view_is) there.3.0 there.1)
