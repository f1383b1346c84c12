use Rattle.std.proofs.Common.{[], ◌∷◌, ◌++◌, subst, sym}
use Rattle.hb_rules.specs.Book.{BookView, AreKept}
use Rattle.hb_rules.proofs.Histories.{AreKept-push}
use Rattle.hb_rules.proofs.posts.Posts.add.Goals as goal

pub invariant_of-self-2 : goal.invariant_of-self-2
invariant_of-self-2 c =
    let kept : AreKept c.args.self.now = subst AreKept c.self.view_is c.self.invariant in
    rw c.in_ok-push.ensures.items
    (subst (λ (book : BookView). AreKept (record { config = book.config; posts = book.posts ++ c.args.post ∷ [] })) (sym c.self.view_is)
    (AreKept-push c.args.self.now c.args.post kept c.requires.room c.requires.follows c.requires.actor))
