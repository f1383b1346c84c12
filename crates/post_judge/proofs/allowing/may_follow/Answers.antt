use Rattle.std.proofs.Common.{[], ◌∷◌}
use Rattle.std.proofs.lemmas.Bool.{both_ways}
use Rattle.post_judge.proofs.Judging.{judges_address, judges_vote}
use Rattle.post_judge.proofs.allowing.may_follow.Goals as goal

pub returns-then-not-goes_right : goal.returns-then-not-goes_right
returns-then-not-goes_right c =
    let t = c.args.table.now in
    λ legal. judges_address t.config t.posts.items c.args.post.now c.args.vote.now c.requires.correct c.requires.spelled
    (λ right. both_ways c.goes_right.result c.if-not-goes_right.true (c.goes_right.ensures.1 right))

pub returns : goal.returns
returns c =
    let t = c.args.table.now in
    λ legal. judges_vote t.config t.posts.items c.args.post.now c.args.vote.now c.in_ok-allowed.allowed c.requires.node c.requires.correct c.requires.spelled
    (c.goes_right.ensures.0 c.if-not-goes_right.false) c.in_ok-allowed.ensures.sound (λ apart all. c.in_ok-allowed.ensures.complete legal apart all)
    (λ apart. c.verdict_laws.ensures.beginnings t.config t.posts.items (c.args.post.now ∷ []) apart)
