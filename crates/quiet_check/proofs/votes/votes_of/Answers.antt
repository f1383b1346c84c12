use Rattle.std.proofs.Common.{◌≡◌, ◌<◌, List, ◌++◌, length, take, get_or, Option, sym, ap, ◌∙◌, subst, arith}
use Rattle.std.specs.Option.{option_to_list}
use Rattle.hb_wire.specs.declared.post.Post.{Post}
use Rattle.hb_wire.specs.declared.vote.Vote.{Vote}
use Rattle.hb_rules.specs.Hearing.{vote_by, own_in}
use Rattle.hb_rules.specs.Terms.{AreSpelled}
use Rattle.quiet_check.proofs.Reading.{mapped_more, own_spelled}
use Rattle.quiet_check.proofs.votes.votes_of.Goals as goal

pub loop-post-preserved : goal.loop-post-preserved
loop-post-preserved c =
    let posts : List Post = c.args.report.now.history.items in
    let same : c.deref-post-items.result.now ≡ posts = c.deref-post-items.ensures.value in
    let below : c.loop-post.post-index < length posts = omega (arith, ap length same) in
    let item : c.post-item.result ≡ get_or posts c.loop-post.post-index c.post-item.result =
    c.post-item.is ∙ ap (λ (posts : List Post). get_or posts c.loop-post.post-index c.post-item.result) same in
    c.in_ok-add_vote.ensures
    ∙ ap (λ (votes : List Vote). votes ++ option_to_list c.in_ok-vote.vote) c.loop-post.invariant
    ∙ ap (λ (o : Option Vote). own_in c.args.report.now.config c.args.end.now.node c.args.end.now.actor (take c.loop-post.post-index posts) ++ option_to_list o)
    (c.in_ok-vote.ensures ∙ ap (vote_by c.args.report.now.config c.args.end.now.node c.args.end.now.actor) item)
    ∙ mapped_more (vote_by c.args.report.now.config c.args.end.now.node c.args.end.now.actor) posts c.loop-post.post-index c.post-item.result below

pub returns-clause-spelled : goal.returns-clause-spelled
returns-clause-spelled c =
    subst (AreSpelled c.args.report.now.config) (sym c.loop-post.invariant)
    (own_spelled c.args.report.now.config c.args.end.now.node c.args.end.now.actor (take c.loop-post.post-index c.args.report.now.history.items))
