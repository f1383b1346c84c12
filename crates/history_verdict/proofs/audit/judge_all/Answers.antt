use Rattle.std.proofs.Common.{true, false, take, List, ◌∙◌, arith}
use Rattle.hb_wire.specs.declared.post.Post.{Post}
use Rattle.history_verdict.proofs.Verdicts.{legal_more, first_illegal, judged_at, seen_more}
use Rattle.history_verdict.proofs.audit.judge_all.Goals as goal

pub returns-then-not-may_follow : goal.returns-then-not-may_follow
returns-then-not-may_follow g c =
    let config = g.J.Judge.config in
    let posts : List Post = c.args.posts.now in
    let inv = c.loop-number.invariant in
    first_illegal (config c.args.judge.now) posts c.loop-number.number c.index-posts-number.result (omega (arith, c.loop-number-test.true)) c.index-posts-number.is inv.legal
    (judged_at (config c.args.judge.now) (config c.loop-number.judge) (take c.loop-number.number posts) (g.J.Judge.seen c.loop-number.judge)
    c.index-posts-number.result c.in_ok-may_follow.may_follow false inv.config inv.seen c.if-not-may_follow.true c.in_ok-may_follow.ensures.judged inv.legal)

pub loop-number-preserved : goal.loop-number-preserved
loop-number-preserved g c =
    let config = g.J.Judge.config in
    let posts : List Post = c.args.posts.now in
    let inv = c.loop-number.invariant in
    record {
      config = c.judge.ensures.config ∙ inv.config;
      seen = seen_more posts c.loop-number.number c.index-posts-number.result (g.J.Judge.seen c.loop-number.judge) (g.J.Judge.seen c.judge.new.self)
          (omega (arith, c.loop-number-test.true)) c.index-posts-number.is inv.seen c.in_ok-may_follow.ensures.seen;
      legal = legal_more (config c.args.judge.now) posts c.loop-number.number c.index-posts-number.result (omega (arith, c.loop-number-test.true)) c.index-posts-number.is
          c.requires.short inv.legal
          (judged_at (config c.args.judge.now) (config c.loop-number.judge) (take c.loop-number.number posts) (g.J.Judge.seen c.loop-number.judge)
          c.index-posts-number.result c.in_ok-may_follow.may_follow true inv.config inv.seen c.if-not-may_follow.false c.in_ok-may_follow.ensures.judged inv.legal);
    }
