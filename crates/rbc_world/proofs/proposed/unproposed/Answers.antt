use Rattle.std.proofs.Common.{List, take, subst}
use Rattle.std.proofs.lemmas.List.{take_all}
use Rattle.hb_wire.specs.declared.post.Post.{Post}
use Rattle.rbc_world.specs.Claimed.{AreLeft}
use Rattle.rbc_world.proofs.Striking.{left_all, left_deliveries, left_more}
use Rattle.rbc_world.proofs.proposed.unproposed.Goals as goal

pub loop-post-init : goal.loop-post-init
loop-post-init c = left_all c.args.config.now c.args.posts.now c.args.table c.requires

pub strike-requires : goal.strike-requires
strike-requires c = left_deliveries c.args.config.now c.args.posts.now (take c.loop-post.post-index c.args.posts.now) c.args.table c.loop-post.left c.requires c.loop-post.invariant

pub loop-post-preserved : goal.loop-post-preserved
loop-post-preserved c =
    left_more c.args.config.now c.args.posts.now c.loop-post.post-index c.post-item.result c.args.table c.loop-post.left c.strike.new.table
    (record { inside = c.loop-post-test.true; is = c.post-item.is }) c.loop-post.invariant c.strike.ensures

pub returns : goal.returns
returns c =
    subst (λ (some : List Post). AreLeft c.args.config.now c.args.posts.now some c.args.table c.loop-post.left)
    (take_all c.loop-post.post-index c.args.posts.now c.loop-post-test.false) c.loop-post.invariant
