use Rattle.std.proofs.Common.{arith}
use Rattle.last_deliveries.proofs.Catches.{coming_more}
use Rattle.last_deliveries.proofs.marking.coming.Goals as goal

pub loop-k-init : goal.loop-k-init
loop-k-init c = λ j below lacking. absurd (omega (arith, below))

pub loop-k-preserved : goal.loop-k-preserved
loop-k-preserved c =
    coming_more c.args.script.now c.args.posts.now c.args.node c.args.actor c.loop-k.k c.loop-k.numbers.items c.add_coming.new.numbers.items c.loop-k.invariant c.add_coming.ensures.kept
    c.in_ok-add_coming.ensures.added
