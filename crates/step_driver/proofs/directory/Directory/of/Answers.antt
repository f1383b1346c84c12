use Rattle.step_driver.proofs.Directories.{IsDirectory-none, IsDirectory-more, IsDirectory-all}
use Rattle.step_driver.proofs.directory.Directory.of.Goals as goal

pub loop-number-init : goal.loop-number-init
loop-number-init g c = IsDirectory-none c.args.config.now.n c.new.result.items c.new-2.result.items c.new.ensures.items c.new-2.ensures.items

pub loop-number-preserved : goal.loop-number-preserved
loop-number-preserved g c =
    IsDirectory-more g.A.Actor.seat g.A.Actor.view c.args.config.now.n c.loop-number.number c.args.places.now c.index-places-number.result c.loop-number.directory c.enter.new.self
    c.loop-number-test.true c.index-places-number.is c.loop-number.invariant c.in_ok-enter.ensures

pub returns : goal.returns
returns g c =
    IsDirectory-all g.A.Actor.seat g.A.Actor.view c.args.config.now.n c.loop-number.number c.args.places.now c.loop-number.directory c.loop-number-test.false c.loop-number.invariant
