use Rattle.std.proofs.Common.{ap, length, ◌+◌}
use native.Mathlib.Omega.{arith}
use Rattle.hb_base.specs.Numbers.{Numbers}
use Rattle.step_driver.specs.Places.{spots}
use Rattle.step_driver.proofs.Directories.{IsDirectory-lent}
use Rattle.step_driver.proofs.Turns.{GoesOn-followed, stood_after, IsSupplied-but, few_lent, place_lent, followed_lent}
use Rattle.step_driver.proofs.run.start_one.Goals as goal

pub follow-requires : goal.follow-requires
follow-requires g c =
    let old = spots g.A.Actor.seat g.A.Actor.view c.args.places.now.items in
    let new = spots g.A.Actor.seat g.A.Actor.view c.start_at-again.new.places.items in
    let turn = c.start_at-again.ensures.turn in
    record {
      first = omega (arith, c.count_posts-first.ensures, turn.served.longer);
      few = few_lent g.A.Actor.seat g.A.Actor.view c.as_slice.result.now c.start_at-again.new.places.items c.as_slice.ensures.value turn.stage.few;
      listed =
          IsDirectory-lent g.A.Actor.seat g.A.Actor.view c.args.book.now.config.n c.start_at-again.new.book.config.n old c.as_slice.result.now c.start_at-again.new.places.items c.args.directory.now
          (ap (λ (d : Numbers). d.n) turn.served.config) c.as_slice.ensures.value turn.served.same_names c.requires.listed;
      again = stood_after c.args.script.now (length c.start_at-again.new.book.posts) (c.args.number + 1) c.args.number c.count_posts-first.result c.args.book.now c.start_at-again.new.book old new c.start_at-again.result turn c.count_posts-first.ensures;
      place = place_lent g.A.Actor.seat g.A.Actor.view c.as_slice.result.now c.start_at-again.new.places.items c.args.number c.start_at-again.result c.as_slice.ensures.value c.start_at-again.ensures.place;
    }

pub returns : goal.returns
returns g c =
    let old = spots g.A.Actor.seat g.A.Actor.view c.args.places.now.items in
    let new = spots g.A.Actor.seat g.A.Actor.view c.start_at-again.new.places.items in
    GoesOn-followed c.args.script.now (length c.start_at-again.new.book.posts) (c.args.number + 1) c.args.number c.count_posts-first.result c.args.book.now c.start_at-again.new.book old new c.start_at-again.result c.args.line.now c.follow.new.line
    c.start_at-again.ensures.turn c.count_posts-first.ensures
    (followed_lent g.A.Actor.seat g.A.Actor.view c.as_slice.result.now c.start_at-again.new.places.items c.start_at-again.new.book.config c.args.script.now c.start_at-again.new.book.posts c.count_posts-first.result c.args.number c.start_at-again.result
    c.args.line.now c.follow.new.line c.as_slice.ensures.value c.in_ok-follow.ensures) (IsSupplied-but c.args.book.now.config c.args.script.now c.args.number (length c.start_at-again.new.book.posts) c.args.book.now.posts old c.args.line.now c.requires.supplied)
