use Rattle.std.proofs.Common.{◌≡◌, length, ◌+◌, ℕ, ap, subst}
use native.Mathlib.Omega.{arith}
use Rattle.hb_base.specs.Numbers.{Numbers}
use Rattle.step_driver.specs.Places.{spots}
use Rattle.step_driver.specs.Running.{GoesOn}
use Rattle.step_driver.proofs.Directories.{IsDirectory-on}
use Rattle.step_driver.proofs.Turns.{GoesOn-refl, GoesOn-trans, stage_on, supplied_on}
use Rattle.step_driver.proofs.Occupants.{spots_count}
use Rattle.step_driver.proofs.run.start_all.Goals as goal

pub loop-number-init : goal.loop-number-init
loop-number-init g c =
    GoesOn-refl c.args.script.now 0 c.args.book.now (spots g.A.Actor.seat g.A.Actor.view c.args.places.now.items) c.args.line.now c.requires.stage c.requires.supplied

pub start_one-requires : goal.start_one-requires
start_one-requires g c =
    let old = spots g.A.Actor.seat g.A.Actor.view c.args.places.now.items in
    let new = spots g.A.Actor.seat g.A.Actor.view c.loop-number.places.items in
    let goes = c.loop-number.invariant in
    record {
      within = omega (arith, c.loop-number-test.true, c.len-number-end.ensures, goes.size, spots_count g.A.Actor.seat g.A.Actor.view c.args.places.now.items, spots_count g.A.Actor.seat g.A.Actor.view c.loop-number.places.items);
      listed =
          IsDirectory-on c.args.book.now.config.n c.loop-number.book.config.n old new c.args.directory.now (ap (λ (d : Numbers). d.n) goes.config) goes.same_names c.requires.listed;
      stage = stage_on c.args.script.now c.loop-number.number c.args.book.now c.loop-number.book old new c.args.line.now c.loop-number.line goes;
      supplied = supplied_on c.args.script.now c.loop-number.number c.args.book.now c.loop-number.book old new c.args.line.now c.loop-number.line goes;
    }

pub loop-number-preserved : goal.loop-number-preserved
loop-number-preserved g c =
    let old = spots g.A.Actor.seat g.A.Actor.view c.args.places.now.items in
    let mid = spots g.A.Actor.seat g.A.Actor.view c.loop-number.places.items in
    let new = spots g.A.Actor.seat g.A.Actor.view c.start_one.new.places.items in
    GoesOn-trans c.args.script.now c.loop-number.number (c.loop-number.number + 1) c.args.book.now c.loop-number.book c.start_one.new.book old mid new c.args.line.now c.loop-number.line c.start_one.new.line
    c.loop-number.invariant c.in_ok-start_one.ensures

pub returns : goal.returns
returns g c =
    let old = spots g.A.Actor.seat g.A.Actor.view c.args.places.now.items in
    let new = spots g.A.Actor.seat g.A.Actor.view c.loop-number.places.items in
    let all : c.loop-number.number ≡ length old =
    omega (arith, c.loop-number-test.false, c.len-number-end.ensures, c.loop-number.auto.number-end, spots_count g.A.Actor.seat g.A.Actor.view c.args.places.now.items) in
    subst (λ (n : ℕ). GoesOn c.args.script.now n c.args.book.now c.loop-number.book old new c.args.line.now c.loop-number.line) all c.loop-number.invariant
