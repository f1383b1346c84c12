use Rattle.std.proofs.Common.{length, refl, sym, ap, ◌∙◌}
use native.Mathlib.Omega.{arith}
use Rattle.hb_base.specs.Numbers.{Numbers}
use Rattle.step_driver.specs.Places.{spots}
use Rattle.step_driver.proofs.Directories.{IsDirectory-on}
use Rattle.step_driver.proofs.Takings.{taken_out, IsSupplied-taken}
use Rattle.step_driver.proofs.Turns.{GoesOn-refl, GoesOn-rests, GoesOn-taken, nothing_left, weight-fell, supplied_on}
use Rattle.step_driver.proofs.run.run_line.Goals as goal

pub line-init : goal.line-init
line-init g c =
    let all = spots g.A.Actor.seat g.A.Actor.view c.args.places.now.items in
    record {
      goes = GoesOn-refl c.args.script.now (length all) c.args.book.now all c.args.line.now c.requires.stage c.requires.supplied;
      words = c.requires.words;
    }

pub take-requires : goal.take-requires
take-requires g c = omega (arith, c.line.invariant.words)

pub returns-in-None : goal.returns-in-None
returns-in-None g c =
    let old = spots g.A.Actor.seat g.A.Actor.view c.args.places.now.items in
    let new = spots g.A.Actor.seat g.A.Actor.view c.line.places.items in
    let left = nothing_left c.args.script.now.order c.line.words c.line.line c.take.new.self (sym c.in-None.is ∙ c.take.ensures.taken) c.take.ensures.rest in
    record {
      goes = GoesOn-rests c.args.script.now (length old) c.args.book.now c.line.book old new c.args.line.now c.line.line c.take.new.self (left.0 ∙ sym left.1) c.line.invariant.goes;
      rests = left.1;
    }

pub serve-requires-clause-listed : goal.serve-requires-clause-listed
serve-requires-clause-listed g c lifetimes outlive =
    let old = spots g.A.Actor.seat g.A.Actor.view c.args.places.now.items in
    let new = spots g.A.Actor.seat g.A.Actor.view c.line.places.items in
    let goes = c.line.invariant.goes in
    IsDirectory-on c.args.book.now.config.n c.line.book.config.n old new c.args.directory.now (ap (λ (d : Numbers). d.n) goes.config) goes.same_names c.requires.listed

pub serve-requires-clause-supplied : goal.serve-requires-clause-supplied
serve-requires-clause-supplied g c lifetimes outlive =
    let old = spots g.A.Actor.seat g.A.Actor.view c.args.places.now.items in
    let new = spots g.A.Actor.seat g.A.Actor.view c.line.places.items in
    let out = taken_out c.args.script.now.order c.line.words c.line.line c.take.new.self c.in-Some.taken (sym c.in-Some.is ∙ c.take.ensures.taken) c.take.ensures.rest in
    IsSupplied-taken c.line.book.config c.args.script.now c.line.book.posts new c.line.line c.take.new.self c.in-Some.taken out
    (supplied_on c.args.script.now (length old) c.args.book.now c.line.book old new c.args.line.now c.line.line c.line.invariant.goes)

pub line-preserved : goal.line-preserved
line-preserved g c =
    let old = spots g.A.Actor.seat g.A.Actor.view c.args.places.now.items in
    let mid = spots g.A.Actor.seat g.A.Actor.view c.line.places.items in
    let new = spots g.A.Actor.seat g.A.Actor.view c.serve.new.places.items in
    let out = taken_out c.args.script.now.order c.line.words c.line.line c.take.new.self c.in-Some.taken (sym c.in-Some.is ∙ c.take.ensures.taken) c.take.ensures.rest in
    record {
      goes = GoesOn-taken c.args.script.now (length old) c.args.book.now c.line.book c.serve.new.book old mid new c.args.line.now c.line.line c.take.new.self c.serve.new.line c.in-Some.taken
          c.line.invariant.goes refl out c.in_ok-serve-in-Some.ensures;
      words = omega (
        arith,
        c.line.invariant.words,
        c.take.ensures.few,
        weight-fell c.args.script.now (length mid) c.line.book c.serve.new.book mid new c.line.line c.take.new.self c.serve.new.line c.in-Some.taken out c.in_ok-serve-in-Some.ensures,
      );
    }

pub line-smaller : goal.line-smaller
line-smaller g c =
    let mid = spots g.A.Actor.seat g.A.Actor.view c.line.places.items in
    let new = spots g.A.Actor.seat g.A.Actor.view c.serve.new.places.items in
    let out = taken_out c.args.script.now.order c.line.words c.line.line c.take.new.self c.in-Some.taken (sym c.in-Some.is ∙ c.take.ensures.taken) c.take.ensures.rest in
    omega (arith, weight-fell c.args.script.now (length mid) c.line.book c.serve.new.book mid new c.line.line c.take.new.self c.serve.new.line c.in-Some.taken out c.in_ok-serve-in-Some.ensures)
