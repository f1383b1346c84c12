use Rattle.std.proofs.Common.{◌≡◌, List, length, map, ap, ◌∙◌, subst}
use Rattle.hb_rules.specs.declared.report.End.{End}
use native.Mathlib.Omega.{arith}
use Rattle.std.specs.Prelude.{ℕ, filter_map}
use Rattle.std.proofs.lemmas.List.{take_all}
use Rattle.step_driver.specs.Places.{Spot, spots, spot_of}
use Rattle.step_driver.specs.Running.{end_view, end_of, AreKept}
use Rattle.step_driver.proofs.Turns.{ends_more, kept_more}
use Rattle.step_driver.proofs.Occupants.{spot_at, spots_count}
use Rattle.step_driver.proofs.ends.ends_of.Goals as goal

pub loop-number-init : goal.loop-number-init
loop-number-init g c = record { ends = ap (λ (es : List End). map end_view es) c.new-ends.ensures.items; kept = record { each = λ p spot below at. absurd (omega (arith, below)) } }

pub loop-number-preserved : goal.loop-number-preserved
loop-number-preserved g c =
    let all = spots g.A.Actor.seat g.A.Actor.view c.args.places.now in
    let place = c.index-places-number.result in
    let spot = spot_of g.A.Actor.seat g.A.Actor.view place in
    let at = spot_at g.A.Actor.seat g.A.Actor.view c.args.places.now c.loop-number.number place c.loop-number-test.true c.index-places-number.is in
    record {
      ends = ends_more all c.loop-number.number spot _ _ at c.loop-number.invariant.ends c.in_ok-add_end.ensures.ends;
      kept = kept_more all c.loop-number.number spot at c.loop-number.invariant.kept c.in_ok-add_end.ensures.kept;
    }

pub returns : goal.returns
returns g c =
    let all = spots g.A.Actor.seat g.A.Actor.view c.args.places.now in
    let count = spots_count g.A.Actor.seat g.A.Actor.view c.args.places.now in
    let is : c.loop-number.number ≡ length c.args.places.now = omega (arith, c.loop-number-test.false, c.loop-number.auto.number-end) in
    record {
      ends = c.loop-number.invariant.ends ∙ ap (λ (front : List Spot). filter_map end_of front) (take_all c.loop-number.number all (omega (arith, is, count)));
      kept = subst (λ (n : ℕ). AreKept n all) is c.loop-number.invariant.kept;
    }
