use Rattle.std.proofs.Common.{◌≡◌, map, take}
use Rattle.std.specs.Prelude.{filter_map}
use Rattle.step_driver.specs.Places.{spots}
use Rattle.step_driver.specs.Running.{end_view, end_of, AreKept}
use Rattle.step_driver.proofs.ends.ends_of.Given as goal

abbrev pub invariant-loop-number : goal.invariant-loop-number
invariant-loop-number g l = record {
  ends : map end_view l.ends.items ≡ filter_map end_of (take l.number (spots g.A.Actor.seat g.A.Actor.view l.places));
  kept : AreKept l.number (spots g.A.Actor.seat g.A.Actor.view l.places);
}
