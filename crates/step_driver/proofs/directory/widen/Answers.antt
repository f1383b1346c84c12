use Rattle.std.proofs.Common.{[], ◌∷◌, List, ℕ, length, ap, length-append}
use native.Mathlib.Omega.{arith}
use Rattle.step_driver.proofs.Directories.{AreAsBefore-refl, AreAsBefore-push}
use Rattle.step_driver.proofs.directory.widen.Goals as goal

pub loop-number-init : goal.loop-number-init
loop-number-init c = record { same = AreAsBefore-refl c.args.groups.now.items; long = omega (arith, c.len-number.ensures) }

pub loop-number-preserved : goal.loop-number-preserved
loop-number-preserved c = record {
  same = AreAsBefore-push c.args.groups.now.items c.loop-number.groups.items c.push.new.self.items c.new-group.result c.loop-number.invariant.same c.new-group.ensures c.in_ok-push.ensures.items;
  long = omega (
    arith,
    c.loop-number.invariant.long,
    ap (λ (groups : List (List ℕ)). length groups) c.in_ok-push.ensures.items,
    length-append c.loop-number.groups.items (c.new-group.result ∷ []),
  );
}
