use Rattle.std.proofs.Common.{◌≡◌, ℕ, nat_lt, subst}
use native.Mathlib.Omega.{arith}
use Rattle.step_driver.specs.Directory.{IsGrown}
use Rattle.step_driver.proofs.Directories.{IsGrown-none, IsGrown-more}
use Rattle.step_driver.proofs.directory.add_to_each.Goals as goal

pub loop-number-init : goal.loop-number-init
loop-number-init c = IsGrown-none c.args.place c.args.groups.now.items

pub loop-number-preserved : goal.loop-number-preserved
loop-number-preserved c =
    IsGrown-more c.loop-number.number c.args.place c.args.groups.now.items c.loop-number.groups.items c.add_to.new.groups.items c.loop-number.invariant c.in_ok-add_to.ensures

pub returns : goal.returns
returns c =
    let is : c.loop-number.number ≡ c.args.count = omega arith in
    subst (λ (m : ℕ). IsGrown (λ i. nat_lt i m) c.args.place c.args.groups.now.items c.loop-number.groups.items) is c.loop-number.invariant
