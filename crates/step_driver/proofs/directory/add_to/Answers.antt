use Rattle.std.proofs.lemmas.Result.{on_ok_weaker}
use native.Mathlib.Omega.{arith}
use Rattle.step_driver.proofs.Directories.{IsGrown-one}
use Rattle.step_driver.proofs.directory.add_to.Goals as goal

pub returns : goal.returns
returns c =
    on_ok_weaker c.push.result (λ pushed. IsGrown-one c.args.number c.args.place c.args.groups.now.items c.widen.new.groups.items c.index_mut-group.result.now c.push.new.self c.in_ok-widen.ensures.same
    (omega (arith, c.in_ok-widen.ensures.long)) c.index_mut-group.ensures.value pushed) c.push.ensures
