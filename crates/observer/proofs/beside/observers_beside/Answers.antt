use Rattle.std.proofs.Common.{subst, arith, ℕ, ◌≡◌}
use Rattle.observer.specs.Beside.{AreBeside}
use Rattle.observer.proofs.Side.{beside_none, beside_push}
use Rattle.observer.proofs.beside.observers_beside.Goals as goal

pub loop-node-init : goal.loop-node-init
loop-node-init c = beside_none c.args.report.now c.new-observers.result.items c.new-observers.ensures.items

pub loop-node-preserved : goal.loop-node-preserved
loop-node-preserved c =
    beside_push c.args.report.now c.loop-node.node c.loop-node.observers.items c.push.new.self.items c.in_ok-observer.observer c.loop-node.invariant
    c.in_ok-observer.ensures c.in_ok-push.ensures.items

pub returns : goal.returns
returns c =
    let all : c.loop-node.node ≡ c.args.report.now.config.n = omega arith in
    subst (λ (k : ℕ). AreBeside c.args.report.now k c.loop-node.observers.items) all c.loop-node.invariant
