use Rattle.std.proofs.Common.{◌≡◌, ◌<◌, ℕ, length, take, sym, ap, subst, ◌∙◌, arith}
use Rattle.std.specs.List.{flat_map, range_with_len}
use Rattle.std.proofs.lemmas.List.FromFn.{length-range_with_len}
use Rattle.std.proofs.lemmas.Result.{err_from_is_err_and}
use Rattle.ledger_text.proofs.Order.{writes_as, writes_on, writes_stop, each_step, each_split, range_at, take_range}
use Rattle.observer.specs.Beside.{IsBeside}
use Rattle.observer.specs.Standing.{ObserverView, ledger_of}
use Rattle.observer.proofs.Computed.{beside_ledger}
use Rattle.observer_text.specs.Text.{observer_text, beside_text}
use Rattle.observer_text.proofs.text.put_observers.Goals as goal

pub returns-in_err-put_observer : goal.returns-in_err-put_observer
returns-in_err-put_observer g c =
    let p = err_from_is_err_and c.from_residual.result c.from_residual.ensures.1 in
    let report = c.args.report.now in
    let n = report.config.n in
    let k = c.loop-node.node in
    let x : ObserverView = c.index-observers-node.result in
    let below : k < n = omega arith in
    let within : k < length (range_with_len 0 n) = omega (arith, length-range_with_len 0 n) in
    let beside : IsBeside report k x = subst (λ (o : ObserverView). IsBeside report k o) (sym c.index-observers-node.is) (c.requires.each k x below) in
    let is : beside_text report k ≡ observer_text k (ledger_of x) = ap (observer_text k) (sym (beside_ledger report k x beside)) in
    rw p.1 (writes_stop _ (each_split (beside_text report) (range_with_len 0 n) k k k within (range_at n k below)) c.loop-node.invariant
    (writes_as is c.in_err-put_observer.ensures))

pub loop-node-preserved : goal.loop-node-preserved
loop-node-preserved g c =
    let report = c.args.report.now in
    let n = report.config.n in
    let k = c.loop-node.node in
    let x : ObserverView = c.index-observers-node.result in
    let below : k < n = omega arith in
    let within : k < length (range_with_len 0 n) = omega (arith, length-range_with_len 0 n) in
    let beside : IsBeside report k x = subst (λ (o : ObserverView). IsBeside report k o) (sym c.index-observers-node.is) (c.requires.each k x below) in
    let is : beside_text report k ≡ observer_text k (ledger_of x) = ap (observer_text k) (sym (beside_ledger report k x beside)) in
    writes_on (each_step (beside_text report) (range_with_len 0 n) k k k within (range_at n k below)) c.loop-node.invariant
    (writes_as is c.in_ok-put_observer.ensures)

pub returns : goal.returns
returns g c =
    let n = c.args.report.now.config.n in
    let f = beside_text c.args.report.now in
    let all : c.loop-node.node ≡ n = omega arith in
    writes_as (ap (flat_map f) (sym (take_range n)) ∙ ap (λ (k : ℕ). flat_map f (take k (range_with_len 0 n))) (sym all)) c.loop-node.invariant
