use Rattle.std.proofs.Common.{◌≡◌, ◌<◌, ℕ, length, take, sym, ap, ◌∙◌, arith}
use Rattle.std.specs.List.{flat_map, range_with_len}
use Rattle.std.proofs.lemmas.List.FromFn.{length-range_with_len}
use Rattle.std.proofs.lemmas.Result.{err_from_is_err_and}
use Rattle.ledger_text.specs.Text.{node_text}
use Rattle.ledger_text.proofs.Order.{writes_as, writes_on, writes_stop, each_step, each_split, range_at, take_range}
use Rattle.ledger_text.proofs.nodes.put_nodes.Goals as goal

pub returns-in_err-put_whole_node : goal.returns-in_err-put_whole_node
returns-in_err-put_whole_node g c =
    let p = err_from_is_err_and c.from_residual.result c.from_residual.ensures.1 in
    let n = c.args.report.now.config.n in
    let k = c.loop-node.node in
    let below : k < n = omega arith in
    let within : k < length (range_with_len 0 n) = omega (arith, length-range_with_len 0 n) in
    rw p.1 (writes_stop _ (each_split (node_text c.args.report.now) (range_with_len 0 n) k k k within (range_at n k below)) c.loop-node.invariant
    c.in_err-put_whole_node.ensures)

pub loop-node-preserved : goal.loop-node-preserved
loop-node-preserved g c =
    let n = c.args.report.now.config.n in
    let k = c.loop-node.node in
    let below : k < n = omega arith in
    let within : k < length (range_with_len 0 n) = omega (arith, length-range_with_len 0 n) in
    writes_on (each_step (node_text c.args.report.now) (range_with_len 0 n) k k k within (range_at n k below)) c.loop-node.invariant
    c.in_ok-put_whole_node.ensures

pub returns : goal.returns
returns g c =
    let n = c.args.report.now.config.n in
    let f = node_text c.args.report.now in
    let all : c.loop-node.node ≡ n = omega arith in
    writes_as (ap (flat_map f) (sym (take_range n)) ∙ ap (λ (k : ℕ). flat_map f (take k (range_with_len 0 n))) (sym all)) c.loop-node.invariant
