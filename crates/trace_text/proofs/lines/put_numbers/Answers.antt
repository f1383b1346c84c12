use Rattle.std.proofs.Common.{◌≡◌, codes}
use Rattle.hb_base.specs.Limits.{most_nodes}
use Rattle.hb_base.specs.NodeSet.{is_in}
use Rattle.ledger_text.specs.Lines.{counted}
use Rattle.ledger_text.proofs.Order.{writes_line}
use Rattle.trace_text.specs.Text.{nodes_number, trace_line}
use Rattle.trace_text.proofs.Parts.{nine_parts}
use Rattle.trace_text.proofs.lines.put_numbers.Goals as goal

pub returns : goal.returns
unfolding trace_line
returns g c =
    let n = c.args.config.now in
    let parts =
    nine_parts c.new-line.result (counted (codes "trace nodes ") n.n) (counted (codes " faulty ") n.f) (counted (codes " version ") n.version)
    (counted (codes " epochs ") n.epochs) (counted (codes " rounds ") n.rounds) (counted (codes " batch ") n.batch) (counted (codes " seed ") n.seed)
    (counted (codes " liars ") (nodes_number most_nodes (is_in n.liars))) (codes "\n") c.new-line.ensures.value in
    let line : c.as_slice.result.now ≡ trace_line n = cc in
    writes_line line c.put.ensures.bytes c.put.ensures.cause
