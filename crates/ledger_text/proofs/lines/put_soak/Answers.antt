use Rattle.std.proofs.Common.{◌≡◌, codes}
use Rattle.ledger_text.specs.Lines.{counted, soak_line}
use Rattle.ledger_text.proofs.Order.{writes_line, seven_parts}
use Rattle.ledger_text.proofs.lines.put_soak.Goals as goal

pub returns : goal.returns
unfolding soak_line
returns g c =
    let n = c.args.config.now in
    let parts =
    seven_parts c.new-line.result (counted (codes "soak ") c.args.number) (counted (codes " nodes ") n.n) (counted (codes " faulty ") n.f)
    (counted (codes " epochs ") n.epochs) (counted (codes " batch ") n.batch) (counted (codes " workers ") c.args.workers) (codes "\n")
    c.new-line.ensures.value in
    let line : c.as_slice.result.now ≡ soak_line c.args.number n c.args.workers = cc in
    writes_line line c.put.ensures.bytes c.put.ensures.cause
