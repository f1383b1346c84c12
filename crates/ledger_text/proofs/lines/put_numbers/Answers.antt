use Rattle.std.proofs.Common.{◌≡◌, codes}
use Rattle.ledger_text.specs.Lines.{counted, numbers_line}
use Rattle.ledger_text.proofs.Order.{writes_line, six_parts}
use Rattle.ledger_text.proofs.lines.put_numbers.Goals as goal

pub returns : goal.returns
unfolding numbers_line
returns g c =
    let n = c.args.config.now in
    let parts =
    six_parts c.new-line.result c.args.word.now (counted (codes " nodes ") n.n) (counted (codes " faulty ") n.f) (counted (codes " version ") n.version)
    (counted (codes " epochs ") n.epochs) (codes "\n") c.new-line.ensures.value in
    let line : c.as_slice.result.now ≡ numbers_line c.args.word.now n = cc in
    writes_line line c.put.ensures.bytes c.put.ensures.cause
