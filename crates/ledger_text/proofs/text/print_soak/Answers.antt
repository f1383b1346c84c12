use Rattle.std.proofs.Common.{codes, sym, ap}
use Rattle.std.proofs.lemmas.Result.{err_from_is_err_and}
use Rattle.script_fault.proofs.Writing.{writes_then, writes_front}
use Rattle.ledger_text.specs.Lines.{answer_line}
use Rattle.ledger_text.specs.Text.{soak_text}
use Rattle.ledger_text.proofs.Order.{writes_as}
use Rattle.ledger_text.proofs.Questions.{comparable_is, enough_is, unaltered_is}
use Rattle.ledger_text.proofs.text.print_soak.Goals as goal

pub returns-in_err-put_answer : goal.returns-in_err-put_answer
unfolding soak_text
returns-in_err-put_answer g c =
    let config = c.args.report.now.config in
    let posts = c.args.report.now.history.items in
    let p = err_from_is_err_and c.from_residual-in_err-put_answer.result c.from_residual-in_err-put_answer.ensures.1 in
    let comparable_said = ap (answer_line (codes "comparable")) (sym (comparable_is config posts c.comparable.result c.comparable.ensures.exact)) in
    rw p.1 (writes_then c.in_ok-put_soak.ensures (writes_front _ (writes_as comparable_said c.in_err-put_answer.ensures)))

pub returns-in_err-put_answer-2 : goal.returns-in_err-put_answer-2
unfolding soak_text
returns-in_err-put_answer-2 g c =
    let config = c.args.report.now.config in
    let posts = c.args.report.now.history.items in
    let p = err_from_is_err_and c.from_residual-in_err-put_answer-2.result c.from_residual-in_err-put_answer-2.ensures.1 in
    let comparable_said = ap (answer_line (codes "comparable")) (sym (comparable_is config posts c.comparable.result c.comparable.ensures.exact)) in
    let batches_said = ap (answer_line (codes "batches")) (sym (enough_is config posts c.batches_ok.result c.batches_ok.ensures.exact)) in
    rw p.1 (writes_then c.in_ok-put_soak.ensures (writes_then (writes_as comparable_said c.in_ok-put_answer.ensures)
    (writes_front _ (writes_as batches_said c.in_err-put_answer-2.ensures))))

pub returns-in_err-put_answer-3 : goal.returns-in_err-put_answer-3
unfolding soak_text
returns-in_err-put_answer-3 g c =
    let config = c.args.report.now.config in
    let posts = c.args.report.now.history.items in
    let p = err_from_is_err_and c.from_residual-in_err-put_answer-3.result c.from_residual-in_err-put_answer-3.ensures.1 in
    let comparable_said = ap (answer_line (codes "comparable")) (sym (comparable_is config posts c.comparable.result c.comparable.ensures.exact)) in
    let batches_said = ap (answer_line (codes "batches")) (sym (enough_is config posts c.batches_ok.result c.batches_ok.ensures.exact)) in
    let unaltered_said = ap (answer_line (codes "unaltered")) (sym (unaltered_is config posts c.unaltered.result c.unaltered.ensures.exact)) in
    rw p.1 (writes_then c.in_ok-put_soak.ensures (writes_then (writes_as comparable_said c.in_ok-put_answer.ensures)
    (writes_then (writes_as batches_said c.in_ok-put_answer-2.ensures)
    (writes_front _ (writes_as unaltered_said c.in_err-put_answer-3.ensures)))))

pub returns : goal.returns
unfolding soak_text
returns g c =
    let config = c.args.report.now.config in
    let posts = c.args.report.now.history.items in
    let comparable_said = ap (answer_line (codes "comparable")) (sym (comparable_is config posts c.comparable.result c.comparable.ensures.exact)) in
    let batches_said = ap (answer_line (codes "batches")) (sym (enough_is config posts c.batches_ok.result c.batches_ok.ensures.exact)) in
    let unaltered_said = ap (answer_line (codes "unaltered")) (sym (unaltered_is config posts c.unaltered.result c.unaltered.ensures.exact)) in
    writes_then c.in_ok-put_soak.ensures (writes_then (writes_as comparable_said c.in_ok-put_answer.ensures)
    (writes_then (writes_as batches_said c.in_ok-put_answer-2.ensures)
    (writes_then (writes_as unaltered_said c.in_ok-put_answer-3.ensures) c.put_status.ensures)))
