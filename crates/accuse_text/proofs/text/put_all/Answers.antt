use Rattle.std.proofs.Common.{get_or, refl, arith}
use Rattle.std.proofs.lemmas.Result.{err_from_is_err_and}
use Rattle.ledger_text.proofs.Order.{writes_on, writes_stop, each_step, each_split}
use Rattle.accuse.specs.declared.accusation.Accusation.{Accusation}
use Rattle.accuse_text.specs.Text.{accused_line}
use Rattle.accuse_text.proofs.text.put_all.Goals as goal

abbrev none : Accusation
none = record { node = 0; first = 0; second = 0 }

pub returns-in_err-put_accusation : goal.returns-in_err-put_accusation
returns-in_err-put_accusation g c =
    let p = err_from_is_err_and c.from_residual.result c.from_residual.ensures.1 in
    let k = c.loop-accusation.accusation-index in
    rw p.1 (writes_stop _ (each_split accused_line c.args.found.now k (get_or c.args.found.now k none) none (omega arith) refl)
    c.loop-accusation.invariant c.in_err-put_accusation.ensures)

pub loop-accusation-preserved : goal.loop-accusation-preserved
loop-accusation-preserved g c =
    let k = c.loop-accusation.accusation-index in
    writes_on (each_step accused_line c.args.found.now k (get_or c.args.found.now k none) none (omega arith) refl) c.loop-accusation.invariant
    c.in_ok-put_accusation.ensures
