use Rattle.std.proofs.Common.{sym, ap, arith}
use Rattle.std.proofs.lemmas.Option.{slice_get_within}
use Rattle.std.proofs.lemmas.Result.{err_from_is_err_and}
use Rattle.hb_wire.specs.Lists.{listed}
use Rattle.script_fault.proofs.Writing.{writes_then, writes_front}
use Rattle.acs_world.specs.Closures.{closure_of}
use Rattle.ledger_text.specs.Lines.{epoch_line}
use Rattle.ledger_text.specs.Text.{list_text}
use Rattle.ledger_text.proofs.Order.{writes_as}
use Rattle.ledger_text.proofs.ledger.put_list.Goals as goal

pub put_batches-requires-clause-spot : goal.put_batches-requires-clause-spot
put_batches-requires-clause-spot g c =
    let lists = g.L.Ledger.lists c.args.ledger.now in
    let within = slice_get_within lists c.args.place (closure_of c.args.closing.epoch (listed c.args.closing.rest.now)) c.requires.list.there in
    record { place = omega (arith, within); list = c.requires.list.shown; index = omega arith }

pub returns-in_err-put_epoch-clause-text : goal.returns-in_err-put_epoch-clause-text
unfolding list_text
returns-in_err-put_epoch-clause-text g c =
    let p = err_from_is_err_and c.from_residual.result c.from_residual.ensures.1 in
    let count = c.count_of.ensures (listed c.args.closing.rest.now) c.requires.list.shown in
    rw p.1 (writes_front _ (writes_as (ap (epoch_line c.args.closing.epoch) (sym count)) c.in_err-put_epoch.ensures))

pub returns-clause-text : goal.returns-clause-text
unfolding list_text
returns-clause-text g c =
    let count = c.count_of.ensures (listed c.args.closing.rest.now) c.requires.list.shown in
    writes_then (writes_as (ap (epoch_line c.args.closing.epoch) (sym count)) c.in_ok-put_epoch.ensures) c.put_batches.ensures.text
