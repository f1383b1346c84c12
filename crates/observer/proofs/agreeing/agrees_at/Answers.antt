use Rattle.std.proofs.Common.{refl, sym, ap, ◌∙◌, arith}
use Rattle.std.proofs.lemmas.Option.{slice_get_past, slice_get_read}
use Rattle.observer.specs.Beside.{agrees_at}
use Rattle.observer.proofs.agreeing.agrees_at.Goals as goal

pub returns-then-place-observers : goal.returns-then-place-observers
returns-then-place-observers c =
    sym (ap (agrees_at c.args.report.now c.args.observers.now c.args.node) (slice_get_past c.args.observers.now c.args.node (omega (arith, c.if-place-observers.true))))

pub returns : goal.returns
returns c =
    c.agrees.ensures
    ∙ ap (agrees_at c.args.report.now c.args.observers.now c.args.node)
    (sym (slice_get_read c.args.observers.now _ c.args.node c.index-observers-place.result refl (omega (arith, c.if-place-observers.false)) c.index-observers-place.is))
