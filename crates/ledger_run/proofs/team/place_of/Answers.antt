use Rattle.std.proofs.Common.{get_or}
use Rattle.std.proofs.lemmas.Option.{slice_get-get_or}
use Rattle.ledger_run.proofs.Voices.{NoneAt-start, NoneAt-more, differs}
use Rattle.ledger_run.proofs.team.place_of.Goals as goal

pub loop-place-init : goal.loop-place-init
loop-place-init c = NoneAt-start c.args.node c.args.liars.now

pub loop-place-preserved : goal.loop-place-preserved
loop-place-preserved c =
    let liar = get_or c.args.liars.now c.loop-place.place c.index-liars-place.result in
    NoneAt-more c.args.node c.args.liars.now c.loop-place.place liar
    (slice_get-get_or c.args.liars.now c.loop-place.place c.index-liars-place.result c.loop-place-test.true)
    (differs liar.node c.args.node c.if-liars-place.false) c.loop-place.invariant
