use Rattle.std.proofs.Common.{Some, sym, ap, ◌∙◌}
use Rattle.std.proofs.lemmas.Option.{slice_get-get_or}
use Rattle.ledger_run.proofs.Voices.{NoneHas-start, NoneHas-more}
use Rattle.ledger_run.proofs.voice.first_of.Goals as goal

pub loop-place-init : goal.loop-place-init
loop-place-init g c = NoneHas-start _ c.args.name.now c.args.cast.now

pub loop-place-preserved : goal.loop-place-preserved
loop-place-preserved g c =
    NoneHas-more _ c.args.name.now c.args.cast.now c.loop-place.place c.index-cast-place.result
    (slice_get-get_or c.args.cast.now c.loop-place.place c.index-cast-place.result c.loop-place-test.true ∙ ap (λ o. Some o) (sym c.index-cast-place.is))
    (sym c.is_called.ensures ∙ c.if-is_called.false) c.loop-place.invariant

pub returns-then-is_called-clause-found : goal.returns-then-is_called-clause-found
returns-then-is_called-clause-found g c = (
  c.index-cast-place.result,
  record {
    stands = slice_get-get_or c.args.cast.now c.loop-place.place c.index-cast-place.result c.loop-place-test.true ∙ ap (λ o. Some o) (sym c.index-cast-place.is);
    named = sym c.is_called.ensures ∙ c.if-is_called.true;
    none_before = c.loop-place.invariant;
  },
)
