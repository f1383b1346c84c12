use Rattle.std.proofs.Common.{refl, sym, ap, ◌∙◌, inl, inr}
use Rattle.input_reader.specs.Streams.{source_view}
use Rattle.ledger_text.specs.Lines.{end_line}
use Rattle.votes_app.specs.Streams.{sink_view}
use Rattle.votes_app.proofs.Lines.{put_of, fail_of, no_end, end_takes, end_whole, goes_on_here, goes_on_there}
use Rattle.votes_app.proofs.printing.print_end.Goals as goal

pub returns-in-None : goal.returns-in-None
returns-in-None g c = (
  inl (refl, no_end c.bytes.result.now c.args.window.now c.args.count c.from.result c.bytes.ensures c.from.ensures c.in-None.ensures, refl),
  refl,
)

pub returns-in-Some-2 : goal.returns-in-Some-2
returns-in-Some-2 g c = (
  inr (
    refl,
    goes_on_here c.in-Some.rest.now (source_view g.S.Source.left g.S.Source.faults c.args.source.now) c.args.window.now c.args.count
        (end_takes c.bytes.result.now c.in-Some.rest.now c.args.window.now c.args.count c.from.result c.bytes.ensures c.from.ensures c.in-Some.ensures)
        (sym c.is_empty.ensures ∙ c.if-is_empty.false),
  ),
  refl,
)

pub returns-then-not-ended : goal.returns-then-not-ended
returns-then-not-ended g c =
    let text =
    end_whole c.in-Some.rest.now c.args.window.now c.args.count
    (end_takes c.bytes.result.now c.in-Some.rest.now c.args.window.now c.args.count c.from.result c.bytes.ensures c.from.ensures c.in-Some.ensures)
    (sym c.is_empty.ensures ∙ c.if-is_empty.true) in
    let t = rw c.if-not-ended.true at c.in_ok-ended.ensures in (
      inr (
        refl,
        goes_on_there (source_view g.S.Source.left g.S.Source.faults c.args.source.now) (source_view g.S.Source.left g.S.Source.faults c.has_ended.new.source) c.args.window.now c.args.count t.0
            text t.1 t.2 t.3,
      ),
      refl,
    )

pub returns-in-Ok : goal.returns-in-Ok
returns-in-Ok g c =
    let text =
    end_whole c.in-Some.rest.now c.args.window.now c.args.count
    (end_takes c.bytes.result.now c.in-Some.rest.now c.args.window.now c.args.count c.from.result c.bytes.ensures c.from.ensures c.in-Some.ensures)
    (sym c.is_empty.ensures ∙ c.if-is_empty.true) in
    let t = rw c.if-not-ended.false at c.in_ok-ended.ensures in (
      record { text = text; taken = t.0; ended = t.1; quiet = t.2; spare = t.3 },
      put_of (sink_view g.O.Sink.held g.O.Sink.faults c.args.out.now) (sink_view g.O.Sink.held g.O.Sink.faults c.put_end.new.out) (end_line c.from-2.result) (end_line c.args.count)
          (ap end_line c.from-2.ensures) c.in-Ok.ensures.bytes c.in-Ok.ensures.cause.quiet,
    )

pub returns-in-Err : goal.returns-in-Err
returns-in-Err g c =
    let text =
    end_whole c.in-Some.rest.now c.args.window.now c.args.count
    (end_takes c.bytes.result.now c.in-Some.rest.now c.args.window.now c.args.count c.from.result c.bytes.ensures c.from.ensures c.in-Some.ensures)
    (sym c.is_empty.ensures ∙ c.if-is_empty.true) in
    let t = rw c.if-not-ended.false at c.in_ok-ended.ensures in (
      record { text = text; taken = t.0; ended = t.1; quiet = t.2; spare = t.3 },
      fail_of (sink_view g.O.Sink.held g.O.Sink.faults c.args.out.now) (sink_view g.O.Sink.held g.O.Sink.faults c.put_end.new.out) (end_line c.from-2.result) (end_line c.args.count)
          (ap end_line c.from-2.ensures) c.in-Err.ensures.bytes c.in-Err.ensures.cause.failed,
    )
