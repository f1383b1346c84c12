use Rattle.std.proofs.Common.{refl}
use Rattle.hb_app.specs.Scene.{scene}
use Rattle.hb_app.specs.Streams.{sink_view}
use Rattle.input_reader.specs.Streams.{source_view}
use Rattle.hb_app.proofs.Comes.{run_left, soak_left}
use Rattle.hb_app.proofs.top.hb_main.Goals as goal

pub returns-in-Workers-clause-run : goal.returns-in-Workers-clause-run
returns-in-Workers-clause-run g c text asks =
    run_left text _
    (scene (source_view g.S.Source.left g.S.Source.faults c.args.source.now) (sink_view g.O.Sink.held g.O.Sink.faults c.args.out.now)
    (sink_view g.E.Sink.held g.E.Sink.faults c.args.err.now) c.args.report.now)
    (scene (source_view g.S.Source.left g.S.Source.faults c.hb_alone.new.source) (sink_view g.O.Sink.held g.O.Sink.faults c.hb_alone.new.out)
    (sink_view g.E.Sink.held g.E.Sink.faults c.hb_alone.new.err) c.hb_alone.new.report)
    (scene (source_view g.S.Source.left g.S.Source.faults c.hb_alone.new.source) (sink_view g.O.Sink.held g.O.Sink.faults c.run_and_print.new.out)
    (sink_view g.E.Sink.held g.E.Sink.faults c.run_and_print.new.err) c.run_and_print.new.report)
    c.in-Workers.task c.run_and_print.result refl (c.in-Workers.ensures.run text asks) c.run_and_print.ensures

pub returns-in-Workers-clause-soak : goal.returns-in-Workers-clause-soak
returns-in-Workers-clause-soak g c number asks = (
  soak_left number
      (scene (source_view g.S.Source.left g.S.Source.faults c.args.source.now) (sink_view g.O.Sink.held g.O.Sink.faults c.args.out.now)
      (sink_view g.E.Sink.held g.E.Sink.faults c.args.err.now) c.args.report.now)
      (scene (source_view g.S.Source.left g.S.Source.faults c.hb_alone.new.source) (sink_view g.O.Sink.held g.O.Sink.faults c.hb_alone.new.out)
      (sink_view g.E.Sink.held g.E.Sink.faults c.hb_alone.new.err) c.hb_alone.new.report)
      (scene (source_view g.S.Source.left g.S.Source.faults c.hb_alone.new.source) (sink_view g.O.Sink.held g.O.Sink.faults c.run_and_print.new.out)
      (sink_view g.E.Sink.held g.E.Sink.faults c.run_and_print.new.err) c.run_and_print.new.report)
      c.in-Workers.task c.run_and_print.result (c.in-Workers.ensures.soak number asks).0 c.run_and_print.ensures,
  (c.in-Workers.ensures.soak number asks).1,
)
