use Rattle.std.proofs.Common.{ℕ, List, subst, sym}
use Rattle.input_reader.specs.Streams.{ReadsAll, source_view}
use Rattle.hb_app.proofs.Inputs.{reads_whole, refuses_long}
use Rattle.hb_app.proofs.reading.read_scenario.Goals as goal

pub returns-in-Whole-clause-read : goal.returns-in-Whole-clause-read
returns-in-Whole-clause-read g c =
    reads_whole _ (source_view g.S.Source.left g.S.Source.faults c.args.source.now) (source_view g.S.Source.left g.S.Source.faults c.read_input.new.source)
    c.as_slice.result.now c.scenario_in.result
    (subst (λ (input : List ℕ). ReadsAll (source_view g.S.Source.left g.S.Source.faults c.args.source.now) (source_view g.S.Source.left g.S.Source.faults c.read_input.new.source) input)
    (sym c.as_slice.ensures.value) c.in-Whole.ensures.read.1)
    c.scenario_in.ensures

pub returns-in-TooLong-clause-read : goal.returns-in-TooLong-clause-read
returns-in-TooLong-clause-read g c =
    refuses_long _ (source_view g.S.Source.left g.S.Source.faults c.args.source.now) (source_view g.S.Source.left g.S.Source.faults c.read_input.new.source) c.in-TooLong.ensures.read
