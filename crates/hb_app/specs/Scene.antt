-- What a call of the program finds or leaves.
use Rattle.std.specs.Prelude.{◌≡◌}
use Rattle.hb_base.specs.Outside.{Rose}
use Rattle.hb_rules.specs.declared.report.Report.{Report}
use Rattle.input_reader.specs.Streams.{SourceView}
use Rattle.hb_app.specs.Streams.{SinkView, IsUntouched}

-- where the input comes from, where the text goes, where the lines of the other answers go, and the report
pub record Scene (O E : Type 0) : Type 0 where
  pub source : SourceView
  pub out : SinkView O
  pub err : SinkView E
  pub report : Report

abbrev pub scene : {O E : Type 0} → SourceView → SinkView O → SinkView E → Report → Scene O E
scene source out err report = record { source = source; out = out; err = err; report = report }

-- no run was reached: the output is as it was, and so is the report
abbrev pub IsNotRun : {O E : Type 0} → Scene O E → Scene O E → Type 0
IsNotRun before after = IsUntouched before.out after.out × (after.report ≡ before.report)

-- no put failed
pub record NoPutFails {O E : Type 0} (before after : Scene O E) : Type 0 where
  pub out : Rose before.out.faults after.out.faults → ⊥
  pub err : Rose before.err.faults after.err.faults → ⊥
