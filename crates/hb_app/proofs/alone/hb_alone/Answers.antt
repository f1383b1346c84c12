use Rattle.std.proofs.Common.{Some, map, string_bytes, refl, subst}
use Rattle.hb_app.specs.declared.command.Command.{Command}
use Rattle.hb_app.specs.Commands.{Asks}
use Rattle.hb_app.specs.Scene.{scene}
use Rattle.hb_app.specs.Streams.{sink_view}
use Rattle.input_reader.specs.Streams.{source_view}
use Rattle.hb_app.proofs.AuditStatuses.{audit_statuses}
use Rattle.hb_app.proofs.Commands.{run_or_audit}
use Rattle.hb_app.proofs.Comes.{run_comes, soak_comes}
use Rattle.hb_app.proofs.Inputs.{says_of, unread_of}
use Rattle.hb_app.proofs.Statuses.{unread_statuses}
use Rattle.hb_app.proofs.alone.hb_alone.Goals as goal

pub returns-in-Ok-clause-run : goal.returns-in-Ok-clause-run
returns-in-Ok-clause-run g c text asks =
    run_comes (map string_bytes c.args.words.now) c.in-Some-Run.text text _
    (scene (source_view g.S.Source.left g.S.Source.faults c.args.source.now) (sink_view g.O.Sink.held g.O.Sink.faults c.args.out.now)
    (sink_view g.E.Sink.held g.E.Sink.faults c.args.err.now) c.args.report.now)
    (scene (source_view g.S.Source.left g.S.Source.faults c.read_scenario.new.source) (sink_view g.O.Sink.held g.O.Sink.faults c.begin.new.out)
    (sink_view g.E.Sink.held g.E.Sink.faults c.begin.new.err) c.begin.new.report)
    _ c.begin.result
    (subst (λ (command : Command). Asks (map string_bytes c.args.words.now) (Some command)) c.in-Some-Run.field-0-is c.in-Some-Run.ensures) asks
    refl (says_of _ _ _ _ _ _ c.as_slice.ensures.value c.in-Ok.ensures.read.0) c.read_scenario.ensures.taken c.begin.ensures

pub returns-in-Ok-clause-audit : goal.returns-in-Ok-clause-audit
returns-in-Ok-clause-audit g c asks =
    absurd (run_or_audit (map string_bytes c.args.words.now) c.in-Some-Run.text
    (subst (λ (command : Command). Asks (map string_bytes c.args.words.now) (Some command)) c.in-Some-Run.field-0-is c.in-Some-Run.ensures) asks)

pub returns-in-Err-clause-run : goal.returns-in-Err-clause-run
returns-in-Err-clause-run g c text asks =
    unread_statuses text _
    (scene (source_view g.S.Source.left g.S.Source.faults c.args.source.now) (sink_view g.O.Sink.held g.O.Sink.faults c.args.out.now)
    (sink_view g.E.Sink.held g.E.Sink.faults c.args.err.now) c.args.report.now)
    (scene (source_view g.S.Source.left g.S.Source.faults c.read_scenario.new.source) (sink_view g.O.Sink.held g.O.Sink.faults c.args.out.now)
    (sink_view g.E.Sink.held g.E.Sink.faults c.tell_unread.new.err) c.args.report.now)
    c.in-Err.unread c.tell_unread.result (unread_of _ _ _ _ _ _ c.as_slice.ensures.value c.in-Err.ensures.read) (refl, refl)
    c.read_scenario.ensures.taken c.tell_unread.ensures

pub returns-in-Err-clause-audit : goal.returns-in-Err-clause-audit
returns-in-Err-clause-audit g c asks =
    absurd (run_or_audit (map string_bytes c.args.words.now) c.in-Some-Run.text
    (subst (λ (command : Command). Asks (map string_bytes c.args.words.now) (Some command)) c.in-Some-Run.field-0-is c.in-Some-Run.ensures) asks)

pub returns-in-Ok-generate-clause-soak : goal.returns-in-Ok-generate-clause-soak
returns-in-Ok-generate-clause-soak g c number asks = (
  soak_comes (map string_bytes c.args.words.now) c.in-Some-Soak.number number
      (scene (source_view g.S.Source.left g.S.Source.faults c.args.source.now) (sink_view g.O.Sink.held g.O.Sink.faults c.args.out.now)
      (sink_view g.E.Sink.held g.E.Sink.faults c.args.err.now) c.args.report.now)
      (scene (source_view g.S.Source.left g.S.Source.faults c.args.source.now) (sink_view g.O.Sink.held g.O.Sink.faults c.begin-in-Ok-generate.new.out)
      (sink_view g.E.Sink.held g.E.Sink.faults c.begin-in-Ok-generate.new.err) c.begin-in-Ok-generate.new.report)
      _ c.begin-in-Ok-generate.result
      (subst (λ (command : Command). Asks (map string_bytes c.args.words.now) (Some command)) c.in-Some-Soak.field-0-is c.in-Some-Soak.ensures) asks
      refl c.in-Ok-generate.ensures.exact c.begin-in-Ok-generate.ensures,
  refl,
)

pub returns-in-Some-Audit-clause-audit : goal.returns-in-Some-Audit-clause-audit
returns-in-Some-Audit-clause-audit g c asks =
    audit_statuses
    (scene (source_view g.S.Source.left g.S.Source.faults c.args.source.now) (sink_view g.O.Sink.held g.O.Sink.faults c.args.out.now)
    (sink_view g.E.Sink.held g.E.Sink.faults c.args.err.now) c.args.report.now)
    (scene (source_view g.S.Source.left g.S.Source.faults c.audit-answer.new.source) (sink_view g.O.Sink.held g.O.Sink.faults c.tell_audit.new.out)
    (sink_view g.E.Sink.held g.E.Sink.faults c.tell_audit.new.err) c.args.report.now)
    c.audit-answer.result c.tell_audit.result refl c.audit-answer.ensures.audited c.audit-answer.ensures.right c.audit-answer.ensures.taken
    c.tell_audit.ensures
