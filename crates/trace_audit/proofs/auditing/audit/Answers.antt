use Rattle.std.proofs.Common.{Ok}
use Rattle.input_reader.specs.Streams.{source_view}
use Rattle.trace_audit.proofs.Texts.{right_on}
use Rattle.trace_audit.proofs.auditing.audit.Goals as goal

pub returns-clause-right : goal.returns-clause-right
returns-clause-right g c input config posts left short text =
    let read = c.in_ok-trace.ensures.read in
    right_on c.verdict_laws.ensures.legal (source_view g.S.Source.left g.S.Source.faults c.args.source.now)
    (source_view g.S.Source.left g.S.Source.faults c.read_trace.new.source) input config posts (Ok c.in_ok-verdict_on.field-0) (
      read.0,
      read.1,
      read.2,
      record {
        config = c.in_ok-trace.trace.config;
        posts = c.in_ok-trace.trace.posts.items;
        text = read.3.0;
        is = c.in_ok-verdict_on.ensures;
      },
    )
    left short text
