use Rattle.std.proofs.lemmas.Result.{err_from_is_err_and}
use Rattle.input_reader.specs.Streams.{source_view}
use Rattle.votes_app.specs.Streams.{sink_view}
use Rattle.votes_app.proofs.Ending.{head_stops, end_of}
use Rattle.votes_app.proofs.Whole.{line_stops, posts_stop, has_begun}
use Rattle.votes_app.proofs.printing.print_votes.Goals as goal

pub returns-in_err-take_line : goal.returns-in_err-take_line
returns-in_err-take_line g c =
    let p = err_from_is_err_and c.from_residual.result c.from_residual.ensures.1 in
    rw (p.1, p.2) (line_stops c.args.detail c.in_err-take_line.field-0.0 (source_view g.S.Source.left g.S.Source.faults c.args.source.now)
    (source_view g.S.Source.left g.S.Source.faults c.take_line.new.source) c.new-window.result c.take_line.new.window
    (sink_view g.O.Sink.held g.O.Sink.faults c.args.out.now) c.new-window.ensures c.in_err-take_line.ensures)

pub returns-in_err-config : goal.returns-in_err-config
returns-in_err-config g c =
    let p = err_from_is_err_and c.from_residual-in_err-config.result c.from_residual-in_err-config.ensures.1 in
    let moves = rw c.new-window.ensures at c.in_ok-take_line.ensures.0 in
    rw (p.1, p.2) (head_stops c.args.detail c.in_err-config.field-0.0 c.in_ok-take_line.field-0 (source_view g.S.Source.left g.S.Source.faults c.args.source.now)
    (source_view g.S.Source.left g.S.Source.faults c.take_line.new.source) c.take_line.new.window c.print_head.new.window (sink_view g.O.Sink.held g.O.Sink.faults c.args.out.now)
    (sink_view g.O.Sink.held g.O.Sink.faults c.print_head.new.out) moves c.in_ok-take_line.ensures.1 c.in_err-config.ensures)

pub returns-in_err-count : goal.returns-in_err-count
returns-in_err-count g c =
    let p = err_from_is_err_and c.from_residual-in_err-count.result c.from_residual-in_err-count.ensures.1 in
    let moves = rw c.new-window.ensures at c.in_ok-take_line.ensures.0 in
    rw (p.1, p.2) (posts_stop c.args.detail c.in_err-count.field-0.0 (source_view g.S.Source.left g.S.Source.faults c.args.source.now)
    (source_view g.S.Source.left g.S.Source.faults c.take_line.new.source) (source_view g.S.Source.left g.S.Source.faults c.print_posts.new.source) c.take_line.new.window c.print_head.new.window
    c.in_ok-config.config (sink_view g.O.Sink.held g.O.Sink.faults c.args.out.now) (sink_view g.O.Sink.held g.O.Sink.faults c.print_head.new.out)
    (sink_view g.O.Sink.held g.O.Sink.faults c.print_posts.new.out) moves c.in_ok-config.ensures.0 c.in_ok-config.ensures.1 c.in_err-count.ensures)

pub returns : goal.returns
returns g c =
    let moves = rw c.new-window.ensures at c.in_ok-take_line.ensures.0 in
    let posts = c.in_ok-count.ensures in
    let old = source_view g.S.Source.left g.S.Source.faults c.args.source.now in
    let first = source_view g.S.Source.left g.S.Source.faults c.take_line.new.source in
    let now = source_view g.S.Source.left g.S.Source.faults c.print_posts.new.source in
    let new = source_view g.S.Source.left g.S.Source.faults c.print_end.new.source in
    let out = sink_view g.O.Sink.held g.O.Sink.faults c.args.out.now in
    let head = sink_view g.O.Sink.held g.O.Sink.faults c.print_head.new.out in
    let mid = sink_view g.O.Sink.held g.O.Sink.faults c.print_posts.new.out in
    let after = sink_view g.O.Sink.held g.O.Sink.faults c.print_end.new.out in
    let begun =
    has_begun c.args.detail old first now c.take_line.new.window c.print_head.new.window c.print_posts.new.window c.in_ok-config.config posts.0 out head mid moves c.in_ok-config.ensures.0
    c.in_ok-config.ensures.1 posts.1 in
    end_of c.args.detail posts.4.0 old now new c.print_posts.new.window c.in_ok-config.config posts.0 out mid after c.in_ok-count.count c.print_end.result begun posts.2 posts.5 posts.3 posts.4.1
    c.print_end.ensures
