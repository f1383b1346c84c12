use Rattle.std.proofs.Common.{[], ◌∷◌, ◌++◌, refl, arith, length-append}
use Rattle.std.proofs.lemmas.Result.{err_from_is_err_and}
use Rattle.input_reader.specs.Streams.{source_view}
use Rattle.votes_app.specs.Streams.{sink_view}
use Rattle.votes_app.proofs.PostLemmas.{none_printed, more_taken, line_stops_in, post_stops_in, more_printed, less_left, posts_end}
use Rattle.votes_app.proofs.posts.print_posts.Goals as goal

pub posts-init : goal.posts-init
posts-init g c = (
  [],
  refl,
  omega (arith, c.requires),
  none_printed c.args.detail c.args.config.now (source_view g.S.Source.left g.S.Source.faults c.args.source.now) c.args.window.now (sink_view g.O.Sink.held g.O.Sink.faults c.args.out.now),
)

pub returns-in_err-take_line : goal.returns-in_err-take_line
returns-in_err-take_line g c =
    let p = err_from_is_err_and c.from_residual.result c.from_residual.ensures.1 in
    let i = c.posts.invariant in
    rw (p.1, p.2) (line_stops_in c.args.detail c.args.config.now i.0 c.in_err-take_line.field-0.0 (source_view g.S.Source.left g.S.Source.faults c.args.source.now)
    (source_view g.S.Source.left g.S.Source.faults c.posts.source) (source_view g.S.Source.left g.S.Source.faults c.take_line.new.source) c.args.window.now c.posts.window c.take_line.new.window
    (sink_view g.O.Sink.held g.O.Sink.faults c.args.out.now) (sink_view g.O.Sink.held g.O.Sink.faults c.posts.out) i.3 c.in_err-take_line.ensures)

pub returns-in_err-printed : goal.returns-in_err-printed
returns-in_err-printed g c =
    let p = err_from_is_err_and c.from_residual-in_err-printed.result c.from_residual-in_err-printed.ensures.1 in
    let i = c.posts.invariant in
    let old = source_view g.S.Source.left g.S.Source.faults c.args.source.now in
    let now = source_view g.S.Source.left g.S.Source.faults c.posts.source in
    let new = source_view g.S.Source.left g.S.Source.faults c.take_line.new.source in
    let out = sink_view g.O.Sink.held g.O.Sink.faults c.args.out.now in
    let mid = sink_view g.O.Sink.held g.O.Sink.faults c.posts.out in
    let after = sink_view g.O.Sink.held g.O.Sink.faults c.print_post.new.out in
    let more = more_taken c.args.detail c.args.config.now i.0 old now new c.args.window.now c.posts.window c.take_line.new.window out mid i.3 c.in_ok-take_line.ensures.0 in
    rw (p.1, p.2) (post_stops_in c.args.detail c.args.config.now i.0 c.posts.count c.in_err-printed.field-0.0 old new c.args.window.now c.take_line.new.window c.print_post.new.window out mid after i.1 more
    c.in_err-printed.ensures)

pub returns-then-not-printed : goal.returns-then-not-printed
returns-then-not-printed g c =
    let i = c.posts.invariant in
    let old = source_view g.S.Source.left g.S.Source.faults c.args.source.now in
    let now = source_view g.S.Source.left g.S.Source.faults c.posts.source in
    let new = source_view g.S.Source.left g.S.Source.faults c.take_line.new.source in
    let out = sink_view g.O.Sink.held g.O.Sink.faults c.args.out.now in
    let mid = sink_view g.O.Sink.held g.O.Sink.faults c.posts.out in
    let after = sink_view g.O.Sink.held g.O.Sink.faults c.print_post.new.out in
    let more = more_taken c.args.detail c.args.config.now i.0 old now new c.args.window.now c.posts.window c.take_line.new.window out mid i.3 c.in_ok-take_line.ensures.0 in
    posts_end c.args.detail c.args.config.now i.0 c.posts.count c.in_ok-take_line.field-0 old new c.args.window.now c.take_line.new.window c.print_post.new.window out mid after more i.1 (omega (arith, i.2))
    (rw c.if-not-printed.true at c.in_ok-printed.ensures) c.in_ok-take_line.ensures.1

pub posts-smaller : goal.posts-smaller
posts-smaller g c =
    let now = source_view g.S.Source.left g.S.Source.faults c.posts.source in
    let new = source_view g.S.Source.left g.S.Source.faults c.take_line.new.source in
    let t = rw c.if-not-printed.false at c.in_ok-printed.ensures in
    less_left now new c.posts.count t.0 c.posts.window c.take_line.new.window c.print_post.new.window c.in_ok-take_line.ensures.0 t.1

pub posts-preserved : goal.posts-preserved
posts-preserved g c =
    let i = c.posts.invariant in
    let old = source_view g.S.Source.left g.S.Source.faults c.args.source.now in
    let now = source_view g.S.Source.left g.S.Source.faults c.posts.source in
    let new = source_view g.S.Source.left g.S.Source.faults c.take_line.new.source in
    let out = sink_view g.O.Sink.held g.O.Sink.faults c.args.out.now in
    let mid = sink_view g.O.Sink.held g.O.Sink.faults c.posts.out in
    let after = sink_view g.O.Sink.held g.O.Sink.faults c.print_post.new.out in
    let more = more_taken c.args.detail c.args.config.now i.0 old now new c.args.window.now c.posts.window c.take_line.new.window out mid i.3 c.in_ok-take_line.ensures.0 in
    let t = rw c.if-not-printed.false at c.in_ok-printed.ensures in
    let less = less_left now new c.posts.count t.0 c.posts.window c.take_line.new.window c.print_post.new.window c.in_ok-take_line.ensures.0 t.1 in (
      i.0 ++ t.0 ∷ [],
      omega (arith, i.1, length-append i.0 (t.0 ∷ [])),
      omega (arith, i.2, less),
      more_printed c.args.detail c.args.config.now i.0 c.posts.count t.0 old new c.args.window.now c.take_line.new.window c.print_post.new.window out mid after i.1 more t.1 t.2,
    )
