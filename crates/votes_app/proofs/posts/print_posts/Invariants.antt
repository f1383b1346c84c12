use Rattle.std.proofs.Common.{◌≡◌, ◌+◌, ◌≤◌, List, length}
use Rattle.hb_wire.specs.declared.post.Post.{Post}
use Rattle.input_reader.specs.Streams.{source_view}
use Rattle.trace_reader.specs.Trace.{longest_trace}
use Rattle.votes_app.specs.Steps.{ArePrinted}
use Rattle.votes_app.specs.Streams.{sink_view}
use Rattle.votes_app.proofs.posts.print_posts.Given as goal

-- the posts before this one are printed, and there are not too many
abbrev pub invariant-posts : goal.invariant-posts
invariant-posts g l =
    (posts : List Post) × (length posts ≡ l.count) × (l.count + length l.window.bytes + l.window.budget ≤ longest_trace + 1)
    × ArePrinted l.detail l.config posts (source_view g.S.Source.left g.S.Source.faults l.fn.source) (source_view g.S.Source.left g.S.Source.faults l.source)
    l.fn.window l.window (sink_view g.O.Sink.held g.O.Sink.faults l.fn.out) (sink_view g.O.Sink.held g.O.Sink.faults l.out)

abbrev pub decreases-posts : goal.decreases-posts
decreases-posts g l = length l.window.bytes + l.window.budget
