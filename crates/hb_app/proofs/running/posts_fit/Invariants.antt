use Rattle.std.proofs.Common.{ℕ, ◌<◌, slice_index_or}
use Rattle.hb_wire.specs.declared.post.Post.{Post}
use Rattle.trace_reader.specs.Trace.{IsPost}
use Rattle.hb_app.proofs.running.posts_fit.Given as goal

-- the posts that were gone through
abbrev pub invariant-loop-post : goal.invariant-loop-post
invariant-loop-post l = (k : ℕ) (d : Post) → k < l.post-index → IsPost (slice_index_or l.posts k d)
