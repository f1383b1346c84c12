use Rattle.std.proofs.Common.{◌≡◌, ◌+◌, ◌*◌, ◌≤◌, ◌++◌, length, All}
use Rattle.trace_text.specs.Text.{posts_text}
use Rattle.trace_reader.specs.Trace.{IsPost}
use Rattle.trace_reader.proofs.posts.posts_at.Given as goal

-- the posts so far and what is left are all
abbrev pub invariant-loop-posts : goal.invariant-loop-posts
invariant-loop-posts l = record {
  each : All IsPost l.posts.items;
  text : l.bytes ≡ posts_text 0 l.posts.items ++ l.rest;
  few : 31 * length l.posts.items + length l.rest ≤ length l.bytes;
}

abbrev pub decreases-loop-posts : goal.decreases-loop-posts
decreases-loop-posts l = length l.rest
