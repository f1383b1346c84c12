-- What is known of a judge.
use Rattle.std.specs.Prelude.{List}
use Rattle.hb_base.specs.Numbers.{Numbers}
use Rattle.hb_wire.specs.declared.post.Post.{Post}

-- the numbers of the run, and the posts that were judged, in order
pub record JudgeView : Type 0 where
  pub config : Numbers
  pub seen : List Post
