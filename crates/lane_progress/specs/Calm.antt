-- Calm runs: nothing is left to do, and nothing was lost on its way between the nodes that run.
use Rattle.std.specs.Prelude.{◌≡◌, ℕ, ◌-◌, ◌≤◌, true, false, Some, slice_get}
use Rattle.hb_base.specs.Counting.{count_nodes}
use Rattle.hb_base.specs.Numbers.{AreSound}
use Rattle.net_script.specs.Delivery.{shape_of}
use Rattle.hb_wire.specs.declared.post.Post.{Post}
use Rattle.hb_rules.specs.declared.report.Report.{Report}
use Rattle.hb_rules.specs.History.{IsLegal}
use Rattle.hb_rules.specs.Report.{is_drop, is_running, IsQuiet}
use Rattle.hb_rules.specs.Strings.{NoCollision}

-- The report of a run whose running nodes lose nothing of one another's posts. Its history is legal, and no two hashed strings
-- share a digest. At least n - f nodes run, and no rule on links drops a post of one of them towards another, whether the post
-- is addressed there or not.
pub record IsLossless (report : Report) : Type 0 where
  pub sound : AreSound report.config
  pub legal : IsLegal report.config report.history.items
  pub apart : NoCollision report.config report.history.items
  pub many : report.config.n - report.config.f ≤ count_nodes report.config.n (is_running report)
  pub whole : (i k : ℕ) (post : Post) → is_running report i ≡ true → is_running report post.from ≡ true
      → slice_get report.history.items k ≡ Some post → is_drop (shape_of report.script.links.items post.from i k) ≡ false

-- the report of a calm run: its running nodes lose nothing, and nothing is left to do
pub record IsCalm (report : Report) : Type 0 where
  pub lossless : IsLossless report
  pub quiet : IsQuiet report
