use Rattle.std.proofs.Common.{rules}
use Rattle.node_workers.proofs.node.run_nodes.Goals as goal

-- the closure may be called, since what it captures may be sent and shared
pub serve_all-requires-after_bounds : goal.serve_all-requires-after_bounds
serve_all-requires-after_bounds g c κs within = record {
  at = λ a. (search rules, search rules, search rules, search rules, search rules, search rules, search rules, search rules);
}
