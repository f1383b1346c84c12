use Rattle.std.proofs.Common.{◌≡◌, ◌==◌, ◌∷◌, [], take, if◌then◌else◌}
use Rattle.std.specs.List.{AllByRecursion, flat_map}
use Rattle.hb_base.specs.ByteLists.{AreBytes}
use Rattle.ledger_run.proofs.submissions.submitted_at.Given as goal

-- the transactions of those that were looked at
abbrev pub invariant-loop-submit : goal.invariant-loop-submit
invariant-loop-submit l = record {
  exact : l.txs.items ≡ flat_map (λ s. if s.node == l.node then s.tx ∷ [] else []) (take l.submit-index l.script.submit.items);
  bytes : AllByRecursion AreBytes l.txs.items;
}
