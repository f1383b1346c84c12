use Rattle.std.proofs.Common.{◌≡◌, take}
use Rattle.hb_rules.specs.History.{IsLegal}
use Rattle.history_verdict.proofs.audit.judge_all.Given as goal

abbrev pub invariant-loop-number : goal.invariant-loop-number
invariant-loop-number g l = record {
  config : g.J.Judge.config l.judge ≡ g.J.Judge.config l.fn.judge;
  seen : g.J.Judge.seen l.judge ≡ take l.number l.posts;
  legal : IsLegal (g.J.Judge.config l.fn.judge) (take l.number l.posts);
}
