use Rattle.hb_rules.specs.Terms.{AreHeardSpelled}
use Rattle.rbc_judge.specs.Checked.{AreChecked}
use Rattle.judge_cases.proofs.broadcasts.heard_of.Given as goal

-- what is heard so far is spelled, and the branches of its Echoes are checked
abbrev pub invariant-loop-word : goal.invariant-loop-word
invariant-loop-word l = AreHeardSpelled l.config l.heard.items × AreChecked l.config.n l.heard.items
