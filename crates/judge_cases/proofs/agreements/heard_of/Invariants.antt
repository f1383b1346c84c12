use Rattle.hb_rules.specs.Terms.{AreHeardSpelled}
use Rattle.aba_judge.specs.Checked.{AreSharesChecked}
use Rattle.judge_cases.proofs.agreements.heard_of.Given as goal

-- what is heard so far is spelled, and its shares are checked
abbrev pub invariant-loop-word : goal.invariant-loop-word
invariant-loop-word l = AreHeardSpelled l.config l.heard.items × AreSharesChecked l.config 0 l.heard.items
