-- Runs in which nothing of correct nodes is lost, and the statuses that they can have. The letters: i is a node, x its actor.
use Rattle.std.specs.Prelude.{◌≡◌, ◌⊎◌, ℕ, true, [], Contains, Some}
use Rattle.hb_base.specs.NodeSet.{is_in}
use Rattle.net_script.specs.declared.script.Link.{Link}
use Rattle.net_script.specs.declared.script.Shape.TheVariants.{Drop}
use Rattle.hb_rules.specs.declared.report.End.{End}
use Rattle.hb_rules.specs.declared.report.Fate.TheVariants.{Full}
use Rattle.hb_rules.specs.declared.report.Report.{Report}
use Rattle.hb_rules.specs.Ledger.{IsCorrect}
use Rattle.hb_rules.specs.Report.{faults_of}

-- a rule on links names a liar as the node that posts
pub record IsOfLiar (report : Report) (link : Link) : Type 0 where
  pub node : ℕ
  pub named : link.from ≡ Some node
  pub lies : is_in report.config.liars node ≡ true

-- each rule on links that drops posts drops those of a liar
abbrev pub DropsAreOfLiars : Report → Type 0
DropsAreOfLiars report = (link : Link) → Contains report.script.links.items link → link.shape ≡ Drop → IsOfLiar report link

-- no fault is planned for the disk of an actor of a correct node
abbrev pub NoFaultIsPlanned : Report → Type 0
NoFaultIsPlanned report = (i x : ℕ) → IsCorrect report.config i → faults_of report.script i x ≡ []

-- no actor has ended by a full book
abbrev pub NoneEndsFull : Report → Type 0
NoneEndsFull report = (end : End) → Contains report.ends.items end → end.fate ≡ Full → ⊥

-- A run in which nothing of correct nodes is lost: none of their posts is dropped, none of their disks fails, and there was room
-- for what they posted. Stops, and posts that come twice or late, may be.
pub record IsSpared (report : Report) : Type 0 where
  pub drops : DropsAreOfLiars report
  pub faults : NoFaultIsPlanned report
  pub room : NoneEndsFull report

-- 0 where every running node has closed the last epoch, 5 where a lane has spent its rounds, 9 where an actor of a correct node
-- found no memory
abbrev pub IsSparedStatus : ℕ → Type 0
IsSparedStatus status = (status ≡ 0) ⊎ (status ≡ 5) ⊎ (status ≡ 9)
