-- The headline: what stands of a run whose text is printed, whatever was delivered, lost, repeated, reordered, lied or restarted.
use Rattle.std.specs.Prelude.{◌≡◌, true, Contains}
use Rattle.hb_base.specs.NodeSet.{is_in}
use Rattle.net_script.specs.Scenario.{Scenario, told}
use Rattle.hb_rules.specs.declared.report.Report.{Report}
use Rattle.hb_rules.specs.History.{IsLegal}
use Rattle.hb_rules.specs.Ledger.{AreComparable, BatchesAreEnough, AreUnaltered}
use Rattle.hb_rules.specs.Report.{IsQuiet, StaysWithinPlan, FollowsPoolRule, status_of}
use Rattle.hb_rules.specs.Strings.{NoCollision}
use Rattle.lane_progress.specs.Calm.{IsCalm}
use Rattle.quiet_world.specs.Completed.{HasEachCompleted}
use Rattle.quiet_world.specs.Epochs.{EpochsEnd}
use Rattle.quiet_world.specs.Spared.{IsSpared, IsSparedStatus}
use Rattle.accuse.specs.declared.accusation.Accusation.{Accusation}
use Rattle.accuse.specs.Accused.{accused}
use Rattle.trace_text.specs.Text.{trace_text}
use Rattle.trace_reader.specs.Trace.{IsTrace}
use Rattle.step_driver.specs.Running.{EndsFullByCause}
use Rattle.hb_app.specs.Ledgers.{HasLedgers, HasBatches, AgreeAsPrinted, HasEachPrinted}
use Rattle.hb_app.specs.Observers.{ObserversFollow}

-- What was done in a run.
pub record IsKept (report : Report) : Type 0 where
  -- There are few enough posts, all of the n nodes. Each of a correct node spells a vote, and goes where this goes. The actor had
  -- cast it before, or the rules allowed it by what the actor had cast and could hear.
  pub legal : IsLegal report.config report.history.items
  -- Each correct actor has received only what comes to it. One that works has received all of this that liars and working actors
  -- posted, and owes nothing.
  pub quiet : IsQuiet report
  -- A vote of a correct actor is repeated no more often than stops are planned for it. The posts of a liar's node are within
  -- their limit. A journal failed only where a fault was planned.
  pub plan : StaysWithinPlan report
  -- an actor has ended by a full book only where the book is full
  pub full : EndsFullByCause report
  -- each proposal of a correct desk is of the oldest transactions of its pool
  pub rule : FollowsPoolRule report
  -- what `trace` prints is the text of this run and these posts, in the form that `audit` reads
  pub trace : IsTrace (trace_text report) report.config report.history.items

-- What no liar, loss or crash can undo.
pub record IsSafe (report : Report) : Type 0 where
  -- of any two correct nodes' ledgers one begins with the other
  pub ledgers : AreComparable report.config report.history.items
  -- So it is of their printed bytes. The printed epochs are 0, 1, 2 and so on. Each has the batches of n - f nodes at least, and
  -- those of correct nodes as their desks proposed them.
  pub printed : AgreeAsPrinted report.config report.history.items
  -- each list of a correct node's ledger has the batches of n - f nodes at least
  pub enough : BatchesAreEnough report.config report.history.items
  -- what such a list has of a correct node is what that node's desk proposed
  pub unaltered : AreUnaltered report.config report.history.items
  -- of the ledger of an observer of the history and that of a correct node or of another observer one begins with the other
  pub observers : ObserversFollow report.config report.history.items

-- The report of a run of scenario s.
pub record Headline (s : Scenario) (report : Report) : Type 0 where
  -- the run is of this scenario, by its config, and has the status that its definition gives
  pub of : (told report.script ≡ s) × (report.config ≡ s.config) × (report.status ≡ status_of report)
  -- what was done is as above: legal, to its end, and within the plan
  pub kept : IsKept report
  -- where no two strings that count as hashed share a digest, there is one ledger
  pub safe : NoCollision report.config report.history.items → IsSafe report
  -- The text of the run has the ledger of each correct node, with the new transactions of each batch. A running node's ledger
  -- has, also as it is printed, each epoch up to which all lanes of the node have finished.
  pub done : HasLedgers report × HasBatches report × HasEachCompleted report × HasEachPrinted report
  -- in a calm run each running node has closed every epoch, unless a lane of one of them has spent its rounds
  pub calm : IsCalm report → EpochsEnd report
  -- where no two such strings share a digest and nothing of correct nodes was lost, the status is 0, 5 or 9
  pub spared : NoCollision report.config report.history.items → IsSpared report → IsSparedStatus report.status
  -- only liars are accused
  pub fair : (a : Accusation) → Contains (accused report.config report.history.items) a → is_in report.config.liars a.node ≡ true
