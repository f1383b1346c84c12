-- The report of a run with its status.
use Rattle.std.proofs.Common.{◌≡◌, ℕ, ◌<◌, ◌^◌, Bool, true, false, List, [], ◌∷◌, length, replicate, slice_set, All, Contains, refl, ap, ◌∙◌}
use Rattle.std.proofs.lemmas.List.{length-replicate, length-set}
use Rattle.hb_base.specs.Limits.{most_nodes}
use Rattle.hb_base.specs.NodeSet.{is_in}
use Rattle.hb_base.specs.Numbers.{Numbers, AreSound}
use Rattle.net_script.specs.declared.script.Script.{Script}
use Rattle.net_script.specs.declared.script.LiarAt.{LiarAt}
use Rattle.net_script.specs.Scenario.{told}
use Rattle.net_script.specs.Sound.{IsScenario, with_nodes_of}
use Rattle.hb_rules.specs.declared.report.Report.{Report}
use Rattle.hb_rules.specs.Ledger.{AreComparable, BatchesAreEnough, AreUnaltered}
use Rattle.hb_rules.specs.History.{IsLegal}
use Rattle.hb_rules.specs.Report.{IsQuiet, StaysWithinPlan, status_of}
use Rattle.hb_rules.specs.Strings.{NoCollision}
use Rattle.lane_progress.specs.Calm.{IsCalm}
use Rattle.quiet_world.specs.Completed.{HasEachCompleted}
use Rattle.quiet_world.specs.Epochs.{EpochsEnd}
use Rattle.quiet_world.specs.Spared.{IsSpared, IsSparedStatus}
use Rattle.accuse.specs.declared.accusation.Accusation.{Accusation}
use Rattle.accuse.specs.Accused.{accused}
use Rattle.trace_text.specs.Text.{trace_text}
use Rattle.trace_reader.specs.Trace.{IsConfig, IsPost, IsTrace}
use Rattle.ledger_run.specs.Run.{IsRunOf}
use Rattle.hb_app.specs.Headline.{Headline}
use Rattle.hb_app.specs.Observers.{ObserversFollow}
use Rattle.hb_app.proofs.Ledgers.{has_ledgers, has_batches, agree_as_printed, each_printed}

abbrev pub with_status : Report → ℕ → Report
with_status made status = record { config = made.config; script = made.script; history = made.history; ends = made.ends; status = status }

-- what does not look at the status stays
quiet_with : (made : Report) (status : ℕ) → IsQuiet made → IsQuiet (with_status made status)
quiet_with made status quiet = record {
  ends = quiet.ends;
  got = quiet.got;
  settled = λ end stands fate.
      let settled = quiet.settled end stands fate in
      record { received = λ k expected. settled.received k (record { post = expected.post; stands = expected.stands; comes = expected.comes; sent = expected.sent }); idle = settled.idle };
}

plan_with : (made : Report) (status : ℕ) → StaysWithinPlan made → StaysWithinPlan (with_status made status)
plan_with made status plan = record { votes = plan.votes; lies = plan.lies; journals = plan.journals }

-- ---- its text

-- a set keeps its size as nodes come to it
set_size : (set : List Bool) (liars : List LiarAt) → length (with_nodes_of set liars) ≡ length set
set_size set [] = refl
set_size set (liar ∷ liars) =
    set_size (slice_set set liar.node true) liars ∙ length-set set liar.node true

-- the numbers and the posts are such as a text tells
pub record AreTold (made : Report) : Type 0 where
  pub config : IsConfig made.config
  pub each : All IsPost made.history.items

pub text_tells : (s : Script) (made : Report) → IsScenario (told s) → made.config ≡ s.config → AreSound made.config → made.config.seed < 2 ^ 64
    → All IsPost made.history.items → AreTold made
text_tells s made scenario same sound seed each = record { config = record { sound = sound; seed = seed; marks = marks }; each = each }
  where
    marks : length made.config.liars ≡ most_nodes
    marks =
        ap (λ (c : Numbers). length c.liars) same ∙ ap (λ (set : List Bool). length set) scenario.lie
        ∙ set_size (replicate most_nodes false) s.liars.items ∙ length-replicate {A = Bool} most_nodes false

trace_with : (made : Report) (status : ℕ) → AreTold made → IsTrace (trace_text (with_status made status)) made.config made.history.items
unfolding trace_text
trace_with made status told = record { config = told.config; each = told.each; text = refl }

pub headline : (s : Script) (made : Report) (status : ℕ) → IsRunOf s made → status ≡ status_of made → AreSound made.config → AreTold made
    → (NoCollision made.config made.history.items → AreComparable made.config made.history.items)
    → (NoCollision made.config made.history.items → BatchesAreEnough made.config made.history.items)
    → (NoCollision made.config made.history.items → AreUnaltered made.config made.history.items)
    → (NoCollision made.config made.history.items → ObserversFollow made.config made.history.items)
    → HasEachCompleted made → ((report : Report) → IsCalm report → EpochsEnd report)
    → ((report : Report) → AreSound report.config → IsLegal report.config report.history.items → NoCollision report.config report.history.items
    → IsQuiet report → StaysWithinPlan report → IsSpared report → report.status ≡ status_of report → IsSparedStatus report.status)
    → ((a : Accusation) → Contains (accused made.config made.history.items) a → is_in made.config.liars a.node ≡ true)
    → Headline (told s) (with_status made status)
headline s made status run is sound text comparable enough unaltered observers complete ends spared accused = record {
  of = (ap told run.script, run.config, is);
  kept = record {
    legal = run.legal;
    quiet = quiet_with made status run.quiet;
    plan = plan_with made status run.plan;
    full = record { full = run.full.full };
    rule = record { proposals = run.rule.proposals };
    trace = trace_with made status text;
  };
  safe = λ apart. record {
    ledgers = comparable apart;
    printed = agree_as_printed made.config made.history.items sound run.legal apart;
    enough = enough apart;
    unaltered = unaltered apart;
    observers = observers apart;
  };
  done = (has_ledgers (with_status made status), has_batches (with_status made status), complete, each_printed (with_status made status) run.legal (quiet_with made status run.quiet));
  calm = λ calm. ends (with_status made status) calm;
  spared = λ apart safe. spared (with_status made status) sound run.legal apart (quiet_with made status run.quiet) (plan_with made status run.plan) safe is;
  fair = accused;
}
