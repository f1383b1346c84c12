-- Reports of runs: who works, what came to whom, when nothing is left to do, and what a run may have done at most.
use Rattle.std.specs.Prelude.{◌≡◌, ℕ, ◌+◌, ◌-◌, ◌≤◌, Bool, true, false, not, ◌&&◌, ◌||◌, ◌==◌, nat_lt, List, [], length, if◌then◌else◌, map, Contains, Some, slice_get, count_by, sum_by, filter, replicate}
use Rattle.std.specs.List.{list_any, list_all, flat_map, range_with_len}
use Rattle.hb_base.specs.Numbers.{Numbers, numbers}
use Rattle.hb_base.specs.NodeSet.{is_in}
use Rattle.net_script.specs.declared.script.Order.TheVariants.{Fifo}
use Rattle.net_script.specs.declared.script.Shape.{Shape}
use Rattle.net_script.specs.declared.script.Shape.TheVariants.{Once, Twice, Late, Drop}
use Rattle.net_script.specs.declared.script.Script.{Script}
use Rattle.net_script.specs.Delivery.{shape_of}
use Rattle.net_script.specs.Scenario.{told}
use Rattle.hb_wire.specs.declared.vote.Vote.{Vote}
use Rattle.hb_wire.specs.declared.vote.Vote.TheVariants.{Pick, Propose}
use Rattle.hb_wire.specs.declared.post.Post.{Post}
use Rattle.hb_wire.specs.Votes.{epoch_of}
use Rattle.hb_wire.specs.Addresses.{reaches}
use Rattle.hb_rules.specs.declared.report.Fate.{Fate}
use Rattle.hb_rules.specs.declared.report.Fate.TheVariants.{Running, Memory, Journal, Full}
use Rattle.hb_rules.specs.declared.report.End.{End}
use Rattle.hb_rules.specs.declared.report.Report.{Report}
use Rattle.hb_base.specs.Limits.{most_lies}
use Rattle.hb_rules.specs.Claims.{is_any_closing, is_any_decision}
use Rattle.hb_rules.specs.Hearing.{heard_of, own_in}
use Rattle.hb_rules.specs.Pool.{pool_value}
use Rattle.hb_rules.specs.Same.{count}
use Rattle.hb_rules.specs.Slots.{IsIdle}
use Rattle.hb_rules.specs.Owing.{slots_of}
use Rattle.hb_rules.specs.Ledger.{IsCorrect}

-- ---- what the scenario plans

-- the transactions submitted at node i, in the scenario's order
abbrev pub submitted_at : Script → ℕ → List (List ℕ)
submitted_at script i = map (λ s. s.tx) (filter (λ s. s.node == i) script.submit.items)

-- how many stops are planned for actor x of node i
abbrev pub stops_of : Script → ℕ → ℕ → ℕ
stops_of script i x = sum_by (λ p. if (p.node == i) && (p.actor == x) then length p.plan.stops.items else 0) script.plans.items

-- the calls of its disk at which a fault is planned for actor x of node i
abbrev pub faults_of : Script → ℕ → ℕ → List ℕ
faults_of script i x = flat_map (λ p. if (p.node == i) && (p.actor == x) then p.plan.faults.items else []) script.plans.items

abbrev pub is_drop : Shape → Bool
is_drop Once = false
is_drop Twice = false
is_drop Late = false
is_drop Drop = true

-- whether post k comes to actor x of node i: it reaches the actor, and is not dropped on its way
abbrev pub comes_to : Numbers → Script → Post → ℕ → ℕ → ℕ → Bool
comes_to c script post i x k = reaches c.n post i x && not (is_drop (shape_of script.links.items post.from i k))

-- ---- fates

abbrev pub is_running_fate : Fate → Bool
is_running_fate Running = true
is_running_fate Memory = false
is_running_fate Journal = false
is_running_fate Full = false

abbrev pub is_memory_fate : Fate → Bool
is_memory_fate Running = false
is_memory_fate Memory = true
is_memory_fate Journal = false
is_memory_fate Full = false

-- whether actor x of node i works: its end is there, with the fate Running
abbrev pub works : List End → ℕ → ℕ → Bool
works ends i x = list_any (λ end. ((end.node == i) && (end.actor == x)) && is_running_fate end.fate) ends

-- whether no end of node i has another fate
abbrev pub none_ended : List End → ℕ → Bool
none_ended ends i = list_all (λ end. not (end.node == i) || is_running_fate end.fate) ends

-- whether each of the n + 1 actors of node i works, and none has ended
abbrev pub all_work : ℕ → List End → ℕ → Bool
all_work n ends i = list_all (works ends i) (range_with_len 0 (n + 1)) && none_ended ends i

-- whether node i is correct, and each of its actors works
abbrev pub is_running : Report → ℕ → Bool
is_running report i =
    nat_lt i report.config.n && (not (is_in report.config.liars i) && all_work report.config.n report.ends.items i)

-- ---- status

-- what actor x of node i has cast in the run
abbrev pub cast_by : Report → ℕ → ℕ → List Vote
cast_by report i x = own_in report.config i x report.history.items

-- whether the desk of node i has closed the last epoch
abbrev pub has_closed_last : Report → ℕ → Bool
has_closed_last report i = list_any (is_any_closing (report.config.epochs - 1)) (cast_by report i report.config.n)

-- whether a vote picks in the last round
abbrev pub is_last_pick : Numbers → Vote → Bool
is_last_pick c (Pick e r vals) = r == c.rounds - 1
is_last_pick c _ = false

-- whether one has picked in the last round of an epoch in which nothing is decided
abbrev pub is_stuck : Numbers → List Vote → Bool
is_stuck c own = list_any (λ vote. is_last_pick c vote && not (list_any (is_any_decision (epoch_of vote)) own)) own

-- whether a lane of a correct node works and has spent its rounds
abbrev pub has_spent_lane : Report → ℕ → Bool
has_spent_lane report i =
    not (is_in report.config.liars i)
    && list_any (λ j. works report.ends.items i j && is_stuck report.config (cast_by report i j)) (range_with_len 0 report.config.n)

-- whether some correct node runs, and each that runs has closed the last epoch
abbrev pub has_closed_all : Report → Bool
has_closed_all report =
    list_any (is_running report) (range_with_len 0 report.config.n)
    && list_all (λ i. not (is_running report i) || has_closed_last report i) (range_with_len 0 report.config.n)

-- The status of a run: 9 where an actor of a correct node found no memory; else 0 where some correct node runs and each
-- that runs has closed the last epoch; else 5 where a lane of a correct node works and has spent its rounds; else 4.
abbrev pub status_of : Report → ℕ
status_of report =
    if list_any (λ end. not (is_in report.config.liars end.node) && is_memory_fate end.fate) report.ends.items then 9
    else (if has_closed_all report then 0
    else (if list_any (has_spent_lane report) (range_with_len 0 report.config.n) then 5 else 4))

-- ---- nothing is left to do

-- the actors of all correct nodes, by node and then actor
abbrev pub actors : Numbers → List (ℕ × ℕ)
actors c = flat_map (λ i. if is_in c.liars i then [] else map (λ x. (i, x)) (range_with_len 0 (c.n + 1))) (range_with_len 0 c.n)

-- a post of the history that comes to actor x of node i
pub record IsReceived (c : Numbers) (script : Script) (history : List Post) (i x k : ℕ) : Type 0 where
  pub post : Post
  pub stands : slice_get history k ≡ Some post
  pub comes : comes_to c script post i x k ≡ true

-- a post that actor x of node i has to have received: it comes to the actor, and its sender lies or works
pub record IsExpected (report : Report) (i x k : ℕ) : Type 0 where
  pub post : Post
  pub stands : slice_get report.history.items k ≡ Some post
  pub comes : comes_to report.config report.script post i x k ≡ true
  pub sent : (is_in report.config.liars post.from || works report.ends.items post.from post.actor) ≡ true

-- an actor has received all that it has to, and owes nothing
pub record IsSettled (report : Report) (end : End) : Type 0 where
  pub received : (k : ℕ) → IsExpected report end.node end.actor k → Contains end.got.items k
  pub idle : IsIdle (slots_of report.config (submitted_at report.script end.node) end.node end.actor)
      (cast_by report end.node end.actor)
      (heard_of report.config end.node end.actor report.history.items end.got.items)

-- Nothing is left to do: each actor of each correct node has its end, has received only what comes to it, and if it works
-- is settled.
pub record IsQuiet (report : Report) : Type 0 where
  pub ends : map (λ end. (end.node, end.actor)) report.ends.items ≡ actors report.config
  pub got : (end : End) → Contains report.ends.items end → (k : ℕ) → Contains end.got.items k
      → IsReceived report.config report.script report.history.items end.node end.actor k
  pub settled : (end : End) → Contains report.ends.items end → end.fate ≡ Running → IsSettled report end

-- ---- what a run may have done at most

-- a fault is planned for actor x of node i at a call up to this one
pub record HasPlannedFault (script : Script) (i x calls : ℕ) : Type 0 where
  pub call : ℕ
  pub planned : Contains (faults_of script i x) call
  pub met : call ≤ calls

-- Each vote of a correct actor stands at most once more than stops are planned for the actor; each liar's node has few
-- posts; and a journal failed only where a fault was planned for its disk, at a call that it has made.
pub record StaysWithinPlan (report : Report) : Type 0 where
  pub votes : (i x : ℕ) (vote : Vote) → IsCorrect report.config i → count vote (cast_by report i x) ≤ stops_of report.script i x + 1
  pub lies : (a : ℕ) → is_in report.config.liars a ≡ true → count_by (λ post. post.from == a) report.history.items ≤ most_lies
  pub journals : (end : End) → Contains report.ends.items end → end.fate ≡ Journal → HasPlannedFault report.script end.node end.actor end.note

-- each proposal of a correct desk is of the transactions that its pool has, oldest first
pub record FollowsPoolRule (report : Report) : Type 0 where
  pub proposals : (i e : ℕ) (value : List ℕ) → IsCorrect report.config i
      → Contains (cast_by report i report.config.n) (Propose e value)
      → value ≡ pool_value report.config (submitted_at report.script i) e (cast_by report i report.config.n)

-- ---- no run

-- the numbers of one node
abbrev pub one_node : Numbers
one_node = numbers 1 0 1 1 1 0 1 (replicate 16 false)

-- a report of no run
pub record IsEmptyReport (report : Report) : Type 0 where
  pub config : report.config ≡ one_node
  pub scenario_config : (told report.script).config ≡ one_node
  pub workers : report.script.workers ≡ 0
  pub order : report.script.order ≡ Fifo
  pub submit : report.script.submit.items ≡ []
  pub liars : report.script.liars.items ≡ []
  pub links : report.script.links.items ≡ []
  pub plans : report.script.plans.items ≡ []
  pub history : report.history.items ≡ []
  pub ends : report.ends.items ≡ []
  pub status : report.status ≡ 255
