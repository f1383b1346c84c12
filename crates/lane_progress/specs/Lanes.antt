-- What the lanes of running nodes have heard and cast in a calm run. The letters: i is a node of a run with config c, x an actor,
-- j a lane.
use Rattle.std.specs.Prelude.{◌≡◌, ℕ, ◌-◌, ◌<◌, ◌≤◌, Bool, true, ◌&&◌, ◌==◌, List, [], Option, None, Some, Contains, find}
use Rattle.hb_base.specs.Counting.{count_nodes}
use Rattle.hb_base.specs.Numbers.{Numbers, AreSound}
use Rattle.hb_wire.specs.declared.post.Post.{Post}
use Rattle.hb_rules.specs.declared.report.End.{End}
use Rattle.hb_rules.specs.declared.report.Report.{Report}
use Rattle.hb_rules.specs.Hearing.{Hearing, heard_in, heard_of, own_in}
use Rattle.hb_rules.specs.History.{IsLegal}
use Rattle.hb_rules.specs.Ledger.{IsCorrect}
use Rattle.hb_rules.specs.Owing.{lane_slots}
use Rattle.hb_rules.specs.Slots.{IsIdle}
use Rattle.hb_rules.specs.Strings.{NoCollision}

-- Lane j in a calm run: `runs` says which nodes run, and `heard` what the lane of each of them has heard since it began or was
-- restarted. It is something of the history, and all that running nodes posted for the lane is among it, in any order and any
-- number of times. Each of them owes nothing.
pub record IsQuietLane (c : Numbers) (j : ℕ) (history : List Post) (runs : ℕ → Bool) (heard : ℕ → List Hearing) : Type 0 where
  pub sound : AreSound c
  pub legal : IsLegal c history
  pub apart : NoCollision c history
  pub lane : j < c.n
  pub many : c.n - c.f ≤ count_nodes c.n runs
  pub correct : (i : ℕ) → runs i ≡ true → IsCorrect c i
  pub posted : (i : ℕ) (h : Hearing) → runs i ≡ true → Contains (heard i) h → Contains (heard_in c i j history) h
  pub hears : (i : ℕ) (h : Hearing) → runs i ≡ true → runs h.from ≡ true → Contains (heard_in c i j history) h → Contains (heard i) h
  pub idle : (i : ℕ) → runs i ≡ true → IsIdle (lane_slots c i j) (own_in c i j history) (heard i)

-- whether an end is that of actor x of node i
abbrev pub is_end_of : ℕ → ℕ → End → Bool
is_end_of i x end = (end.node == i) && (end.actor == x)

-- the numbers of the posts that were received by an end, if there is one
abbrev pub got_by : Option End → List ℕ
got_by None = []
got_by (Some end) = end.got.items

-- the numbers of the posts that actor x of node i has received, by its end, in order
abbrev pub received_by : Report → ℕ → ℕ → List ℕ
received_by report i x = got_by (find (is_end_of i x) report.ends.items)

-- what lane j of node i heard of the posts that it has received, in order
abbrev pub heard_at : Report → ℕ → ℕ → List Hearing
heard_at report j i = heard_of report.config i j report.history.items (received_by report i j)
