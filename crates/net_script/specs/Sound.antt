-- What holds of every scenario.
use Rattle.std.specs.Prelude.{◌≡◌, ◌≢◌, ◌⊎◌, ℕ, ◌+◌, ◌<◌, ◌≤◌, ◌==◌, Bool, true, false, List, [], ◌∷◌, length, replicate, slice_set, IfSome}
use Rattle.std.specs.List.{All, AllPairs, list_any}
use Rattle.hb_base.specs.NodeSet.{is_in}
use Rattle.hb_base.specs.Limits.{most_nodes, most_workers, most_posts}
use Rattle.hb_base.specs.Limits.{most_links, most_stops, most_faults, IsTransaction}
use Rattle.hb_base.specs.Numbers.{IsBetween}
use Rattle.net_script.specs.declared.script.Submit.{Submit}
use Rattle.net_script.specs.declared.script.LiarAt.{LiarAt}
use Rattle.net_script.specs.declared.script.Link.{Link}
use Rattle.net_script.specs.Scenario.{Planned, Scenario}

-- a transaction at one of n nodes
pub record IsSubmit (n : ℕ) (submit : Submit) : Type 0 where
  pub node : submit.node < n
  pub tx : IsTransaction submit.tx

pub record IsLiar (n : ℕ) (liar : LiarAt) : Type 0 where
  pub node : liar.node < n
  pub hears : liar.hears ≤ most_posts

-- liars at two nodes
abbrev pub AreApart : LiarAt → LiarAt → Type 0
AreApart liar other = liar.node ≢ other.node

pub record IsLink (n : ℕ) (link : Link) : Type 0 where
  pub from : IfSome link.from (λ node. node < n)
  pub to : IfSome link.to (λ node. node < n)
  pub every : IsBetween 1 65536 link.every
  pub at : link.at < link.every

-- a number of a device call
abbrev pub IsNumbered : ℕ → Type 0
IsNumbered call = IsBetween 1 1000000 call

-- the entry of an actor, at a node that doesn't lie: its disk stops or fails somewhere, and not too often
pub record IsPlan (n : ℕ) (liars : List Bool) (entry : Planned) : Type 0 where
  pub node : entry.node < n
  pub correct : is_in liars entry.node ≡ false
  pub actor : entry.actor ≤ n
  pub some : 1 ≤ length entry.stops + length entry.faults
  pub stops : All (λ stop. IsNumbered stop.call) entry.stops
  pub few_stops : length entry.stops ≤ most_stops
  pub faults : All IsNumbered entry.faults
  pub few_faults : length entry.faults ≤ most_faults

-- by node and then actor, and no actor twice
abbrev pub IsBefore : Planned → Planned → Type 0
IsBefore entry later = (entry.node < later.node) ⊎ ((entry.node ≡ later.node) × (entry.actor < later.actor))

-- the set of the nodes that lie, beside those of a set
abbrev pub with_nodes_of : List Bool → List LiarAt → List Bool
with_nodes_of set [] = set
with_nodes_of set (liar ∷ liars) = with_nodes_of (slice_set set liar.node true) liars

abbrev pub nodes_of : List LiarAt → List Bool
nodes_of liars = with_nodes_of (replicate most_nodes false) liars

-- What holds of a scenario besides what holds of its config: its submissions, liars and rules are of its nodes, no node
-- lies twice, the nodes that lie are those of its liars, and each actor at another node has at most one plan.
pub record IsScenario (s : Scenario) : Type 0 where
  pub workers : s.workers ≤ most_workers
  pub submit : All (IsSubmit s.config.n) s.submit
  pub liars : All (IsLiar s.config.n) s.liars
  pub few : length s.liars ≤ s.config.f
  pub apart : AllPairs AreApart s.liars
  pub lie : s.config.liars ≡ nodes_of s.liars
  pub liars_lie : (node : ℕ) → is_in s.config.liars node ≡ list_any (λ liar. liar.node == node) s.liars
  pub links : All (IsLink s.config.n) s.links
  pub few_links : length s.links ≤ most_links
  pub plans : All (IsPlan s.config.n s.config.liars) s.plans
  pub in_order : AllPairs IsBefore s.plans
