-- The scenario that a number gives. All of it is drawn from the words of the number, one after another; w is the word
-- at each place.
use Rattle.std.specs.Prelude.{ℕ, zero, suc, ◌+◌, ◌-◌, ◌*◌, ◌/◌, ◌%◌, Bool, true, false, List, [], ◌∷◌, ◌++◌, map, replicate, slice_set, codes, None, Some}
use Rattle.std.specs.Int.{w32, to_le_bytes}
use Rattle.std.specs.List.{range_with_len}
use Rattle.hb_base.specs.Numbers.{Numbers, numbers}
use Rattle.hb_base.specs.Limits.{most_nodes, most_rounds, most_posts}
use Rattle.disk_model.specs.declared.plan.Leave.{Leave}
use Rattle.disk_model.specs.declared.plan.Leave.TheVariants.{Old, New, Torn}
use Rattle.net_script.specs.declared.script.Order.TheVariants.{Fifo}
use Rattle.net_script.specs.declared.script.Shape.TheVariants as shapes
use Rattle.net_script.specs.declared.script.Submit.{Submit}
use Rattle.net_script.specs.declared.script.LiarAt.{LiarAt}
use Rattle.net_script.specs.declared.script.Link.{Link}
use Rattle.net_script.specs.Scenario.{Planned, Scenario}
use Rattle.seed_words.specs.Words.{word}

-- 4 to 10 nodes, by the first word
abbrev pub nodes : (ℕ → ℕ) → ℕ
nodes w = 4 + w 0 % 7

-- as many of n nodes as may lie do
abbrev pub faulty : ℕ → ℕ
faulty n = (n - 1) / 3

-- the liars are the last of n nodes
abbrev pub first_liar : ℕ → ℕ
first_liar n = n - faulty n

-- the set of so many nodes from a first one on
abbrev pub nodes_from : ℕ → ℕ → List Bool
nodes_from first zero = replicate most_nodes false
nodes_from first (suc count) = slice_set (nodes_from first count) (first + count) true

abbrev pub liar_marks : ℕ → List Bool
liar_marks n = nodes_from (first_liar n) (faulty n)

-- a run with the number as its seed, by version 1
abbrev pub config : ℕ → (ℕ → ℕ) → Numbers
config number w = numbers (nodes w) (faulty (nodes w)) (2 + w 1 % 4) most_rounds (8 + w 2 % 16) number 1 (liar_marks (nodes w))

-- the eight bytes of the two words from a place on, each with its least byte first
abbrev pub two_words : (ℕ → ℕ) → ℕ → List ℕ
two_words w place = to_le_bytes w32 (w place) ++ to_le_bytes w32 (w (place + 1))

-- 64 transactions at each node, node by node: the t-th of all
abbrev pub submit : (ℕ → ℕ) → ℕ → Submit
submit w t = record { node = t / 64; tx = two_words w (4 + 2 * t) }

abbrev pub submits : ℕ → (ℕ → ℕ) → List Submit
submits n w = map (submit w) (range_with_len 0 (64 * n))

-- where the words of the liars begin, and those of the stops
abbrev pub liars_place : ℕ → ℕ
liars_place n = 4 + 2 * (64 * n)

abbrev pub stops_place : ℕ → ℕ
stops_place n = liars_place n + faulty n

-- the six kinds of liars, numbered from 0
abbrev pub kind_name : ℕ → List ℕ
kind_name zero = codes "silent"
kind_name (suc zero) = codes "equivocate"
kind_name (suc (suc zero)) = codes "echo_split"
kind_name (suc (suc (suc zero))) = codes "bval_both"
kind_name (suc (suc (suc (suc zero)))) = codes "false_share"
kind_name (suc (suc (suc (suc (suc number))))) = codes "babble"

-- the j-th liar: its kind is drawn, and it lies to the end
abbrev pub liar : ℕ → (ℕ → ℕ) → ℕ → LiarAt
liar n w j = record { node = first_liar n + j; name = kind_name (w (liars_place n + j) % 6); hears = most_posts }

abbrev pub liars : ℕ → (ℕ → ℕ) → List LiarAt
liars n w = map (liar n w) (range_with_len 0 (faulty n))

-- every third post of a liar is dropped, every fifth of all comes twice, every seventh late
abbrev pub dropped_from : ℕ → ℕ → Link
dropped_from n j = record { from = Some (first_liar n + j); to = None; every = 3; at = 1; shape = shapes.Drop }

abbrev pub twice_anywhere : Link
twice_anywhere = record { from = None; to = None; every = 5; at = 2; shape = shapes.Twice }

abbrev pub late_anywhere : Link
late_anywhere = record { from = None; to = None; every = 7; at = 3; shape = shapes.Late }

abbrev pub links : ℕ → List Link
links n = map (dropped_from n) (range_with_len 0 (faulty n)) ++ twice_anywhere ∷ late_anywhere ∷ []

-- what a stop leaves, of three
abbrev pub leave : ℕ → Leave
leave zero = Old
leave (suc zero) = New
leave (suc (suc number)) = Torn

-- one stop at a node, by three words: of some actor, at one of the first 40 calls of its disk
abbrev pub plan : ℕ → ℕ → ℕ → ℕ → ℕ → Planned
plan n node first second third = record {
  node = node;
  actor = first % (n + 1);
  stops = record { call = 1 + second % 40; leave = leave (third % 3) } ∷ [];
  faults = [];
}

-- such a stop at each correct node
abbrev pub plan_of : ℕ → (ℕ → ℕ) → ℕ → Planned
plan_of n w node = let place = stops_place n + 3 * node in plan n node (w place) (w (place + 1)) (w (place + 2))

abbrev pub plans : ℕ → (ℕ → ℕ) → List Planned
plans n w = map (plan_of n w) (range_with_len 0 (first_liar n))

-- the scenario that these words give
abbrev pub scenario_by : ℕ → (ℕ → ℕ) → Scenario
scenario_by number w = record {
  config = config number w;
  workers = 1 + w 3 % 3;
  order = Fifo;
  submit = submits (nodes w) w;
  liars = liars (nodes w) w;
  links = links (nodes w);
  plans = plans (nodes w) w;
}

abbrev pub generated : ℕ → Scenario
generated number = scenario_by number (word number 0)
