-- How large a run may be. Each limit is a number here; the constants of the code are equal to these.
use Rattle.std.specs.Prelude.{ℕ, ◌≤◌, List, length}

-- nodes of a run
abbrev pub most_nodes : ℕ
most_nodes = 16

-- nodes that may lie
abbrev pub most_faulty : ℕ
most_faulty = 5

-- epochs of a run
abbrev pub most_epochs : ℕ
most_epochs = 32

-- rounds of one binary agreement
abbrev pub most_rounds : ℕ
most_rounds = 32

-- transactions that a node proposes in one epoch
abbrev pub most_batch : ℕ
most_batch = 64

-- bytes of a transaction
abbrev pub longest_transaction : ℕ
longest_transaction = 256

-- a transaction: 1 to 256 bytes
abbrev pub IsTransaction : List ℕ → Type 0
IsTransaction transaction = (1 ≤ length transaction) × (length transaction ≤ longest_transaction)

-- bytes of a value that is broadcast: a full batch of the longest transactions
abbrev pub longest_value : ℕ
longest_value = 16514

-- bytes of a shard
abbrev pub longest_shard : ℕ
longest_shard = 16520

-- posts of a history, 2 ^ 22
abbrev pub most_posts : ℕ
most_posts = 4194304

-- lies that one liar may tell
abbrev pub most_lies : ℕ
most_lies = 4096

-- bytes of a lie
abbrev pub longest_lie : ℕ
longest_lie = 20000

-- stops planned for one actor
abbrev pub most_stops : ℕ
most_stops = 4

-- faults planned for one actor's disk
abbrev pub most_faults : ℕ
most_faults = 4

-- rules for the links between nodes
abbrev pub most_links : ℕ
most_links = 256

-- bytes of a scenario, 2 ^ 20
abbrev pub longest_scenario : ℕ
longest_scenario = 1048576

-- threads of a node
abbrev pub most_workers : ℕ
most_workers = 4

-- the newest version of the agreement's rules; the oldest is 1
abbrev pub latest_version : ℕ
latest_version = 2
