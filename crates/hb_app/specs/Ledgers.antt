-- Ledgers as the text of a run has them. The letters: i and k are nodes of a run with config c.
use Rattle.std.specs.Prelude.{◌≡◌, ℕ, ◌+◌, ◌-◌, ◌<◌, ◌≤◌, ◌⊎◌, Bool, true, List, ◌++◌, length, map, filter, take, drop, slice_index_or, Contains, codes}
use Rattle.std.specs.List.{flat_map, range_with_len}
use Rattle.hb_base.specs.Numbers.{Numbers}
use Rattle.hb_wire.specs.declared.items.Item.{Item}
use Rattle.hb_wire.specs.declared.vote.Vote.TheVariants.{Propose}
use Rattle.hb_wire.specs.declared.post.Post.{Post}
use Rattle.hb_rules.specs.declared.report.Report.{Report}
use Rattle.hb_rules.specs.Hearing.{own_in}
use Rattle.hb_rules.specs.Ledger.{IsCorrect, IsPrefix, IsComplete}
use Rattle.hb_rules.specs.Report.{is_running}
use Rattle.acs_world.specs.Closed.{Closure}
use Rattle.acs_world.specs.Closures.{closure_of, closures}
use Rattle.ledger_text.specs.Lines.{numbers_line, epoch_line, end_line}
use Rattle.ledger_text.specs.Places.{in_lists}
use Rattle.ledger_text.specs.Text.{in_order, item_text, transactions_of, lists_text, ledger_text, state_text, node_text, run_text}

-- ---- where the ledger of a node stands in the text of a run

-- the nodes of a run, in order
abbrev pub nodes_of : Report → List ℕ
nodes_of report = range_with_len 0 report.config.n

-- the first line, and the lines of the nodes before node i
abbrev pub text_before : Report → ℕ → List ℕ
text_before report i = numbers_line (codes "run") report.config ++ flat_map (node_text report) (take i (nodes_of report))

-- the lines of the nodes behind node i, and the last line
abbrev pub text_behind : Report → ℕ → List ℕ
text_behind report i = flat_map (node_text report) (drop (i + 1) (nodes_of report)) ++ end_line report.status

-- the text of a run has the ledger of each correct node behind the lines that say how the node stands, and then come the next
-- nodes
abbrev pub HasLedgers : Report → Type 0
HasLedgers report = (i : ℕ) → IsCorrect report.config i
    → run_text report ≡ text_before report i ++ (state_text report i ++ (ledger_text report.config report.history.items i ++ text_behind report i))

-- the transactions of the lists before a place, and of the first batches of the list there
abbrev pub transactions_before : List Closure → ℕ → Closure → ℕ → List (List ℕ)
transactions_before lists place closure index = in_lists lists place ++ flat_map transactions_of (take index closure.1)

-- their text: the lists before the place, the line of the list there, and its first batches
abbrev pub lines_before : List Closure → ℕ → Closure → ℕ → List ℕ
lines_before lists place closure index =
    lists_text (take place lists)
    ++ (epoch_line closure.0 (length closure.1) ++ in_order item_text transactions_of (in_lists lists place) (take index closure.1))

-- Behind them a ledger has the line of the batch there, and a line of each of its transactions that no batch before has.
pub record HasBatch (lists : List Closure) (place : ℕ) (closure : Closure) (index : ℕ) (item : Item) : Type 0 where
  pub behind : List ℕ
  pub is : lists_text lists ≡ lines_before lists place closure index ++ (item_text (transactions_before lists place closure index) item ++ behind)

-- so it is of each batch of each list of each node's printed ledger
abbrev pub HasBatches : Report → Type 0
HasBatches report = (i place index : ℕ) (closure : Closure) (item : Item) → place < length (closures report.config report.history.items i)
    → closure ≡ slice_index_or (closures report.config report.history.items i) place closure
    → index < length closure.1 → item ≡ slice_index_or closure.1 index item
    → HasBatch (closures report.config report.history.items i) place closure index item

-- ---- what printed ledgers have in common

-- one of two texts begins with the other
abbrev pub IsOneOfOther : List ℕ → List ℕ → Type 0
IsOneOfOther text other = IsPrefix text other ⊎ IsPrefix other text

-- Of any two correct nodes' printed ledgers one begins with the other, byte by byte. The epochs of a printed ledger are 0, 1, 2
-- and so on, each with one list and none left out. Each list has the batches of n - f nodes at least, of each of these one, and
-- what it has of a correct node is what that node's desk proposed for the epoch of the list.
pub record AgreeAsPrinted (c : Numbers) (history : List Post) : Type 0 where
  pub one : (i k : ℕ) → IsCorrect c i → IsCorrect c k → IsOneOfOther (ledger_text c history i) (ledger_text c history k)
  pub epochs : (i : ℕ) → IsCorrect c i
      → map (λ (closure : Closure). closure.0) (closures c history i) ≡ range_with_len 0 (length (closures c history i))
  pub enough : (i : ℕ) (closure : Closure) → IsCorrect c i → Contains (closures c history i) closure → c.n - c.f ≤ length closure.1
  pub nodes : (i : ℕ) (closure : Closure) → IsCorrect c i → Contains (closures c history i) closure
      → (has : ℕ → Bool) × (map (λ (item : Item). item.node) closure.1 ≡ filter has (range_with_len 0 c.n))
  pub unaltered : (i : ℕ) (closure : Closure) (item : Item) → IsCorrect c i → IsCorrect c item.node → Contains (closures c history i) closure
      → Contains closure.1 item → Contains (own_in c item.node c.n history) (Propose closure.0 item.value)

-- the printed ledger of a running node has a list of each epoch up to e, where in each of these all lanes of the node have
-- finished
abbrev pub HasEachPrinted : Report → Type 0
HasEachPrinted report = (i e d : ℕ) → is_running report i ≡ true → IsComplete report.config report.history.items i e → d ≤ e
    → (list : List Item) × Contains (closures report.config report.history.items i) (closure_of d list)
