-- What is printed of a run. The letters: i is a node of a run with config c.
use Rattle.std.specs.Prelude.{ℕ, ◌==◌, ◌&&◌, not, Bool, List, [], ◌∷◌, ◌++◌, length, if◌then◌else◌, codes}
use Rattle.std.specs.List.{flat_map, range_with_len, list_all}
use Rattle.hb_base.specs.Numbers.{Numbers}
use Rattle.hb_base.specs.NodeSet.{is_in}
use Rattle.tx_pool.specs.Pool.{is_among}
use Rattle.hb_wire.specs.Batches.{batch_of}
use Rattle.hb_wire.specs.declared.items.Item.{Item}
use Rattle.hb_wire.specs.declared.post.Post.{Post}
use Rattle.hb_rules.specs.declared.report.End.{End}
use Rattle.hb_rules.specs.declared.report.Report.{Report}
use Rattle.hb_rules.specs.Pool.{transactions_in}
use Rattle.hb_rules.specs.Report.{is_running, is_running_fate}
use Rattle.acs_world.specs.Closed.{Closure, closing_by, is_enough, is_unaltered}
use Rattle.acs_world.specs.Closures.{closures}
use Rattle.acs_world.specs.Prefixes.{all_alike}
use Rattle.ledger_text.specs.Lines.{numbers_line, node_line, actor_line, epoch_line, batch_line, tx_line, end_line, soak_line, answer_line}

-- ---- ledgers

-- The texts of things that hold transactions, one after another. The text of each is told by the transactions before it: those
-- before all of them, and those of the things before it.
abbrev pub in_order : {X : Type 0} → (List (List ℕ) → X → List ℕ) → (X → List (List ℕ)) → List (List ℕ) → List X → List ℕ
in_order text transactions before [] = []
in_order text transactions before (x ∷ xs) = text before x ++ in_order text transactions (before ++ transactions x) xs

-- a transaction alone
abbrev pub alone : List ℕ → List (List ℕ)
alone tx = tx ∷ []

-- a transaction has a line where it stands for the first time
abbrev pub tx_text : List (List ℕ) → List ℕ → List ℕ
tx_text before tx = if is_among before tx then [] else tx_line tx

-- the batch of node j, by its bytes: how many transactions it has, and those of them that are new
unfoldable pub batch_text : ℕ → List (List ℕ) → List ℕ → List ℕ
batch_text j before value = batch_line j (length (batch_of value)) ++ in_order tx_text alone before (batch_of value)

abbrev pub item_text : List (List ℕ) → Item → List ℕ
item_text before item = batch_text item.node before item.value

abbrev pub transactions_of : Item → List (List ℕ)
transactions_of item = batch_of item.value

-- a list: its epoch, how many batches it has, and each of them
unfoldable pub list_text : List (List ℕ) → Closure → List ℕ
list_text before closure =
    epoch_line closure.0 (length closure.1) ++ in_order item_text transactions_of before closure.1

abbrev pub closed_transactions : Closure → List (List ℕ)
closed_transactions closure = transactions_in closure.1

-- a ledger, by its lists
abbrev pub lists_text : List Closure → List ℕ
lists_text lists = in_order list_text closed_transactions [] lists

-- the ledger of node i
abbrev pub ledger_text : Numbers → List Post → ℕ → List ℕ
ledger_text c posts i = lists_text (closures c posts i)

-- ---- a run

-- an actor of node i that has ended
abbrev pub end_text : ℕ → End → List ℕ
end_text i end = if (end.node == i) && not (is_running_fate end.fate) then actor_line end.actor end.fate else []

-- whether node i runs, and if not, which of its actors have ended
unfoldable pub state_text : Report → ℕ → List ℕ
state_text report i =
    if is_running report i then node_line i (codes "running")
    else node_line i (codes "ended") ++ flat_map (end_text i) report.ends.items

-- of a liar no more than that it is one; else the state and the ledger of node i
unfoldable pub node_text : Report → ℕ → List ℕ
node_text report i =
    if is_in report.config.liars i then node_line i (codes "liar")
    else state_text report i ++ ledger_text report.config report.history.items i

-- the whole text of a run
unfoldable pub run_text : Report → List ℕ
run_text report =
    numbers_line (codes "run") report.config ++ (flat_map (node_text report) (range_with_len 0 report.config.n) ++ end_line report.status)

-- ---- a generated run

-- whether each list of a correct node's ledger has batches enough
abbrev pub all_enough : Numbers → List Post → Bool
all_enough c posts = list_all (λ post. is_enough c (closing_by c post)) posts

-- whether what each has of a correct node is what that node's desk proposed
abbrev pub all_unaltered : Numbers → List Post → Bool
all_unaltered c posts = list_all (λ post. is_unaltered c posts (closing_by c post)) posts

-- the whole text of a run of this number: whether the ledgers agree, by the three tests of ledgers
unfoldable pub soak_text : ℕ → Report → List ℕ
soak_text number report =
    let c = report.config in
    let posts = report.history.items in
    soak_line number c report.script.workers
    ++ (answer_line (codes "comparable") (all_alike c posts)
    ++ (answer_line (codes "batches") (all_enough c posts)
    ++ (answer_line (codes "unaltered") (all_unaltered c posts) ++ end_line report.status)))
