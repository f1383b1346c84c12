-- Ledgers: the lists with which a desk closed its epochs, and what correct nodes' ledgers have in common.
use Rattle.std.specs.Prelude.{◌≡◌, ℕ, ◌-◌, ◌<◌, ◌≤◌, ◌⊎◌, true, false, List, ◌++◌, length, Contains, filter_map}
use Rattle.std.specs.List.{list_any, flat_map, range_with_len}
use Rattle.hb_base.specs.Numbers.{Numbers}
use Rattle.hb_base.specs.NodeSet.{is_in}
use Rattle.tx_pool.specs.Calls.{first_places}
use Rattle.hb_wire.specs.declared.items.Item.{Item}
use Rattle.hb_wire.specs.declared.vote.Vote.{Vote}
use Rattle.hb_wire.specs.declared.vote.Vote.TheVariants.{Propose, Closed}
use Rattle.hb_wire.specs.declared.post.Post.{Post}
use Rattle.hb_base.specs.Limits.{most_epochs}
use Rattle.hb_rules.specs.Claims.{closed_with, is_decision, is_any_decision, is_any_delivery}
use Rattle.hb_rules.specs.Hearing.{own_in}
use Rattle.hb_rules.specs.Pool.{transactions_in}
use Rattle.hb_rules.specs.Same.{firsts}

-- the ledger of node i: the lists of its desk's Closed votes, in the order of the epochs
abbrev pub ledger : Numbers → List Post → ℕ → List (List Item)
ledger c history i = flat_map (λ e. filter_map (closed_with e) (firsts (own_in c i c.n history))) (range_with_len 0 most_epochs)

-- the transactions of a ledger's batches in order, each at its first place only
abbrev pub ledger_transactions : List (List Item) → List (List ℕ)
ledger_transactions lists = first_places (flat_map transactions_in lists)

-- a list begins with another
pub record IsPrefix {A : Type 0} (front whole : List A) : Type 0 where
  pub rest : List A
  pub is : whole ≡ front ++ rest

-- a node of the run that is not named a liar
pub record IsCorrect (c : Numbers) (i : ℕ) : Type 0 where
  pub known : i < c.n
  pub honest : is_in c.liars i ≡ false

-- of any two correct nodes' ledgers one begins with the other
abbrev pub AreComparable : Numbers → List Post → Type 0
AreComparable c history = (i k : ℕ) → IsCorrect c i → IsCorrect c k
    → IsPrefix (ledger c history i) (ledger c history k) ⊎ IsPrefix (ledger c history k) (ledger c history i)

-- each list of a correct node's ledger has the batches of n - f nodes at least
abbrev pub BatchesAreEnough : Numbers → List Post → Type 0
BatchesAreEnough c history = (i : ℕ) (list : List Item) → IsCorrect c i → Contains (ledger c history i) list → c.n - c.f ≤ length list

-- what a correct node's ledger has of a correct node in an epoch is what that node's desk proposed for it
abbrev pub AreUnaltered : Numbers → List Post → Type 0
AreUnaltered c history = (i e : ℕ) (list : List Item) (item : Item) → IsCorrect c i → IsCorrect c item.node
    → Contains (own_in c i c.n history) (Closed e list) → Contains list item
    → Contains (own_in c item.node c.n history) (Propose e item.value)

-- a lane has decided in an epoch, and where it decided 1 it has delivered
pub record HasFinished (e : ℕ) (own : List Vote) : Type 0 where
  pub decided : list_any (is_any_decision e) own ≡ true
  pub delivered : list_any (is_decision e true) own ≡ true → list_any (is_any_delivery e) own ≡ true

-- in each epoch up to e all lanes of node i have finished
abbrev pub IsComplete : Numbers → List Post → ℕ → ℕ → Type 0
IsComplete c history i e = (d j : ℕ) → d ≤ e → j < c.n → HasFinished d (own_in c i j history)
