-- The observers of a run, one beside each node, and what they have in common. The letters: e is an epoch, i and k are nodes, c is
-- the config of the run.
use Rattle.std.specs.Prelude.{◌≡◌, ℕ, ◌+◌, ◌-◌, ◌<◌, ◌≤◌, ◌&&◌, ◌||◌, not, nat_le, Bool, true, List, [], ◌∷◌, length, Contains, Option, Some, None, slice_get, slice_index_or, if◌then◌else◌}
use Rattle.std.specs.List.{list_all, range_with_len}
use Rattle.hb_base.specs.Numbers.{Numbers}
use Rattle.net_script.specs.declared.script.Link.{Link}
use Rattle.net_script.specs.Delivery.{shape_of}
use Rattle.hb_wire.specs.declared.items.Item.{Item}
use Rattle.hb_wire.specs.declared.post.Post.{Post}
use Rattle.hb_rules.specs.declared.report.Report.{Report}
use Rattle.hb_rules.specs.Lanes.{is_correct}
use Rattle.hb_rules.specs.Ledger.{IsCorrect, ledger}
use Rattle.hb_rules.specs.Report.{is_drop}
use Rattle.acs_world.specs.Prefixes.{are_alike}
use Rattle.observer.specs.Agreeing.{AreTwoOfOne, HasClosers, closer_count}
use Rattle.observer.specs.Observed.{observed}
use Rattle.observer.specs.Standing.{ObserverView, HasHeard, ledger_of}

-- ---- what is heard

-- the posts, numbered from k on, that are not dropped on their way to node i
abbrev pub arriving : List Link → ℕ → ℕ → List Post → List Post
arriving links i k [] = []
arriving links i k (post ∷ posts) =
    if is_drop (shape_of links post.from i k) then arriving links i (k + 1) posts else post ∷ arriving links i (k + 1) posts

-- what the observer beside node i hears
abbrev pub heard_beside : Report → ℕ → List Post
heard_beside report i = arriving report.script.links.items i 0 report.history.items

-- and what it takes
abbrev pub observed_beside : Report → ℕ → List (List Item)
observed_beside report i = observed report.config (heard_beside report i)

-- an observer that has heard this
pub record IsBeside (report : Report) (i : ℕ) (o : ObserverView) : Type 0 where
  pub config : o.config ≡ report.config
  pub heard : HasHeard o (heard_beside report i)

-- the observers beside the nodes below a number
pub record AreBeside (report : Report) (count : ℕ) (observers : List ObserverView) : Type 0 where
  pub many : length observers ≡ count
  pub each : (i : ℕ) (d : ObserverView) → i < count → IsBeside report i (slice_index_or observers i d)

-- ---- what they have in common

-- Of the observed ledger of each and the ledger of any correct node one begins with the other, and so it is of any two
-- observed ledgers. Each list of one has the batches of n - f nodes at least. One that has heard of f + 1 correct nodes in each
-- epoch up to one that they closed the epoch has taken a list of it.
pub record ObserversAgree (report : Report) : Type 0 where
  pub nodes : (i k : ℕ) → i < report.config.n → IsCorrect report.config k
      → AreTwoOfOne (observed_beside report i) (ledger report.config report.history.items k)
  pub observers : (i k : ℕ) → i < report.config.n → k < report.config.n → AreTwoOfOne (observed_beside report i) (observed_beside report k)
  pub enough : (i : ℕ) (list : List Item) → i < report.config.n → Contains (observed_beside report i) list
      → report.config.n - report.config.f ≤ length list
  pub complete : (i e : ℕ) → i < report.config.n → HasClosers report.config (heard_beside report i) e → e < length (observed_beside report i)

-- ---- the same, computed

-- whether a list, if there is one, has the batches of n - f nodes at least
abbrev pub is_enough : Numbers → Option (List Item) → Bool
is_enough c None = true
is_enough c (Some list) = nat_le (c.n - c.f) (length list)

abbrev pub all_enough : Numbers → List (List Item) → Bool
all_enough c lists = list_all (λ e. is_enough c (slice_get lists e)) (range_with_len 0 (length lists))

-- whether lists are alike with the ledger of node k, if it is correct
abbrev pub agrees_with : Numbers → List Post → List (List Item) → ℕ → Bool
agrees_with c posts lists k = not (is_correct c k) || are_alike lists (ledger c posts k)

-- whether f + 1 correct nodes have closed epoch e
abbrev pub has_closers : Numbers → List Post → ℕ → Bool
has_closers c heard e = nat_le (c.f + 1) (closer_count c heard e)

-- whether the first epoch without a list, or one before it, was not closed by so many
abbrev pub is_complete : Report → ℕ → ℕ → Bool
is_complete report i count =
    not (has_closers report.config (heard_beside report i) count
    && list_all (has_closers report.config (heard_beside report i)) (range_with_len 0 count))

-- whether all that is so of one observer
abbrev pub agrees_at : Report → List ObserverView → ℕ → Option ObserverView → Bool
agrees_at report observers i None = true
agrees_at report observers i (Some o) =
    ((list_all (agrees_with report.config report.history.items (ledger_of o)) (range_with_len 0 report.config.n)
    && list_all (λ other. are_alike (ledger_of o) (ledger_of other)) observers)
    && all_enough report.config (ledger_of o)) && is_complete report i (length (ledger_of o))

abbrev pub all_agree : Report → List ObserverView → Bool
all_agree report observers = list_all (λ i. agrees_at report observers i (slice_get observers i)) (range_with_len 0 report.config.n)
