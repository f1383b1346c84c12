-- How many epochs all running nodes have closed.
use Rattle.std.specs.Prelude.{◌≡◌, ℕ, min, Bool, true, ◌&&◌, not, bytes_eq, is_some, List, length, map, filter, take, fold, Option, Some, None}
use Rattle.std.specs.List.{list_any, range_with_len}
use Rattle.std.specs.Option.{option_and_then, unwrap_or}
use Rattle.hb_base.specs.Numbers.{Numbers}
use Rattle.hb_wire.specs.declared.post.Post.{Post}
use Rattle.hb_rules.specs.Hearing.{is_by, vote_by}
use Rattle.acs_world.specs.Closed.{closing}
use Rattle.hb_rules.specs.declared.report.Report.{Report}
use Rattle.hb_rules.specs.Ledger.{ledger}
use Rattle.hb_rules.specs.Report.{is_running}

-- the lower of a number, if there is one, and another
abbrev pub lower : Option ℕ → ℕ → ℕ
lower None count = count
lower (Some before) count = min before count

-- the least of some numbers, if there are any
abbrev pub least_of : List ℕ → Option ℕ
least_of numbers = fold (λ least count. Some (lower least count)) None numbers

-- the least of some numbers, 0 where there is none
abbrev pub least : List ℕ → ℕ
least numbers = unwrap_or (least_of numbers) 0

-- how many lists the ledger of a node has
abbrev pub closed_count : Report → ℕ → ℕ
closed_count report i = length (ledger report.config report.history.items i)

-- how many lists the ledgers of the running nodes below a number have
abbrev pub counts_below : Report → ℕ → List ℕ
counts_below report node = map (closed_count report) (filter (is_running report) (range_with_len 0 node))

-- the least number of lists in the ledgers of running nodes, 0 where none runs
abbrev pub common_epochs : Report → ℕ
common_epochs report = least (counts_below report report.config.n)

-- up to this number of lists the ledgers of any two running nodes are the same
pub record AreCommon (report : Report) (count : ℕ) : Type 0 where
  pub one : (i m : ℕ) → is_running report i ≡ true → is_running report m ≡ true
      → take count (ledger report.config report.history.items i) ≡ take count (ledger report.config report.history.items m)

-- whether a post of the desk of this node closes an epoch
abbrev pub closes : Numbers → ℕ → Post → Bool
closes c node post = is_some (option_and_then closing (vote_by c node c.n post))

-- whether a post is of the desk of this node, and has these bytes
abbrev pub is_like : Numbers → ℕ → List ℕ → Post → Bool
is_like c node bytes post = is_by node c.n post && bytes_eq bytes post.bytes

-- whether a post of the desk of this node closes an epoch as none before it does
abbrev pub is_new : Numbers → ℕ → List Post → Post → Bool
is_new c node before post = closes c node post && not (list_any (is_like c node post.bytes) before)
