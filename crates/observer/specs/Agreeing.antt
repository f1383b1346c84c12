-- What observed ledgers have in common with correct nodes' ledgers and with one another (CCS 2016, section 4). The letters: e
-- is an epoch, i and k are nodes of a run with config c; heard are posts in the order in which they are heard.
use Rattle.std.specs.Prelude.{ℕ, ◌+◌, ◌-◌, ◌≤◌, ◌&&◌, ◌⊎◌, Bool, List, Contains, length}
use Rattle.hb_base.specs.Counting.{count_nodes}
use Rattle.hb_base.specs.Numbers.{Numbers}
use Rattle.hb_wire.specs.declared.items.Item.{Item}
use Rattle.hb_wire.specs.declared.post.Post.{Post}
use Rattle.hb_rules.specs.Claims.{is_any_closing}
use Rattle.hb_rules.specs.Hearing.{said_in}
use Rattle.hb_rules.specs.Lanes.{is_correct}
use Rattle.hb_rules.specs.Ledger.{IsCorrect, IsPrefix, ledger}

-- one of two ledgers begins with the other
abbrev pub AreTwoOfOne : List (List Item) → List (List Item) → Type 0
AreTwoOfOne lists others = IsPrefix lists others ⊎ IsPrefix others lists

-- each of the posts stands in the history
abbrev pub AreOf : List Post → List Post → Type 0
AreOf history heard = (post : Post) → Contains heard post → Contains history post

-- of a ledger and that of any correct node one begins with the other, and each list has the batches of n - f nodes at least
pub record AgreesWithNodes (c : Numbers) (history : List Post) (lists : List (List Item)) : Type 0 where
  pub nodes : (i : ℕ) → IsCorrect c i → AreTwoOfOne lists (ledger c history i)
  pub enough : (list : List Item) → Contains lists list → c.n - c.f ≤ length list

-- whether node i is correct, and has closed epoch e by a post that was heard
abbrev pub is_closer : Numbers → List Post → ℕ → ℕ → Bool
is_closer c heard e i = is_correct c i && said_in c c.n heard i (is_any_closing e)

-- how many nodes are so
abbrev pub closer_count : Numbers → List Post → ℕ → ℕ
closer_count c heard e = count_nodes c.n (is_closer c heard e)

-- f + 1 correct nodes have, in each epoch up to e
abbrev pub HasClosers : Numbers → List Post → ℕ → Type 0
HasClosers c heard e = (d : ℕ) → d ≤ e → c.f + 1 ≤ closer_count c heard d
