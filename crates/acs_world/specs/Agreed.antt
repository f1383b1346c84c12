-- What correct desks' closed lists have in common in a history, whatever liars post (CCS 2016, section 4). The letters: e is an
-- epoch, i and m nodes of a run with config c.
use Rattle.std.specs.Prelude.{◌≡◌, ℕ, suc, List, Contains}
use Rattle.hb_base.specs.Numbers.{Numbers}
use Rattle.hb_wire.specs.declared.items.Item.{Item}
use Rattle.hb_wire.specs.declared.vote.Vote.TheVariants.{Closed}
use Rattle.hb_wire.specs.declared.post.Post.{Post}
use Rattle.hb_rules.specs.Hearing.{own_in}
use Rattle.hb_rules.specs.Ledger.{IsCorrect}

-- all Closed votes of correct desks for one epoch carry one list
pub record ClosingsAgree (c : Numbers) (history : List Post) : Type 0 where
  pub one : (e i m : ℕ) (list other : List Item) → IsCorrect c i → IsCorrect c m → Contains (own_in c i c.n history) (Closed e list)
      → Contains (own_in c m c.n history) (Closed e other) → list ≡ other

-- a correct desk has closed the epoch before each epoch that it closed
pub record ClosingsFollow (c : Numbers) (history : List Post) : Type 0 where
  pub before : (e i : ℕ) (list : List Item) → IsCorrect c i → Contains (own_in c i c.n history) (Closed (suc e) list)
      → (other : List Item) × Contains (own_in c i c.n history) (Closed e other)
