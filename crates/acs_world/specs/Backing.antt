-- What stands behind a closed list. The letters: e is an epoch, j a lane, i a node of a run with config c.
use Rattle.std.specs.Prelude.{◌≡◌, ℕ, ◌<◌, Bool, List, map, filter, Contains}
use Rattle.std.specs.List.{range_with_len}
use Rattle.hb_base.specs.Numbers.{Numbers}
use Rattle.hb_wire.specs.declared.items.Item.{Item}
use Rattle.hb_wire.specs.declared.vote.Vote.TheVariants.{Delivered, Decided, Closed}
use Rattle.hb_wire.specs.declared.post.Post.{Post}
use Rattle.hb_rules.specs.Hearing.{own_in}
use Rattle.hb_rules.specs.Ledger.{IsCorrect}

-- a node's lane has delivered the value of an item
pub record IsDelivered (c : Numbers) (history : List Post) (i e : ℕ) (item : Item) : Type 0 where
  pub lane : item.node < c.n
  pub cast : Contains (own_in c i item.node history) (Delivered e item.value)

-- All lanes of the node have decided in the epoch, and the list has, rising, exactly those that decided 1, each with a value
-- that the lane delivered.
pub record IsBacked (c : Numbers) (history : List Post) (i e : ℕ) (list : List Item) : Type 0 where
  pub bits : ℕ → Bool
  pub decided : (j : ℕ) → j < c.n → Contains (own_in c i j history) (Decided e (bits j))
  pub lanes : map (λ item. item.node) list ≡ filter bits (range_with_len 0 c.n)
  pub delivered : (item : Item) → Contains list item → IsDelivered c history i e item

-- each list with which a correct desk has closed an epoch is backed by its node's lanes
pub record ClosingsAreBacked (c : Numbers) (history : List Post) : Type 0 where
  pub backed : (i e : ℕ) (list : List Item) → IsCorrect c i → Contains (own_in c i c.n history) (Closed e list) → IsBacked c history i e list
