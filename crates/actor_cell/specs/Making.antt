-- Mailboxes in the making.
use Rattle.std.specs.Prelude.{◌≡◌, ℕ, length, map, All}
use Rattle.hb_base.specs.Numbers.{Numbers}
use Rattle.actor_cell.specs.Boxes.{owners_below, firsts_below}
use Rattle.actor_cell.specs.Passes.{names_of, IsNewTake}
use Rattle.actor_cell.specs.declared.boxes.Making.{Making}

-- each has its first put pass and its take pass, and nothing was taken
pub record AreNew (made : Making) : Type 0 where
  pub puts : names_of made.puts.items ≡ made.boxes.items
  pub takes : map (λ t. t.at) made.takes.items ≡ made.boxes.items
  pub none : All IsNewTake made.takes.items

-- those of the nodes below i are made
pub record IsMade (c : Numbers) (i : ℕ) (made : Making) : Type 0 where
  pub new : AreNew made
  pub count : length made.boxes.items ≡ length (owners_below c i)
  pub firsts : made.firsts.items ≡ firsts_below c i
