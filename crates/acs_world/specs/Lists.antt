-- The lists of a ledger, found one by one. The letters: e is an epoch, i a node.
use Rattle.std.specs.Prelude.{◌≡◌, ℕ, ◌≤◌, List, length, slice_get, Option, Some, None, if◌then◌else◌}
use Rattle.std.specs.List.{list_any, filter_map}
use Rattle.std.specs.Option.{option_and_then}
use Rattle.hb_base.specs.Numbers.{Numbers}
use Rattle.hb_wire.specs.declared.items.Item.{Item}
use Rattle.hb_wire.specs.declared.post.Post.{Post}
use Rattle.hb_wire.specs.Glances.{IsClosedRest}
use Rattle.hb_rules.specs.Claims.{closed_with}
use Rattle.hb_rules.specs.Hearing.{vote_by, own_in}
use Rattle.hb_rules.specs.Same.{firsts}
use Rattle.acs_world.specs.Common.{is_like}
use Rattle.acs_world.specs.declared.lists.Search.{Search}
use Rattle.acs_world.specs.declared.lists.Search.TheVariants.{Found, Fewer}

-- the lists with which the desk of node i closes epoch e, each at its first place
abbrev pub lists_of : Numbers → ℕ → ℕ → List Post → List (List Item)
lists_of c i e posts = filter_map (closed_with e) (firsts (own_in c i c.n posts))

-- the list with which a post of that desk closes the epoch, if no post before does so
abbrev pub new_list : Numbers → ℕ → ℕ → List Post → Post → Option (List Item)
new_list c i e before post =
    if list_any (is_like c i post.bytes) before then None else option_and_then (closed_with e) (vote_by c i c.n post)

-- the list at a place, and what a vote that closes an epoch with it has behind kind and epoch
pub record IsListAt (lists : List (List Item)) (place : ℕ) (rest : List ℕ) : Type 0 where
  pub list : List Item
  pub there : slice_get lists place ≡ Some list
  pub shown : IsClosedRest rest list

-- what a search for the list at a place among some comes to
abbrev pub Searched : List (List Item) → ℕ → Search → Type 0
Searched lists place (Found rest) = IsListAt lists place rest.now
Searched lists place (Fewer count) = (count ≡ length lists) × (count ≤ place)
