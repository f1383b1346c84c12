-- The lists of ledgers with their epochs, and what finds them. The letters: e is an epoch, i a node.
use Rattle.std.specs.Prelude.{◌≡◌, ℕ, List, map, slice_get, Option, Some}
use Rattle.std.specs.List.{flat_map, range_with_len}
use Rattle.hb_base.specs.Limits.{most_epochs}
use Rattle.hb_base.specs.Numbers.{Numbers}
use Rattle.hb_wire.specs.declared.items.Item.{Item}
use Rattle.hb_wire.specs.declared.post.Post.{Post}
use Rattle.hb_wire.specs.Glances.{IsClosedRest}
use Rattle.hb_wire.specs.Lists.{listed}
use Rattle.acs_world.specs.Closed.{Closure, closing_by}
use Rattle.acs_world.specs.Firsts.{place_of, post_at}
use Rattle.acs_world.specs.Lists.{lists_of}

-- the posts of a run, in which the lists of ledgers are found
pub record FinderView : Type 0 where
  pub config : Numbers
  pub posts : List Post

abbrev pub closure_of : ℕ → List Item → Closure
closure_of e list = (e, list)

-- the lists with which the desk of node i closes epoch e, each with the epoch
abbrev pub closures_of : Numbers → ℕ → List Post → ℕ → List Closure
closures_of c i posts e = map (closure_of e) (lists_of c i e posts)

-- the lists of the ledger of node i, each with its epoch
abbrev pub closures : Numbers → List Post → ℕ → List Closure
closures c posts i = flat_map (closures_of c i posts) (range_with_len 0 most_epochs)

-- the list at a place is of this epoch, and a vote that closes it so has rest behind kind and epoch
pub record IsClosureAt (lists : List Closure) (place epoch : ℕ) (rest : List ℕ) : Type 0 where
  pub there : slice_get lists place ≡ Some (closure_of epoch (listed rest))
  pub shown : IsClosedRest rest (listed rest)

-- the post to which a table leads for the desk of node i and epoch e closes the epoch, with rest behind kind and epoch
pub record IsTabledRest (c : Numbers) (posts : List Post) (table : List (Option ℕ)) (i e : ℕ) (rest : List ℕ) : Type 0 where
  pub post : Post
  pub is : post_at posts table (place_of i e) ≡ Some post
  pub from : post.from ≡ i
  pub list : List Item
  pub closes : closing_by c post ≡ Some (closure_of e list)
  pub shown : IsClosedRest rest list
