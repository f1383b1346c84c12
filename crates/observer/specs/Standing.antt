-- For which posts heard an observer stands.
use Rattle.std.specs.Prelude.{◌≡◌, ℕ, ◌<◌, ◌&&◌, nat_lt, Bool, List, Option, Some, None, length, slice_index_or, is_some, is_none, true, slice_set, if◌then◌else◌}
use Rattle.std.specs.Option.{option_and_then, option_map}
use Rattle.hb_base.specs.Counting.{count_nodes}
use Rattle.hb_base.specs.Limits.{most_nodes}
use Rattle.hb_base.specs.NodeSet.{is_in}
use Rattle.hb_base.specs.Numbers.{Numbers}
use Rattle.hb_wire.specs.declared.items.Item.{Item}
use Rattle.hb_wire.specs.declared.post.Post.{Post}
use Rattle.hb_wire.specs.declared.vote.Vote.TheVariants.{Closed}
use Rattle.hb_wire.specs.Reading.{vote_at}
use Rattle.acs_world.specs.Closed.{Closure, closing}
use Rattle.observer.specs.Claims.{Table, nodes_at}
use Rattle.observer.specs.Observed.{has_claimed, observed_list, lists_from}

-- the nodes of each claim, and for each epoch the bytes of the vote whose list was taken
pub record ObserverView : Type 0 where
  pub config : Numbers
  pub claims : Table
  pub taken : List (Option (List ℕ))

-- the list with which these bytes close an epoch
abbrev pub closed_list : Numbers → List ℕ → Option (List Item)
closed_list c bytes = option_map (λ (claim : Closure). claim.1) (option_and_then closing (vote_at c.n c.version bytes))

-- the list that was taken for epoch e
abbrev pub list_at : ObserverView → ℕ → Option (List Item)
list_at o e = option_and_then (closed_list o.config) (slice_index_or o.taken e None)

-- the lists from epoch 0 up to the first epoch without one
abbrev pub ledger_of : ObserverView → List (List Item)
ledger_of o = lists_from (list_at o) 0 o.config.epochs

-- bytes, if there are any, close an epoch
abbrev pub closes_one : Numbers → Option (List ℕ) → Bool
closes_one c None = true
closes_one c (Some bytes) = is_some (closed_list c bytes)

-- there is a place for each epoch, with bytes that close one or with nothing
pub record IsSoundView (o : ObserverView) : Type 0 where
  pub places : length o.taken ≡ o.config.epochs
  pub closed : (e : ℕ) → closes_one o.config (slice_index_or o.taken e None) ≡ true

-- each claim has the nodes that made it, and each epoch the list that f + 1 nodes claimed first
pub record HasHeard (o : ObserverView) (heard : List Post) : Type 0 where
  pub nodes : (bytes : List ℕ) (claim : Closure) (a : ℕ) → vote_at o.config.n o.config.version bytes ≡ Some (Closed claim.0 claim.1)
      → claim.0 < o.config.epochs
      → is_in (nodes_at o.claims bytes) a ≡ (nat_lt a o.config.n && has_claimed o.config heard claim a)
  pub lists : (e : ℕ) → e < o.config.epochs → list_at o e ≡ observed_list o.config heard e

-- ---- one claim more

-- whether these are f + 1 nodes, and epoch e has no list
abbrev pub takes : ObserverView → ℕ → List Bool → Bool
takes o e nodes = is_none (slice_index_or o.taken e None) && nat_lt o.config.f (count_nodes most_nodes (is_in nodes))

-- the lists once these nodes make the claim of epoch e that has these bytes
abbrev pub taken_with : ObserverView → ℕ → List Bool → List ℕ → List (Option (List ℕ))
taken_with o e nodes bytes = if takes o e nodes then slice_set o.taken e (Some bytes) else o.taken
