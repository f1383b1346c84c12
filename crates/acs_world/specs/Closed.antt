-- What posts of correct nodes' desks close epochs with and propose. The letters: e is an epoch.
use Rattle.std.specs.Prelude.{◌≡◌, ℕ, ◌-◌, Bool, true, ◌&&◌, ◌||◌, ◌==◌, not, nat_le, List, Option, Some, None, if◌then◌else◌, length}
use Rattle.std.specs.List.{list_any, list_all}
use Rattle.std.specs.Option.{option_and_then}
use Rattle.hb_base.specs.Numbers.{Numbers}
use Rattle.hb_wire.specs.declared.items.Item.{Item}
use Rattle.hb_wire.specs.declared.vote.Vote.{Vote}
use Rattle.hb_wire.specs.declared.vote.Vote.TheVariants.{Closed}
use Rattle.hb_wire.specs.declared.post.Post.{Post}
use Rattle.hb_wire.specs.Glances.{IsClosedRest}
use Rattle.hb_rules.specs.Claims.{are_these, proposed}
use Rattle.hb_rules.specs.Hearing.{spelled, vote_by}
use Rattle.hb_rules.specs.Lanes.{is_correct}

-- an epoch, and the list with which it was closed
abbrev pub Closure : Type 0
Closure = ℕ × List Item

-- which epoch a vote closes, and with which list
abbrev pub closing : Vote → Option Closure
closing (Closed e list) = Some (e, list)
closing _ = None

-- what a post of a correct node's desk closes
abbrev pub closing_by : Numbers → Post → Option Closure
closing_by c post = if is_correct c post.from && (post.actor == c.n) then option_and_then closing (spelled c post) else None

-- the epoch is that of the closure, and behind epoch and kind in the bytes of its vote stands rest
pub record IsShown (closure : Closure) (epoch : ℕ) (rest : List ℕ) : Type 0 where
  pub epoch_is : closure.0 ≡ epoch
  pub rest_is : IsClosedRest rest closure.1

-- whether a list has the batches of n - f nodes at least
abbrev pub is_enough : Numbers → Option Closure → Bool
is_enough c None = true
is_enough c (Some closure) = nat_le (c.n - c.f) (length closure.1)

-- whether a post of the desk of this node proposes the value for the epoch
abbrev pub proposes : Numbers → ℕ → ℕ → List ℕ → Post → Bool
proposes c node e value post = are_these value (option_and_then (proposed e) (vote_by c node c.n post))

-- whether the node of an item lies, or its desk has proposed the item's value for the epoch
abbrev pub is_own : Numbers → List Post → ℕ → Item → Bool
is_own c posts e item = not (is_correct c item.node) || list_any (proposes c item.node e item.value) posts

-- whether this is so of each item with which a post closes an epoch
abbrev pub is_unaltered : Numbers → List Post → Option Closure → Bool
is_unaltered c posts None = true
is_unaltered c posts (Some closure) = list_all (is_own c posts closure.0) closure.1
