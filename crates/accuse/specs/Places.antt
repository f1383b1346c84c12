-- Tables of first posts. A vote has a place for what it excludes, and a Val one more for the root that it shows. The letters:
-- x is an actor, e an epoch, r a round, m a node.
use Rattle.std.specs.Prelude.{◌≡◌, ℕ, Bool, false, ◌||◌, List, Option, None, Some}
use Rattle.std.specs.BTreeMap.{is_at}
use Rattle.std.specs.Map.{lookup}
use Rattle.hb_base.specs.Numbers.{Numbers}
use Rattle.hb_wire.specs.declared.vote.Vote.{Vote}
use Rattle.hb_wire.specs.declared.vote.Vote.TheVariants.{Val, Echo, Ready, Delivered, Est, Bval, Aux, Conf, Pick, Coin, Decided, Propose, NoMore, Closed}
use Rattle.hb_wire.specs.declared.post.Post.{Post}
use Rattle.hb_rules.specs.Slots.{when}
use Rattle.accuse.specs.declared.place.Kind.{Kind}
use Rattle.accuse.specs.declared.place.Kind.TheVariants as kinds
use Rattle.accuse.specs.declared.place.Place.{Place}
use Rattle.accuse.specs.contracts.place.PlaceOrd.TheImpl.{ghosts as places}
use Rattle.accuse.specs.Accused.{least_below, said_at, contradict}

abbrev pub place : ℕ → Kind → ℕ → ℕ → ℕ → Place
place x kind e r m = record { actor = x; kind = kind; epoch = e; round = r; target = m }

-- the place of the votes that a vote excludes, if it excludes any
unfoldable pub place_of : ℕ → Vote → Option Place
place_of x (Val e m root shard branch) = Some (place x kinds.Val e 0 m)
place_of x (Echo e root shard branch) = Some (place x kinds.Echo e 0 0)
place_of x (Ready e root) = Some (place x kinds.Ready e 0 0)
place_of x (Delivered e value) = Some (place x kinds.Delivered e 0 0)
place_of x (Est e r bit) = Some (place x kinds.Est e r 0)
place_of x (Bval e r bit) = None
place_of x (Aux e r bit) = Some (place x kinds.Aux e r 0)
place_of x (Conf e r vals) = Some (place x kinds.Conf e r 0)
place_of x (Pick e r vals) = Some (place x kinds.Pick e r 0)
place_of x (Coin e r share salt branch) = Some (place x kinds.Coin e r 0)
place_of x (Decided e bit) = Some (place x kinds.Decided e 0 0)
place_of x (Propose e value) = Some (place x kinds.Propose e 0 0)
place_of x (NoMore e) = None
place_of x (Closed e list) = Some (place x kinds.Closed e 0 0)

-- the place of the Vals of a lane and epoch, which show one root
unfoldable pub root_place : ℕ → Vote → Option Place
root_place x (Val e m root shard branch) = Some (place x kinds.Root e 0 0)
root_place x _ = None

-- whether two places are the same
abbrev pub same_place : Place → Place → Bool
same_place a b = is_at (places.cmp a) b

-- whether a place, if there is one, is this one
abbrev pub is_place : Place → Option Place → Bool
is_place wanted None = false
is_place wanted (Some other) = same_place other wanted

-- whether what a post says has this place
unfoldable pub fills : Place → Option (ℕ × Vote) → Bool
fills wanted None = false
fills wanted (Some s) = is_place wanted (root_place s.0 s.1) || is_place wanted (place_of s.0 s.1)

-- the number of a post at a place in a table
abbrev pub first_at : List (Place × ℕ) → Place → Option ℕ
first_at entries wanted = lookup (same_place wanted) entries

-- for each place the table has the first of the first k posts of node i that has it
pub record AreFirsts (c : Numbers) (i : ℕ) (history : List Post) (k : ℕ) (entries : List (Place × ℕ)) : Type 0 where
  pub first : (wanted : Place) → first_at entries wanted ≡ least_below k (λ p. fills wanted (said_at c i history p))

-- the number of a post, where it contradicts what is said
abbrev pub told : Numbers → ℕ → List Post → Option (ℕ × Vote) → ℕ → Option ℕ
told c i history says p = when (contradict (said_at c i history p) says) p
