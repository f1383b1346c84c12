-- What the state of a broadcast stands for: the votes that its lane has cast and those that it has heard.
use Rattle.std.specs.Prelude.{◌≡◌, ℕ, ◌+◌, ◌≤◌, Bool, true, false, not, ◌&&◌, ◌||◌, List, [], ◌∷◌, ◌++◌, length, take, Option, is_some}
use Rattle.std.specs.List.{list_any}
use Rattle.std.specs.Option.{option_or}
use Rattle.hb_base.specs.Limits.{most_nodes, longest_value, longest_shard}
use Rattle.hb_base.specs.Counting.{count_nodes}
use Rattle.hb_base.specs.Numbers.{Numbers}
use Rattle.hb_base.specs.NodeSet.{is_in}
use Rattle.hb_wire.specs.declared.vote.Vote.{Vote}
use Rattle.hb_wire.specs.declared.vote.Vote.TheVariants.{Echo, Ready, Propose}
use Rattle.hb_rules.specs.Claims.{delivered, are_these, is_echo, is_ready, is_val_to, is_any_echo, is_any_ready}
use Rattle.hb_rules.specs.Hearing.{Hearing, heard_by}
use Rattle.hb_rules.specs.Code.{data_count}
use Rattle.hb_rules.specs.Slots.{Slot, pass, IsIdle, IsOwed, first_of}
use Rattle.hb_rules.specs.BroadcastRows.{shards_of, value_through, named}
use Rattle.hb_rules.specs.Owing.{Place, broadcast_slots}
use Rattle.rbc_core.specs.Due.{is_delivery_by}
use Rattle.rbc_core.specs.RootViews.{RootView}
use Rattle.rbc_core.specs.Roots.{RootsView, found, view_at, IsUnchanged}

-- which broadcast it is, which votes the lane has cast, and what was heard of each root
pub record RbcView : Type 0 where
  pub node : ℕ
  pub lane : ℕ
  pub epoch : ℕ
  pub vals : List Bool
  pub is_echo_cast : Bool
  pub is_ready_cast : Bool
  pub delivered : Option (List ℕ)
  pub roots : RootsView

-- the broadcast that a state takes part in
abbrev pub place_of : RbcView → Place
place_of r = record { config = r.roots.config; node = r.node; lane = r.lane; epoch = r.epoch }

-- what its lane owes
abbrev pub slots_at : Place → List (Slot Vote Hearing)
slots_at p = broadcast_slots p.config p.node p.lane p.epoch

-- a value that is proposed, and a shard that is echoed, are no longer than those of votes that have spellings
abbrev pub IsShort : Vote → Type 0
IsShort (Propose e value) = length value ≤ longest_value
IsShort (Echo e root shard branch) = length shard ≤ longest_shard
IsShort _ = Unit {0}

-- whether a valid Echo or a Ready names this root
abbrev pub names : ℕ → ℕ → List ℕ → Hearing → Bool
names n e root h = are_these root (named n e h)

-- What was heard of a root: who echoed validly, who is ready, the shards of the first k who echoed, in order of receipt, and
-- the value to which they rebuild.
pub record ShowsHeard (c : Numbers) (e : ℕ) (heard : List Hearing) (root : List ℕ) (v : RootView) : Type 0 where
  pub echoes : (a : ℕ) → is_in v.echoes a ≡ heard_by heard a (is_echo c.n e root a)
  pub readies : (a : ℕ) → is_in v.readies a ≡ heard_by heard a (is_ready e root)
  pub shards : v.shards ≡ take (data_count c) (shards_of c.n e root heard)
  pub value : v.value ≡ value_through c root v.shards

-- The state has this of the root. A root that was named is known.
pub record IsHeard (r : RootsView) (e : ℕ) (heard : List Hearing) (root : List ℕ) : Type 0 where
  pub known : list_any (names r.config.n e root) heard ≡ true → is_some (found r root) ≡ true
  pub shows : ShowsHeard r.config e heard root (view_at r root)

-- The state stands for what was cast and heard: nothing is owed, its marks are of what was cast, and what it has of each
-- root was heard. None but the n nodes was heard.
pub record Stands (r : RbcView) (own : List Vote) (heard : List Hearing) : Type 0 where
  pub idle : IsIdle (slots_at (place_of r)) own heard
  pub vals : (m : ℕ) → is_in r.vals m ≡ list_any (is_val_to r.epoch m) own
  pub echo : r.is_echo_cast ≡ list_any (is_any_echo r.epoch) own
  pub ready : r.is_ready_cast ≡ list_any (is_any_ready r.epoch) own
  pub delivered : r.delivered ≡ first_of (delivered r.epoch) own
  pub roots : (root : List ℕ) → IsHeard r.roots r.epoch heard root
  pub nodes : (a : ℕ) → r.roots.config.n ≤ a → heard_by heard a (λ vote. true) ≡ false

-- The state hears one vote more: whatever it stood for, exactly the votes that are owed then become due, in their order,
-- and it stands for all of these.
pub record Hears (old new : RbcView) (h : Hearing) (before after : List Vote) : Type 0 where
  pub place : place_of new ≡ place_of old
  pub votes : List Vote
  pub due : after ≡ before ++ votes
  pub gives : (own : List Vote) (heard : List Hearing) → Stands old own heard → pass (slots_at (place_of old)) own (heard ++ h ∷ []) ≡ votes
  pub owed : (own : List Vote) (heard : List Hearing) → Stands old own heard → IsOwed (slots_at (place_of old)) own (heard ++ h ∷ []) votes
  pub stands : (own : List Vote) (heard : List Hearing) → Stands old own heard → Stands new (own ++ votes) (heard ++ h ∷ [])

-- the state stands for what it stood for, by the same marks and the same of each root
pub record KeepsStanding (old new : RbcView) : Type 0 where
  pub marks : new ≡ record old { roots = new.roots }
  pub roots : IsUnchanged old.roots new.roots
  pub stands : (own : List Vote) (heard : List Hearing) → Stands old own heard → Stands new own heard

-- one vote more was cast
pub record Marks (old new : RbcView) (vote : Vote) : Type 0 where
  pub same : new ≡ record old { vals = new.vals; is_echo_cast = new.is_echo_cast; is_ready_cast = new.is_ready_cast; delivered = new.delivered }
  pub vals : (m : ℕ) → is_in new.vals m ≡ (is_in old.vals m || is_val_to old.epoch m vote)
  pub echo : new.is_echo_cast ≡ (old.is_echo_cast || is_any_echo old.epoch vote)
  pub ready : new.is_ready_cast ≡ (old.is_ready_cast || is_any_ready old.epoch vote)
  pub delivered : new.delivered ≡ option_or old.delivered (delivered old.epoch vote)

-- A Ready of this node for the root makes no delivery due: it was ready already, or one was cast, or still too few are ready,
-- or the root's shards do not rebuild.
abbrev pub MakesNoDelivery : RbcView → ℕ → List ℕ → Type 0
MakesNoDelivery r from root =
    (not (is_in (view_at r.roots root).readies from)
    && (not (is_some r.delivered)
    && is_delivery_by r.roots.config (count_nodes most_nodes (is_in (view_at r.roots root).readies) + 1) (is_some (view_at r.roots root).value))) ≡ false

-- a Ready of the epoch by this node, for a root that is known, which makes no delivery due
pub record IsFurtherReady (r : RbcView) (from : ℕ) (vote : Vote) : Type 0 where
  pub root : List ℕ
  pub is : vote ≡ Ready r.epoch root
  pub known : is_some (found r.roots root) ≡ true
  pub no_delivery : MakesNoDelivery r from root
