-- The votes that one root makes due.
use Rattle.std.specs.Prelude.{ℕ, zero, suc, ◌+◌, ◌-◌, ◌*◌, Bool, ◌&&◌, ◌||◌, nat_le, List, [], ◌++◌, Option, None, Some, if◌then◌else◌, is_some}
use Rattle.std.specs.Option.{option_map, option_to_list}
use Rattle.hb_base.specs.Numbers.{Numbers}
use Rattle.hb_base.specs.NodeSet.{is_in}
use Rattle.hb_wire.specs.declared.vote.Vote.{Vote}
use Rattle.hb_wire.specs.declared.vote.Vote.TheVariants.{Ready, Delivered}
use Rattle.hb_rules.specs.Slots.{when}
use Rattle.hb_rules.specs.BroadcastRows.{val_of}

-- whether a Ready is made for a root that so many nodes echoed validly, for which so many are ready, and whose shards
-- rebuild or not
abbrev pub is_ready_by : Numbers → ℕ → ℕ → Bool → Bool
is_ready_by c echoes readies is_rebuilt = (nat_le (c.n - c.f) echoes && is_rebuilt) || nat_le (c.f + 1) readies

-- the Ready, where the shards rebuild to this
abbrev pub ready_by : Numbers → ℕ → List ℕ → ℕ → ℕ → Option (List ℕ) → Option Vote
ready_by c e root echoes readies value = when (is_ready_by c echoes readies (is_some value)) (Ready e root)

-- whether a delivery is made
abbrev pub is_delivery_by : Numbers → ℕ → Bool → Bool
is_delivery_by c readies is_rebuilt = nat_le (2 * c.f + 1) readies && is_rebuilt

-- the delivery
abbrev pub delivery_by : Numbers → ℕ → ℕ → Option (List ℕ) → Option Vote
delivery_by c e readies value = if nat_le (2 * c.f + 1) readies then option_map (Delivered e) value else None

-- the vote, unless one of its kind was cast
abbrev pub unless : Bool → Option Vote → Option Vote
unless cast vote = if cast then None else vote

-- the Vals to the nodes below m to which none was cast, rising, of these shards
abbrev pub missing_vals : ℕ → List (List ℕ) → List Bool → ℕ → List Vote
missing_vals e shards cast zero = []
missing_vals e shards cast (suc m) =
    missing_vals e shards cast m ++ option_to_list (unless (is_in cast m) (Some (val_of e m shards)))
