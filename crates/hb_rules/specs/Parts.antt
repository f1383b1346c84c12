-- The parts of the protocol, and which votes and hearings each looks at. The letter e is an epoch.
use Rattle.std.specs.Prelude.{ℕ, Bool, true, false, ◌&&◌, ◌||◌, ◌==◌}
use Rattle.hb_wire.specs.declared.vote.Vote.{Vote}
use Rattle.hb_wire.specs.declared.vote.Vote.TheVariants.{Val, Echo, Ready, Delivered, Propose, NoMore, Closed}
use Rattle.hb_wire.specs.Votes.{epoch_of}
use Rattle.hb_rules.specs.Claims.{is_any_delivery, is_any_proposal, is_no_more}
use Rattle.hb_rules.specs.Hearing.{Hearing}

pub data Part : Type 0 where
  broadcast : Part
  agreement : Part
  desk : Part

-- the part that casts a vote
abbrev pub part_of : Vote → Part
part_of (Val e m root shard branch) = broadcast
part_of (Echo e root shard branch) = broadcast
part_of (Ready e root) = broadcast
part_of (Delivered e value) = broadcast
part_of (Propose e value) = desk
part_of (NoMore e) = desk
part_of (Closed e list) = desk
part_of _ = agreement

abbrev pub is_broadcast : Part → Bool
is_broadcast broadcast = true
is_broadcast _ = false

abbrev pub is_agreement : Part → Bool
is_agreement agreement = true
is_agreement _ = false

-- votes that the broadcast of the epoch casts, which are those that it looks at
abbrev pub in_broadcast : ℕ → Vote → Bool
in_broadcast e vote = is_broadcast (part_of vote) && (epoch_of vote == e)

-- hearings that it looks at
abbrev pub heard_in_broadcast : ℕ → Hearing → Bool
heard_in_broadcast e h = in_broadcast e h.vote || is_any_proposal e h.vote

-- votes that the agreement of the epoch casts
abbrev pub in_agreement : ℕ → Vote → Bool
in_agreement e vote = is_agreement (part_of vote) && (epoch_of vote == e)

-- votes that it looks at
abbrev pub read_in_agreement : ℕ → Vote → Bool
read_in_agreement e vote = in_agreement e vote || is_any_delivery e vote

-- hearings that it looks at
abbrev pub heard_in_agreement : ℕ → Hearing → Bool
heard_in_agreement e h = in_agreement e h.vote || is_no_more e h.vote

-- votes and hearings of the epoch, which are all that the slots of a lane look at there
abbrev pub in_epoch : ℕ → Vote → Bool
in_epoch e vote = epoch_of vote == e

abbrev pub heard_in_epoch : ℕ → Hearing → Bool
heard_in_epoch e h = in_epoch e h.vote
