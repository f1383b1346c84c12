-- The slots of a lane in one epoch.
use Rattle.std.specs.Prelude.{ℕ, List, ◌++◌}
use Rattle.hb_base.specs.Numbers.{Numbers}
use Rattle.hb_wire.specs.declared.vote.Vote.{Vote}
use Rattle.hb_rules.specs.Hearing.{Hearing}
use Rattle.hb_rules.specs.Owing.{broadcast_slots, agreement_slots}
use Rattle.hb_rules.specs.Slots.{Slot}

-- those of the broadcast, and then those of the agreement, of lane j of node i in epoch e
abbrev pub epoch_slots : Numbers → ℕ → ℕ → ℕ → List (Slot Vote Hearing)
epoch_slots c i j e = broadcast_slots c i j e ++ agreement_slots c i j e
