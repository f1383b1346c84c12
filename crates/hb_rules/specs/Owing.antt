-- What an actor owes: the slots of all epochs, row by row, and within a row epoch by epoch.
use Rattle.std.specs.Prelude.{ℕ, ◌==◌, nat_lt, List, [], ◌++◌, if◌then◌else◌}
use Rattle.hb_base.specs.Numbers.{Numbers}
use Rattle.hb_wire.specs.declared.vote.Vote.{Vote}
use Rattle.hb_rules.specs.Hearing.{Hearing}
use Rattle.hb_rules.specs.Slots.{Slot, by_rows, of_epoch}
use Rattle.hb_rules.specs.BroadcastRows.{broadcast_rows}
use Rattle.hb_rules.specs.AgreementRows.{agreement_rows}
use Rattle.hb_rules.specs.DeskRows.{desk_rows}

-- which epoch of which lane at which node, in a run with this config
pub record Place : Type 0 where
  pub config : Numbers
  pub node : ℕ
  pub lane : ℕ
  pub epoch : ℕ

-- the slots of one epoch in the broadcast, and in the agreement, of lane j of node i
abbrev pub broadcast_slots : Numbers → ℕ → ℕ → ℕ → List (Slot Vote Hearing)
broadcast_slots c i j e = of_epoch e (broadcast_rows c i j)

abbrev pub agreement_slots : Numbers → ℕ → ℕ → ℕ → List (Slot Vote Hearing)
agreement_slots c i j e = of_epoch e (agreement_rows c i j)

-- the slots of lane j of node i
abbrev pub lane_slots : Numbers → ℕ → ℕ → List (Slot Vote Hearing)
lane_slots c i j = by_rows c.epochs (broadcast_rows c i j ++ agreement_rows c i j)

-- the slots of a desk at whose node these transactions were submitted
abbrev pub desk_slots : Numbers → List (List ℕ) → List (Slot Vote Hearing)
desk_slots c submitted = by_rows c.epochs (desk_rows c submitted)

-- the slots of actor x of node i
abbrev pub slots_of : Numbers → List (List ℕ) → ℕ → ℕ → List (Slot Vote Hearing)
slots_of c submitted i x = if nat_lt x c.n then lane_slots c i x else (if x == c.n then desk_slots c submitted else [])
