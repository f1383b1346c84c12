-- Slots that look at own votes by tests alone.
use Rattle.std.specs.Prelude.{◌≡◌, List}
use Rattle.hb_wire.specs.declared.vote.Vote.{Vote}
use Rattle.hb_rules.specs.Hearing.{Hearing}
use Rattle.hb_rules.specs.Slots.{Slot}
use Rattle.hb_rules.specs.Same.{AreSame}

-- a slot that answers alike for own votes that no test tells apart
pub record IsTested (slot : Slot Vote Hearing) : Type 0 where
  pub cast : (own other : List Vote) → AreSame own other → slot.is_cast own ≡ slot.is_cast other
  pub choice : (own other : List Vote) (heard : List Hearing) → AreSame own other → slot.choice own heard ≡ slot.choice other heard
