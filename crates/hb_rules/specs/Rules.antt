-- What an actor may cast, by what it has cast (own) and what it has heard.
use Rattle.std.specs.Prelude.{◌≡◌, ℕ, ◌<◌, ◌⊎◌, List}
use Rattle.hb_base.specs.Numbers.{Numbers}
use Rattle.hb_wire.specs.declared.vote.Vote.{Vote}
use Rattle.hb_rules.specs.Hearing.{Hearing}
use Rattle.hb_rules.specs.Parts.{Part, broadcast, agreement, desk, part_of}
use Rattle.hb_rules.specs.Broadcast.{MayBroadcast}
use Rattle.hb_rules.specs.Agreement.{MayAgree}
use Rattle.hb_rules.specs.Desk.{MayAtDesk}

-- what a lane may cast in a part
abbrev pub MayInPart : Part → Numbers → ℕ → ℕ → List Vote → List Hearing → Vote → Type 0
MayInPart broadcast c i j own heard vote = MayBroadcast c i j own heard vote
MayInPart agreement c i j own heard vote = MayAgree c i j own heard vote
MayInPart desk c i j own heard vote = ⊥

-- What actor x of node i may cast: a lane in the broadcast and the agreement of its number, the desk, which is actor n, in
-- the common subset.
abbrev pub MayCast : Numbers → ℕ → ℕ → List Vote → List Hearing → Vote → Type 0
MayCast c i x own heard vote =
    ((x < c.n) × MayInPart (part_of vote) c i x own heard vote) ⊎ ((x ≡ c.n) × MayAtDesk c own heard vote)
