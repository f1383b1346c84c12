-- What can be seen of a vote's bytes.
use Rattle.std.specs.Prelude.{◌≡◌, ℕ, ◌<◌, List, ◌∷◌, length}
use Rattle.hb_wire.specs.declared.items.Item.{Item}
use Rattle.hb_wire.specs.declared.vote.Vote.{Vote}
use Rattle.hb_wire.specs.declared.vote.Vote.TheVariants.{Closed}
use Rattle.hb_wire.specs.Votes.{kind_of, epoch_of, Spells}

-- the first two bytes are the vote's kind and epoch, and rest is what is behind them
pub record IsGlance (bytes : List ℕ) (vote : Vote) (kind epoch : ℕ) (rest : List ℕ) : Type 0 where
  pub kind_is : kind ≡ kind_of vote
  pub epoch_is : epoch ≡ epoch_of vote
  pub parts : bytes ≡ kind ∷ epoch ∷ rest

-- behind the first two bytes of a closed vote with these items stands rest
pub record IsClosedRest (rest : List ℕ) (items : List Item) : Type 0 where
  pub n : ℕ
  pub version : ℕ
  pub epoch : ℕ
  pub spells : Spells n version (0x12 ∷ epoch ∷ rest) (Closed epoch items)

-- and it has an item j
abbrev pub HasItemAt : List ℕ → ℕ → Type 0
HasItemAt rest j = (items : List Item) × IsClosedRest rest items × (j < length items)
