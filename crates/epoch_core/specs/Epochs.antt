-- What the state of all epochs stands for: what was submitted at its node, the votes that its desk has cast and those that
-- it has heard.
use Rattle.std.specs.Prelude.{◌≡◌, ℕ, ◌<◌, ◌≤◌, true, false, not, List, [], ◌∷◌, ◌++◌, Option, None, Some, filter}
use Rattle.std.specs.List.{list_any, AllByRecursion}
use Rattle.std.specs.Option.{option_map, option_to_list}
use Rattle.hb_base.specs.Numbers.{Numbers}
use Rattle.tx_pool.specs.Calls.{first_places}
use Rattle.hb_wire.specs.declared.vote.Vote.{Vote}
use Rattle.hb_wire.specs.declared.vote.Vote.TheVariants.{Propose}
use Rattle.hb_wire.specs.Votes.{epoch_of}
use Rattle.hb_rules.specs.Claims.{is_any_closing, is_any_proposal}
use Rattle.hb_rules.specs.Desk.{is_open}
use Rattle.hb_rules.specs.Hearing.{Hearing}
use Rattle.hb_rules.specs.Owing.{desk_slots}
use Rattle.hb_rules.specs.Pool.{settles_below, pool_value}
use Rattle.hb_rules.specs.Slots.{IsIdle, IsOwed}
use Rattle.epoch_core.specs.declared.table.Table.{Table}
use Rattle.epoch_core.specs.Tables.{HaveHeard}

-- which desk it is, its pool, how many epochs it has closed, the value of its first proposal where that is not cast, and
-- what it has heard of each epoch
pub record EpochsView : Type 0 where
  pub config : Numbers
  pub node : ℕ
  pub pooled : List (List ℕ)
  pub closed : ℕ
  pub first : Option (List ℕ)
  pub tables : List Table

-- the first proposal is cast
abbrev pub has_started : EpochsView → Type 0
has_started d = d.first ≡ None

-- the first proposal, where it is not cast
abbrev pub first_votes : EpochsView → List Vote
first_votes d = option_to_list (option_map (Propose 0) d.first)

-- Votes that a desk may have cast: it closed only epochs of the run, and each after the one before; it proposed for no
-- epoch that is not open; and it proposed for each that is, but perhaps not for the first.
pub record AreInOrder (c : Numbers) (own : List Vote) : Type 0 where
  pub within : (e : ℕ) → list_any (is_any_closing e) own ≡ true → e < c.epochs
  pub closings : (e : ℕ) → list_any (is_any_closing e) own ≡ true → is_open e own ≡ true
  pub proposals : (e : ℕ) → list_any (is_any_proposal e) own ≡ true → is_open e own ≡ true
  pub proposed : (e : ℕ) → 0 < e → e < c.epochs → is_open e own ≡ true → list_any (is_any_proposal e) own ≡ true

-- what was heard is of epochs that the run has
abbrev pub AreWithin : Numbers → List Hearing → Type 0
AreWithin c heard = AllByRecursion (λ h. epoch_of h.vote < c.epochs) heard

-- the epochs below this one are closed, and no others
pub record HasClosed (epochs closed : ℕ) (own : List Vote) : Type 0 where
  pub below : (e : ℕ) → e < closed → list_any (is_any_closing e) own ≡ true
  pub above : (e : ℕ) → closed ≤ e → e < epochs → list_any (is_any_closing e) own ≡ false

-- the epochs up to this one have a proposal, and no others
pub record HasProposed (epochs open_one : ℕ) (own : List Vote) : Type 0 where
  pub upto : (e : ℕ) → e ≤ open_one → e < epochs → list_any (is_any_proposal e) own ≡ true
  pub above : (e : ℕ) → open_one < e → e < epochs → list_any (is_any_proposal e) own ≡ false

-- the submitted transactions, each at its first place, that no closed list of an epoch below e has
abbrev pub unsettled : ℕ → List (List ℕ) → List Vote → List (List ℕ)
unsettled e submitted own = filter (λ tx. not (list_any (settles_below e tx) own)) (first_places submitted)

-- the value that the first proposal has to have, where it is not cast
abbrev pub HasFirst : Numbers → List (List ℕ) → List Vote → Option (List ℕ) → Type 0
HasFirst c submitted own None = list_any (is_any_proposal 0) own ≡ true
HasFirst c submitted own (Some value) = (list_any (is_any_proposal 0) own ≡ false) × (value ≡ pool_value c submitted 0 own)

-- The state stands for what was submitted, cast and heard: but for the first proposal nothing is owed; the epochs below
-- `closed` are closed, and those up to it proposed for; the pool has what they do not settle; and the tables have what was
-- heard.
pub record Stands (d : EpochsView) (submitted : List (List ℕ)) (own : List Vote) (heard : List Hearing) : Type 0 where
  pub idle : IsIdle (desk_slots d.config submitted) (own ++ first_votes d) heard
  pub closed : HasClosed d.config.epochs d.closed own
  pub proposed : HasProposed d.config.epochs d.closed (own ++ first_votes d)
  pub pooled : d.pooled ≡ unsettled d.closed submitted own
  pub first : HasFirst d.config submitted own d.first
  pub tables : HaveHeard d.config d.node d.tables own heard

-- The first proposal is cast, if it was not: whatever the state stood for with nothing heard, exactly that is owed.
pub record Starts (old new : EpochsView) (before after : List Vote) : Type 0 where
  pub state : new ≡ record old { first = None }
  pub due : after ≡ before ++ first_votes old
  pub owed : (submitted : List (List ℕ)) (own : List Vote) → Stands old submitted own []
      → IsOwed (desk_slots old.config submitted) own [] (first_votes old)
  pub stands : (submitted : List (List ℕ)) (own : List Vote) (heard : List Hearing) → Stands old submitted own heard
      → Stands new submitted (own ++ first_votes old) heard

-- The state hears one vote more: whatever it stood for, exactly the votes that are owed then become due, in their order,
-- and it stands for all of these.
pub record Hears (old new : EpochsView) (h : Hearing) (before after : List Vote) : Type 0 where
  pub config : new.config ≡ old.config
  pub node : new.node ≡ old.node
  pub started : has_started new
  pub votes : List Vote
  pub due : after ≡ before ++ votes
  pub owed : (submitted : List (List ℕ)) (own : List Vote) (heard : List Hearing) → Stands old submitted own heard
      → IsOwed (desk_slots old.config submitted) own (heard ++ h ∷ []) votes
  pub stands : (submitted : List (List ℕ)) (own : List Vote) (heard : List Hearing) → Stands old submitted own heard
      → Stands new submitted (own ++ votes) (heard ++ h ∷ [])
