-- The tables of a desk: what it has heard of each epoch. The letters: config c, node i, epoch e.
use Rattle.std.specs.Prelude.{◌≡◌, ℕ, ◌<◌, ◌≤◌, Bool, false, List, [], ◌∷◌, ◌++◌, length, Option, slice_index_or}
use Rattle.std.specs.List.{list_any}
use Rattle.std.specs.Option.{option_to_list}
use Rattle.hb_base.specs.Limits.{most_epochs}
use Rattle.hb_base.specs.Numbers.{Numbers}
use Rattle.hb_wire.specs.declared.items.Item.{Item}
use Rattle.hb_wire.specs.declared.vote.Vote.{Vote}
use Rattle.hb_wire.specs.declared.vote.Vote.TheVariants.{NoMore}
use Rattle.hb_wire.specs.Votes.{epoch_of}
use Rattle.hb_rules.specs.Claims.{is_no_more}
use Rattle.hb_rules.specs.DeskRows.{no_more_slot}
use Rattle.hb_rules.specs.Hearing.{Hearing}
use Rattle.hb_rules.specs.Slots.{pass, each, when, IsOwed}
use Rattle.acs_core.specs.Shown.{accepted_of}
use Rattle.acs_core.specs.Subset.{AcsView, node_epoch_of, fresh, slots_at, Stands}
use Rattle.epoch_core.specs.declared.table.Table.{Table}
use Rattle.epoch_core.specs.declared.table.Table.TheVariants.{Unheard, Heard}

-- the common subset that a table shows
abbrev pub acs_of : Numbers → ℕ → ℕ → Table → AcsView
acs_of c i e (Unheard cast) = fresh c i e cast
acs_of c i e (Heard acs) = acs

-- the common subset of an epoch
abbrev pub acs_at : Numbers → ℕ → List Table → ℕ → AcsView
acs_at c i tables e = acs_of c i e (slice_index_or tables e (Unheard false))

-- the list with which an epoch is closed, once it is complete
abbrev pub list_of : Numbers → ℕ → ℕ → Table → Option (List Item)
list_of c i e table = accepted_of (acs_of c i e table).lanes c.n

abbrev pub list_at : Numbers → ℕ → List Table → ℕ → Option (List Item)
list_at c i tables e = accepted_of (acs_at c i tables e).lanes c.n

-- each table is of its epoch
abbrev pub ArePlaced : Numbers → ℕ → List Table → Type 0
ArePlaced c i tables = (e : ℕ) → node_epoch_of (acs_at c i tables e) ≡ record { config = c; node = i; epoch = e }

-- the run has epochs, and fewer faulty nodes than nodes; there is a table for each epoch, and no more epochs are closed
pub record IsSound (c : Numbers) (i closed : ℕ) (tables : List Table) : Type 0 where
  pub some : 0 < c.epochs
  pub few : c.epochs ≤ most_epochs
  pub enough : c.f < c.n
  pub most : closed ≤ c.epochs
  pub count : length tables ≡ c.epochs
  pub placed : ArePlaced c i tables

-- nothing was heard of these epochs, at a desk that has cast these votes
pub record AreUnheard (own : List Vote) (epochs : ℕ) (tables : List Table) : Type 0 where
  pub count : length tables ≡ epochs
  pub each : (e : ℕ) → e < epochs → slice_index_or tables e (Unheard false) ≡ Unheard (list_any (is_no_more e) own)

-- the tables stand for what was cast and heard
pub record HaveHeard (c : Numbers) (i : ℕ) (tables : List Table) (own : List Vote) (heard : List Hearing) : Type 0 where
  pub each : (e : ℕ) → e < c.epochs → Stands (acs_at c i tables e) own heard

-- NoMore of an epoch, if it is due
abbrev pub no_more_if : Bool → ℕ → List Vote
no_more_if is_due e = option_to_list (when is_due (NoMore e))

-- one common subset hears a vote, which makes NoMore due, or not
pub record HearsOne (old new : AcsView) (h : Hearing) (is_due : Bool) : Type 0 where
  pub node_epoch : node_epoch_of new ≡ node_epoch_of old
  pub owed : (own : List Vote) (heard : List Hearing) → Stands old own heard
      → IsOwed (slots_at (node_epoch_of old)) own (heard ++ h ∷ []) (no_more_if is_due old.epoch)
  pub stands : (own : List Vote) (heard : List Hearing) → Stands old own heard
      → Stands new (own ++ no_more_if is_due old.epoch) (heard ++ h ∷ [])

-- the tables hear a vote, which makes NoMore of its epoch due, or not, and no other
pub record HearsAll (c : Numbers) (i : ℕ) (old new : List Table) (h : Hearing) (is_due : Bool) : Type 0 where
  pub count : length new ≡ length old
  pub placed : ArePlaced c i new
  pub row : (own : List Vote) (heard : List Hearing) → HaveHeard c i old own heard
      → pass (each c.epochs (λ e. no_more_slot c e ∷ [])) own (heard ++ h ∷ []) ≡ no_more_if is_due (epoch_of h.vote)
  pub stands : (own : List Vote) (heard : List Hearing) → HaveHeard c i old own heard
      → HaveHeard c i new (own ++ no_more_if is_due (epoch_of h.vote)) (heard ++ h ∷ [])
