-- What a desk may cast in the common subset and the epochs (CCS 2016, figures 3 and 4), by what it has cast (own) and what
-- it has heard.
use Rattle.std.specs.Prelude.{◌≡◌, ℕ, zero, suc, ◌-◌, ◌<◌, ◌≤◌, Bool, true, false, List, map, filter, Contains, All}
use Rattle.std.specs.List.{list_any, range_with_len}
use Rattle.hb_base.specs.Numbers.{Numbers}
use Rattle.hb_wire.specs.declared.items.Item.{Item}
use Rattle.hb_wire.specs.declared.vote.Vote.{Vote}
use Rattle.hb_wire.specs.declared.vote.Vote.TheVariants.{Delivered, Propose, NoMore, Closed}
use Rattle.hb_rules.specs.Claims.{is_decision, is_any_proposal, is_no_more, is_any_closing}
use Rattle.hb_rules.specs.Hearing.{Hearing, hearing, heard_by, count_shown}

-- whether an epoch is open: it is the first, or the one before is closed
abbrev pub is_open : ℕ → List Vote → Bool
is_open zero own = true
is_open (suc e) own = list_any (is_any_closing e) own

-- All n lanes have decided, and the list has, rising, exactly those that decided 1, each with a value that it delivered.
-- A lane of a correct node decides once in an epoch.
pub record IsAccepted (c : Numbers) (e : ℕ) (heard : List Hearing) (list : List Item) : Type 0 where
  pub bits : ℕ → Bool
  pub decided : (j : ℕ) → j < c.n → heard_by heard j (is_decision e (bits j)) ≡ true
  pub lanes : map (λ item. item.node) list ≡ filter bits (range_with_len 0 c.n)
  pub values : All (λ item. Contains heard (hearing item.node (Delivered e item.value))) list

-- What a desk may cast: one proposal for each open epoch of the run; that it wants no more lanes, once n - f have decided
-- 1; and the list with which it closes an open epoch.
abbrev pub MayAtDesk : Numbers → List Vote → List Hearing → Vote → Type 0
MayAtDesk c own heard (Propose e value) =
    (e < c.epochs) × (is_open e own ≡ true) × (list_any (is_any_proposal e) own ≡ false)
MayAtDesk c own heard (NoMore e) =
    (c.n - c.f ≤ count_shown c.n (heard_by heard) (is_decision e true)) × (list_any (is_no_more e) own ≡ false)
MayAtDesk c own heard (Closed e list) =
    (is_open e own ≡ true) × IsAccepted c e heard list × (list_any (is_any_closing e) own ≡ false)
MayAtDesk c own heard _ = ⊥
