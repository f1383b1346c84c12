-- What a lane owes is what it owes in each epoch.
use Rattle.std.proofs.Common.{◌≡◌, ◌↔◌, ℕ, ◌<◌, Bool, true, false, List, ◌++◌, sym, ◌∙◌, subst}
use Rattle.hb_base.specs.Numbers.{Numbers}
use Rattle.hb_wire.specs.declared.vote.Vote.{Vote}
use Rattle.hb_rules.specs.AgreementRows.{agreement_rows}
use Rattle.hb_rules.specs.BroadcastRows.{broadcast_rows}
use Rattle.hb_rules.specs.Hearing.{Hearing}
use Rattle.hb_rules.specs.Owing.{broadcast_slots, agreement_slots, lane_slots}
use Rattle.hb_rules.specs.Slots.{Slot, IsIdle, of_epoch}
use Rattle.hb_rules.proofs.Passing.{idle_both, idle_parts}
use Rattle.hb_rules.proofs.Rows.{of_epoch-append}
use Rattle.quiet_check.specs.Lanes.{epoch_slots}
use Rattle.quiet_check.proofs.Slots.{idle_epochs}

pub lane_epochs : (c : Numbers) (i j : ℕ) (own : List Vote) (heard : List Hearing)
    → IsIdle (lane_slots c i j) own heard ↔ ((e : ℕ) → e < c.epochs → IsIdle (epoch_slots c i j e) own heard)
lane_epochs c i j own heard =
    let both = idle_epochs c.epochs (broadcast_rows c i j ++ agreement_rows c i j) own heard in (
      λ idle e below. subst (λ (slots : List (Slot Vote Hearing)). IsIdle slots own heard) (same e) (both.0 idle e below),
      λ all. both.1 (λ e below. subst (λ (slots : List (Slot Vote Hearing)). IsIdle slots own heard) (sym (same e)) (all e below)),
    )
  where
    same : (e : ℕ) → of_epoch e (broadcast_rows c i j ++ agreement_rows c i j) ≡ epoch_slots c i j e
    same e = of_epoch-append e (broadcast_rows c i j) (agreement_rows c i j)

-- an answer that something is owed
pub not_told : (answer : Bool) (P : Type 0) → ((answer ≡ true) ↔ P) → answer ≡ false → P → ⊥
not_told answer P exact fails holds = absurd (cc (sym fails ∙ exact.1 holds))

-- where the broadcast owes something
pub broadcast_owes : (c : Numbers) (i j e : ℕ) (own : List Vote) (heard : List Hearing) (answer : Bool)
    → ((answer ≡ true) ↔ IsIdle (broadcast_slots c i j e) own heard) → answer ≡ false → IsIdle (epoch_slots c i j e) own heard → ⊥
broadcast_owes c i j e own heard answer exact fails idle =
    not_told answer (IsIdle (broadcast_slots c i j e) own heard) exact fails (idle_parts (broadcast_slots c i j e) (agreement_slots c i j e) own heard idle).0

-- where it owes nothing, the agreement tells
pub agreement_tells : (c : Numbers) (i j e : ℕ) (own : List Vote) (heard : List Hearing) (first answer : Bool)
    → ((first ≡ true) ↔ IsIdle (broadcast_slots c i j e) own heard) → first ≡ true
    → ((answer ≡ true) ↔ IsIdle (agreement_slots c i j e) own heard)
    → (answer ≡ true) ↔ IsIdle (epoch_slots c i j e) own heard
agreement_tells c i j e own heard first answer one passes two = (
  λ told. idle_both (broadcast_slots c i j e) (agreement_slots c i j e) own heard (one.0 passes) (two.0 told),
  λ idle. two.1 (idle_parts (broadcast_slots c i j e) (agreement_slots c i j e) own heard idle).1,
)
