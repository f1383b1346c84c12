-- What a desk owes, by its terms: the letters are as in the rules.
use Rattle.std.proofs.Common.{◌≡◌, ℕ, List, [], ◌++◌, sym, ap, ◌∙◌, subst, append-nil}
use Rattle.hb_base.specs.Numbers.{Numbers}
use Rattle.hb_wire.specs.declared.vote.Vote.{Vote}
use Rattle.hb_rules.specs.Hearing.{Hearing}
use Rattle.hb_rules.specs.Owing.{desk_slots}
use Rattle.hb_rules.specs.Slots.{Slot, IsIdle, IsOwed, owed}
use Rattle.hb_rules.specs.Terms.{terms_of}
use Rattle.hb_rules.proofs.DeskParts.{slots_of-desk}

-- by its terms a desk owes what its slots make owed
pub owed-desk : (c : Numbers) (submitted : List (List ℕ)) (i : ℕ) (own : List Vote) (heard : List Hearing)
    → (terms_of c submitted i c.n).owed own heard ≡ owed (desk_slots c submitted) own heard
owed-desk c submitted i own heard = ap (λ (slots : List (Slot Vote Hearing)). owed slots own heard) (slots_of-desk c submitted i)

-- where nothing is owed nothing is left to do
pub idle_by_owed : (slots : List (Slot Vote Hearing)) (own : List Vote) (heard : List Hearing)
    → IsOwed slots own heard (owed slots own heard) → owed slots own heard ≡ [] → IsIdle slots own heard
idle_by_owed slots own heard is none =
    subst (λ (votes : List Vote). IsIdle slots votes heard) (ap (λ (votes : List Vote). own ++ votes) none ∙ append-nil own) is.rests

-- votes that its slots make owed are those that it owes by its terms
pub owed_is : (c : Numbers) (submitted : List (List ℕ)) (i : ℕ) (own : List Vote) (heard : List Hearing) (votes : List Vote)
    → ((slots : List (Slot Vote Hearing)) (own : List Vote) (heard : List Hearing) (votes others : List Vote)
    → IsOwed slots own heard votes → IsOwed slots own heard others → votes ≡ others)
    → ((c : Numbers) (submitted : List (List ℕ)) (own : List Vote) (heard : List Hearing)
    → IsOwed (desk_slots c submitted) own heard (owed (desk_slots c submitted) own heard))
    → IsOwed (desk_slots c submitted) own heard votes → votes ≡ (terms_of c submitted i c.n).owed own heard
owed_is c submitted i own heard votes unique one is =
    unique (desk_slots c submitted) own heard votes (owed (desk_slots c submitted) own heard) is (one c submitted own heard)
    ∙ sym (owed-desk c submitted i own heard)
