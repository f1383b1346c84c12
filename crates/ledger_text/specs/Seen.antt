-- The transactions that were seen, as they are kept.
use Rattle.std.specs.Prelude.{◌≡◌, ◌⊎◌, ◌<◌, ◌≤◌, ℕ, List, [], ◌∷◌, ◌++◌, length, map}
use Rattle.ledger_text.specs.Chains.{chains, most_seen, IsChained, HasSeen}
use Rattle.ledger_text.specs.declared.seen.Seen.{Seen}

abbrev pub txs_of : Seen → List (List ℕ)
txs_of seen = map (λ tx. tx.now) seen.txs.items

-- they are chained, and each chain has its place, if any fit
pub record IsSeen (seen : Seen) : Type 0 where
  pub low : seen.room ≤ most_seen
  pub wide : 0 < seen.room → length seen.latest.items ≡ chains
  pub few : length (txs_of seen) ≤ seen.room
  pub chained : IsChained (txs_of seen) seen.earlier.items seen.latest.items

-- they are those before
pub record Remembers (seen : Seen) (before : List (List ℕ)) : Type 0 where
  pub sound : IsSeen seen
  pub has : HasSeen seen.room (txs_of seen) before

-- the transaction stands behind the others, and as many fit as before; or they stayed, and no more fit
abbrev pub IsAdded : ℕ → List (List ℕ) → ℕ → List (List ℕ) → List ℕ → Type 0
IsAdded room txs room_now txs_now tx =
    ((txs_now ≡ txs ++ tx ∷ []) × (room_now ≡ room)) ⊎ ((txs_now ≡ txs) × (length txs_now ≡ room_now))
