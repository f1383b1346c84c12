-- What is remembered of the transactions before.
use Rattle.std.proofs.Common.{◌≡◌, ◌∙◌, ℕ, List, [], ◌∷◌, ◌++◌, length, true, inl, inr, Result, Ok, Err, ap, sym, subst}
use Rattle.std.specs.Prelude.{OnOk}
use Rattle.tx_pool.specs.Pool.{is_among}
use Rattle.ledger_text.specs.Chains.{HasSeen}
use Rattle.ledger_text.specs.Seen.{txs_of, IsSeen, IsAdded, Remembers}
use Rattle.ledger_text.specs.declared.seen.Seen.{Seen}
use Rattle.ledger_text.proofs.Chains.{seen_none, seen_known, seen_more, seen_full}

pub on_ok : {T E : Type 0} (r : Result T E) (P : Type 0) → P → OnOk r P
on_ok (Ok x) P p = p
on_ok (Err e) P p = tt

pub remembers_none : (seen : Seen) → IsSeen seen → txs_of seen ≡ [] → Remembers seen []
remembers_none seen sound none = record {
  sound = sound;
  has = subst (λ (txs : List (List ℕ)). HasSeen seen.room txs []) (sym none) (seen_none seen.room);
}

pub remembers_known : (seen : Seen) (before : List (List ℕ)) (tx : List ℕ) → Remembers seen before → is_among before tx ≡ true
    → Remembers seen (before ++ tx ∷ [])
remembers_known seen before tx remembers known = record {
  sound = remembers.sound;
  has = seen_known seen.room (txs_of seen) before tx remembers.has known;
}

pub remembers_new : (seen new : Seen) (before : List (List ℕ)) (tx : List ℕ) → Remembers seen before → IsSeen new
    → IsAdded seen.room (txs_of seen) new.room (txs_of new) tx → Remembers new (before ++ tx ∷ [])
remembers_new seen new before tx remembers sound (inl added) = record {
  sound = sound;
  has = subst (λ (room : ℕ). HasSeen room (txs_of new) (before ++ tx ∷ [])) (sym added.1)
      (subst (λ (txs : List (List ℕ)). HasSeen seen.room txs (before ++ tx ∷ [])) (sym added.0) (seen_more seen.room (txs_of seen) before tx remembers.has));
}
remembers_new seen new before tx remembers sound (inr full) = record {
  sound = sound;
  has = subst (λ (txs : List (List ℕ)). HasSeen new.room txs (before ++ tx ∷ [])) (sym full.0)
      (seen_full seen.room new.room (txs_of seen) before tx remembers.has (ap length (sym full.0) ∙ full.1));
}
