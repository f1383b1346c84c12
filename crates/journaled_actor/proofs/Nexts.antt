-- One vote more of votes that are posted in turn.
use Rattle.std.proofs.Common.{◌≡◌, ℕ, ◌<◌, ◌+◌, ◌⊎◌, inl, inr, List, [], ◌∷◌, ◌++◌, length, take, drop, get_or, Result, Err, refl, sym, ap, ◌∙◌, ◌≤◌, subst}
use Rattle.hb_base.specs.Limits.{most_posts}
use Rattle.hb_base.specs.Numbers.{Numbers}
use Rattle.hb_wire.specs.declared.vote.Vote.{Vote}
use Rattle.hb_wire.specs.declared.post.Post.{Post}
use Rattle.hb_rules.specs.declared.actor.ActorFault.{ActorFault}
use Rattle.hb_rules.specs.declared.actor.ActorFault.TheVariants.{Journal, Full, Memory}
use Rattle.hb_rules.specs.Actor.{Told}
use Rattle.hb_rules.specs.Book.{post_of, Watched, Posted}
use Rattle.hb_rules.specs.History.{HasSpelling, IsAllowed}
use Rattle.std.proofs.lemmas.List.{take_all}
use Rattle.hb_rules.specs.Terms.{Terms, cast_in}
use Rattle.journaled_actor.specs.Kept.{IsOf, Turn, CastSome}
use Rattle.journaled_actor.specs.Payload.{AreWritten}
use Rattle.journaled_actor.proofs.Payloads.{next_taken, next_left, holds_at}
use Rattle.journaled_actor.proofs.Posted.{at_terms, from_terms, told_trans, told_watched, posting_next, posting_failed, IsPosting, HasPosted}
use Rattle.hb_rules.proofs.Turns.{IsWritten, turn_spelled, turn_allows}

module _ {t : Terms} {c : Numbers} {i x : ℕ} (is : IsOf t c i x) {old mid : List Post} {votes : List Vote} {k : ℕ} {vote : Vote} {before out : List ℕ}
    (written : AreWritten t.config votes) (within : k < length votes) (at : vote ≡ get_or votes k vote) (so_far : IsPosting t old mid votes k before out) where
  turn_here : (done : List Vote) → Turn t old done votes → Turn t mid (done ++ take k votes) (vote ∷ drop (k + 1) votes)
  turn_here done turn = subst (Turn t mid (done ++ take k votes)) (next_left votes k vote within at) (so_far.turn done turn)

  pub next_spelled : (done : List Vote) → Turn t old done votes → HasSpelling c vote
  next_spelled done turn =
      from_terms t c i x is (λ (d : Numbers) (j y : ℕ). HasSpelling d vote)
      (turn_spelled t mid (done ++ take k votes) (drop (k + 1) votes) vote (turn_here done turn))

  pub next_allowed : (done : List Vote) → Turn t old done votes → IsAllowed c i x mid vote
  next_allowed done turn =
      from_terms t c i x is (λ (d : Numbers) (j y : ℕ). IsAllowed d j y mid vote)
      (turn_allows t mid (done ++ take k votes) (drop (k + 1) votes) vote (turn_here done turn))

  module _ {new : List Post} where
    pub next_posted : {after : List ℕ} → (n : ℕ) × Posted c i x (post_of i x vote) n mid new × (after ≡ out ++ n ∷ [])
        → IsPosting t old new votes (k + 1) before after
    next_posted {after} posted =
        posting_next t old mid new votes k vote before out after (next_taken votes k vote within at) (next_left votes k vote within at) so_far posted.0
        (holds_at (IsWritten t) votes k vote written within at)
        (at_terms t c i x is (λ (d : Numbers) (j y : ℕ). Posted d j y (post_of j y vote) posted.0 mid new) posted.1)
        posted.2

    at_post : Watched c i x mid new ⊎ ((n : ℕ) × Posted c i x (post_of i x vote) n mid new)
        → Watched t.config t.node t.actor mid new ⊎ ((n : ℕ) × Posted t.config t.node t.actor (post_of t.node t.actor vote) n mid new)
    at_post (inl watched) = inl (at_terms t c i x is (λ (d : Numbers) (j y : ℕ). Watched d j y mid new) watched)
    at_post (inr posted) = inr (posted.0, at_terms t c i x is (λ (d : Numbers) (j y : ℕ). Posted d j y (post_of j y vote) posted.0 mid new) posted.1)

    pub next_failed : Watched c i x mid new ⊎ ((n : ℕ) × Posted c i x (post_of i x vote) n mid new) → HasPosted t old new votes before
    next_failed came =
        posting_failed t old mid new votes k vote before out (next_taken votes k vote within at) (next_left votes k vote within at) so_far
        (holds_at (IsWritten t) votes k vote written within at) (at_post came)

    -- all is told, unless memory was wanting
    pub next_told : {T : Type 0} {after : List ℕ} (fault : ActorFault)
        → (◌≡◌ {A = Result T ActorFault} (Err fault) (Err Journal) → ⊥)
        → (◌≡◌ {A = Result T ActorFault} (Err fault) (Err Full) → Watched c i x mid new × (after ≡ out) × (length new ≡ most_posts))
        → (◌≡◌ {A = Result T ActorFault} (Err fault) (Err Memory) → ⊥) → Told t old new before after
    next_told Journal not_journal full not_memory = absurd (not_journal refl)
    next_told Memory not_journal full not_memory = absurd (not_memory refl)
    next_told {after = after} Full not_journal full not_memory =
        let f = full refl in
        told_trans t old mid new before out after so_far.told
        (subst (Told t mid new out) (sym f.1)
        (told_watched t mid new out (at_terms t c i x is (λ (d : Numbers) (j y : ℕ). Watched d j y mid new) f.0)))

pub cast_some : {t : Terms} {old new : List Post} {votes : List Vote} {k : ℕ} {before after : List ℕ} → IsPosting t old new votes k before after
    → CastSome t old new votes
cast_some {k = k} so_far = record { count = k; cast = so_far.cast }

-- and once all are done
pub cast_whole : {t : Terms} {old new : List Post} {votes : List Vote} {k : ℕ} {before after : List ℕ} → length votes ≤ k
    → IsPosting t old new votes k before after → cast_in t new ≡ cast_in t old ++ votes
cast_whole {t = t} {old = old} {votes = votes} {k = k} all so_far =
    so_far.cast ∙ ap (λ (xs : List Vote). cast_in t old ++ xs) (take_all k votes all)
