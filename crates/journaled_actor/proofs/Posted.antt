-- What posts of an actor do to what it has cast, and the numbers that are told of them.
use Rattle.std.proofs.Common.{◌≡◌, ℕ, ◌≤◌, ◌+◌, ◌⊎◌, inl, inr, Bool, true, false, List, [], ◌∷◌, ◌++◌, length, take, drop, if◌then◌else◌, refl, sym, ap, ◌∙◌, subst, arith, append-nil, append_assoc, length-append}
use Rattle.std.proofs.lemmas.List.{take-append-drop, take_all, drop_all}
use Rattle.std.proofs.lemmas.List.Elements.{filter_map-append}
use Rattle.hb_base.specs.Numbers.{Numbers}
use Rattle.hb_wire.specs.declared.vote.Vote.{Vote}
use Rattle.hb_wire.specs.declared.post.Post.{Post}
use Rattle.hb_rules.specs.Actor.{Told, numbers_from}
use Rattle.hb_rules.specs.Book.{is_mine, mine_in, post_of, Watched, Posted}
use Rattle.hb_rules.specs.Hearing.{is_by, vote_by}
use Rattle.hb_rules.specs.Ledger.{IsPrefix}
use Rattle.hb_rules.specs.Same.{firsts}
use Rattle.hb_rules.specs.Terms.{Terms, cast_in}
use Rattle.hb_rules.proofs.Seats.{own_in-watched, not_by}
use Rattle.journaled_actor.specs.Kept.{IsOf, Turn, Covers}
use Rattle.hb_rules.proofs.Turns.{IsWritten, post_by, one_cast, turn_watched, turn_next, turn_covers, turn_done}

-- ---- the seat is the one of the terms

pub at_terms : (t : Terms) (c : Numbers) (i x : ℕ) → IsOf t c i x → (P : Numbers → ℕ → ℕ → Type 0) → P c i x → P t.config t.node t.actor
at_terms t c i x is P p =
    subst (λ (y : ℕ). P t.config t.node y) is.actor_is (subst (λ (j : ℕ). P t.config j x) is.node_is (subst (λ (d : Numbers). P d i x) is.config_is p))

pub from_terms : (t : Terms) (c : Numbers) (i x : ℕ) → IsOf t c i x → (P : Numbers → ℕ → ℕ → Type 0) → P t.config t.node t.actor → P c i x
from_terms t c i x is P p =
    subst (λ (y : ℕ). P c i y) (sym is.actor_is) (subst (λ (j : ℕ). P c j t.actor) (sym is.node_is) (subst (λ (d : Numbers). P d t.node t.actor) (sym is.config_is) p))

-- ---- prefixes

pub prefix_refl : (posts : List Post) → IsPrefix posts posts
prefix_refl posts = record { rest = []; is = sym (append-nil posts) }

pub prefix_trans : (a b c : List Post) → IsPrefix a b → IsPrefix b c → IsPrefix a c
prefix_trans a b c one two = record {
  rest = one.rest ++ two.rest;
  is = two.is ∙ ap (λ (posts : List Post). posts ++ two.rest) one.is ∙ append_assoc a one.rest two.rest;
}

pub watched_prefix : (c : Numbers) (i x : ℕ) (old new : List Post) → Watched c i x old new → IsPrefix old new
watched_prefix c i x old new watched = record { rest = watched.between; is = watched.is }

pub posted_prefix : (c : Numbers) (i x k : ℕ) (post : Post) (old new : List Post) → Posted c i x post k old new → IsPrefix old new
posted_prefix c i x k post old new posted =
    prefix_trans old posted.before new (watched_prefix c i x old posted.before posted.watched) (record { rest = post ∷ []; is = posted.is })

-- ---- what is cast

pub watched_cast : (t : Terms) (old new : List Post) → Watched t.config t.node t.actor old new → cast_in t new ≡ cast_in t old
watched_cast t old new watched = own_in-watched t.config t.node t.actor old new watched

pub posted_cast : (t : Terms) (k : ℕ) (vote : Vote) (old new : List Post) → IsWritten t vote
    → Posted t.config t.node t.actor (post_of t.node t.actor vote) k old new → cast_in t new ≡ cast_in t old ++ vote ∷ []
posted_cast t k vote old new written posted =
    ap (cast_in t) posted.is
    ∙ filter_map-append (vote_by t.config t.node t.actor) posted.before (post_of t.node t.actor vote ∷ [])
    ∙ ap (λ (votes : List Vote). votes ++ cast_in t (post_of t.node t.actor vote ∷ [])) (watched_cast t old posted.before posted.watched)
    ∙ ap (λ (votes : List Vote). cast_in t old ++ votes) (one_cast t vote written)

-- ---- what is told

numbers_append : (t : Terms) (k : ℕ) (posts more : List Post) → numbers_from t k (posts ++ more) ≡ numbers_from t k posts ++ numbers_from t (k + length posts) more
numbers_append t k [] more = let e : k + 0 ≡ k = omega arith in ap (λ (m : ℕ). numbers_from t m more) (sym e)
numbers_append t k (post ∷ posts) more =
    let e : (k + 1) + length posts ≡ k + length (post ∷ posts) = omega arith in
    let here = if is_by t.node t.actor post then k ∷ [] else [] in
    ap (λ (ms : List ℕ). here ++ ms)
    (numbers_append t (k + 1) posts more ∙ ap (λ (m : ℕ). numbers_from t (k + 1) posts ++ numbers_from t m more) e)
    ∙ sym (append_assoc here (numbers_from t (k + 1) posts) (numbers_from t (k + length (post ∷ posts)) more))

numbers_others : (t : Terms) (k : ℕ) (posts : List Post) → mine_in t.config t.node t.actor posts ≡ [] → numbers_from t k posts ≡ []
numbers_others t k [] others = refl
numbers_others t k (post ∷ posts) others = by (is_mine t.config t.node t.actor post) refl others (numbers_others t (k + 1) posts)
  where
    by : (b : Bool) → is_mine t.config t.node t.actor post ≡ b
        → (if b then post ∷ mine_in t.config t.node t.actor posts else mine_in t.config t.node t.actor posts) ≡ []
        → (mine_in t.config t.node t.actor posts ≡ [] → numbers_from t (k + 1) posts ≡ []) → numbers_from t k (post ∷ posts) ≡ []
    by true mine none later = absurd (omega (arith, ap (λ (xs : List Post). length xs) none))
    by false mine none later = rw (not_by t.config t.node t.actor post mine) (later none)

pub told_refl : (t : Terms) (seen : List Post) (out : List ℕ) → Told t seen seen out out
told_refl t seen out = record { added = []; grown = sym (append-nil seen); told = sym (append-nil out) }

pub told_trans : (t : Terms) (a b c : List Post) (x y z : List ℕ) → Told t a b x y → Told t b c y z → Told t a c x z
told_trans t a b c x y z one two = record {
  added = one.added ++ two.added;
  grown = two.grown ∙ ap (λ (posts : List Post). posts ++ two.added) one.grown ∙ append_assoc a one.added two.added;
  told =
      two.told ∙ ap (λ (ns : List ℕ). ns ++ numbers_from t (length b) two.added) one.told
      ∙ append_assoc x (numbers_from t (length a) one.added) (numbers_from t (length b) two.added)
      ∙ ap (λ (ns : List ℕ). x ++ ns)
      (ap (λ (m : ℕ). numbers_from t (length a) one.added ++ numbers_from t m two.added)
      (ap (λ (posts : List Post). length posts) one.grown ∙ length-append a one.added)
      ∙ sym (numbers_append t (length a) one.added two.added));
}

pub told_watched : (t : Terms) (old new : List Post) (out : List ℕ) → Watched t.config t.node t.actor old new → Told t old new out out
told_watched t old new out watched = record {
  added = watched.between;
  grown = watched.is;
  told = sym (ap (λ (ns : List ℕ). out ++ ns) (numbers_others t (length old) watched.between watched.others) ∙ append-nil out);
}

pub told_posted : (t : Terms) (k : ℕ) (vote : Vote) (old new : List Post) (out : List ℕ)
    → Posted t.config t.node t.actor (post_of t.node t.actor vote) k old new → Told t old new out (out ++ k ∷ [])
told_posted t k vote old new out posted =
    told_trans t old posted.before new out out (out ++ k ∷ []) (told_watched t old posted.before out posted.watched) (record {
      added = post_of t.node t.actor vote ∷ [];
      grown = posted.is;
      told = ap (λ (ns : List ℕ). out ++ ns) (one_told (length posted.before) posted.number);
    })
  where
    one_told : (m : ℕ) → k ≡ m → k ∷ [] ≡ numbers_from t m (post_of t.node t.actor vote ∷ [])
    one_told m is = ap (λ (n : ℕ). n ∷ []) is ∙ sym (rw (post_by t vote) refl)

-- ---- posting votes in turn

-- how far it has come: the first votes are posted, and told
pub record IsPosting (t : Terms) (old new : List Post) (votes : List Vote) (k : ℕ) (before after : List ℕ) : Type 0 where
  pub prefix : IsPrefix old new
  pub cast : cast_in t new ≡ cast_in t old ++ take k votes
  pub turn : (done : List Vote) → Turn t old done votes → Turn t new (done ++ take k votes) (drop k votes)
  pub told : Told t old new before after

pub posting_begins : (t : Terms) (seen : List Post) (votes : List Vote) (out : List ℕ) → IsPosting t seen seen votes 0 out out
posting_begins t seen votes out = record {
  prefix = prefix_refl seen;
  cast = sym (append-nil (cast_in t seen));
  turn = λ done turn. subst (λ (xs : List Vote). Turn t seen xs votes) (sym (append-nil done)) turn;
  told = told_refl t seen out;
}

module _ (t : Terms) (old mid new : List Post) (votes : List Vote) (k : ℕ) (vote : Vote) (before out after : List ℕ)
    (is : take (k + 1) votes ≡ take k votes ++ vote ∷ []) (left : drop k votes ≡ vote ∷ drop (k + 1) votes)
    (so_far : IsPosting t old mid votes k before out) where
  -- a post more, however it is told
  posting_goes : IsPrefix mid new → cast_in t new ≡ cast_in t mid ++ vote ∷ [] → Told t mid new out after → IsPosting t old new votes (k + 1) before after
  posting_goes prefix cast told = record {
    prefix = prefix_trans old mid new so_far.prefix prefix;
    cast =
        cast ∙ ap (λ (xs : List Vote). xs ++ vote ∷ []) so_far.cast
        ∙ append_assoc (cast_in t old) (take k votes) (vote ∷ [])
        ∙ ap (λ (xs : List Vote). cast_in t old ++ xs) (sym is);
    turn = λ done turn.
        let here : Turn t mid (done ++ take k votes) (vote ∷ drop (k + 1) votes) =
        subst (Turn t mid (done ++ take k votes)) left (so_far.turn done turn) in
        subst (λ (xs : List Vote). Turn t new xs (drop (k + 1) votes))
        (append_assoc done (take k votes) (vote ∷ []) ∙ ap (λ (xs : List Vote). done ++ xs) (sym is))
        (turn_next t mid new (done ++ take k votes) (drop (k + 1) votes) vote prefix cast here);
    told = told_trans t old mid new before out after so_far.told told;
  }

  pub posting_next : (n : ℕ) → IsWritten t vote → Posted t.config t.node t.actor (post_of t.node t.actor vote) n mid new → after ≡ out ++ n ∷ []
      → IsPosting t old new votes (k + 1) before after
  posting_next n written posted is_told =
      posting_goes (posted_prefix t.config t.node t.actor n (post_of t.node t.actor vote) mid new posted) (posted_cast t n vote mid new written posted)
      (subst (Told t mid new out) (sym is_told) (told_posted t n vote mid new out posted))

-- what is posted so far, however it is told
pub record HasPosted (t : Terms) (old new : List Post) (votes : List Vote) (before : List ℕ) : Type 0 where
  pub count : ℕ
  pub out : List ℕ
  pub is : IsPosting t old new votes count before out

pub posting_watched : (t : Terms) (old mid new : List Post) (votes : List Vote) (k : ℕ) (before after : List ℕ)
    → Watched t.config t.node t.actor mid new → IsPosting t old mid votes k before after → IsPosting t old new votes k before after
posting_watched t old mid new votes k before after watched so_far =
    let prefix = watched_prefix t.config t.node t.actor mid new watched in
    let same = watched_cast t mid new watched in
    record {
      prefix = prefix_trans old mid new so_far.prefix prefix;
      cast = same ∙ so_far.cast;
      turn = λ done turn. turn_watched t mid new (done ++ take k votes) (drop k votes) prefix same (so_far.turn done turn);
      told = told_trans t old mid new before after after so_far.told (told_watched t mid new after watched);
    }

pub posting_covers : (t : Terms) (old new : List Post) (votes : List Vote) (k : ℕ) (before after : List ℕ) → IsPosting t old new votes k before after
    → (done : List Vote) → Turn t old done votes → Covers t new (done ++ votes)
posting_covers t old new votes k before after so_far done turn =
    turn_covers t new done (take k votes) (drop k votes) votes (take-append-drop k votes) (so_far.turn done turn)

pub posting_done : (t : Terms) (old new : List Post) (votes : List Vote) (k : ℕ) (before after : List ℕ) → length votes ≤ k
    → IsPosting t old new votes k before after → (done : List Vote) → Turn t old done votes → firsts (cast_in t new) ≡ done ++ votes
posting_done t old new votes k before after whole so_far done turn =
    let at_end : Turn t new (done ++ votes) [] =
    subst (λ (xs : List Vote). Turn t new (done ++ xs) []) (take_all k votes whole)
    (subst (λ (xs : List Vote). Turn t new (done ++ take k votes) xs) (drop_all k votes whole) (so_far.turn done turn)) in
    turn_done t new (done ++ votes) at_end

-- a post was refused, or it stands and is not told
pub posting_failed : (t : Terms) (old mid new : List Post) (votes : List Vote) (k : ℕ) (vote : Vote) (before out : List ℕ)
    → take (k + 1) votes ≡ take k votes ++ vote ∷ [] → drop k votes ≡ vote ∷ drop (k + 1) votes → IsPosting t old mid votes k before out
    → IsWritten t vote
    → Watched t.config t.node t.actor mid new
    ⊎ ((n : ℕ) × Posted t.config t.node t.actor (post_of t.node t.actor vote) n mid new)
    → HasPosted t old new votes before
posting_failed t old mid new votes k vote before out is left so_far written (inl watched) =
    record { count = k; out = out; is = posting_watched t old mid new votes k before out watched so_far }
posting_failed t old mid new votes k vote before out is left so_far written (inr posted) =
    record {
      count = k + 1;
      out = out ++ posted.0 ∷ [];
      is = posting_next t old mid new votes k vote before out (out ++ posted.0 ∷ []) is left so_far posted.0 written posted.1 refl;
    }
