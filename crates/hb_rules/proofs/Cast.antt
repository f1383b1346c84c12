-- Votes that actors have cast and heard in a history, and the posts from which they come.
use Rattle.std.proofs.Common.{◌≡◌, ◌≢◌, ℕ, ◌<◌, ◌⊎◌, nat_lt, Bool, true, false, ◌&&◌, ◌==◌, inl, inr, List, [], ◌∷◌, ◌++◌, Contains, Option, None, Some, if◌then◌else◌, refl, sym, ap, ◌∙◌, subst, arith, append_assoc}
use Rattle.std.proofs.lemmas.Bool.{eqb-true, eq-eqb, and_parts, false_from_ne_true}
use Rattle.std.proofs.lemmas.Option.{cond_some}
use Rattle.std.proofs.lemmas.List.Elements.{Contains-append_cases, filter_map-append}
use Rattle.hb_base.specs.Numbers.{Numbers}
use Rattle.hb_base.specs.NodeSet.{is_in}
use Rattle.hb_wire.specs.declared.vote.To.{To}
use Rattle.hb_wire.specs.declared.vote.To.TheVariants.{Book, Home, All, Node}
use Rattle.hb_wire.specs.declared.vote.Vote.{Vote}
use Rattle.hb_wire.specs.declared.vote.Vote.TheVariants.{Propose, NoMore}
use Rattle.hb_wire.specs.declared.post.Post.{Post}
use Rattle.hb_wire.specs.Votes.{address_of, IsVote}
use Rattle.hb_wire.specs.Addresses.{is_at_home, goes_to, reaches}
use Rattle.hb_wire.proofs.VoteLemmas.{vote_again}
use Rattle.hb_rules.specs.Hearing.{Hearing, hearing, heeds, is_within, spelled, name_at, hearing_at, hearing_of, heard_in, is_by, vote_by, own_in}
use Rattle.hb_rules.specs.Rules.{MayCast}
use Rattle.hb_rules.specs.History.{IsCorrectPost, MayFollow, IsAllowed, IsLegal}
use Rattle.hb_rules.proofs.Lists.{source_of, Contains-filter_map, Contains-cases, kept_stays}
use Rattle.hb_rules.proofs.Addressed.{AreAddressed, addressed_induction, IsLegal-front}

-- ---- what a post casts

-- a post is of actor x of node i and spells the vote
pub record IsCastBy (c : Numbers) (i x : ℕ) (post : Post) (vote : Vote) : Type 0 where
  pub from : post.from ≡ i
  pub actor : post.actor ≡ x
  pub is : spelled c post ≡ Some vote

cast_by : (c : Numbers) (i x : ℕ) (post : Post) (vote : Vote) → vote_by c i x post ≡ Some vote → IsCastBy c i x post vote
cast_by c i x post vote h = by (is_by i x post) refl h
  where
    by : (b : Bool) → is_by i x post ≡ b → (if b then spelled c post else None) ≡ Some vote → IsCastBy c i x post vote
    by true mine h =
        let parts = and_parts (post.from == i) (post.actor == x) mine in
        record { from = eqb-true post.from i parts.0; actor = eqb-true post.actor x parts.1; is = h }
    by false other h = absurd (cc (h))

-- where a vote that was cast comes from
pub cast_from : (c : Numbers) (i x : ℕ) (history : List Post) (vote : Vote) → Contains (own_in c i x history) vote
    → (post : Post) × Contains history post × IsCastBy c i x post vote
cast_from c i x history vote stands =
    let source = source_of (vote_by c i x) history vote stands in
    (source.element, source.stands, cast_by c i x source.element vote source.gives)

-- the converse
pub cast_stands : (c : Numbers) (i x : ℕ) (history : List Post) (post : Post) (vote : Vote) → Contains history post → IsCastBy c i x post vote
    → Contains (own_in c i x history) vote
cast_stands c i x history post vote stands cast =
    let mine : is_by i x post ≡ true = rw (eq-eqb post.from i cast.from, eq-eqb post.actor x cast.actor) refl in
    Contains-filter_map (vote_by c i x) history post vote stands (rw mine cast.is)

-- what was cast stays cast
pub cast_stays : (c : Numbers) (i x : ℕ) (history more : List Post) (vote : Vote) → Contains (own_in c i x history) vote
    → Contains (own_in c i x (history ++ more)) vote
cast_stays c i x history more vote stands = kept_stays (vote_by c i x) history more vote stands

-- a vote that actor x of node i may cast after a history, and that the post spells
pub record IsNew (c : Numbers) (i x : ℕ) (history : List Post) (post : Post) (vote : Vote) : Type 0 where
  pub is : spelled c post ≡ Some vote
  pub may : MayCast c i x (own_in c i x history) (heard_in c i x history) vote

allowed_new : (c : Numbers) (i x : ℕ) (history : List Post) (post : Post) (vote : Vote) → spelled c post ≡ Some vote
    → IsAllowed c i x history vote
    → Contains (own_in c i x history) vote ⊎ IsNew c i x history post vote
allowed_new c i x history post vote is (inl before) = inl before
allowed_new c i x history post vote is (inr may) = inr (record { is = is; may = may })

allowed_at : (c : Numbers) (a i y x : ℕ) (history : List Post) (v w : Vote) → a ≡ i → y ≡ x → v ≡ w → IsAllowed c a y history v
    → IsAllowed c i x history w
allowed_at c a i y x history v w from actor same allowed = rw (from, actor, same) at allowed

new_at : (c : Numbers) (i x : ℕ) (history : List Post) (post : Post) (vote : Vote) → is_in c.liars i ≡ false → MayFollow c history post
    → IsCastBy c i x post vote
    → Contains (own_in c i x history) vote ⊎ IsNew c i x history post vote
new_at c i x history post vote correct follows cast =
    let right : IsCorrectPost c history post = follows.correct (ap (is_in c.liars) cast.from ∙ correct) in
    let again : spelled c post ≡ Some right.vote = vote_again c.n c.version post.bytes right.vote right.spells in
    let same : right.vote ≡ vote = cc (again, cast.is) in
    allowed_new c i x history post vote cast.is
    (allowed_at c post.from i post.actor x history right.vote vote cast.from cast.actor same right.allowed)

-- what a correct actor has cast after one more post, it had cast before, or the post spells it and it was allowed then
pub newly_cast : (c : Numbers) (i x : ℕ) (history : List Post) (post : Post) (vote : Vote) → is_in c.liars i ≡ false → MayFollow c history post
    → Contains (own_in c i x (history ++ post ∷ [])) vote
    → Contains (own_in c i x history) vote ⊎ IsNew c i x history post vote
newly_cast c i x history post vote correct follows stands =
    elim (Contains-append_cases (own_in c i x history) (own_in c i x (post ∷ [])) vote
    (subst (λ (own : List Vote). Contains own vote) (filter_map-append (vote_by c i x) history (post ∷ [])) stands)) [
      | inl before ↦ inl before
      | inr now ↦
          let source = cast_from c i x (post ∷ []) vote now in
          let same : post ≡ source.0 = Contains-cases post [] source.0 source.1 (post ≡ source.0) (λ is. is) (λ none. absurd (omega (arith, none.1))) in
          new_at c i x history post vote correct follows (subst (λ (p : Post). IsCastBy c i x p vote) (sym same) source.2)
    ]

-- what a correct actor has cast has a spelling
pub cast_fits : (c : Numbers) (i x : ℕ) (history : List Post) (vote : Vote) → AreAddressed c history → is_in c.liars i ≡ false
    → Contains (own_in c i x history) vote
    → IsVote c.n c.version vote
cast_fits c i x history vote addressed correct stands =
    let source = cast_from c i x history vote stands in
    let post = source.0 in
    let right = addressed.each post source.1 (ap (is_in c.liars) source.2.from ∙ correct) in
    let again : spelled c post ≡ Some right.vote = vote_again c.n c.version post.bytes right.vote right.spells in
    let is : spelled c post ≡ Some vote = source.2.is in
    let same : right.vote ≡ vote = cc (again, is) in
    subst (IsVote c.n c.version) same right.spells.fits

-- ---- what a post lets one hear

-- what it takes to be heard
pub record IsHeard (c : Numbers) (i x : ℕ) (post : Post) (h : Hearing) : Type 0 where
  pub vote : Vote
  pub is : spelled c post ≡ Some vote
  pub reached : reaches c.n post i x ≡ true
  pub heeded : heeds c.n i x post.from post.actor vote ≡ true
  pub within : is_within c vote ≡ true
  pub hearing_is : hearing (name_at c x post) vote ≡ h

pub heard_is : (c : Numbers) (i x : ℕ) (post : Post) (h : Hearing) → hearing_of c i x post ≡ Some h → IsHeard c i x post h
heard_is c i x post h gives = by (spelled c post) refl gives
  where
    by : (o : Option Vote) → spelled c post ≡ o → hearing_at c i x post o ≡ Some h → IsHeard c i x post h
    by None is gives = absurd (cc (gives))
    by (Some vote) is gives =
        let heeded = heeds c.n i x post.from post.actor vote in
        let chosen = cond_some (reaches c.n post i x && (heeded && is_within c vote)) (hearing (name_at c x post) vote) h gives in
        let parts = and_parts (reaches c.n post i x) (heeded && is_within c vote) chosen.0 in
        let inner = and_parts heeded (is_within c vote) parts.1 in
        record { vote = vote; is = is; reached = parts.0; heeded = inner.0; within = inner.1; hearing_is = chosen.1 }

pub heard_from : (c : Numbers) (i x : ℕ) (history : List Post) (h : Hearing) → Contains (heard_in c i x history) h
    → (post : Post) × Contains history post × IsHeard c i x post h
heard_from c i x history h stands =
    let source = source_of (hearing_of c i x) history h stands in
    (source.element, source.stands, heard_is c i x source.element h source.gives)

-- what was heard stays heard
pub heard_stays : (c : Numbers) (i x : ℕ) (history more : List Post) (h : Hearing) → Contains (heard_in c i x history) h
    → Contains (heard_in c i x (history ++ more)) h
heard_stays c i x history more h stands = kept_stays (hearing_of c i x) history more h stands

-- an actor has its own number's posts from other nodes
goes_same : (n : ℕ) (to : To) (from poster i x : ℕ) → goes_to n to from poster i x ≡ true → (to ≡ Home → i ≢ from) → poster ≡ x
goes_same n Book from poster i x h away = absurd (cc (h))
goes_same n Home from poster i x h away =
    absurd (away refl (eqb-true i from (and_parts (i == from) (is_at_home n poster x) h).0))
goes_same n All from poster i x h away = sym (eqb-true x poster h)
goes_same n (Node target) from poster i x h away = sym (eqb-true x poster (and_parts (x == poster) (i == target) h).0)

-- What a lane of a correct node heard from any node, the same lane there has cast, unless it is a vote that stays at home: a
-- post that goes home reaches this lane from its own node alone.
pub heard_cast : (c : Numbers) (i x : ℕ) (history : List Post) (h : Hearing) → AreAddressed c history → x < c.n → is_in c.liars i ≡ false
    → Contains (heard_in c i x history) h → address_of h.vote ≢ Home
    → Contains (own_in c h.from x history) h.vote
heard_cast c i x history h addressed lane correct stands away =
    cast_stands c h.from x history post h.vote source.1 (record { from = from; actor = actor; is = is })
  where
    source : (post : Post) × Contains history post × IsHeard c i x post h
    source = heard_from c i x history h stands

    post : Post
    post = source.0

    is : spelled c source.0 ≡ Some h.vote
    is = source.2.is ∙ ap (λ (g : Hearing). Some g.vote) source.2.hearing_is

    from : source.0.from ≡ h.from
    from =
        let other : (x == c.n) ≡ false = false_from_ne_true (x == c.n) (λ same. omega (arith, eqb-true x c.n same, lane)) in
        let named : name_at c x source.0 ≡ h.from = ap (λ (g : Hearing). g.from) source.2.hearing_is in
        rw other at named

    stays : source.0.to ≡ Home → i ≢ source.0.from
    stays home own =
        let right = addressed.each source.0 source.1 (ap (is_in c.liars) (sym own) ∙ correct) in
        let again : spelled c source.0 ≡ Some right.vote = vote_again c.n c.version source.0.bytes right.vote right.spells in
        let same : right.vote ≡ h.vote = cc (again, is) in
        away (ap address_of (sym same) ∙ sym right.address ∙ home)

    actor : source.0.actor ≡ x
    actor = goes_same c.n source.0.to source.0.from source.0.actor i x source.2.reached stays

-- a vote that an actor takes heed of from its own node's desk alone
pub record IsOfDesk (n : ℕ) (vote : Vote) : Type 0 where
  pub desk : (i x a y : ℕ) → heeds n i x a y vote ≡ true → (a ≡ i) × (y ≡ n)

own_desk : (n i x a y : ℕ) → (nat_lt x n && ((a == i) && (y == n))) ≡ true → (a ≡ i) × (y ≡ n)
own_desk n i x a y h =
    let home = and_parts (a == i) (y == n) (and_parts (nat_lt x n) ((a == i) && (y == n)) h).1 in
    (eqb-true a i home.0, eqb-true y n home.1)

pub IsOfDesk-proposal : (n e : ℕ) (value : List ℕ) → IsOfDesk n (Propose e value)
IsOfDesk-proposal n e value = record { desk = λ i x a y h. own_desk n i x a y h }

pub IsOfDesk-no_more : (n e : ℕ) → IsOfDesk n (NoMore e)
IsOfDesk-no_more n e = record { desk = λ i x a y h. own_desk n i x a y h }

-- such a vote that an actor heard, its own node's desk has cast
pub desk_cast : (c : Numbers) (i x a : ℕ) (vote : Vote) (history : List Post) → IsOfDesk c.n vote
    → Contains (heard_in c i x history) (hearing a vote)
    → Contains (own_in c i c.n history) vote
desk_cast c i x a vote history of_desk stands =
    let source = heard_from c i x history (hearing a vote) stands in
    let vote_is : source.2.vote ≡ vote = ap (λ (g : Hearing). g.vote) source.2.hearing_is in
    let home = of_desk.desk i x source.0.from source.0.actor (rw vote_is at source.2.heeded) in
    cast_stands c i c.n history source.0 vote source.1
    (record { from = home.0; actor = home.1; is = source.2.is ∙ ap Some vote_is })

-- ---- when a vote was allowed

-- after some posts at the front of a history, which are legal, the actor was allowed to cast the vote
pub record WasAllowed (c : Numbers) (i x : ℕ) (history : List Post) (vote : Vote) : Type 0 where
  pub before : List Post
  pub later : List Post
  pub is : history ≡ before ++ later
  pub legal : IsLegal c before
  pub addressed : AreAddressed c before
  pub may : MayCast c i x (own_in c i x before) (heard_in c i x before) vote

later_allowed : (c : Numbers) (i x : ℕ) (history : List Post) (post : Post) (vote : Vote) → WasAllowed c i x history vote
    → WasAllowed c i x (history ++ post ∷ []) vote
later_allowed c i x history post vote was = record {
  before = was.before;
  later = was.later ++ post ∷ [];
  is = ap (λ (posts : List Post). posts ++ post ∷ []) was.is ∙ append_assoc was.before was.later (post ∷ []);
  legal = was.legal;
  addressed = was.addressed;
  may = was.may;
}

-- what a correct actor has cast, it was allowed to cast before
pub was_allowed : (c : Numbers) (i x : ℕ) → is_in c.liars i ≡ false → (history : List Post) → IsLegal c history → (vote : Vote)
    → Contains (own_in c i x history) vote → WasAllowed c i x history vote
was_allowed c i x correct history legal =
    addressed_induction c (λ (posts : List Post). IsLegal c posts → (vote : Vote) → Contains (own_in c i x posts) vote → WasAllowed c i x posts vote)
    (λ _ vote none. absurd (omega (arith, none.1)))
    (λ before post addressed holds follows all vote stands.
    let front = IsLegal-front c before (post ∷ []) all in
    elim (newly_cast c i x before post vote correct follows stands) [
      | inl earlier ↦ later_allowed c i x before post vote (holds front vote earlier)
      | inr new ↦ record { before = before; later = post ∷ []; is = refl; legal = front; addressed = addressed; may = new.may }
    ]) history legal legal

-- what was cast when a vote was allowed stays cast
pub said_later : (c : Numbers) (i x a y : ℕ) (history : List Post) (vote v : Vote) → (was : WasAllowed c i x history vote)
    → Contains (own_in c a y was.before) v → Contains (own_in c a y history) v
said_later c i x a y history vote v was stands =
    subst (λ (posts : List Post). Contains (own_in c a y posts) v) (sym was.is) (cast_stays c a y was.before was.later v stands)
