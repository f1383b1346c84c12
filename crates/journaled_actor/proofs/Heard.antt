-- What an actor heard of the posts that it received.
use Rattle.std.proofs.Common.{◌≡◌, ℕ, ◌<◌, ◌==◌, nat_lt, ◌&&◌, if◌then◌else◌, zero, suc, Bool, true, false, inl, inr, List, [], ◌∷◌, ◌++◌, Option, None, Some, slice_get, refl, sym, ap, ◌∙◌, subst, arith}
use Rattle.std.specs.List.{filter_map, cons_option}
use Rattle.std.specs.Option.{option_to_list}
use Rattle.std.proofs.lemmas.Bool.{eqb-true, ltb-true, and_parts}
use Rattle.std.proofs.lemmas.List.Elements.{filter_map-append, Contains-push_cases}
use Rattle.hb_base.specs.Numbers.{Numbers}
use Rattle.hb_wire.specs.declared.vote.Vote.{Vote}
use Rattle.hb_wire.specs.declared.vote.Vote.TheVariants.{Val, Echo, Ready, Delivered, Est, Bval, Aux, Pick, Coin, Decided, Conf, Propose, NoMore, Closed}
use Rattle.hb_wire.specs.declared.post.Post.{Post}
use Rattle.hb_wire.proofs.VoteLemmas.{vote_takes}
use Rattle.hb_rules.specs.Actor.{AreSeen, ReachesActor}
use Rattle.hb_rules.specs.Hearing.{Hearing, hearing_of, heard_in, heeds, name_at}
use Rattle.hb_rules.specs.Ledger.{IsPrefix}
use Rattle.hb_rules.specs.Terms.{Terms, heard_got}
use Rattle.hb_rules.proofs.Cast.{heard_is}
use Rattle.hb_rules.proofs.Lists.{Contains-first, Contains-later}
use Rattle.journaled_actor.specs.Cores.{IsHearing}
use Rattle.journaled_actor.specs.Kept.{heard_with}

-- ---- a hearing

-- what a desk takes heed of is of one of its lanes
desk_hears : (n i x a y : ℕ) (vote : Vote) → x ≡ n → heeds n i x a y vote ≡ true → y < n
desk_hears n i x a y vote desk heeded = by vote heeded
  where
    no_lane : (b : Bool) → (nat_lt x n && b) ≡ true → y < n
    no_lane b h = absurd (omega (arith, ltb-true x n (and_parts (nat_lt x n) b h).0, desk))

    home : (b : Bool) → ((x == n) && ((a == i) && nat_lt y n)) ≡ true → y < n
    home b h = ltb-true y n (and_parts (a == i) (nat_lt y n) (and_parts (x == n) ((a == i) && nat_lt y n) h).1).1

    by : (v : Vote) → heeds n i x a y v ≡ true → y < n
    by (Val e m root shard branch) h = no_lane ((a == x) && (m == i)) h
    by (Echo e root shard branch) h = absurd (omega (arith, ltb-true x n h, desk))
    by (Ready e root) h = absurd (omega (arith, ltb-true x n h, desk))
    by (Bval e r bit) h = absurd (omega (arith, ltb-true x n h, desk))
    by (Aux e r bit) h = absurd (omega (arith, ltb-true x n h, desk))
    by (Conf e r vals) h = absurd (omega (arith, ltb-true x n h, desk))
    by (Coin e r share salt branch) h = absurd (omega (arith, ltb-true x n h, desk))
    by (Propose e value) h = no_lane ((a == i) && (y == n)) h
    by (NoMore e) h = no_lane ((a == i) && (y == n)) h
    by (Delivered e value) h = home true h
    by (Decided e bit) h = home true h
    by (Est e r bit) h = absurd (cc (h))
    by (Pick e r vals) h = absurd (cc (h))
    by (Closed e list) h = absurd (cc (h))

name_known : (c : Numbers) (i x : ℕ) (post : Post) (vote : Vote) → heeds c.n i x post.from post.actor vote ≡ true → post.from < c.n
    → name_at c x post < c.n
name_known c i x post vote heeded known = by (x == c.n) refl
  where
    by : (b : Bool) → (x == c.n) ≡ b → (if b then post.actor else post.from) < c.n
    by true desk = desk_hears c.n i x post.from post.actor vote (eqb-true x c.n desk) heeded
    by false lane = known

pub is_hearing : (t : Terms) (post : Post) (h : Hearing) → hearing_of t.config t.node t.actor post ≡ Some h → post.from < t.config.n → IsHearing t h
is_hearing t post h gives known =
    let c = t.config in
    let heard = heard_is c t.node t.actor post h gives in
    subst (λ (g : Hearing). IsHearing t g) heard.hearing_is (record {
      known = name_known c t.node t.actor post heard.vote heard.heeded known;
      spelled = (vote_takes c.n c.version post.bytes heard.vote heard.is).fits;
      within = heard.within;
    })

-- ---- what was received

-- a post at its place stays there
pub slice_longer : (old new : List Post) (k : ℕ) (post : Post) → IsPrefix old new → slice_get old k ≡ Some post → slice_get new k ≡ Some post
slice_longer old new k post prefix is = subst (λ (posts : List Post). slice_get posts k ≡ Some post) (sym prefix.is) (stays old k is)
  where
    stays : (posts : List Post) (k : ℕ) → slice_get posts k ≡ Some post → slice_get (posts ++ prefix.rest) k ≡ Some post
    stays [] k is = absurd (cc (is))
    stays (p ∷ posts) zero is = is
    stays (p ∷ posts) (suc k) is = stays posts k is

pub reaches_longer : (c : Numbers) (old new : List Post) (i x k : ℕ) → IsPrefix old new → ReachesActor c old i x k → ReachesActor c new i x k
reaches_longer c old new i x k prefix there = record {
  post = there.post;
  stands = slice_longer old new k there.post prefix there.stands;
  reaches = there.reaches;
}

pub seen_longer : (t : Terms) (old new : List Post) (got : List ℕ) → IsPrefix old new → AreSeen t old got → AreSeen t new got
seen_longer t old new got prefix seen k stands = reaches_longer t.config old new t.node t.actor k prefix (seen k stands)

posts_longer : (t : Terms) (old new : List Post) (got : List ℕ) → IsPrefix old new → AreSeen t old got
    → filter_map (slice_get new) got ≡ filter_map (slice_get old) got
posts_longer t old new [] prefix seen = refl
posts_longer t old new (k ∷ got) prefix seen =
    let here = seen k (Contains-first k got) in
    rw (here.stands, slice_longer old new k here.post prefix here.stands)
    (ap (λ (posts : List Post). here.post ∷ posts) (posts_longer t old new got prefix (λ m stands. seen m (Contains-later k got m stands))))

pub got_longer : (t : Terms) (old new : List Post) (got : List ℕ) → IsPrefix old new → AreSeen t old got
    → heard_got t new got ≡ heard_got t old got
got_longer t old new got prefix seen = ap (heard_in t.config t.node t.actor) (posts_longer t old new got prefix seen)

-- one post more
pub got_more : (t : Terms) (seen : List Post) (got : List ℕ) (k : ℕ) (post : Post) → slice_get seen k ≡ Some post
    → heard_got t seen (got ++ k ∷ []) ≡ heard_with t (heard_got t seen got) post
got_more t seen got k post is =
    let more : filter_map (slice_get seen) (got ++ k ∷ []) ≡ filter_map (slice_get seen) got ++ post ∷ [] =
    filter_map-append (slice_get seen) got (k ∷ []) ∙ ap (λ (posts : List Post). filter_map (slice_get seen) got ++ posts) (rw is refl) in
    ap (heard_in t.config t.node t.actor) more
    ∙ filter_map-append (hearing_of t.config t.node t.actor) (filter_map (slice_get seen) got) (post ∷ [])
    ∙ ap (λ (hs : List Hearing). heard_got t seen got ++ hs) (one (hearing_of t.config t.node t.actor post) refl)
  where
    one : (o : Option Hearing) → hearing_of t.config t.node t.actor post ≡ o → cons_option o [] ≡ option_to_list o
    one None h = refl
    one (Some g) h = refl

pub seen_more : (t : Terms) (seen : List Post) (got : List ℕ) (k : ℕ) → AreSeen t seen got → ReachesActor t.config seen t.node t.actor k
    → AreSeen t seen (got ++ k ∷ [])
seen_more t seen got k are reaches m stands = elim (Contains-push_cases got k m stands) [
  | inl before ↦ are m before
  | inr is ↦ subst (λ (j : ℕ). ReachesActor t.config seen t.node t.actor j) is reaches
]
