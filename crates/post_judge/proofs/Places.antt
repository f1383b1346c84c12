-- What is heard at the places of posts. The letters: actor x of node i hears actor y of node a, e is an epoch.
use Rattle.std.proofs.Common.{◌≡◌, ◌≢◌, ℕ, zero, suc, ◌<◌, nat_lt, Bool, true, false, ◌&&◌, ◌==◌, List, [], ◌∷◌, Contains, Some, if◌then◌else◌, refl, sym, ap, ◌∙◌, subst, arith}
use Rattle.std.proofs.lemmas.Bool.{and_parts, and_from, eqb-true, eq-eqb, ltb-true, lt-ltb, false_from_ne_true, both_ways}
use Rattle.std.proofs.lemmas.Option.{same_Some}
use Rattle.hb_base.specs.Numbers.{Numbers}
use Rattle.merkle_branch.specs.declared.Branch.{Branch}
use Rattle.hb_wire.specs.Addresses.{goes_to, is_at_home}
use Rattle.hb_wire.specs.Votes.{address_of}
use Rattle.hb_wire.specs.declared.vote.To.{To}
use Rattle.hb_wire.specs.declared.vote.To.TheVariants.{Book, Home, All, Node}
use Rattle.hb_wire.specs.declared.vote.Vote.{Vote}
use Rattle.hb_wire.specs.declared.vote.Vote.TheVariants.{Val, Echo, Ready, Delivered, Est, Bval, Aux, Conf, Pick, Coin, Decided, Propose, NoMore, Closed}
use Rattle.hb_rules.specs.Hearing.{heeds}
use Rattle.hb_rules.proofs.Lists.{Contains-cases}
use Rattle.post_judge.specs.declared.place.Topic.{Topic}
use Rattle.post_judge.specs.declared.place.Topic.TheVariants as topics
use Rattle.post_judge.specs.declared.place.Place.{Place}
use Rattle.post_judge.specs.Places.{place, own_place, heard_place, is_told, counts, casts, looked_at}
use Rattle.post_judge.proofs.Rounds.{only_shares}

-- actor x of node i listens at places of this topic, owner and part
abbrev pub Listens : ℕ → ℕ → ℕ → Topic → ℕ → ℕ → Type 0
Listens n i x topics.Own owner part = ⊥
Listens n i x topics.Handed owner part = (x < n) × (owner ≡ x) × (part ≡ i)
Listens n i x topics.Spread owner part = (x < n) × (owner ≡ x)
Listens n i x topics.Claimed owner part = (x < n) × (owner ≡ x)
Listens n i x topics.Shared owner part = (x < n) × (owner ≡ x)
Listens n i x topics.FromDesk owner part = (x < n) × (owner ≡ i)
Listens n i x topics.FromLanes owner part = (x ≡ n) × (owner ≡ i)

-- it listens at this place
pub record ListensAt (n i x : ℕ) (p : Place) : Type 0 where
  pub listens : Listens n i x p.topic p.owner p.part

listens_one : (n i x : ℕ) (q p : Place) → Listens n i x q.topic q.owner q.part → Contains (q ∷ []) p → ListensAt n i x p
listens_one n i x q p listens stands =
    Contains-cases q [] p stands (ListensAt n i x p) (λ is. subst (ListensAt n i x) is (record { listens = listens })) (λ none. absurd (omega (arith, none.1)))

lane_is : (n x : ℕ) → nat_lt x n ≡ true → x < n
lane_is n x h = ltb-true x n h

-- at the places at which the rule for a vote looks, the actors listen that cast such votes
pub looked_at-listens : (c : Numbers) (i x : ℕ) (vote : Vote) → casts c.n x vote ≡ true → (p : Place) → Contains (looked_at c i x vote) p → ListensAt c.n i x p
looked_at-listens c i x (Val e m root shard branch) h p stands = listens_one c.n i x (place topics.FromDesk i e 0) p (lane_is c.n x h, refl) stands
looked_at-listens c i x (Echo e root shard branch) h p stands = listens_one c.n i x (place topics.Handed x e i) p (lane_is c.n x h, refl, refl) stands
looked_at-listens c i x (Ready e root) h p stands = listens_one c.n i x (place topics.Spread x e 0) p (lane_is c.n x h, refl) stands
looked_at-listens c i x (Delivered e value) h p stands = listens_one c.n i x (place topics.Spread x e 0) p (lane_is c.n x h, refl) stands
looked_at-listens c i x (Est e zero b) h p stands = listens_one c.n i x (place topics.FromDesk i e 0) p (lane_is c.n x h, refl) stands
looked_at-listens c i x (Est e (suc r) b) h p stands = listens_one c.n i x (place topics.Shared x e r) p (lane_is c.n x h, refl) stands
looked_at-listens c i x (Bval e r b) h p stands = listens_one c.n i x (place topics.Claimed x e r) p (lane_is c.n x h, refl) stands
looked_at-listens c i x (Aux e r b) h p stands = listens_one c.n i x (place topics.Claimed x e r) p (lane_is c.n x h, refl) stands
looked_at-listens c i x (Conf e r vals) h p stands = listens_one c.n i x (place topics.Claimed x e r) p (lane_is c.n x h, refl) stands
looked_at-listens c i x (Pick e r vals) h p stands = listens_one c.n i x (place topics.Claimed x e r) p (lane_is c.n x h, refl) stands
looked_at-listens c i x (Decided e b) h p stands =
    let is = only_shares x e c.rounds p stands in
    subst (ListensAt c.n i x) (sym is.1) (record { listens = (lane_is c.n x h, refl) })
looked_at-listens c i x (NoMore e) h p stands = listens_one c.n i x (place topics.FromLanes i e 0) p (eqb-true x c.n h, refl) stands
looked_at-listens c i x (Closed e list) h p stands = listens_one c.n i x (place topics.FromLanes i e 0) p (eqb-true x c.n h, refl) stands
looked_at-listens c i x vote h p stands = absurd (omega (arith, stands.1))

-- ---- what is told there is heard

at_place : (n i x : ℕ) (q p : Place) → Some q ≡ Some p → ListensAt n i x p → Listens n i x q.topic q.owner q.part
at_place n i x q p is there = (subst (ListensAt n i x) (sym (same_Some q p is)) there).listens

lane_heeds : (n x : ℕ) → x < n → nat_lt x n ≡ true
lane_heeds n x lane = lt-ltb x n lane

home_heeds : (n i x a y : ℕ) → x < n → a ≡ i → (y == n) ≡ true → (nat_lt x n && ((a == i) && (y == n))) ≡ true
home_heeds n i x a y lane home desk =
    and_from (nat_lt x n) ((a == i) && (y == n)) (lt-ltb x n lane) (and_from (a == i) (y == n) (eq-eqb a i home) desk)

desk_heeds : (n i x a y : ℕ) → x ≡ n → a ≡ i → nat_lt y n ≡ true → ((x == n) && ((a == i) && nat_lt y n)) ≡ true
desk_heeds n i x a y desk home lane =
    and_from (x == n) ((a == i) && nat_lt y n) (eq-eqb x n desk) (and_from (a == i) (nat_lt y n) (eq-eqb a i home) lane)

-- a vote that is told at a place is heeded by the actors that listen there
pub told_heeded : (n i x a y : ℕ) (vote : Vote) (p : Place) → is_told n a y vote ≡ true → heard_place a y vote ≡ Some p → ListensAt n i x p
    → heeds n i x a y vote ≡ true
told_heeded n i x a y (Val e m root shard branch) p told at there =
    let l = at_place n i x (place topics.Handed y e m) p at there in
    let sender : a ≡ x = eqb-true a y told ∙ l.1 in
    and_from (nat_lt x n) ((a == x) && (m == i)) (lane_heeds n x l.0) (and_from (a == x) (m == i) (eq-eqb a x sender) (eq-eqb m i l.2))
told_heeded n i x a y (Echo e root shard branch) p told at there = lane_heeds n x (at_place n i x (place topics.Spread y e 0) p at there).0
told_heeded n i x a y (Ready e root) p told at there = lane_heeds n x (at_place n i x (place topics.Spread y e 0) p at there).0
told_heeded n i x a y (Bval e r bit) p told at there = lane_heeds n x (at_place n i x (place topics.Claimed y e r) p at there).0
told_heeded n i x a y (Aux e r bit) p told at there = lane_heeds n x (at_place n i x (place topics.Claimed y e r) p at there).0
told_heeded n i x a y (Conf e r vals) p told at there = lane_heeds n x (at_place n i x (place topics.Claimed y e r) p at there).0
told_heeded n i x a y (Coin e r share salt branch) p told at there = lane_heeds n x (at_place n i x (place topics.Shared y e r) p at there).0
told_heeded n i x a y (Propose e value) p told at there =
    let l = at_place n i x (place topics.FromDesk a e 0) p at there in home_heeds n i x a y l.0 l.1 told
told_heeded n i x a y (NoMore e) p told at there =
    let l = at_place n i x (place topics.FromDesk a e 0) p at there in home_heeds n i x a y l.0 l.1 told
told_heeded n i x a y (Delivered e value) p told at there =
    let l = at_place n i x (place topics.FromLanes a e 0) p at there in desk_heeds n i x a y l.0 l.1 told
told_heeded n i x a y (Decided e bit) p told at there =
    let l = at_place n i x (place topics.FromLanes a e 0) p at there in desk_heeds n i x a y l.0 l.1 told
told_heeded n i x a y vote p told at there = absurd (cc (at))

-- a share that is told where a lane listens is one of its coins
pub share_lane : (n i x a y e r share : ℕ) (salt : List ℕ) (branch : Branch) (p : Place) → heard_place a y (Coin e r share salt branch) ≡ Some p
    → ListensAt n i x p → y ≡ x
share_lane n i x a y e r share salt branch p at there = (at_place n i x (place topics.Shared y e r) p at there).1

abbrev is_own_topic : Topic → Bool
is_own_topic topics.Own = true
is_own_topic _ = false

abbrev is_own : Place → Bool
is_own p = is_own_topic p.topic

no_own : (a y : ℕ) (vote : Vote) (p : Place) → heard_place a y vote ≡ Some p → is_own p ≡ false
no_own a y (Val e m root shard branch) p h = ap is_own (sym (same_Some _ p h))
no_own a y (Echo e root shard branch) p h = ap is_own (sym (same_Some _ p h))
no_own a y (Ready e root) p h = ap is_own (sym (same_Some _ p h))
no_own a y (Bval e r bit) p h = ap is_own (sym (same_Some _ p h))
no_own a y (Aux e r bit) p h = ap is_own (sym (same_Some _ p h))
no_own a y (Conf e r vals) p h = ap is_own (sym (same_Some _ p h))
no_own a y (Coin e r share salt branch) p h = ap is_own (sym (same_Some _ p h))
no_own a y (Propose e value) p h = ap is_own (sym (same_Some _ p h))
no_own a y (NoMore e) p h = ap is_own (sym (same_Some _ p h))
no_own a y (Delivered e value) p h = ap is_own (sym (same_Some _ p h))
no_own a y (Decided e bit) p h = ap is_own (sym (same_Some _ p h))
no_own a y vote p h = absurd (cc (h))

-- nothing that is heard is told at the place of votes that were cast
pub not_own : (n i x a y : ℕ) (own vote : Vote) → heard_place a y vote ≡ Some (own_place n i x own) → ⊥
not_own n i x a y own vote h = both_ways true (no_own a y vote (own_place n i x own) h) refl

-- ---- what is heard is told there

-- a post that does not stay at home reaches the actors of its own number
pub same_lane : (n : ℕ) (to : To) (a y i x : ℕ) → goes_to n to a y i x ≡ true → (to ≡ Home → i ≢ a) → y ≡ x
same_lane n Book a y i x h away = absurd (cc (h))
same_lane n Home a y i x h away = absurd (away refl (eqb-true i a (and_parts (i == a) (is_at_home n y x) h).0))
same_lane n All a y i x h away = sym (eqb-true x y h)
same_lane n (Node target) a y i x h away = sym (eqb-true x y (and_parts (x == y) (i == target) h).0)

-- how a vote that an actor takes heed of is told: by such an actor, at the place where that one hears it
pub record IsToldAs (c : Numbers) (i x a y : ℕ) (vote : Vote) : Type 0 where
  pub told : is_told c.n a y vote ≡ true
  pub counted : counts c (if x == c.n then y else a) x vote ≡ true → counts c a y vote ≡ true
  pub same : heard_place a y vote ≡ heard_place i x vote

away_told : (c : Numbers) (i x a y : ℕ) (vote : Vote) → x < c.n → y ≡ x → is_told c.n a x vote ≡ true → ((x < c.n) → heard_place a x vote ≡ heard_place i x vote)
    → IsToldAs c i x a y vote
away_told c i x a y vote lane actor told same =
    let other : (x == c.n) ≡ false = false_from_ne_true (x == c.n) (λ desk. omega (arith, eqb-true x c.n desk, lane)) in
    subst (λ (z : ℕ). IsToldAs c i x a z vote) (sym actor) (record {
      told = told;
      counted = λ h. subst (λ (b : Bool). counts c (if b then x else a) x vote ≡ true) other h;
      same = same lane;
    })

home_parts : (n i x a y : ℕ) → (nat_lt x n && ((a == i) && (y == n))) ≡ true → (a ≡ i) × ((y == n) ≡ true)
home_parts n i x a y h =
    let home = and_parts (a == i) (y == n) (and_parts (nat_lt x n) ((a == i) && (y == n)) h).1 in
    (eqb-true a i home.0, home.1)

desk_parts : (n i x a y : ℕ) → ((x == n) && ((a == i) && nat_lt y n)) ≡ true → (a ≡ i) × (nat_lt y n ≡ true)
desk_parts n i x a y h =
    let home = and_parts (a == i) (nat_lt y n) (and_parts (x == n) ((a == i) && nat_lt y n) h).1 in
    (eqb-true a i home.0, home.1)

pub heeded_told : (c : Numbers) (i x a y : ℕ) (vote : Vote) → heeds c.n i x a y vote ≡ true → (address_of vote ≢ Home → y ≡ x) → IsToldAs c i x a y vote
heeded_told c i x a y (Val e m root shard branch) h actor =
    let parts = and_parts (nat_lt x c.n) ((a == x) && (m == i)) h in
    let inner = and_parts (a == x) (m == i) parts.1 in
    away_told c i x a y (Val e m root shard branch) (lane_is c.n x parts.0) (actor (λ home. cc (home))) inner.0 (λ lane. refl)
heeded_told c i x a y (Echo e root shard branch) h actor =
    away_told c i x a y (Echo e root shard branch) (lane_is c.n x h) (actor (λ home. cc (home))) h (λ lane. refl)
heeded_told c i x a y (Ready e root) h actor = away_told c i x a y (Ready e root) (lane_is c.n x h) (actor (λ home. cc (home))) h (λ lane. refl)
heeded_told c i x a y (Bval e r bit) h actor = away_told c i x a y (Bval e r bit) (lane_is c.n x h) (actor (λ home. cc (home))) h (λ lane. refl)
heeded_told c i x a y (Aux e r bit) h actor = away_told c i x a y (Aux e r bit) (lane_is c.n x h) (actor (λ home. cc (home))) h (λ lane. refl)
heeded_told c i x a y (Conf e r vals) h actor = away_told c i x a y (Conf e r vals) (lane_is c.n x h) (actor (λ home. cc (home))) h (λ lane. refl)
heeded_told c i x a y (Coin e r share salt branch) h actor =
    away_told c i x a y (Coin e r share salt branch) (lane_is c.n x h) (actor (λ home. cc (home))) h (λ lane. refl)
heeded_told c i x a y (Propose e value) h actor =
    let home = home_parts c.n i x a y h in
    record { told = home.1; counted = λ yes. refl; same = ap (λ (b : ℕ). Some (place topics.FromDesk b e 0)) home.0 }
heeded_told c i x a y (NoMore e) h actor =
    let home = home_parts c.n i x a y h in
    record { told = home.1; counted = λ yes. refl; same = ap (λ (b : ℕ). Some (place topics.FromDesk b e 0)) home.0 }
heeded_told c i x a y (Delivered e value) h actor =
    let home = desk_parts c.n i x a y h in
    record { told = home.1; counted = λ yes. refl; same = ap (λ (b : ℕ). Some (place topics.FromLanes b e 0)) home.0 }
heeded_told c i x a y (Decided e bit) h actor =
    let home = desk_parts c.n i x a y h in
    record { told = home.1; counted = λ yes. refl; same = ap (λ (b : ℕ). Some (place topics.FromLanes b e 0)) home.0 }
heeded_told c i x a y vote h actor = absurd (cc (h))
