-- What posts claim, and what one more post adds to what was claimed.
use Rattle.std.proofs.Common.{◌≡◌, ℕ, zero, suc, ◌+◌, ◌<◌, ◌≤◌, ◌&&◌, ◌||◌, ◌==◌, not, nat_lt, nat_le, Bool, true, false, inl, inr, List, [], ◌∷◌, ◌++◌, Contains, Option, None, Some, if◌then◌else◌, refl, sym, ap, ◌∙◌, subst, arith, append_assoc, append-nil}
use Rattle.std.specs.List.{list_any}
use Rattle.std.specs.Option.{option_and_then, option_or}
use Rattle.std.proofs.lemmas.Bool.{and_parts, and_from, eqb-true, eq-eqb, ltb-true, lt-ltb, leb-true, le-leb, or_cases, both_ways, cases_Bool}
use Rattle.std.proofs.lemmas.List.Elements.{filter_map-append}
use Rattle.std.proofs.lemmas.List.Folds.{list_any-append}
use Rattle.std.proofs.lemmas.Option.{option_and_then_some}
use Rattle.hb_base.specs.Counting.{count_nodes}
use Rattle.hb_base.specs.Numbers.{Numbers}
use Rattle.hb_wire.specs.declared.items.Item.{Item}
use Rattle.hb_wire.specs.declared.vote.Vote.{Vote}
use Rattle.hb_wire.specs.declared.vote.Vote.TheVariants.{Closed}
use Rattle.hb_wire.specs.declared.post.Post.{Post}
use Rattle.hb_wire.specs.Reading.{vote_at}
use Rattle.hb_wire.proofs.Equality.{one_vote}
use Rattle.hb_rules.specs.Hearing.{spelled, vote_by, own_in}
use Rattle.hb_rules.specs.Same.{same_vote}
use Rattle.hb_rules.proofs.Among.{any_stands}
use Rattle.hb_rules.proofs.Cast.{cast_from, cast_stands}
use Rattle.hb_rules.proofs.Counts.{count_nodes-mono}
use Rattle.hb_rules.proofs.Lists.{list_any-from, Contains-first, Contains-cases, some_if}
use Rattle.acs_world.specs.Closed.{Closure, closing}
use Rattle.acs_world.proofs.Reading.{IsRead}
use Rattle.observer.specs.Observed.{in_run, claim_of, has_claimed, claim_count, is_new, adds_node, taken_list, reached, first_reached, observed_list}

-- ---- what a post claims

-- a post of the desk of a node of the run, that closes an epoch of the run
pub record IsClaimOf (c : Numbers) (post : Post) (claim : Closure) : Type 0 where
  pub known : post.from < c.n
  pub desk : post.actor ≡ c.n
  pub spells : spelled c post ≡ Some (Closed claim.0 claim.1)
  pub inside : claim.0 < c.epochs

closing_is : (vote : Vote) (claim : Closure) → closing vote ≡ Some claim → vote ≡ Closed claim.0 claim.1
closing_is (Closed e list) claim h =
    let same : (e, list) ≡ claim = cc (h) in
    ap (λ (x : Closure). Closed x.0 x.1) same
closing_is vote claim h = absurd (cc (h))

in_run_is : (c : Numbers) (o : Option Closure) (claim : Closure) → in_run c o ≡ Some claim → (o ≡ Some claim) × (claim.0 < c.epochs)
in_run_is c None claim h = absurd (cc (h))
in_run_is c (Some other) claim h =
    let parts = some_if (nat_lt other.0 c.epochs) other claim h in
    let same : other ≡ claim = parts.1 in
    (ap Some same, subst (λ (x : Closure). x.0 < c.epochs) same (ltb-true other.0 c.epochs parts.0))

pub claim_is : (c : Numbers) (post : Post) (claim : Closure) → claim_of c post ≡ Some claim → IsClaimOf c post claim
claim_is c post claim h = by (nat_lt post.from c.n && (post.actor == c.n)) refl h
  where
    by : (b : Bool) → (nat_lt post.from c.n && (post.actor == c.n)) ≡ b
        → (if b then in_run c (option_and_then closing (spelled c post)) else None) ≡ Some claim → IsClaimOf c post claim
    by false other h = absurd (cc (h))
    by true of_desk h =
        let parts = and_parts (nat_lt post.from c.n) (post.actor == c.n) of_desk in
        let found = in_run_is c (option_and_then closing (spelled c post)) claim h in
        option_and_then_some closing (spelled c post) claim found.0 (λ vote spells gives. record {
          known = ltb-true post.from c.n parts.0;
          desk = eqb-true post.actor c.n parts.1;
          spells = spells ∙ ap (λ (v : Vote). Some v) (closing_is vote claim gives);
          inside = found.1;
        })

pub claim_from : (c : Numbers) (post : Post) (claim : Closure) → IsClaimOf c post claim → claim_of c post ≡ Some claim
claim_from c post claim is =
    let of_desk : (nat_lt post.from c.n && (post.actor == c.n)) ≡ true =
    and_from (nat_lt post.from c.n) (post.actor == c.n) (lt-ltb post.from c.n is.known) (eq-eqb post.actor c.n is.desk) in
    let inside : nat_lt claim.0 c.epochs ≡ true = lt-ltb claim.0 c.epochs is.inside in
    let run : in_run c (Some claim) ≡ Some claim = rw inside refl in
    rw of_desk (ap (λ (o : Option Vote). in_run c (option_and_then closing o)) is.spells ∙ run)

-- ---- who has claimed

-- whether node a makes the claim by a post
abbrev pub makes : Numbers → Closure → ℕ → Post → Bool
makes c claim a post = list_any (same_vote (Closed claim.0 claim.1)) (own_in c a c.n (post ∷ []))

pub has_push : (c : Numbers) (heard : List Post) (post : Post) (claim : Closure) (a : ℕ)
    → has_claimed c (heard ++ post ∷ []) claim a ≡ (has_claimed c heard claim a || makes c claim a post)
has_push c heard post claim a =
    ap (λ (own : List Vote). list_any (same_vote (Closed claim.0 claim.1)) own) (filter_map-append (vote_by c a c.n) heard (post ∷ []))
    ∙ list_any-append (same_vote (Closed claim.0 claim.1)) (own_in c a c.n heard) (own_in c a c.n (post ∷ []))

-- what a node has claimed, its desk has cast
pub claimed_cast : (c : Numbers) (heard : List Post) (claim : Closure) (a : ℕ) → has_claimed c heard claim a ≡ true
    → Contains (own_in c a c.n heard) (Closed claim.0 claim.1)
claimed_cast c heard claim a h =
    let found = any_stands (same_vote (Closed claim.0 claim.1)) (own_in c a c.n heard) h in
    let same : Closed claim.0 claim.1 ≡ found.0 = (one_vote (Closed claim.0 claim.1) found.0).0 found.2 in
    subst (λ (v : Vote). Contains (own_in c a c.n heard) v) (sym same) found.1

pub cast_claimed : (c : Numbers) (heard : List Post) (claim : Closure) (a : ℕ) → Contains (own_in c a c.n heard) (Closed claim.0 claim.1)
    → has_claimed c heard claim a ≡ true
cast_claimed c heard claim a stands =
    list_any-from (same_vote (Closed claim.0 claim.1)) (own_in c a c.n heard) (Closed claim.0 claim.1) stands
    ((one_vote (Closed claim.0 claim.1) (Closed claim.0 claim.1)).1 refl)

-- a node of the run makes a claim of the run by a post: it is what the post claims
pub made : (c : Numbers) (post : Post) (claim : Closure) (a : ℕ) → a < c.n → claim.0 < c.epochs → makes c claim a post ≡ true
    → (post.from ≡ a) × (claim_of c post ≡ Some claim)
made c post claim a known inside h =
    let source = cast_from c a c.n (post ∷ []) (Closed claim.0 claim.1) (claimed_cast c (post ∷ []) claim a h) in
    let same : post ≡ source.0 =
    Contains-cases post [] source.0 source.1 (post ≡ source.0) (λ is. is) (λ none. absurd (omega (arith, none.1))) in
    let from : post.from ≡ a = ap (λ (p : Post). p.from) same ∙ source.2.from in
    let actor : post.actor ≡ c.n = ap (λ (p : Post). p.actor) same ∙ source.2.actor in
    let spells : spelled c post ≡ Some (Closed claim.0 claim.1) = ap (spelled c) same ∙ source.2.is in
    (from, claim_from c post claim (record { known = omega (arith, from, known); desk = actor; spells = spells; inside = inside }))

-- and the converse
pub makes_own : (c : Numbers) (post : Post) (claim : Closure) → claim_of c post ≡ Some claim → makes c claim post.from post ≡ true
makes_own c post claim h =
    let is = claim_is c post claim h in
    cast_claimed c (post ∷ []) claim post.from
    (cast_stands c post.from c.n (post ∷ []) post (Closed claim.0 claim.1) (Contains-first post [])
    (record { from = refl; actor = is.desk; is = is.spells }))

-- another node, or another claim
pub makes_no_other : (c : Numbers) (post : Post) (claim : Closure) (a : ℕ) → a < c.n → claim.0 < c.epochs
    → ((post.from ≡ a) → claim_of c post ≡ Some claim → ⊥) → makes c claim a post ≡ false
makes_no_other c post claim a known inside apart = elim (cases_Bool (makes c claim a post)) [
  | inl makes_it ↦ let is = made c post claim a known inside makes_it in absurd (apart is.0 is.1)
  | inr other ↦ other
]

-- ---- one post more that adds no node

pub same_said : (c : Numbers) (heard : List Post) (post : Post) (claim : Closure) (a : ℕ) → adds_node c heard post ≡ false → a < c.n
    → claim.0 < c.epochs → has_claimed c (heard ++ post ∷ []) claim a ≡ has_claimed c heard claim a
same_said c heard post claim a nothing known inside =
    has_push c heard post claim a ∙ by (makes c claim a post) (has_claimed c heard claim a) refl refl
  where
    by : (b had : Bool) → makes c claim a post ≡ b → has_claimed c heard claim a ≡ had → (had || b) ≡ had
    by b true makes_it has = refl
    by false false makes_it has = refl
    by true false makes_it has =
        let is = made c post claim a known inside makes_it in
        let before : has_claimed c heard claim post.from ≡ false = ap (has_claimed c heard claim) is.0 ∙ has in
        let new : adds_node c heard post ≡ true = ap (is_new c heard post.from) is.1 ∙ ap not before in
        absurd (both_ways (adds_node c heard post) nothing new)

-- ---- lists that are taken

-- a list that is taken is that of a claim of the epoch which f + 1 nodes have made
pub reached_many : (c : Numbers) (heard : List Post) (e : ℕ) (post : Post) (list : List Item) → reached c heard e post ≡ Some list
    → c.f + 1 ≤ claim_count c heard (e, list)
reached_many c heard e post list h =
    option_and_then_some (taken_list c heard e) (claim_of c post) list h (λ claim claims gives.
    let parts = some_if ((claim.0 == e) && nat_le (c.f + 1) (claim_count c heard claim)) claim.1 list gives in
    let tests = and_parts (claim.0 == e) (nat_le (c.f + 1) (claim_count c heard claim)) parts.0 in
    let epoch : claim.0 ≡ e = eqb-true claim.0 e tests.0 in
    let items : claim.1 ≡ list = parts.1 in
    let same : claim ≡ (e, list) = ap (λ (d : ℕ). (d, claim.1)) epoch ∙ ap (λ (l : List Item). (e, l)) items in
    subst (λ (x : Closure). c.f + 1 ≤ claim_count c heard x) same (leb-true (c.f + 1) (claim_count c heard claim) tests.1))

pub taken_many : (c : Numbers) (heard : List Post) (e : ℕ) (list : List Item) → c.f + 1 ≤ claim_count c heard (e, list)
    → taken_list c heard e (e, list) ≡ Some list
taken_many c heard e list many =
    let here : ((e == e) && nat_le (c.f + 1) (claim_count c heard (e, list))) ≡ true =
    and_from (e == e) (nat_le (c.f + 1) (claim_count c heard (e, list))) (eq-eqb e e refl) (le-leb (c.f + 1) (claim_count c heard (e, list)) many) in
    rw here refl

or_none : {A : Type 0} (o p : Option A) → option_or o p ≡ None → (o ≡ None) × (p ≡ None)
or_none None p h = (refl, h)
or_none (Some x) p h = absurd (cc (h))

-- where a post makes nobody take a list, a claim that f + 1 nodes have made they had made before
before_many : (c : Numbers) (heard : List Post) (e : ℕ) (post : Post) (list : List Item) → e < c.epochs
    → reached c (heard ++ post ∷ []) e post ≡ None → c.f + 1 ≤ claim_count c (heard ++ post ∷ []) (e, list)
    → c.f + 1 ≤ claim_count c heard (e, list)
before_many c heard e post list inside none many =
    omega (arith, many, count_nodes-mono c.n (has_claimed c (heard ++ post ∷ []) (e, list)) (has_claimed c heard (e, list)) step)
  where
    step : (a : ℕ) → a < c.n → has_claimed c (heard ++ post ∷ []) (e, list) a ≡ true → has_claimed c heard (e, list) a ≡ true
    step a known h =
        elim (or_cases (has_claimed c heard (e, list) a) (makes c (e, list) a post) (sym (has_push c heard post (e, list) a) ∙ h)) [
          | inl had ↦ had
          | inr now ↦
              let is = made c post (e, list) a known inside now in
              let some : reached c (heard ++ post ∷ []) e post ≡ Some list =
              ap (option_and_then (taken_list c (heard ++ post ∷ []) e)) is.1 ∙ taken_many c (heard ++ post ∷ []) e list many in
              absurd (cc (none, some))
        ]

-- where no list was taken, a claim that f + 1 nodes have made they had made at the beginning
pub none_reached : (c : Numbers) (e : ℕ) (before posts : List Post) (list : List Item) → e < c.epochs
    → first_reached c e before posts ≡ None → c.f + 1 ≤ claim_count c (before ++ posts) (e, list) → c.f + 1 ≤ claim_count c before (e, list)
none_reached c e before [] list inside none many =
    subst (λ (heard : List Post). c.f + 1 ≤ claim_count c heard (e, list)) (append-nil before) many
none_reached c e before (post ∷ posts) list inside none many =
    let parts = or_none (reached c (before ++ post ∷ []) e post) (first_reached c e (before ++ post ∷ []) posts) none in
    before_many c before e post list inside parts.0
    (none_reached c e (before ++ post ∷ []) posts list inside parts.1
    (subst (λ (heard : List Post). c.f + 1 ≤ claim_count c heard (e, list)) (sym (append_assoc before (post ∷ []) posts)) many))

-- nobody has claimed anything at first
nobody : (n : ℕ) → count_nodes n (λ (a : ℕ). false) ≡ 0
nobody zero = refl
nobody (suc n) = rw (nobody n) refl

-- so a claim that f + 1 nodes have made gives the epoch a list
pub never_many : (c : Numbers) (e : ℕ) (heard : List Post) (list : List Item) → e < c.epochs → observed_list c heard e ≡ None
    → c.f + 1 ≤ claim_count c heard (e, list) → ⊥
never_many c e heard list inside none many =
    omega (arith, nobody c.n, none_reached c e [] heard list inside none many)

-- ---- one post more

or_assoc : {A : Type 0} (o p q : Option A) → option_or (option_or o p) q ≡ option_or o (option_or p q)
or_assoc None p q = refl
or_assoc (Some x) p q = refl

first_push : (c : Numbers) (e : ℕ) (before posts : List Post) (post : Post) → first_reached c e before (posts ++ post ∷ [])
    ≡ option_or (first_reached c e before posts) (reached c ((before ++ posts) ++ post ∷ []) e post)
first_push c e before [] post =
    or_nothing (reached c (before ++ post ∷ []) e post)
    ∙ ap (λ (heard : List Post). reached c (heard ++ post ∷ []) e post) (sym (append-nil before))
  where
    or_nothing : (o : Option (List Item)) → option_or o None ≡ o
    or_nothing None = refl
    or_nothing (Some list) = refl
first_push c e before (next ∷ posts) post =
    ap (option_or (reached c (before ++ next ∷ []) e next))
    (first_push c e (before ++ next ∷ []) posts post
    ∙ ap (λ (heard : List Post). option_or (first_reached c e (before ++ next ∷ []) posts) (reached c (heard ++ post ∷ []) e post))
    (append_assoc before (next ∷ []) posts))
    ∙ sym (or_assoc (reached c (before ++ next ∷ []) e next) (first_reached c e (before ++ next ∷ []) posts)
    (reached c ((before ++ next ∷ posts) ++ post ∷ []) e post))

pub observed_push : (c : Numbers) (e : ℕ) (heard : List Post) (post : Post)
    → observed_list c (heard ++ post ∷ []) e ≡ option_or (observed_list c heard e) (reached c (heard ++ post ∷ []) e post)
observed_push c e heard post = first_push c e [] heard post

-- ---- what is read at the front of bytes

pub run_read : (c : Numbers) (bytes : List ℕ) (epoch : ℕ) (rest : List ℕ) → (read : IsRead c bytes epoch rest) → epoch < c.epochs
    → in_run c (option_and_then closing (vote_at c.n c.version bytes)) ≡ Some (epoch, read.closure.1)
run_read c bytes epoch rest read inside =
    let within : nat_lt read.closure.0 c.epochs ≡ true = lt-ltb read.closure.0 c.epochs (omega (arith, inside, read.shown.epoch_is)) in
    let run : in_run c (Some read.closure) ≡ Some read.closure = rw within refl in
    ap (in_run c) read.closes ∙ run ∙ ap (λ (e : ℕ). Some (e, read.closure.1)) read.shown.epoch_is
