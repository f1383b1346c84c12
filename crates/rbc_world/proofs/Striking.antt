-- Which deliveries are struck out by proposals.
use Rattle.std.proofs.Common.{◌≡◌, ◌≢◌, ◌⊎◌, ℕ, ◌+◌, ◌/◌, ◌<◌, false, inl, inr, List, [], ◌∷◌, ◌++◌, Contains, Option, None, Some, length, take, slice_index_or, slice_set, refl, sym, ap, ◌∙◌, subst, arith}
use Rattle.std.specs.Option.{option_map}
use Rattle.std.proofs.lemmas.List.{length-set}
use Rattle.std.proofs.lemmas.List.Elements.{Contains-push_cases}
use Rattle.hb_base.specs.Limits.{most_epochs}
use Rattle.hb_base.specs.Numbers.{Numbers}
use Rattle.hb_base.specs.NodeSet.{is_in}
use Rattle.hb_wire.specs.declared.post.Post.{Post}
use Rattle.rbc_world.specs.declared.claims.Kind.TheVariants.{Delivered, Propose}
use Rattle.rbc_world.specs.Claimed.{claim_of, claim_at, entry, AreEntries, IsProposedAt, AreDeliveries, AreStruck, AreLeft, AreNone}
use Rattle.rbc_world.proofs.FirstClaims.{IsPostAt, number_inside, one_more, claim_given, same_claim, entry_set, body_is}

pub deliveries_of : (c : Numbers) (posts : List Post) (table : List (Option ℕ)) → AreEntries c Delivered posts posts table → AreDeliveries c posts table
deliveries_of c posts table entries = record { size = entries.size; sound = entries.sound }

-- a number in the table is that of a post
pub delivery_at : (c : Numbers) (posts : List Post) (table : List (Option ℕ)) (s number : ℕ) (post : Post) → AreDeliveries c posts table
    → entry table s ≡ Some number → post ≡ slice_index_or posts number post
    → IsPostAt posts number post
delivery_at c posts table s number post deliveries is same =
    let found = deliveries.sound s number is in
    record { inside = number_inside c Delivered posts number s found.0 found.1; is = same }

struck_none : (c : Numbers) (posts : List Post) (post : Post) (table : List (Option ℕ))
    → ((s number : ℕ) → entry table s ≡ Some number → claim_of c Propose post ≢ claim_at c Delivered posts number)
    → AreStruck c posts post table table
struck_none c posts post table apart = record {
  size = refl;
  left = λ s number is. (is, apart s number is);
  struck = λ s number is. inl is;
}

-- a post that proposes nothing
pub strikes_nothing : (c : Numbers) (posts : List Post) (post : Post) (table : List (Option ℕ)) → AreDeliveries c posts table
    → claim_of c Propose post ≡ None
    → AreStruck c posts post table table
strikes_nothing c posts post table deliveries none =
    struck_none c posts post table (λ s number is same. let found = deliveries.sound s number is in cc (none, same, found.1))

-- one that proposes something for a place where nothing is delivered
pub strikes_no_entry : (c : Numbers) (posts : List Post) (post : Post) (table : List (Option ℕ)) (s : ℕ) (body : List ℕ) → AreDeliveries c posts table
    → claim_of c Propose post ≡ Some (s, body) → entry table s ≡ None
    → AreStruck c posts post table table
strikes_no_entry c posts post table s body deliveries claims empty =
    struck_none c posts post table (λ t number is same.
    let found = deliveries.sound t number is in
    let places = same_claim s t body found.0 (claim_of c Propose post) claims (same ∙ found.1) in
    cc (empty, ap (entry table) places.0, is))

-- one that proposes something else than what is delivered for the place
pub strikes_no_other : (c : Numbers) (posts : List Post) (post one : Post) (table : List (Option ℕ)) (s number : ℕ) (body : List ℕ)
    → AreDeliveries c posts table → claim_of c Propose post ≡ Some (s, body) → entry table s ≡ Some number → IsPostAt posts number one
    → (option_map (λ (x : ℕ × List ℕ). x.1) (claim_of c Delivered one) ≢ Some body)
    → AreStruck c posts post table table
strikes_no_other c posts post one table s number body deliveries claims is at differ =
    struck_none c posts post table (λ t n also same.
    let found = deliveries.sound t n also in
    let places = same_claim s t body found.0 (claim_of c Propose post) claims (same ∙ found.1) in
    let numbers : number ≡ n = cc (is, ap (entry table) places.0, also) in
    let given : claim_of c Delivered one ≡ Some (t, found.0) =
    sym (claim_given c Delivered posts number one at) ∙ ap (claim_at c Delivered posts) numbers ∙ found.1 in
    differ (ap (option_map (λ (x : ℕ × List ℕ). x.1)) given ∙ ap (λ (b : List ℕ). Some b) (sym places.1)))

-- one that proposes what is delivered for the place
pub strikes_one : (c : Numbers) (posts : List Post) (post one : Post) (table : List (Option ℕ)) (s number : ℕ) (body : List ℕ)
    → AreDeliveries c posts table → claim_of c Propose post ≡ Some (s, body) → s < 512 → entry table s ≡ Some number → IsPostAt posts number one
    → option_map (λ (x : ℕ × List ℕ). x.1) (claim_of c Delivered one) ≡ Some body
    → AreStruck c posts post table (slice_set table s None)
strikes_one c posts post one table s number body deliveries claims inside is at like = record {
  size = length-set table s None;
  left = λ t n.
      entry_set table s t None within (λ o. o ≡ Some n → (entry table t ≡ Some n) × (claim_of c Propose post ≢ claim_at c Delivered posts n))
      (λ here none. absurd (cc (none)))
      (λ apart found. (
        found,
        λ same.
            let own = deliveries.sound t n found in
            apart (sym (same_claim s t body own.0 (claim_of c Propose post) claims (same ∙ own.1)).0),
      ));
  struck = λ t n found.
      entry_set table s t None within (λ o. (o ≡ Some n) ⊎ (claim_of c Propose post ≡ claim_at c Delivered posts n))
      (λ here.
      let numbers : number ≡ n = cc (is, ap (entry table) here, found) in
      inr (claims ∙ sym given ∙ ap (claim_at c Delivered posts) numbers))
      (λ apart. inl found);
}
  where
    within : s < length table
    within = omega (arith, deliveries.size, inside)

    given : claim_at c Delivered posts number ≡ Some (s, body)
    given =
        let own = deliveries.sound s number is in
        own.1 ∙ ap (λ (b : List ℕ). Some (s, b))
        (body_is s own.0 body (claim_of c Delivered one) (sym (claim_given c Delivered posts number one at) ∙ own.1) like)

-- ---- all proposals of some posts

pub left_all : (c : Numbers) (posts : List Post) (table : List (Option ℕ)) → AreDeliveries c posts table → AreLeft c posts [] table table
left_all c posts table deliveries = record {
  size = deliveries.size;
  kept = λ s number is. (is, λ p stands. absurd (omega (arith, stands.1)));
  gone = λ s number is. inl is;
}

pub left_deliveries : (c : Numbers) (posts some : List Post) (table left : List (Option ℕ)) → AreDeliveries c posts table → AreLeft c posts some table left
    → AreDeliveries c posts left
left_deliveries c posts some table left deliveries are = record {
  size = are.size;
  sound = λ s number is. deliveries.sound s number (are.kept s number is).0;
}

pub left_more : (c : Numbers) (posts : List Post) (number : ℕ) (post : Post) (table left new : List (Option ℕ)) → IsPostAt posts number post
    → AreLeft c posts (take number posts) table left → AreStruck c posts post left new
    → AreLeft c posts (take (number + 1) posts) table new
left_more c posts number post table left new at are struck = record {
  size = struck.size ∙ are.size;
  kept = λ s n is.
      let now = struck.left s n is in
      let before = are.kept s n now.0 in
      (before.0, λ p stands. apart n p now.1 before.1 (subst (λ (some : List Post). Contains some p) (one_more posts number post at) stands));
  gone = λ s n is. elim (are.gone s n is) [
    | inl before ↦ elim (struck.struck s n before) [
      | inl still ↦ inl still
      | inr same ↦ inr (record { post = post; stands = (number, at.inside, sym at.is); same = same })
    ]
    | inr proposed ↦ inr proposed
  ];
}
  where
    apart : (n : ℕ) (p : Post) → claim_of c Propose post ≢ claim_at c Delivered posts n
        → ((q : Post) → Contains (take number posts) q → claim_of c Propose q ≢ claim_at c Delivered posts n)
        → Contains (take number posts ++ post ∷ []) p → claim_of c Propose p ≢ claim_at c Delivered posts n
    apart n p now before stands same = elim (Contains-push_cases (take number posts) post p stands) [
      | inl earlier ↦ before p earlier same
      | inr is ↦ now (ap (claim_of c Propose) is ∙ same)
    ]

-- what stands in the table at places of lanes of correct nodes, a desk has proposed
pub record AreProposed (c : Numbers) (posts : List Post) (table : List (Option ℕ)) : Type 0 where
  pub each : (s number : ℕ) → is_in c.liars (s / most_epochs) ≡ false → entry table s ≡ Some number → IsProposedAt c posts number

pub proposed_from_none : (c : Numbers) (posts some : List Post) (table left : List (Option ℕ)) → AreLeft c posts some table left → AreNone c.liars left
    → AreProposed c posts table
proposed_from_none c posts some table left are none = record {
  each = λ s number correct is. elim (are.gone s number is) [
    | inl still ↦ let empty = none.none s correct in absurd (cc (empty, still))
    | inr proposed ↦ proposed
  ];
}

pub none_from_proposed : (c : Numbers) (posts : List Post) (table left : List (Option ℕ)) → AreLeft c posts posts table left → AreProposed c posts table
    → AreNone c.liars left
none_from_proposed c posts table left are proposed = record { none = λ s correct. by s correct (entry left s) refl }
  where
    by : (s : ℕ) → is_in c.liars (s / most_epochs) ≡ false → (o : Option ℕ) → entry left s ≡ o → entry left s ≡ None
    by s correct None is = is
    by s correct (Some number) is =
        let kept = are.kept s number is in
        let found = proposed.each s number correct kept.0 in
        absurd (kept.1 found.post found.stands found.same)
