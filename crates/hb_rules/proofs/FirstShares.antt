-- The good shares that were heard first, one a node, and their coin.
use Rattle.std.proofs.Common.{◌≡◌, ◌≢◌, ℕ, zero, suc, ◌+◌, ◌<◌, ◌≤◌, Bool, true, false, not, ◌&&◌, ◌==◌, nat_lt, inl, inr, List, [], ◌∷◌, ◌++◌, Contains, Some, length, take, get_or, if◌then◌else◌, refl, sym, ap₂, subst, arith}
use Rattle.std.specs.List.{All, AllPairs, AllByRecursion, fold, filter_map}
use Rattle.std.proofs.lemmas.Bool.{eq-eqb, eqb-true, ltb-true, and_parts, and_from, cases_eq, not-true}
use Rattle.std.proofs.lemmas.List.{length-take-le}
use Rattle.std.proofs.lemmas.List.Elements.{All-nil, All-push, All-take, All-map, All-weaker, Contains-get_or, recursion_from_All}
use Rattle.std.proofs.lemmas.Option.{cond_some}
use Rattle.gf_field.proofs.Interpolation.{interpolation-interpolates}
use Rattle.hb_base.specs.Counting.{count_nodes}
use Rattle.hb_base.specs.Numbers.{Numbers, AreSound}
use Rattle.coin_deal.specs.Deal.{coin_root}
use Rattle.coin_deal.specs.Heard.{HeardShare, heard_share, IsGood, is_good, AreGood, IsCoinOf, has_share_of, with_heard, points, values, polynomial_through, coin_through}
use Rattle.coin_deal.proofs.Shares.{is_good-is, is_good-from, AreGood-take, good_more, distinct_points, points_bytes, points_values}
use Rattle.hb_wire.specs.declared.vote.Vote.{Vote}
use Rattle.hb_wire.specs.declared.vote.Vote.TheVariants.{Coin}
use Rattle.hb_rules.specs.Hearing.{Hearing, hearing, heard_by}
use Rattle.hb_rules.specs.History.{HasSpelling}
use Rattle.hb_rules.specs.Coins.{is_share, share_count, hearing_of_share, HasCoin, share_in, shares_in, coin_in}
use Rattle.hb_rules.specs.Terms.{AreHeardSpelled}
use Rattle.hb_rules.proofs.Counts.{count_nodes-mono}
use Rattle.hb_rules.proofs.Lists.{list_any-from, AllByRecursion-contains, IsSource, source_of}

-- ---- counts of distinct nodes

one_less : (b c : Bool) (k m : ℕ) → (c ≡ true → b ≡ true) → suc k ≤ m → suc (k + (if c then 1 else 0)) ≤ m + (if b then 1 else 0)
one_less true c k m within le = by c
  where
    by : (c : Bool) → suc (k + (if c then 1 else 0)) ≤ m + 1
    by true = omega arith
    by false = omega arith
one_less false true k m within le = absurd (cc (within refl))
one_less false false k m within le = omega arith

-- without one of them, one fewer passes the test
pub count_nodes-without : (n : ℕ) (p : ℕ → Bool) (m : ℕ) → m < n → p m ≡ true → suc (count_nodes n (λ a. p a && not (a == m))) ≤ count_nodes n p
count_nodes-without zero p m below passes = absurd (omega arith)
count_nodes-without (suc n) p m below passes = elim (cases_eq m n) [
  | inl last ↦
      let less : count_nodes n (λ a. p a && not (a == m)) ≤ count_nodes n p =
      count_nodes-mono n (λ a. p a && not (a == m)) p (λ a inside h. (and_parts (p a) (not (a == m)) h).0) in
      let here : (n == m) ≡ true = eq-eqb n m (sym last) in
      let whole : p n ≡ true = subst (λ (a : ℕ). p a ≡ true) last passes in
      rw (here, whole) (omega arith)
  | inr other ↦
      one_less (p n) (p n && not (n == m)) (count_nodes n (λ a. p a && not (a == m))) (count_nodes n p) (λ h. (and_parts (p n) (not (n == m)) h).0)
      (count_nodes-without n p m (omega (arith, other)) passes)
]

is_other : (b : Bool) → (b ≡ true → ⊥) → not b ≡ true
is_other true differs = absurd (differs refl)
is_other false differs = refl

-- things of different nodes that pass a test are no more than the nodes that pass it
pub counted : {A : Type 0} (node : A → ℕ) (n : ℕ) (p : ℕ → Bool) (xs : List A) → AllByRecursion (λ x. (node x < n) × (p (node x) ≡ true)) xs
    → AllPairs (λ x y. node x ≢ node y) xs → length xs ≤ count_nodes n p
counted node n p [] all apart = omega arith
counted {A} node n p (x ∷ xs) all apart =
    let rest : length xs ≤ count_nodes n (λ a. p a && not (a == node x)) =
    counted node n (λ a. p a && not (a == node x)) xs
    (others xs (λ k d below. apart 0 (suc k) d (omega arith) (omega arith)) all.1)
    (λ i j d less below. apart (suc i) (suc j) d (omega arith) (omega arith)) in
    omega (arith, rest, count_nodes-without n p (node x) all.0.0 all.0.1)
  where
    others : (ys : List A) → ((k : ℕ) (d : A) → k < length ys → node x ≢ node (get_or ys k d)) → AllByRecursion (λ y. (node y < n) × (p (node y) ≡ true)) ys
        → AllByRecursion (λ y. (node y < n) × ((p (node y) && not (node y == node x)) ≡ true)) ys
    others [] differ all = tt
    others (y ∷ ys) differ all =
        let other : node x ≢ node y = differ 0 y (omega arith) in (
          (all.0.0, and_from (p (node y)) (not (node y == node x)) all.0.1 (is_other (node y == node x) (λ same. other (sym (eqb-true (node y) (node x) same))))),
          others ys (λ k d below. differ (suc k) d (omega arith)) all.1,
        )

-- ---- the first of each node

-- good shares, one a node, each with the property
pub record AreFirst (root : List ℕ) (n : ℕ) (P : HeardShare → Type 0) (shares : List HeardShare) : Type 0 where
  pub good : AreGood root n shares
  pub each : All P shares

first_kept : (root : List ℕ) (n : ℕ) (P : HeardShare → Type 0) (shares : List HeardShare) (a : HeardShare) → AreFirst root n P shares → P a
    → AreFirst root n P (with_heard root n shares a)
first_kept root n P shares a first holds = by (not (has_share_of shares a.node) && is_good root n a) refl
  where
    by : (b : Bool) → (not (has_share_of shares a.node) && is_good root n a) ≡ b → AreFirst root n P (if b then shares ++ a ∷ [] else shares)
    by true counts =
        let tests = and_parts (not (has_share_of shares a.node)) (is_good root n a) counts in
        record {
          good = good_more root n shares a first.good (not-true (has_share_of shares a.node) tests.0) (is_good-is root n a tests.1);
          each = All-push P shares a first.each holds;
        }
    by false left = first

firsts_kept : (root : List ℕ) (n : ℕ) (P : HeardShare → Type 0) (xs shares : List HeardShare) → AreFirst root n P shares → AllByRecursion P xs
    → AreFirst root n P (fold (with_heard root n) shares xs)
firsts_kept root n P [] shares first all = first
firsts_kept root n P (a ∷ xs) shares first all =
    firsts_kept root n P xs (with_heard root n shares a) (first_kept root n P shares a first all.0) all.1

-- ---- shares that were heard

-- a share that was heard of its node, and is a byte
pub record IsHeard (e r : ℕ) (heard : List Hearing) (a : HeardShare) : Type 0 where
  pub stands : Contains heard (hearing_of_share e r a)
  pub byte : a.share < 256

share_heard : (c : Numbers) (e r : ℕ) (heard : List Hearing) → AreHeardSpelled c heard → (a : HeardShare)
    → IsSource (λ (h : Hearing). share_in e r h.from h.vote) heard a
    → IsHeard e r heard a
share_heard c e r heard spelled a source =
    by source.element.from source.element.vote source.stands
    (AllByRecursion-contains (λ (h : Hearing). HasSpelling c h.vote) heard source.element spelled source.stands) source.gives
  where
    by : (m : ℕ) (vote : Vote) → Contains heard (hearing m vote) → HasSpelling c vote → share_in e r m vote ≡ Some a → IsHeard e r heard a
    by m (Coin d s share salt branch) stands fits gives =
        let chosen = cond_some ((d == e) && (s == r)) (heard_share m share salt branch) a gives in
        let same = and_parts (d == e) (s == r) chosen.0 in
        subst (IsHeard e r heard) chosen.1 (record {
          stands =
              subst (λ (vote : Vote). Contains heard (hearing m vote))
              (ap₂ (λ (x y : ℕ). Coin x y share salt branch) (eqb-true d e same.0) (eqb-true s r same.1)) stands;
          byte = fits.fields.1.0;
        })
    by m vote stands fits gives = absurd (cc (gives))

pub shares_in-first : (c : Numbers) (e j r : ℕ) (heard : List Hearing) → AreHeardSpelled c heard
    → AreFirst (coin_root c e j r) c.n (IsHeard e r heard) (shares_in c e j r heard)
shares_in-first c e j r heard spelled =
    let all : List HeardShare = filter_map (λ (h : Hearing). share_in e r h.from h.vote) heard in
    firsts_kept (coin_root c e j r) c.n (IsHeard e r heard) all []
    (record {
      good = record { good = All-nil (IsGood (coin_root c e j r) c.n); one_a_node = λ i k d less below. absurd (omega arith) };
      each = All-nil (IsHeard e r heard);
    })
    (recursion_from_All (IsHeard e r heard) all
    (λ k d below.
    let a : HeardShare = get_or all k d in
    share_heard c e r heard spelled a (source_of (λ (h : Hearing). share_in e r h.from h.vote) heard a (Contains-get_or all k d below))))

-- ---- their coin

-- the coin of a round that is known by what was heard is one, and so many nodes have shown shares
pub record IsShown (c : Numbers) (e j r : ℕ) (heard : List Hearing) (bit : Bool) : Type 0 where
  pub coin : HasCoin c e j r heard bit
  pub shares : c.f + 1 ≤ share_count c e j r heard

share_shown : (c : Numbers) (e j r : ℕ) (heard : List Hearing) (a : HeardShare) → IsGood (coin_root c e j r) c.n a → IsHeard e r heard a
    → heard_by heard a.node (is_share c e j r a.node) ≡ true
share_shown c e j r heard a good is =
    list_any-from (λ (h : Hearing). (h.from == a.node) && is_share c e j r a.node h.vote) heard (hearing_of_share e r a) is.stands
    (and_from (a.node == a.node) ((e == e) && ((r == r) && is_good (coin_root c e j r) c.n a)) (eq-eqb a.node a.node refl)
    (and_from (e == e) ((r == r) && is_good (coin_root c e j r) c.n a) (eq-eqb e e refl)
    (and_from (r == r) (is_good (coin_root c e j r) c.n a) (eq-eqb r r refl) (is_good-from (coin_root c e j r) c.n a good))))

coin_of_good : (root : List ℕ) (n : ℕ) (shares : List HeardShare) → n ≤ 16 → AreGood root n shares → All (λ a. a.share < 256) shares
    → IsCoinOf shares (coin_through shares)
coin_of_good root n shares few good bytes = record {
  polynomial = polynomial_through shares;
  through =
      interpolation-interpolates (points shares) (points_bytes root n shares good few) (distinct_points root n shares good) (values shares)
      (All-map (λ x. x < 256) (λ (a : HeardShare). a.share) shares bytes) (points_values shares);
  low_bit = refl;
}

-- of f + 1 good shares that were heard, one a node
coin_shown : (c : Numbers) → AreSound c → (e j r : ℕ) (heard : List Hearing) (shares : List HeardShare) → length shares ≡ c.f + 1
    → AreFirst (coin_root c e j r) c.n (IsHeard e r heard) shares
    → IsShown c e j r heard (coin_through shares)
coin_shown c sound e j r heard shares count first = record {
  coin = record {
    shares = shares;
    choice = record { count = count; good = first.good };
    stand =
        All-weaker (IsHeard e r heard) (λ (a : HeardShare). Contains heard (hearing_of_share e r a)) (λ a is. is.stands) shares first.each;
    coin =
        coin_of_good (coin_root c e j r) c.n shares (omega (arith, sound.nodes.1)) first.good
        (All-weaker (IsHeard e r heard) (λ (a : HeardShare). a.share < 256) (λ a is. is.byte) shares first.each);
  };
  shares =
      omega (
        arith,
        count,
        counted (λ (a : HeardShare). a.node) c.n (λ a. heard_by heard a (is_share c e j r a)) shares
            (recursion_from_All (λ (a : HeardShare). (a.node < c.n) × (heard_by heard a.node (is_share c e j r a.node) ≡ true)) shares
            (λ k d below.
            let good : IsGood (coin_root c e j r) c.n (get_or shares k d) = first.good.good k d below in
            (good.node, share_shown c e j r heard (get_or shares k d) good (first.each k d below))))
            first.good.one_a_node,
      );
}

pub coin_in-shown : (c : Numbers) → AreSound c → (e j r : ℕ) (heard : List Hearing) → AreHeardSpelled c heard → (bit : Bool)
    → coin_in c e j heard r ≡ Some bit → IsShown c e j r heard bit
coin_in-shown c sound e j r heard spelled bit h =
    let all : List HeardShare = shares_in c e j r heard in
    let got : List HeardShare = take (c.f + 1) all in
    let chosen = cond_some (nat_lt c.f (length all)) (coin_through got) bit h in
    let enough : c.f < length all = ltb-true c.f (length all) chosen.0 in
    let first : AreFirst (coin_root c e j r) c.n (IsHeard e r heard) all = shares_in-first c e j r heard spelled in
    subst (IsShown c e j r heard) chosen.1
    (coin_shown c sound e j r heard got (length-take-le (c.f + 1) all (omega arith)) (record {
      good = AreGood-take (coin_root c e j r) c.n (c.f + 1) all first.good;
      each = All-take (IsHeard e r heard) (c.f + 1) all first.each;
    }))
