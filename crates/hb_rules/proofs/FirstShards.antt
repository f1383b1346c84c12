-- The first shards of valid Echoes for a root, one a node, and the value to which they rebuild.
use Rattle.std.proofs.Common.{◌≡◌, ◌≢◌, ℕ, ◌<◌, ◌≤◌, Bool, true, false, ◌&&◌, ◌==◌, nat_lt, inl, inr, List, [], ◌∷◌, ◌++◌, None, Some, length, take, get_or, if◌then◌else◌, refl, ap, ◌∙◌, subst, arith}
use Rattle.std.specs.Str.{bytes_eq}
use Rattle.std.specs.List.{All, AllPairs, AllByRecursion, fold, filter_map}
use Rattle.std.proofs.lemmas.Bool.{both_ways, and_parts, and_from, eq-eqb, eqb-true, ltb-true, cases_lt}
use Rattle.std.proofs.lemmas.List.{take_all}
use Rattle.std.proofs.lemmas.List.Elements.{All-nil, All-push, All-take, All-weaker, recursion_from_All, Contains-get_or}
use Rattle.std.proofs.lemmas.List.Folds.{list_any_at}
use Rattle.std.proofs.lemmas.List.Quantifiers.{all_pairs_push}
use Rattle.std.proofs.lemmas.Option.{option_and_then_some, cond_some}
use Rattle.std.proofs.lemmas.Slice.Eq.{bytes_eq-Decides}
use Rattle.hb_base.specs.Numbers.{Numbers, AreSound}
use Rattle.hb_wire.specs.declared.vote.Vote.{Vote}
use Rattle.hb_wire.specs.declared.vote.Vote.TheVariants.{Echo}
use Rattle.merkle_branch.specs.Branches.{is_branch}
use Rattle.merkle_branch.specs.Digests.{tree_root}
use Rattle.rs_shards.specs.Frame.{framed_value}
use Rattle.rs_shards.specs.Rebuilding.{AreShards}
use Rattle.rs_shards.specs.Completing.{are_even, completed}
use Rattle.rs_shards.proofs.Completions.{AreEven-from_test, AreShards-take, completed-rebuilt}
use Rattle.hb_rules.specs.Claims.{echoed, has_both, is_shard_echo}
use Rattle.hb_rules.specs.Hearing.{Hearing, heard_by}
use Rattle.hb_rules.specs.Code.{data_count, AreEchoed}
use Rattle.hb_rules.specs.FirstShown.{has_node, with_first, firsts_shown}
use Rattle.hb_rules.specs.BroadcastRows.{shard_of, shards_of, value_of}
use Rattle.hb_rules.proofs.Lists.{list_any-from, IsSource, source_of}

-- ---- the first of each node

-- what each node has shown first: it has the property, and no node stands twice
pub record AreFirst {A : Type 0} (P : ℕ × A → Type 0) (shown : List (ℕ × A)) : Type 0 where
  pub each : All P shown
  pub apart : AllPairs (λ x y. x.0 ≢ y.0) shown

first_kept : {A : Type 0} (P : ℕ × A → Type 0) (shown : List (ℕ × A)) (x : ℕ × A) → AreFirst P shown → P x → AreFirst P (with_first shown x)
first_kept {A} P shown x first holds = by (has_node shown x.0) refl
  where
    by : (b : Bool) → has_node shown x.0 ≡ b → AreFirst P (if b then shown else shown ++ x ∷ [])
    by true has = first
    by false new = record {
      each = All-push P shown x first.each holds;
      apart =
          all_pairs_push (λ (x y : ℕ × A). x.0 ≢ y.0) shown x first.apart
          (λ k d below same. both_ways (has_node shown x.0) new
          (list_any_at (λ (y : ℕ × A). y.0 == x.0) shown k d below (eq-eqb (get_or shown k d).0 x.0 same)));
    }

firsts_kept : {A : Type 0} (P : ℕ × A → Type 0) (xs shown : List (ℕ × A)) → AreFirst P shown → AllByRecursion P xs
    → AreFirst P (fold with_first shown xs)
firsts_kept P [] shown first all = first
firsts_kept P (x ∷ xs) shown first all = firsts_kept P xs (with_first shown x) (first_kept P shown x first all.0) all.1

pub firsts_shown-first : {A : Type 0} (P : ℕ × A → Type 0) (xs : List (ℕ × A)) → All P xs → AreFirst P (firsts_shown xs)
firsts_shown-first P xs all =
    firsts_kept P xs [] (record { each = All-nil P; apart = λ i j d less below. absurd (omega arith) }) (recursion_from_All P xs all)

-- ---- shards of valid Echoes

-- a valid Echo is one of the n nodes'
pub echoed-within : (n e m : ℕ) (vote : Vote) (part : List ℕ × List ℕ) → echoed n e m vote ≡ Some part → m < n
echoed-within n e m (Echo d root shard branch) part h =
    let test = (cond_some ((d == e) && (nat_lt m n && is_branch root n m shard branch)) (root, shard) part h).0 in
    let parts = and_parts (d == e) (nat_lt m n && is_branch root n m shard branch) test in
    let below = (and_parts (nat_lt m n) (is_branch root n m shard branch) parts.1).0 in
    ltb-true m n below
echoed-within n e m vote part h = absurd (cc (h))

-- a shard that a node has shown for the root in a valid Echo
pub record IsShown (n e : ℕ) (root : List ℕ) (heard : List Hearing) (x : ℕ × List ℕ) : Type 0 where
  pub within : x.0 < n
  pub shown : heard_by heard x.0 (is_shard_echo n e root x.0 x.1) ≡ true

shard_shown : (n e : ℕ) (root : List ℕ) (heard : List Hearing) (x : ℕ × List ℕ) → IsSource (shard_of n e root) heard x → IsShown n e root heard x
shard_shown n e root heard x source =
    let h : Hearing = source.element in
    option_and_then_some (λ part. if bytes_eq root part.0 then Some (h.from, part.1) else None) (echoed n e h.from h.vote) x source.gives
    (λ part is gives.
    let chosen = cond_some (bytes_eq root part.0) (h.from, part.1) x gives in
    subst (IsShown n e root heard) chosen.1 (record {
      within = echoed-within n e h.from h.vote part is;
      shown =
          list_any-from (λ (g : Hearing). (g.from == h.from) && is_shard_echo n e root h.from part.1 g.vote) heard h source.stands
          (and_from (h.from == h.from) (is_shard_echo n e root h.from part.1 h.vote) (eq-eqb h.from h.from refl)
          (ap (has_both root part.1) is
          ∙ and_from (bytes_eq root part.0) (bytes_eq part.1 part.1) chosen.0 ((bytes_eq-Decides part.1 part.1).1 refl)));
    }))

pub shards_of-shown : (n e : ℕ) (root : List ℕ) (heard : List Hearing) → AreFirst (IsShown n e root heard) (shards_of n e root heard)
shards_of-shown n e root heard =
    firsts_shown-first (IsShown n e root heard) (filter_map (shard_of n e root) heard)
    (λ k d below.
    let x = get_or (filter_map (shard_of n e root) heard) k d in
    shard_shown n e root heard x (source_of (shard_of n e root) heard x (Contains-get_or (filter_map (shard_of n e root) heard) k d below)))

pub shards_of-shards : (n e : ℕ) (root : List ℕ) (heard : List Hearing) → AreShards n (shards_of n e root heard)
shards_of-shards n e root heard =
    let first = shards_of-shown n e root heard in
    record {
      distinct = first.apart;
      within = All-weaker (IsShown n e root heard) (λ (x : ℕ × List ℕ). x.0 < n) (λ x shown. shown.within) (shards_of n e root heard) first.each;
    }

-- ---- the value to which they rebuild

-- where so many were taken, so many are there
taken_long : {A : Type 0} (k : ℕ) (xs : List A) → length (take k xs) ≡ k → k ≤ length xs
taken_long k xs long = elim (cases_lt (length xs) k) [
  | inl short ↦ let whole = ap length (take_all k xs (omega arith)) in absurd (omega arith)
  | inr enough ↦ enough
]

-- the codeword of the first k shards of valid Echoes has the root, and carries the value
pub record IsGiven (c : Numbers) (e : ℕ) (heard : List Hearing) (root value : List ℕ) : Type 0 where
  pub shards : List (List ℕ)
  pub echoed : AreEchoed c.n (data_count c) e root (heard_by heard) shards
  pub value_is : framed_value (data_count c) shards ≡ value

pub data_count-some : (c : Numbers) → AreSound c → 1 ≤ data_count c
data_count-some c sound = omega (arith, sound.enough)

pub data_count-within : (c : Numbers) → data_count c ≤ c.n
data_count-within c = omega arith

pub few_nodes : (c : Numbers) → AreSound c → c.n ≤ 256
few_nodes c sound = omega (arith, sound.nodes.1)

pub value_given : (c : Numbers) → AreSound c → (e : ℕ) (heard : List Hearing) (root value : List ℕ) → value_of c e heard root ≡ Some value
    → IsGiven c e heard root value
value_given c sound e heard root value h =
    let k : ℕ = data_count c in
    let all : List (ℕ × List ℕ) = shards_of c.n e root heard in
    let got : List (ℕ × List ℕ) = take k all in
    let shards : List (List ℕ) = completed c.n k got in
    let chosen = cond_some ((length got == k) && (are_even got && bytes_eq (tree_root shards) root)) (framed_value k shards) value h in
    let tests = and_parts (length got == k) (are_even got && bytes_eq (tree_root shards) root) chosen.0 in
    let others = and_parts (are_even got) (bytes_eq (tree_root shards) root) tests.1 in
    let long : length got ≡ k = eqb-true (length got) k tests.0 in
    let are : AreShards c.n got = AreShards-take c.n k all (taken_long k all long) (shards_of-shards c.n e root heard) in
    let same : take k got ≡ got = take_all k got (omega arith) in
    record {
      shards = shards;
      echoed = record {
        got = got;
        echoes = record {
          enough = long;
          shards = are;
          each =
              All-weaker (IsShown c.n e root heard) (λ (x : ℕ × List ℕ). heard_by heard x.0 (is_shard_echo c.n e root x.0 x.1) ≡ true)
              (λ x shown. shown.shown) got (All-take (IsShown c.n e root heard) k all (shards_of-shown c.n e root heard).each);
        };
        rebuilt =
            completed-rebuilt c.n k (data_count-some c sound) (few_nodes c sound) got (omega arith) are
            (AreEven-from_test (take k got) (ap are_even same ∙ others.0));
        root_is = (bytes_eq-Decides (tree_root shards) root).0 others.1;
      };
      value_is = chosen.1;
    }
