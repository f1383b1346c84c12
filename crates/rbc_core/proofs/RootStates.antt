-- What is kept of each root stays sound.
use Rattle.std.proofs.Common.{◌≡◌, ◌≢◌, ℕ, ◌<◌, ◌≤◌, Bool, true, false, ◌||◌, ◌==◌, inl, inr, List, [], ◌∷◌, ◌++◌, length, get_or, replicate, Option, None, Some, if◌then◌else◌, unwrap_or, refl, sym, ap, ◌∙◌, subst, bytes_eq, length-append, ◌^◌, arith, get_or-set_same, get_or-set_other}
use Rattle.std.specs.List.{All}
use Rattle.std.proofs.Math.ListN.{set, length-set}
use Rattle.std.proofs.Math.Bool.{or-false}
use Rattle.std.proofs.lemmas.Bool.{both_ways, cases_lt, cases_eq, eqb-true, eq-eqb, or_cases, or_left, or_right, false_from_ne_true}
use Rattle.std.proofs.lemmas.List.{length-take, take_all, take-append-le, get_or-replicate, get_or_past}
use Rattle.std.proofs.lemmas.List.Elements.{All-nil, All-push}
use Rattle.std.proofs.lemmas.List.Folds.{list_any_at, list_any-append}
use Rattle.std.proofs.lemmas.List.Quantifiers.{all_pairs_push}
use Rattle.std.proofs.lemmas.Slice.Eq.{bytes_eq-Decides}
use Rattle.hb_base.specs.Limits.{most_nodes}
use Rattle.hb_base.specs.Numbers.{Numbers}
use Rattle.hb_base.specs.NodeSet.{is_in}
use Rattle.rs_shards.specs.Rebuilding.{AreShards}
use Rattle.hb_rules.specs.Code.{data_count}
use Rattle.hb_rules.specs.FirstShown.{has_node}
use Rattle.hb_rules.specs.BroadcastRows.{value_through}
use Rattle.rbc_core.specs.RootViews.{RootView, unheard, first_with}
use Rattle.rbc_core.specs.Roots.{RootsView, found, view_at, IsRootView, AreRootViews, after_echo, after_ready, Finds, IsUnchanged}

-- ---- the first k shards and one more

pub first_with-few : (k : ℕ) (shards : List (ℕ × List ℕ)) (x : ℕ × List ℕ) → length shards < k → first_with k shards x ≡ shards ++ x ∷ []
first_with-few k shards x few = take_all k (shards ++ x ∷ []) (omega (arith, length-append shards (x ∷ [])))

pub first_with-full : (k : ℕ) (shards : List (ℕ × List ℕ)) (x : ℕ × List ℕ) → length shards ≡ k → first_with k shards x ≡ shards
first_with-full k shards x full = take-append-le k shards (x ∷ []) (omega arith) ∙ take_all k shards (omega arith)

-- what holds of the shards, and of these with one more, holds of the first k of them
first_either : (k : ℕ) (shards : List (ℕ × List ℕ)) (x : ℕ × List ℕ) (P : List (ℕ × List ℕ) → Type 0) → length shards ≤ k
    → P shards → P (shards ++ x ∷ []) → P (first_with k shards x)
first_either k shards x P few old new = elim (cases_lt (length shards) k) [
  | inl less ↦ subst P (sym (first_with-few k shards x less)) new
  | inr full ↦ subst P (sym (first_with-full k shards x (omega arith))) old
]

-- ---- sets

pub is_in-set : (marks : List Bool) (node : ℕ) → node < length marks → (a : ℕ) → is_in (set marks node true) a ≡ ((a == node) || is_in marks a)
is_in-set marks node below a = elim (cases_eq a node) [
  | inl same ↦ rw (same, eq-eqb node node refl) (get_or-set_same marks node true false below)
  | inr apart ↦ rw (false_from_ne_true (a == node) (λ e. apart (eqb-true a node e))) (get_or-set_other marks node a true false apart)
]

-- ---- a root's view

pub IsRootView-unheard : (c : Numbers) (root : List ℕ) → 1 ≤ data_count c → IsRootView c root unheard
IsRootView-unheard c root some = record {
  shards = record { distinct = λ i j d less below. absurd (omega arith); within = All-nil (λ (x : ℕ × List ℕ). x.0 < c.n) };
  few = omega arith;
  short = All-nil (λ (x : ℕ × List ℕ). length x.1 < 2 ^ 32);
  echoed = λ a has. absurd (cc (has));
  value = rw (false_from_ne_true (0 == data_count c) (λ e. omega (arith, eqb-true 0 (data_count c) e))) refl;
  echoes = refl;
  readies = refl;
}

has_node-push : (shards : List (ℕ × List ℕ)) (x : ℕ × List ℕ) (a : ℕ) → has_node (shards ++ x ∷ []) a ≡ (has_node shards a || (x.0 == a))
has_node-push shards x a =
    list_any-append (λ (y : ℕ × List ℕ). y.0 == a) shards (x ∷ []) ∙ ap (λ (b : Bool). has_node shards a || b) (or-false (x.0 == a))

-- who has a shard echoed
record HaveEchoed (echoes : List Bool) (shards : List (ℕ × List ℕ)) : Type 0 where
  each : (a : ℕ) → has_node shards a ≡ true → is_in echoes a ≡ true

pub IsRootView-echo : (c : Numbers) (root : List ℕ) (v : RootView) (node : ℕ) (shard : List ℕ) → IsRootView c root v → node < c.n → c.n ≤ most_nodes
    → length shard < 2 ^ 32 → is_in v.echoes node ≡ false → IsRootView c root (after_echo c root v node shard)
IsRootView-echo c root v node shard is below few short new =
    let k : ℕ = data_count c in
    let x : ℕ × List ℕ = (node, shard) in
    let absent : has_node v.shards node ≡ false = false_from_ne_true (has_node v.shards node) (λ has. both_ways (is_in v.echoes node) new (is.echoed node has)) in
    let marks : (a : ℕ) → is_in (set v.echoes node true) a ≡ ((a == node) || is_in v.echoes a) = is_in-set v.echoes node (omega (arith, is.echoes)) in
    let old : HaveEchoed (set v.echoes node true) v.shards =
    record { each = λ a has. marks a ∙ or_right (a == node) (is_in v.echoes a) (is.echoed a has) } in
    record {
      shards =
          first_either k v.shards x (AreShards c.n) is.few is.shards
          (record {
            distinct = all_pairs_push (λ (x y : ℕ × List ℕ). x.0 ≢ y.0) v.shards x is.shards.distinct
                (λ i d inside same. both_ways (has_node v.shards node) absent
                (list_any_at (λ (y : ℕ × List ℕ). y.0 == node) v.shards i d inside (eq-eqb (get_or v.shards i d).0 node same)));
            within = All-push (λ (x : ℕ × List ℕ). x.0 < c.n) v.shards x is.shards.within below;
          });
      few = omega (arith, length-take k (v.shards ++ x ∷ []));
      short =
          first_either k v.shards x (λ xs. All (λ (x : ℕ × List ℕ). length x.1 < 2 ^ 32) xs) is.few is.short
          (All-push (λ (x : ℕ × List ℕ). length x.1 < 2 ^ 32) v.shards x is.short short);
      echoed =
          (first_either k v.shards x (HaveEchoed (set v.echoes node true)) is.few old
          (record {
            each = λ a has. elim (or_cases (has_node v.shards a) (node == a) (sym (has_node-push v.shards x a) ∙ has)) [
              | inl before ↦ old.each a before
              | inr now ↦ marks a ∙ or_left (a == node) (is_in v.echoes a) (eq-eqb a node (sym (eqb-true node a now)))
            ];
          })).each;
      value = refl;
      echoes = length-set v.echoes node true ∙ is.echoes;
      readies = is.readies;
    }

pub IsRootView-ready : (c : Numbers) (root : List ℕ) (v : RootView) (node : ℕ) → IsRootView c root v → IsRootView c root (after_ready v node)
IsRootView-ready c root v node is = record {
  shards = is.shards;
  few = is.few;
  short = is.short;
  echoed = is.echoed;
  value = is.value;
  echoes = is.echoes;
  readies = length-set v.readies node true ∙ is.readies;
}

-- the shards with one more of a node that has not echoed
pub AreShards-new : (c : Numbers) (root : List ℕ) (v : RootView) (node : ℕ) (shard : List ℕ) → IsRootView c root v → node < c.n
    → is_in v.echoes node ≡ false → AreShards c.n (v.shards ++ (node, shard) ∷ [])
AreShards-new c root v node shard is below new =
    let x : ℕ × List ℕ = (node, shard) in
    let absent : has_node v.shards node ≡ false = false_from_ne_true (has_node v.shards node) (λ has. both_ways (is_in v.echoes node) new (is.echoed node has)) in
    record {
      distinct = all_pairs_push (λ (x y : ℕ × List ℕ). x.0 ≢ y.0) v.shards x is.shards.distinct
          (λ i d inside same. both_ways (has_node v.shards node) absent
          (list_any_at (λ (y : ℕ × List ℕ). y.0 == node) v.shards i d inside (eq-eqb (get_or v.shards i d).0 node same)));
      within = All-push (λ (x : ℕ × List ℕ). x.0 < c.n) v.shards x is.shards.within below;
    }

pub short-new : (c : Numbers) (root : List ℕ) (v : RootView) (node : ℕ) (shard : List ℕ) → IsRootView c root v → length shard < 2 ^ 32
    → All (λ x. length x.1 < 2 ^ 32) (v.shards ++ (node, shard) ∷ [])
short-new c root v node shard is short = All-push (λ (x : ℕ × List ℕ). length x.1 < 2 ^ 32) v.shards (node, shard) is.short short

-- too few shards rebuild to nothing
pub value_through-few : (c : Numbers) (root : List ℕ) (got : List (ℕ × List ℕ)) → length got < data_count c → value_through c root got ≡ None
value_through-few c root got few = rw (false_from_ne_true (length got == data_count c) (λ e. omega (arith, eqb-true (length got) (data_count c) e))) refl

-- ---- all roots' views

-- what is found of a root, once something new is
pub view-finds : (old new : RootsView) (root : List ℕ) (v : RootView) → Finds old new root v → (other : List ℕ)
    → view_at new other ≡ (if bytes_eq root other then v else view_at old other)
view-finds old new root v finds other = ap (λ (o : Option RootView). unwrap_or o unheard) (finds.found other) ∙ by (bytes_eq root other)
  where
    by : (b : Bool) → unwrap_or (if b then Some v else found old other) unheard ≡ (if b then v else view_at old other)
    by true = refl
    by false = refl

pub AreRootViews-finds : (old new : RootsView) (root : List ℕ) (v : RootView) → AreRootViews old → Finds old new root v → IsRootView old.config root v
    → AreRootViews new
AreRootViews-finds old new root v are finds is = record {
  each = λ other.
      rw finds.config (subst (IsRootView old.config other) (sym (view-finds old new root v finds other)) (by other (bytes_eq root other) refl));
}
  where
    by : (other : List ℕ) (b : Bool) → bytes_eq root other ≡ b → IsRootView old.config other (if b then v else view_at old other)
    by other true same = subst (λ (r : List ℕ). IsRootView old.config r v) ((bytes_eq-Decides root other).0 same) is
    by other false apart = are.each other

pub AreRootViews-unchanged : (old new : RootsView) → AreRootViews old → IsUnchanged old new → AreRootViews new
AreRootViews-unchanged old new are same = record {
  each = λ root.
      rw same.config (subst (IsRootView old.config root) (sym (ap (λ (o : Option RootView). unwrap_or o unheard) (same.found root))) (are.each root));
}

-- no node is in the empty set
pub none_marked : (a : ℕ) → is_in (replicate most_nodes false) a ≡ false
none_marked a = elim (cases_lt a 16) [
  | inl below ↦ get_or-replicate 16 a false false below
  | inr above ↦ get_or_past (replicate 16 false) a false above
]
