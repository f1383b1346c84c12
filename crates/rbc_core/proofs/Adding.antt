-- One vote more for a root, in a map of states.
use Rattle.std.proofs.Common.{◌≡◌, ℕ, ◌<◌, ◌≤◌, ◌^◌, false, List, length, Option, Result, Ok, Err, OnOk, OnErr, IfOk, sym, ap, ◌∙◌}
use Rattle.std.specs.BTreeMap.{BTreeMap}
use Rattle.std.specs.Global.{Box}
use Rattle.hb_base.specs.Limits.{most_nodes}
use Rattle.hb_base.specs.Numbers.{Numbers}
use Rattle.hb_base.specs.NodeSet.{is_in}
use Rattle.hb_rules.specs.Code.{data_count}
use Rattle.rbc_core.specs.declared.root_state.RootState.{RootState}
use Rattle.rbc_core.specs.RootViews.{RootView, with_echo}
use Rattle.rbc_core.specs.Roots.{RootsView, view_at, AreRootViews, value_with, after_echo, after_ready, Finds}
use Rattle.rbc_core.proofs.Tables.{shown, Puts, Finds-puts}
use Rattle.rbc_core.proofs.RootStates.{IsRootView-echo, IsRootView-ready, AreRootViews-finds}
use Rattle.rbc_core.specs.Tables.{box_view}

-- ---- results

pub on_ok : {A E : Type 0} (r : Result A E) (P Q : Type 0) → (P → Q) → OnOk r P → OnOk r Q
on_ok (Ok a) P Q f h = f h
on_ok (Err e) P Q f h = h

pub if_ok : {A E : Type 0} (r : Result A E) (P Q : A → Type 0) → ((a : A) → P a → Q a) → IfOk r P → IfOk r Q
if_ok (Ok a) P Q f h = f a h
if_ok (Err e) P Q f h = h

pub on_err : {A E : Type 0} (r : Result A E) (P Q : Type 0) → (P → Q) → OnErr r P → OnErr r Q
on_err (Ok a) P Q f h = h
on_err (Err e) P Q f h = f h

pub any_err : {A E : Type 0} (r : Result A E) (P : Type 0) → P → OnErr r P
any_err (Ok a) P p = tt
any_err (Err e) P p = p

pub either_way : {A E : Type 0} (r : Result A E) (P Q R : Type 0) → OnOk r P → OnErr r Q → (P → R) → (Q → R) → R
either_way (Ok a) P Q R ok err one two = one ok
either_way (Err e) P Q R ok err one two = two err

-- ---- echoes

-- what is known of a root before a node's first Echo
pub record MayEcho (c : Numbers) (m : BTreeMap (List ℕ) (Box RootState)) (root : List ℕ) (node : ℕ) (shard : List ℕ) (value : Option (List ℕ)) : Type 0 where
  pub are : AreRootViews (shown c m)
  pub below : node < c.n
  pub few : c.n ≤ most_nodes
  pub short : length shard < 2 ^ 32
  pub new : is_in (view_at (shown c m) root).echoes node ≡ false
  pub rebuilt : value ≡ value_with c root (view_at (shown c m) root) node shard

-- by what is known of the value that is shown
pub MayEcho-shown : (r : RootsView) (c : Numbers) (m : BTreeMap (List ℕ) (Box RootState)) (root : List ℕ) (node : ℕ) (shard : List ℕ) (value : Option (List ℕ))
    → shown c m ≡ r → AreRootViews (shown c m) → node < r.config.n → c.n ≤ most_nodes → length shard < 2 ^ 32
    → is_in (view_at r root).echoes node ≡ false → value ≡ value_with r.config root (view_at r root) node shard
    → MayEcho c m root node shard value
MayEcho-shown r c m root node shard value is are below few short new rebuilt = record {
  are = are;
  below = rw (← is) at below;
  few = few;
  short = short;
  new = rw (← is) at new;
  rebuilt = rw (← is) at rebuilt;
}

pub Finds-echo : (c : Numbers) (m n : BTreeMap (List ℕ) (Box RootState)) (root : List ℕ) (before : RootView) (after : Box RootState) (node : ℕ) (shard : List ℕ)
    (value : Option (List ℕ)) → MayEcho c m root node shard value → view_at (shown c m) root ≡ before → Puts m n root after
    → box_view after ≡ with_echo (data_count c) before node shard value
    → Finds (shown c m) (shown c n) root (after_echo c root (view_at (shown c m) root) node shard)
Finds-echo c m n root before after node shard value may at puts is =
    let v : RootView = view_at (shown c m) root in
    Finds-puts c m n root after (after_echo c root v node shard) puts
    (is ∙ ap (λ (w : RootView). with_echo (data_count c) w node shard value) (sym at)
    ∙ ap (λ (o : Option (List ℕ)). with_echo (data_count c) v node shard o) may.rebuilt)

pub AreRootViews-echo : (c : Numbers) (m n : BTreeMap (List ℕ) (Box RootState)) (root : List ℕ) (node : ℕ) (shard : List ℕ) (value : Option (List ℕ))
    → MayEcho c m root node shard value → Finds (shown c m) (shown c n) root (after_echo c root (view_at (shown c m) root) node shard)
    → AreRootViews (shown c n)
AreRootViews-echo c m n root node shard value may finds =
    let v : RootView = view_at (shown c m) root in
    AreRootViews-finds (shown c m) (shown c n) root (after_echo c root v node shard) may.are finds
    (IsRootView-echo c root v node shard (may.are.each root) may.below may.few may.short may.new)

-- ---- readies

pub Finds-ready : (c : Numbers) (m n : BTreeMap (List ℕ) (Box RootState)) (root : List ℕ) (before : RootView) (after : Box RootState) (node : ℕ)
    → view_at (shown c m) root ≡ before → Puts m n root after → box_view after ≡ after_ready before node
    → Finds (shown c m) (shown c n) root (after_ready (view_at (shown c m) root) node)
Finds-ready c m n root before after node at puts is =
    Finds-puts c m n root after (after_ready (view_at (shown c m) root) node) puts (is ∙ ap (λ (w : RootView). after_ready w node) (sym at))

pub AreRootViews-ready : (c : Numbers) (m n : BTreeMap (List ℕ) (Box RootState)) (root : List ℕ) (node : ℕ) → AreRootViews (shown c m)
    → Finds (shown c m) (shown c n) root (after_ready (view_at (shown c m) root) node) → AreRootViews (shown c n)
AreRootViews-ready c m n root node are finds =
    let v : RootView = view_at (shown c m) root in
    AreRootViews-finds (shown c m) (shown c n) root (after_ready v node) are finds (IsRootView-ready c root v node (are.each root))
