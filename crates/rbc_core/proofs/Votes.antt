-- The state after an Echo and after a Ready.
use Rattle.std.proofs.Common.{◌≡◌, ℕ, ◌+◌, ◌<◌, ◌≤◌, ◌^◌, Bool, true, false, not, ◌&&◌, ◌||◌, ◌==◌, nat_lt, nat_le, ◌*◌, List, ◌++◌, length, Option, None, Some, if◌then◌else◌, is_some, unwrap_or, refl, sym, ap, ◌∙◌, subst, arith, Bor}
use Rattle.std.specs.Option.{option_map, option_or, option_to_list, option_copied}
use Rattle.std.proofs.Math.ListN.{set}
use Rattle.std.proofs.lemmas.Bool.{eqb-true, eq-eqb, and_parts, and_from, both_ways, lt-ltb}
use Rattle.std.proofs.lemmas.Slice.Eq.{bytes_eq-Decides}
use Rattle.hb_base.specs.Counting.{count_nodes}
use Rattle.hb_base.specs.Limits.{most_nodes}
use Rattle.hb_base.specs.Numbers.{Numbers}
use Rattle.hb_base.specs.NodeSet.{is_in}
use Rattle.hb_wire.specs.declared.vote.Vote.{Vote}
use Rattle.hb_wire.specs.declared.vote.Vote.TheVariants.{Echo, Ready, Delivered}
use Rattle.merkle_branch.specs.declared.Branch.{Branch}
use Rattle.merkle_branch.specs.Branches.{is_branch}
use Rattle.hb_rules.specs.Claims.{echoed, readied, has_root, are_these, is_echo, is_ready}
use Rattle.hb_rules.specs.Hearing.{Hearing, hearing}
use Rattle.hb_rules.specs.Slots.{when}
use Rattle.hb_rules.specs.BroadcastRows.{named}
use Rattle.hb_rules.proofs.Among.{any_stands}
use Rattle.rbc_core.specs.Broadcast.{RbcView, Hears}
use Rattle.rbc_core.specs.Due.{is_ready_by}
use Rattle.rbc_core.specs.RootViews.{RootView, unheard}
use Rattle.rbc_core.specs.Roots.{RootsView, found, view_at, IsRootView, value_with, after_echo, after_ready, Finds}
use Rattle.hb_rules.proofs.Counts.{count_nodes-one}
use Rattle.rbc_core.proofs.Hearings.{kinds_apart}
use Rattle.rbc_core.proofs.RootStates.{is_in-set, none_marked, IsRootView-echo, IsRootView-ready}
use Rattle.rbc_core.proofs.Shown.{ShowsShard, ShowsReady, named-shard, named-ready, shows-echo, shows-echo_again, shows-ready, shows-ready_again}
use Rattle.rbc_core.proofs.Heard.{NamesRoot, delivered_now, Hears-named, Hears-again}

pub none_either : {A : Type 0} (b : Bool) (o : Option A) → o ≡ None → (if b then o else None) ≡ None
none_either true o none = none
none_either false o none = refl

-- ---- what names a root

named_if_echo : (n e : ℕ) (root : List ℕ) (g : Hearing) → is_echo n e root g.from g.vote ≡ true → named n e g ≡ Some root
named_if_echo n e root g shows = by (echoed n e g.from g.vote) shows
  where
    by : (o : Option (List ℕ × List ℕ)) → has_root root o ≡ true → option_or (option_map (λ part. part.0) o) (readied e g.vote) ≡ Some root
    by None same = absurd (cc (same))
    by (Some part) same = ap Some (sym ((bytes_eq-Decides root part.0).0 same))

named_if_ready : (n e : ℕ) (root : List ℕ) (g : Hearing) → is_ready e root g.vote ≡ true → named n e g ≡ Some root
named_if_ready n e root g shows = by (echoed n e g.from g.vote) (readied e g.vote) refl refl shows
  where
    by : (o : Option (List ℕ × List ℕ)) (r : Option (List ℕ)) → echoed n e g.from g.vote ≡ o → readied e g.vote ≡ r → are_these root r ≡ true
        → option_or (option_map (λ part. part.0) o) r ≡ Some root
    by o None is_echo is_ready same = absurd (cc (same))
    by None (Some w) is_echo is_ready same = ap Some (sym ((bytes_eq-Decides root w).0 same))
    by (Some part) (Some w) is_echo is_ready same = absurd (cc (kinds_apart n e g.from g.vote part is_echo, is_ready))

-- a set of what is not known is empty
known_if : (roots : RootsView) (root : List ℕ) (a : ℕ) (marks : RootView → List Bool) → is_in (marks unheard) a ≡ false
    → is_in (marks (view_at roots root)) a ≡ true → is_some (found roots root) ≡ true
known_if roots root a marks empty has = by (found roots root) has
  where
    by : (o : Option RootView) → is_in (marks (unwrap_or o unheard)) a ≡ true → is_some o ≡ true
    by None has = absurd (both_ways (is_in (marks unheard) a) empty has)
    by (Some v) has = refl

-- ---- Echo

echo_shows : (n e from : ℕ) (root shard : List ℕ) (branch : Branch) → from < n → is_branch root n from shard branch ≡ true
    → ShowsShard n e root shard (hearing from (Echo e root shard branch))
echo_shows n e from root shard branch below valid = record {
  is = ap (λ (b : Bool). if b then Some (root, shard) else None)
      (and_from (e == e) (nat_lt from n && is_branch root n from shard branch) (eq-eqb e e refl)
      (and_from (nat_lt from n) (is_branch root n from shard branch) (lt-ltb from n below) valid));
}

echo_names : (r : RbcView) (from : ℕ) (root shard : List ℕ) (branch : Branch) → from < r.roots.config.n → r.roots.config.n ≤ most_nodes
    → is_branch root r.roots.config.n from shard branch ≡ true → NamesRoot r (hearing from (Echo r.epoch root shard branch)) root
echo_names r from root shard branch below few valid = record {
  from = below;
  few = few;
  proposal = λ sender. none_either (from == r.node) None refl;
  echo = none_either (from == r.lane) None refl;
  names =
      named-shard r.roots.config.n r.epoch root shard (hearing from (Echo r.epoch root shard branch))
      (echo_shows r.roots.config.n r.epoch from root shard branch below valid);
}

-- a valid Echo of a node, the first for its root
pub record IsFirstEcho (r : RbcView) (from : ℕ) (root shard : List ℕ) (branch : Branch) : Type 0 where
  pub below : from < r.roots.config.n
  pub few : r.roots.config.n ≤ most_nodes
  pub valid : is_branch root r.roots.config.n from shard branch ≡ true
  pub short : length shard < 2 ^ 32
  pub is : IsRootView r.roots.config root (view_at r.roots root)
  pub new : is_in (view_at r.roots root).echoes from ≡ false

-- the votes that it makes, by running counts
pub record AreEchoVotes (r : RbcView) (from : ℕ) (root shard : List ℕ) (echoes readies : ℕ) (rebuilt : Option (List ℕ)) (due : Bool)
    (value : Option (List ℕ)) : Type 0 where
  pub echoed : echoes ≡ count_nodes most_nodes (is_in (view_at r.roots root).echoes)
  pub readied : readies ≡ count_nodes most_nodes (is_in (view_at r.roots root).readies)
  pub is_rebuilt : rebuilt ≡ value_with r.roots.config root (view_at r.roots root) from shard
  pub is_due : due ≡ (not r.is_ready_cast && is_ready_by r.roots.config (echoes + 1) readies (is_some rebuilt))
  pub is_delivered : value ≡ delivered_now (is_some r.delivered) (nat_le (2 * r.roots.config.f + 1) readies) rebuilt

pub Hears-echo : (r : RbcView) (roots : RootsView) (from : ℕ) (root shard : List ℕ) (branch : Branch) (echoes readies : ℕ) (rebuilt : Option (List ℕ))
    (due : Bool) (value : Option (List ℕ)) (before after : List Vote) → IsFirstEcho r from root shard branch
    → Finds r.roots roots root (after_echo r.roots.config root (view_at r.roots root) from shard)
    → AreEchoVotes r from root shard echoes readies rebuilt due value
    → after ≡ before ++ (option_to_list (when due (Ready r.epoch root)) ++ option_to_list (option_map (Delivered r.epoch) value))
    → Hears r (record r { roots = roots; is_ready_cast = r.is_ready_cast || due; delivered = option_or r.delivered value })
    (hearing from (Echo r.epoch root shard branch)) before after
Hears-echo r roots from root shard branch echoes readies rebuilt due value before after first finds are is =
    let c : Numbers = r.roots.config in
    let v : RootView = view_at r.roots root in
    let h : Hearing = hearing from (Echo r.epoch root shard branch) in
    let inside : from < most_nodes = omega (arith, first.below, first.few) in
    let count : count_nodes most_nodes (is_in (set v.echoes from true)) ≡ echoes + 1 =
    count_nodes-one most_nodes from (is_in v.echoes) (is_in (set v.echoes from true)) inside first.new
    (is_in-set v.echoes from (omega (arith, first.is.echoes, inside)))
    ∙ ap (λ (k : ℕ). k + 1) (sym are.echoed) in
    Hears-named r roots h root (after_echo c root v from shard) due value before after
    (echo_names r from root shard branch first.below first.few first.valid) finds
    (IsRootView-echo c root v from shard first.is first.below first.few first.short first.new)
    (λ heard all. shows-echo c r.epoch heard root shard h v (echo_shows c.n r.epoch from root shard branch first.below first.valid)
    first.is inside first.new (all.roots root).shows)
    (record {
      ready =
          are.is_due
          ∙ ap (λ (k : ℕ). not r.is_ready_cast && is_ready_by c k readies (is_some rebuilt)) (sym count)
          ∙ ap (λ (k : ℕ). not r.is_ready_cast && is_ready_by c (count_nodes most_nodes (is_in (set v.echoes from true))) k (is_some rebuilt)) are.readied
          ∙ ap (λ (o : Option (List ℕ)). not r.is_ready_cast && is_ready_by c (count_nodes most_nodes (is_in (set v.echoes from true)))
          (count_nodes most_nodes (is_in v.readies)) (is_some o)) are.is_rebuilt;
      delivery =
          are.is_delivered
          ∙ ap (λ (k : ℕ). delivered_now (is_some r.delivered) (nat_le (2 * c.f + 1) k) rebuilt) are.readied
          ∙ ap (λ (o : Option (List ℕ)). delivered_now (is_some r.delivered) (nat_le (2 * c.f + 1) (count_nodes most_nodes (is_in v.readies))) o) are.is_rebuilt;
    })
    is

-- a node's second Echo for a root leaves the state
pub Hears-echo_again : (r : RbcView) (from : ℕ) (root shard : List ℕ) (branch : Branch) (due : List Vote) → from < r.roots.config.n
    → r.roots.config.n ≤ most_nodes → is_branch root r.roots.config.n from shard branch ≡ true → IsRootView r.roots.config root (view_at r.roots root)
    → is_in (view_at r.roots root).echoes from ≡ true → Hears r r (hearing from (Echo r.epoch root shard branch)) due due
Hears-echo_again r from root shard branch due below few valid is old =
    let c : Numbers = r.roots.config in
    let h : Hearing = hearing from (Echo r.epoch root shard branch) in
    Hears-again r h root due (echo_names r from root shard branch below few valid) is
    (known_if r.roots root from (λ v. v.echoes) (none_marked from) old)
    (λ heard are. shows-echo_again c r.epoch heard root shard h (view_at r.roots root) (echo_shows c.n r.epoch from root shard branch below valid) old
    (are.roots root).shows)
    (λ heard are.
    let found = any_stands (λ (g : Hearing). (g.from == from) && is_echo c.n r.epoch root from g.vote) heard
    (sym ((are.roots root).shows.echoes from) ∙ old) in
    let parts = and_parts (found.0.from == from) (is_echo c.n r.epoch root from found.0.vote) found.2 in
    record {
      hearing = found.0;
      stands = found.1;
      names =
          named_if_echo c.n r.epoch root found.0
          (subst (λ (m : ℕ). is_echo c.n r.epoch root m found.0.vote ≡ true) (sym (eqb-true found.0.from from parts.0)) parts.1);
    })

-- ---- Ready

ready_shows : (n e from : ℕ) (root : List ℕ) → ShowsReady n e root (hearing from (Ready e root))
ready_shows n e from root = record {
  is = ap (λ (b : Bool). if b then Some root else None) (eq-eqb e e refl);
  no_echo = refl;
}

ready_names : (r : RbcView) (from : ℕ) (root : List ℕ) → from < r.roots.config.n → r.roots.config.n ≤ most_nodes
    → NamesRoot r (hearing from (Ready r.epoch root)) root
ready_names r from root below few = record {
  from = below;
  few = few;
  proposal = λ sender. none_either (from == r.node) None refl;
  echo = none_either (from == r.lane) None refl;
  names = named-ready r.roots.config.n r.epoch root (hearing from (Ready r.epoch root)) (ready_shows r.roots.config.n r.epoch from root);
}

-- a node's first Ready for a root
pub record IsFirstReady (r : RbcView) (from : ℕ) (root : List ℕ) : Type 0 where
  pub below : from < r.roots.config.n
  pub few : r.roots.config.n ≤ most_nodes
  pub is : IsRootView r.roots.config root (view_at r.roots root)
  pub new : is_in (view_at r.roots root).readies from ≡ false

-- the votes that it makes, by running counts
pub record AreReadyVotes (r : RbcView) (root : List ℕ) (echoes readies : ℕ) (rebuilt : Option (List ℕ)) (due : Bool) (value : Option (List ℕ)) : Type 0 where
  pub echoed : echoes ≡ count_nodes most_nodes (is_in (view_at r.roots root).echoes)
  pub readied : readies ≡ count_nodes most_nodes (is_in (view_at r.roots root).readies)
  pub is_rebuilt : rebuilt ≡ (view_at r.roots root).value
  pub is_due : due ≡ (not r.is_ready_cast && is_ready_by r.roots.config echoes (readies + 1) (is_some rebuilt))
  pub is_delivered : value ≡ delivered_now (is_some r.delivered) (nat_le (2 * r.roots.config.f + 1) (readies + 1)) rebuilt

pub Hears-ready : (r : RbcView) (roots : RootsView) (from : ℕ) (root : List ℕ) (echoes readies : ℕ) (rebuilt : Option (List ℕ))
    (due : Bool) (value : Option (List ℕ)) (before after : List Vote) → IsFirstReady r from root
    → Finds r.roots roots root (after_ready (view_at r.roots root) from)
    → AreReadyVotes r root echoes readies rebuilt due value
    → after ≡ before ++ (option_to_list (when due (Ready r.epoch root)) ++ option_to_list (option_map (Delivered r.epoch) value))
    → Hears r (record r { roots = roots; is_ready_cast = r.is_ready_cast || due; delivered = option_or r.delivered value })
    (hearing from (Ready r.epoch root)) before after
Hears-ready r roots from root echoes readies rebuilt due value before after first finds are is =
    let c : Numbers = r.roots.config in
    let v : RootView = view_at r.roots root in
    let h : Hearing = hearing from (Ready r.epoch root) in
    let inside : from < most_nodes = omega (arith, first.below, first.few) in
    let count : count_nodes most_nodes (is_in (set v.readies from true)) ≡ readies + 1 =
    count_nodes-one most_nodes from (is_in v.readies) (is_in (set v.readies from true)) inside first.new
    (is_in-set v.readies from (omega (arith, first.is.readies, inside)))
    ∙ ap (λ (k : ℕ). k + 1) (sym are.readied) in
    Hears-named r roots h root (after_ready v from) due value before after
    (ready_names r from root first.below first.few) finds
    (IsRootView-ready c root v from first.is)
    (λ heard all. shows-ready c r.epoch heard root h v (ready_shows c.n r.epoch from root) first.is inside (all.roots root).shows)
    (record {
      ready =
          are.is_due
          ∙ ap (λ (k : ℕ). not r.is_ready_cast && is_ready_by c k (readies + 1) (is_some rebuilt)) are.echoed
          ∙ ap (λ (k : ℕ). not r.is_ready_cast && is_ready_by c (count_nodes most_nodes (is_in v.echoes)) k (is_some rebuilt)) (sym count)
          ∙ ap (λ (o : Option (List ℕ)). not r.is_ready_cast && is_ready_by c (count_nodes most_nodes (is_in v.echoes))
          (count_nodes most_nodes (is_in (set v.readies from true))) (is_some o)) are.is_rebuilt;
      delivery =
          are.is_delivered
          ∙ ap (λ (k : ℕ). delivered_now (is_some r.delivered) (nat_le (2 * c.f + 1) k) rebuilt) (sym count)
          ∙ ap (λ (o : Option (List ℕ)). delivered_now (is_some r.delivered) (nat_le (2 * c.f + 1) (count_nodes most_nodes (is_in (set v.readies from true)))) o)
          are.is_rebuilt;
    })
    is

-- a node's second Ready for a root leaves the state
pub Hears-ready_again : (r : RbcView) (from : ℕ) (root : List ℕ) (due : List Vote) → from < r.roots.config.n → r.roots.config.n ≤ most_nodes
    → IsRootView r.roots.config root (view_at r.roots root) → is_in (view_at r.roots root).readies from ≡ true
    → Hears r r (hearing from (Ready r.epoch root)) due due
Hears-ready_again r from root due below few is old =
    let c : Numbers = r.roots.config in
    let h : Hearing = hearing from (Ready r.epoch root) in
    Hears-again r h root due (ready_names r from root below few) is
    (known_if r.roots root from (λ v. v.readies) (none_marked from) old)
    (λ heard are. shows-ready_again c r.epoch heard root h (view_at r.roots root) (ready_shows c.n r.epoch from root) old (are.roots root).shows)
    (λ heard are.
    let found = any_stands (λ (g : Hearing). (g.from == from) && is_ready r.epoch root g.vote) heard
    (sym ((are.roots root).shows.readies from) ∙ old) in
    let parts = and_parts (found.0.from == from) (is_ready r.epoch root found.0.vote) found.2 in
    record { hearing = found.0; stands = found.1; names = named_if_ready c.n r.epoch root found.0 parts.1 })

-- ---- what the code knows of votes

pub some_copied : {A : Type 0} (o : Option (Bor A)) → is_some (option_copied o) ≡ is_some o
some_copied None = refl
some_copied (Some x) = refl

-- the votes of a root, behind those that were due
pub votes_behind : (e : ℕ) (root : List ℕ) (due : Bool) (first second : Option (List ℕ)) (before between after : List Vote)
    → after ≡ between ++ (option_to_list (when due (Ready e root)) ++ option_to_list (option_map (Delivered e) first)) → between ≡ before → first ≡ second
    → after ≡ before ++ (option_to_list (when due (Ready e root)) ++ option_to_list (option_map (Delivered e) second))
votes_behind e root due first second before between after is same equal =
    is
    ∙ ap (λ (votes : List Vote). votes ++ (option_to_list (when due (Ready e root)) ++ option_to_list (option_map (Delivered e) first))) same
    ∙ ap (λ (o : Option (List ℕ)). before ++ (option_to_list (when due (Ready e root)) ++ option_to_list (option_map (Delivered e) o))) equal

-- the room for the votes of a root
pub votes_fit : (e : ℕ) (root : List ℕ) (due delivery : Bool) (value first : Option (List ℕ)) (spare : ℕ)
    → first ≡ (if delivery then value else None) → (if due then 1 else 0) + (if delivery then 1 else 0) ≤ spare
    → length (option_to_list (when due (Ready e root)) ++ option_to_list (option_map (Delivered e) first)) ≤ spare
votes_fit e root due delivery value first spare is fits =
    subst (λ (o : Option (List ℕ)). length (option_to_list (when due (Ready e root)) ++ option_to_list (option_map (Delivered e) o)) ≤ spare) (sym is)
    (by due delivery value fits)
  where
    by : (b d : Bool) (v : Option (List ℕ)) → (if b then 1 else 0) + (if d then 1 else 0) ≤ spare
        → length (option_to_list (when b (Ready e root)) ++ option_to_list (option_map (Delivered e) (if d then v else None))) ≤ spare
    by true true None fits = omega arith
    by true true (Some x) fits = omega arith
    by true false v fits = omega arith
    by false true None fits = omega arith
    by false true (Some x) fits = omega arith
    by false false v fits = omega arith
