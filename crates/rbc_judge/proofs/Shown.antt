-- Shards that were shown, where branches were checked.
use Rattle.std.proofs.Common.{◌≡◌, ℕ, ◌+◌, ◌<◌, ◌≤◌, ◌^◌, nat_lt, Bool, true, false, ◌&&◌, ◌||◌, ◌==◌, List, [], ◌∷◌, ◌++◌, Option, None, Some, if◌then◌else◌, length, take, get_or, refl, sym, ap, ◌∙◌, subst, arith, bytes_eq}
use Rattle.std.specs.Prelude.{All}
use Rattle.std.specs.List.{filter_map}
use Rattle.std.proofs.lemmas.Bool.{eqb-true, eq-eqb}
use Rattle.std.proofs.lemmas.List.{take_more}
use Rattle.std.proofs.lemmas.List.Elements.{All-head, All-tail, Contains-get_or}
use Rattle.std.proofs.lemmas.Option.{option_and_then_some, cond_some}
use Rattle.hb_base.specs.Counting.{count_nodes}
use Rattle.hb_base.specs.Limits.{longest_shard}
use Rattle.hb_base.specs.Numbers.{Numbers}
use Rattle.hb_wire.specs.declared.vote.Vote.{Vote}
use Rattle.hb_wire.specs.declared.vote.Vote.TheVariants.{Echo}
use Rattle.merkle_branch.specs.declared.Branch.{Branch}
use Rattle.merkle_branch.specs.Branches.{is_branch}
use Rattle.hb_rules.specs.BroadcastRows.{shard_of, shards_of}
use Rattle.hb_rules.specs.Claims.{echoed, has_root, is_echo}
use Rattle.hb_rules.specs.Code.{echo_count}
use Rattle.hb_rules.specs.Hearing.{Hearing, heard_by}
use Rattle.hb_rules.specs.Terms.{AreHeardSpelled}
use Rattle.hb_rules.proofs.BroadcastSlots.{heard_spelled, echoed-is}
use Rattle.hb_rules.proofs.Counts.{count_nodes-same}
use Rattle.hb_rules.proofs.FirstShards.{firsts_shown-first}
use Rattle.hb_rules.proofs.Lists.{source_of}
use Rattle.rbc_core.proofs.Hearings.{shards_of-none, shards_of-some}
use Rattle.rbc_judge.specs.Checked.{is_checked, AreChecked}
use Rattle.rbc_judge.specs.Shown.{shows, with_some}

-- ---- counts

-- a vote whose branch was checked is a valid Echo exactly where its root is the one
shows_checked : (n e m : ℕ) (root : List ℕ) (vote : Vote) → is_checked n m vote ≡ true → shows e root vote ≡ is_echo n e root m vote
shows_checked n e m root (Echo d other shard branch) checked = by (d == e)
  where
    by : (t : Bool) → (t && bytes_eq root other)
        ≡ has_root root (if t && (nat_lt m n && is_branch other n m shard branch) then Some (other, shard) else None)
    by true = rw checked refl
    by false = refl
shows_checked n e m root vote checked = refl

shows_heard : (n e a : ℕ) (root : List ℕ) (heard : List Hearing) → AreChecked n heard
    → heard_by heard a (shows e root) ≡ heard_by heard a (is_echo n e root a)
shows_heard n e a root [] checked = refl
shows_heard n e a root (h ∷ heard) checked =
    by (h.from == a) refl (shows_heard n e a root heard (All-tail (λ (h : Hearing). is_checked n h.from h.vote ≡ true) h heard checked))
  where
    by : (t : Bool) → (h.from == a) ≡ t → heard_by heard a (shows e root) ≡ heard_by heard a (is_echo n e root a)
        → ((t && shows e root h.vote) || heard_by heard a (shows e root)) ≡ ((t && is_echo n e root a h.vote) || heard_by heard a (is_echo n e root a))
    by true is later =
        let from : h.from ≡ a = eqb-true h.from a is in
        let valid : is_checked n a h.vote ≡ true =
        ap (λ (m : ℕ). is_checked n m h.vote) (sym from) ∙ All-head (λ (h : Hearing). is_checked n h.from h.vote ≡ true) h heard checked in
        rw (shows_checked n e a root h.vote valid, later) refl
    by false is later = later

pub shows_count : (n e : ℕ) (root : List ℕ) (heard : List Hearing) → AreChecked n heard
    → count_nodes n (λ a. heard_by heard a (shows e root)) ≡ echo_count n e root (heard_by heard)
shows_count n e root heard checked =
    count_nodes-same n (λ a. heard_by heard a (shows e root)) (λ a. heard_by heard a (is_echo n e root a)) (λ a. shows_heard n e a root heard checked)

-- ---- shards

-- one hearing more
pub shards_more : (n e : ℕ) (root : List ℕ) (heard : List Hearing) (h : Hearing) (o : Option (ℕ × List ℕ)) → o ≡ shard_of n e root h
    → with_some (shards_of n e root heard) o ≡ shards_of n e root (heard ++ h ∷ [])
shards_more n e root heard h None is = sym (shards_of-none n e root heard h (sym is))
shards_more n e root heard h (Some x) is = sym (shards_of-some n e root heard h x (sym is))

pub shards_next : (n e : ℕ) (root : List ℕ) (heard : List Hearing) (k : ℕ) (h : Hearing) (o : Option (ℕ × List ℕ)) (old new : List (ℕ × List ℕ))
    → k < length heard → h ≡ get_or heard k h → o ≡ shard_of n e root h → old ≡ shards_of n e root (take k heard) → new ≡ with_some old o
    → new ≡ shards_of n e root (take (k + 1) heard)
shards_next n e root heard k h o old new inside there is before more =
    more ∙ ap (λ (xs : List (ℕ × List ℕ)). with_some xs o) before ∙ shards_more n e root (take k heard) h o is
    ∙ ap (shards_of n e root) (sym (take_more heard k h inside ∙ ap (λ (g : Hearing). take k heard ++ g ∷ []) (sym there)))

-- the shard that a vote shows for a root, where its branch was checked
pub shard_shown : (n e m : ℕ) (root other shard : List ℕ) (d : ℕ) (branch : Branch) → is_checked n m (Echo d other shard branch) ≡ true
    → d ≡ e → bytes_eq root other ≡ true → shard_of n e root (record { from = m; vote = Echo d other shard branch }) ≡ Some (m, shard)
shard_shown n e m root other shard d branch checked epoch same =
    let here : (d == e) ≡ true = eq-eqb d e epoch in
    rw (here, checked, same) refl

-- shards that were shown in votes that have spellings are short
pub shards_short : (c : Numbers) (e : ℕ) (root : List ℕ) (heard : List Hearing) → AreHeardSpelled c heard
    → All (λ x. length x.1 < 2 ^ 32) (shards_of c.n e root heard)
shards_short c e root heard spelled =
    (firsts_shown-first (λ (x : ℕ × List ℕ). length x.1 < 2 ^ 32) (filter_map (shard_of c.n e root) heard) (λ k d below.
    let x = get_or (filter_map (shard_of c.n e root) heard) k d in
    let source = source_of (shard_of c.n e root) heard x (Contains-get_or (filter_map (shard_of c.n e root) heard) k d below) in
    let h : Hearing = source.element in
    option_and_then_some (λ part. if bytes_eq root part.0 then Some (h.from, part.1) else None) (echoed c.n e h.from h.vote) x source.gives
    (λ part is gives.
    let chosen = cond_some (bytes_eq root part.0) (h.from, part.1) x gives in
    let echo = echoed-is c.n e h.from h.vote part is in
    let fits = rw echo.is at (heard_spelled c heard spelled h source.stands) in
    let short : length part.1 ≤ longest_shard = fits.fields.1.0.1 in
    subst (λ (y : ℕ × List ℕ). length y.1 < 2 ^ 32) chosen.1 (omega (arith, short))))).each
