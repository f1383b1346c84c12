-- The state after a proposal and after a Val.
use Rattle.std.proofs.Common.{◌≡◌, ℕ, zero, suc, ◌<◌, length, get_or, Bool, true, false, not, ◌&&◌, ◌||◌, ◌==◌, nat_lt, inl, inr, List, [], ◌∷◌, ◌++◌, Option, None, Some, refl, sym, ap, ◌∙◌, subst, arith, append-nil}
use Rattle.std.specs.List.{list_any, AllByRecursion}
use Rattle.std.specs.Option.{option_map, option_to_list}
use Rattle.std.proofs.Math.Bool.{or-false}
use Rattle.std.proofs.lemmas.Bool.{eqb-true, eq-eqb, false_from_ne_true, cases_order, le-ltb, lt-ltb}
use Rattle.std.proofs.lemmas.List.Folds.{list_any-append}
use Rattle.hb_base.specs.Numbers.{Numbers}
use Rattle.hb_base.specs.NodeSet.{is_in}
use Rattle.hb_wire.specs.declared.vote.Vote.{Vote}
use Rattle.hb_wire.specs.declared.vote.Vote.TheVariants.{Val, Echo, Propose}
use Rattle.merkle_branch.specs.declared.Branch.{Branch}
use Rattle.merkle_branch.specs.Branches.{is_branch}
use Rattle.rs_shards.specs.Completing.{encoded}
use Rattle.hb_rules.specs.Claims.{delivered, is_val_to, is_any_echo, is_any_ready}
use Rattle.hb_rules.specs.Code.{data_count}
use Rattle.hb_rules.specs.Hearing.{Hearing, hearing}
use Rattle.hb_rules.specs.Slots.{owes, pass, each, first_of}
use Rattle.hb_rules.specs.BroadcastRows.{proposal_in, val_of, val_slot, echo_made, echo_in, echo_slot}
use Rattle.hb_rules.specs.Owing.{Place}
use Rattle.hb_rules.proofs.BroadcastParts.{val_slot-plain}
use Rattle.hb_rules.proofs.Lists.{AllByRecursion-parts}
use Rattle.hb_rules.proofs.Passing.{pass-append, IsSettledAt, settled_if_cast, settled_more}
use Rattle.rbc_core.specs.Broadcast.{RbcView, place_of, Stands, Hears}
use Rattle.rbc_core.specs.Due.{unless, missing_vals}
use Rattle.rbc_core.proofs.Firsts.{first_of-append, first_of-new}
use Rattle.rbc_core.proofs.Hearings.{silent_if_none}
use Rattle.rbc_core.proofs.Choices.{AreSettled, AreSettled-idle, echo_at, pass_by_rows, quiet_vals, quiet_echo, quiet_ready, quiet_delivery, no_choice, owes_vote}
use Rattle.rbc_core.proofs.Standing.{AreOwed, Hears-by, stays, option_stays}
use Rattle.rbc_core.proofs.Shown.{heard-silent}
use Rattle.rbc_core.proofs.Heard.{Hears-quiet}
use Rattle.rbc_core.proofs.Votes.{none_either}

-- ---- Val

abbrev pub val_heard : RbcView → List ℕ → List ℕ → Branch → Hearing
val_heard r root shard branch = hearing r.lane (Val r.epoch r.node root shard branch)

-- a Val makes nothing owed but the Echo
val_owed : (r : RbcView) (root shard : List ℕ) (branch : Branch) (echo : List Vote)
    → ((own : List Vote) (heard : List Hearing) → Stands r own heard → owes (echo_at (place_of r)) own (heard ++ val_heard r root shard branch ∷ []) ≡ echo)
    → AreOwed r (val_heard r root shard branch) echo
val_owed r root shard branch echo owed = record {
  gives = λ own heard stands.
      let p : Place = place_of r in
      let h : Hearing = val_heard r root shard branch in
      let settled : AreSettled p own heard = AreSettled-idle p own heard stands.idle in
      pass_by_rows p own (heard ++ h ∷ []) [] echo [] []
      (quiet_vals p own heard h settled (λ same. none_either (r.lane == r.node) None refl))
      (rw append-nil (owed own heard stands))
      (rw append-nil (quiet_ready p own echo heard h settled refl))
      (rw (append-nil, append-nil) (quiet_delivery p own echo heard h settled refl))
      ∙ append-nil echo;
}

-- a Val leaves the state where an Echo was cast
pub Hears-val_cast : (r : RbcView) (root shard : List ℕ) (branch : Branch) (due : List Vote) → r.lane < r.roots.config.n → r.is_echo_cast ≡ true
    → Hears r r (val_heard r root shard branch) due due
unfolding echo_slot
Hears-val_cast r root shard branch due from cast =
    Hears-quiet r (val_heard r root shard branch) due from refl
    (val_owed r root shard branch []
    (λ own heard stands. (settled_if_cast (echo_at (place_of r)) own (heard ++ val_heard r root shard branch ∷ []) (sym stands.echo ∙ cast)).none))

-- and where its branch is not valid
pub Hears-val_bad : (r : RbcView) (root shard : List ℕ) (branch : Branch) (due : List Vote) → r.lane < r.roots.config.n
    → is_branch root r.roots.config.n r.node shard branch ≡ false → Hears r r (val_heard r root shard branch) due due
Hears-val_bad r root shard branch due from bad =
    Hears-quiet r (val_heard r root shard branch) due from refl
    (val_owed r root shard branch []
    (λ own heard stands.
    subst (λ (o : List Vote). owes (echo_at (place_of r)) o (heard ++ val_heard r root shard branch ∷ []) ≡ []) (append-nil own)
    (quiet_echo (place_of r) own [] heard (val_heard r root shard branch) (AreSettled-idle (place_of r) own heard stands.idle)
    (none_either (r.lane == r.lane) (echo_made r.roots.config.n r.epoch r.node (Val r.epoch r.node root shard branch))
    (rw (eq-eqb r.epoch r.epoch refl, eq-eqb r.node r.node refl, bad) refl)))))

-- the first Val with a valid branch makes the Echo
pub Hears-val : (r : RbcView) (root shard : List ℕ) (branch : Branch) (before after : List Vote) → r.lane < r.roots.config.n
    → is_branch root r.roots.config.n r.node shard branch ≡ true → r.is_echo_cast ≡ false → after ≡ before ++ Echo r.epoch root shard branch ∷ []
    → Hears r (record r { is_echo_cast = true }) (val_heard r root shard branch) before after
unfolding echo_slot
Hears-val r root shard branch before after from valid empty due =
    let p : Place = place_of r in
    let h : Hearing = val_heard r root shard branch in
    let vote : Vote = Echo r.epoch root shard branch in
    let made : echo_in r.roots.config.n r.epoch r.node r.lane h ≡ Some vote =
    rw (eq-eqb r.lane r.lane refl, eq-eqb r.epoch r.epoch refl, eq-eqb r.node r.node refl, valid) refl in
    Hears-by r (record r { is_echo_cast = true }) h (vote ∷ []) before after
    (record {
      place = refl;
      from = from;
      vals = λ m. stays (is_in r.vals m);
      echo = rw (empty, eq-eqb r.epoch r.epoch refl) refl;
      ready = stays r.is_ready_cast;
      delivered = option_stays r.delivered;
      roots = λ heard are root. heard-silent r.roots r.roots r.epoch heard h root refl refl (silent_if_none r.roots.config.n r.epoch h refl root) (are.roots root);
    })
    (val_owed r root shard branch (vote ∷ [])
    (λ own heard stands.
    let flag : list_any (is_any_echo r.epoch) own ≡ false = sym stands.echo ∙ empty in
    owes_vote (echo_at p) own (heard ++ h ∷ []) false (Some vote) flag
    (λ _.
    first_of-new (echo_in r.roots.config.n r.epoch r.node r.lane) heard h
    (no_choice (echo_at p) own heard (AreSettled-idle p own heard stands.idle).echo flag)
    ∙ made)))
    due

-- ---- the proposal

none_from_map : {A B : Type 0} (f : A → B) (o : Option A) → option_map f o ≡ None → o ≡ None
none_from_map f None h = refl
none_from_map f (Some x) h = absurd (cc (h))

-- the missing Vals are none of another kind
missing_none : (test : Vote → Bool) (e : ℕ) (shards : List (List ℕ)) (cast : List Bool) (k : ℕ)
    → ((m : ℕ) → test (val_of e m shards) ≡ false) → list_any test (missing_vals e shards cast k) ≡ false
missing_none test e shards cast zero none = refl
missing_none test e shards cast (suc k) none =
    list_any-append test (missing_vals e shards cast k) (option_to_list (unless (is_in cast k) (Some (val_of e k shards))))
    ∙ rw (missing_none test e shards cast k none) (one (is_in cast k))
  where
    one : (b : Bool) → list_any test (option_to_list (unless b (Some (val_of e k shards)))) ≡ false
    one true = refl
    one false = rw (none k) refl

missing_first : (e : ℕ) (shards : List (List ℕ)) (cast : List Bool) (k : ℕ) → first_of (delivered e) (missing_vals e shards cast k) ≡ None
missing_first e shards cast zero = refl
missing_first e shards cast (suc k) =
    first_of-append (delivered e) (missing_vals e shards cast k) (option_to_list (unless (is_in cast k) (Some (val_of e k shards))))
    ∙ rw (missing_first e shards cast k) (one (is_in cast k))
  where
    one : (b : Bool) → first_of (delivered e) (option_to_list (unless b (Some (val_of e k shards)))) ≡ None
    one true = refl
    one false = refl

-- they are to the nodes below k that have none
missing_to : (e : ℕ) (shards : List (List ℕ)) (cast : List Bool) (k m : ℕ)
    → list_any (is_val_to e m) (missing_vals e shards cast k) ≡ (nat_lt m k && not (is_in cast m))
missing_to e shards cast zero m = rw (le-ltb m 0 (omega arith)) refl
missing_to e shards cast (suc k) m =
    list_any-append (is_val_to e m) (missing_vals e shards cast k) (option_to_list (unless (is_in cast k) (Some (val_of e k shards))))
    ∙ ap (λ (b : Bool). b || list_any (is_val_to e m) (option_to_list (unless (is_in cast k) (Some (val_of e k shards))))) (missing_to e shards cast k m)
    ∙ elim (cases_order m k) [
      | inl same ↦ rw same (rw (le-ltb k k (omega arith), lt-ltb k (suc k) (omega arith)) (here (is_in cast k)))
      | inr apart ↦ elim apart [
        | inl below ↦
            rw (lt-ltb m k below, lt-ltb m (suc k) (omega arith))
            (ap (λ (b : Bool). not (is_in cast m) || b) (away (is_in cast k) (λ same. omega (arith, same, below))) ∙ or-false (not (is_in cast m)))
        | inr above ↦ rw (le-ltb m k (omega arith), le-ltb m (suc k) (omega arith)) (away (is_in cast k) (λ same. omega (arith, same, above)))
      ]
    ]
  where
    here : (b : Bool) → list_any (is_val_to e k) (option_to_list (unless b (Some (val_of e k shards)))) ≡ not b
    here true = refl
    here false = rw (eq-eqb e e refl, eq-eqb k k refl) refl

    away : (b : Bool) → (k ≡ m → ⊥) → list_any (is_val_to e m) (option_to_list (unless b (Some (val_of e k shards)))) ≡ false
    away true apart = refl
    away false apart = rw (eq-eqb e e refl, false_from_ne_true (k == m) (λ same. apart (eqb-true k m same))) refl

val_owes : (c : Numbers) (i e m : ℕ) (own : List Vote) (heard : List Hearing) (h : Hearing) (value : List ℕ) (cast : Bool)
    → IsSettledAt (val_slot c i i e m) own heard → list_any (is_val_to e m) own ≡ cast → proposal_in i e h ≡ Some value
    → owes (val_slot c i i e m) own (heard ++ h ∷ []) ≡ option_to_list (unless cast (Some (val_of e m (encoded c.n (data_count c) value))))
unfolding val_slot
val_owes c i e m own heard h value cast settled flag proposes =
    owes_vote (val_slot c i i e m) own (heard ++ h ∷ []) cast (Some (val_of e m (encoded c.n (data_count c) value))) flag
    (λ empty.
    let none : first_of (proposal_in i e) heard ≡ None =
    none_from_map (λ (value : List ℕ). val_of e m (encoded c.n (data_count c) value)) (first_of (proposal_in i e) heard)
    (rw (eq-eqb i i refl) at (no_choice (val_slot c i i e m) own heard settled (flag ∙ empty))) in
    rw (eq-eqb i i refl) (ap (option_map (λ (value : List ℕ). val_of e m (encoded c.n (data_count c) value)))
    (first_of-new (proposal_in i e) heard h none ∙ proposes)))

missing_below : (e : ℕ) (shards : List (List ℕ)) (cast : List Bool) (k : ℕ) → list_any (is_val_to e k) (missing_vals e shards cast k) ≡ false
missing_below e shards cast k = missing_to e shards cast k k ∙ rw (le-ltb k k (omega arith)) refl

vals_owe : (c : Numbers) (i e : ℕ) (own : List Vote) (heard : List Hearing) (h : Hearing) (value : List ℕ) (cast : List Bool) (k : ℕ)
    → AllByRecursion (λ slot. IsSettledAt slot own heard) (each k (λ m. val_slot c i i e m ∷ [])) → ((m : ℕ) → is_in cast m ≡ list_any (is_val_to e m) own)
    → proposal_in i e h ≡ Some value
    → pass (each k (λ m. val_slot c i i e m ∷ [])) own (heard ++ h ∷ []) ≡ missing_vals e (encoded c.n (data_count c) value) cast k
vals_owe c i e own heard h value cast zero settled flags proposes = refl
vals_owe c i e own heard h value cast (suc k) settled flags proposes =
    let shards : List (List ℕ) = encoded c.n (data_count c) value in
    let parts = AllByRecursion-parts (λ slot. IsSettledAt slot own heard) (each k (λ m. val_slot c i i e m ∷ [])) (val_slot c i i e k ∷ []) settled in
    let below : List Vote = missing_vals e shards cast k in
    let is : pass (each k (λ m. val_slot c i i e m ∷ [])) own (heard ++ h ∷ []) ≡ below = vals_owe c i e own heard h value cast k parts.0 flags proposes in
    let flag : list_any (is_val_to e k) (own ++ below) ≡ is_in cast k =
    list_any-append (is_val_to e k) own below
    ∙ ap (λ (b : Bool). list_any (is_val_to e k) own || b) (missing_below e shards cast k) ∙ or-false (list_any (is_val_to e k) own) ∙ sym (flags k) in
    let last : owes (val_slot c i i e k) (own ++ below) (heard ++ h ∷ []) ≡ option_to_list (unless (is_in cast k) (Some (val_of e k shards))) =
    val_owes c i e k (own ++ below) heard h value (is_in cast k)
    (settled_more (val_slot c i i e k) (val_slot-plain c i i e k) own below heard parts.1.0) flag proposes in
    pass-append (each k (λ m. val_slot c i i e m ∷ [])) (val_slot c i i e k ∷ []) own (heard ++ h ∷ [])
    ∙ ap (λ (vs : List Vote). vs ++ pass (val_slot c i i e k ∷ []) (own ++ vs) (heard ++ h ∷ [])) is
    ∙ ap (λ (vs : List Vote). below ++ (vs ++ [])) last
    ∙ ap (λ (vs : List Vote). below ++ vs) (append-nil (option_to_list (unless (is_in cast k) (Some (val_of e k shards)))))

or_missing : (below old : Bool) → (below || old) ≡ (old || (below && not old))
or_missing true true = refl
or_missing true false = refl
or_missing false true = refl
or_missing false false = refl

-- a proposal of the own desk at the sender: the Vals that were not cast
pub Hears-proposal : (r : RbcView) (vals : List Bool) (value : List ℕ) (before after : List Vote) → r.node ≡ r.lane → r.node < r.roots.config.n
    → ((m : ℕ) → is_in vals m ≡ (nat_lt m r.roots.config.n || is_in r.vals m))
    → after ≡ before ++ missing_vals r.epoch (encoded r.roots.config.n (data_count r.roots.config) value) r.vals r.roots.config.n
    → Hears r (record r { vals = vals }) (hearing r.node (Propose r.epoch value)) before after
Hears-proposal r vals value before after sender from marks due =
    let c : Numbers = r.roots.config in
    let p : Place = place_of r in
    let h : Hearing = hearing r.node (Propose r.epoch value) in
    let shards : List (List ℕ) = encoded c.n (data_count c) value in
    let votes : List Vote = missing_vals r.epoch shards r.vals c.n in
    let proposes : proposal_in r.node r.epoch h ≡ Some value = rw (eq-eqb r.node r.node refl, eq-eqb r.epoch r.epoch refl) refl in
    Hears-by r (record r { vals = vals }) h votes before after
    (record {
      place = refl;
      from = from;
      vals = λ m. marks m ∙ or_missing (nat_lt m c.n) (is_in r.vals m) ∙ ap (λ (b : Bool). is_in r.vals m || b) (sym (missing_to r.epoch shards r.vals c.n m));
      echo = rw (missing_none (is_any_echo r.epoch) r.epoch shards r.vals c.n (λ m. refl)) (stays r.is_echo_cast);
      ready = rw (missing_none (is_any_ready r.epoch) r.epoch shards r.vals c.n (λ m. refl)) (stays r.is_ready_cast);
      delivered = rw (missing_first r.epoch shards r.vals c.n) (option_stays r.delivered);
      roots = λ heard are root. heard-silent r.roots r.roots r.epoch heard h root refl refl (silent_if_none c.n r.epoch h refl root) (are.roots root);
    })
    (record {
      gives = λ own heard stands.
          let settled : AreSettled p own heard = AreSettled-idle p own heard stands.idle in
          pass_by_rows p own (heard ++ h ∷ []) votes [] [] []
          (subst (λ (j : ℕ). AllByRecursion (λ slot. IsSettledAt slot own heard) (each c.n (λ m. val_slot c r.node j r.epoch m ∷ []))
          → pass (each c.n (λ m. val_slot c r.node j r.epoch m ∷ [])) own (heard ++ h ∷ []) ≡ votes)
          sender (λ settled. vals_owe c r.node r.epoch own heard h value r.vals c.n settled stands.vals proposes) settled.vals)
          (quiet_echo p own votes heard h settled (none_either (r.node == r.lane) None refl))
          (rw append-nil (quiet_ready p own votes heard h settled refl))
          (rw (append-nil, append-nil) (quiet_delivery p own votes heard h settled refl))
          ∙ append-nil votes;
    })
    due

seam : (front rest : List (List ℕ)) (shard : List ℕ) → get_or (front ++ shard ∷ rest) (length front) [] ≡ shard
seam [] rest shard = refl
seam (x ∷ front) rest shard = seam front rest shard

-- the shard that stands behind these
pub shard_at_seam : (items front rest : List (List ℕ)) (shard : List ℕ) → front ++ shard ∷ rest ≡ items → get_or items (length front) [] ≡ shard
shard_at_seam items front rest shard split = ap (λ (xs : List (List ℕ)). get_or xs (length front) []) (sym split) ∙ seam front rest shard
