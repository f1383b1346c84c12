-- A running sender's broadcast completes: each running node delivers what the sender's desk has proposed.
use Rattle.std.proofs.Common.{◌≡◌, ℕ, ◌+◌, ◌-◌, ◌<◌, ◌≤◌, ◌&&◌, ◌||◌, ◌==◌, nat_lt, nat_le, Bool, true, false, inl, inr, List, [], Contains, length, get_or, refl, sym, ap, ◌∙◌, subst, arith}
use Rattle.std.specs.Option.{is_some}
use Rattle.std.proofs.lemmas.Bool.{and_from, or_left, or_right, eq-eqb, lt-ltb, le-leb}
use Rattle.std.proofs.lemmas.Option.{get_or_from_slice_get}
use Rattle.std.proofs.lemmas.Slice.Eq.{bytes_eq-Decides}
use Rattle.hb_base.specs.Counting.{count_nodes}
use Rattle.hb_base.specs.NodeSet.{is_in}
use Rattle.hb_base.specs.Numbers.{Numbers, AreSound}
use Rattle.hb_wire.specs.declared.post.Post.{Post}
use Rattle.hb_wire.specs.declared.vote.Vote.{Vote}
use Rattle.hb_wire.specs.declared.vote.Vote.TheVariants.{Val, Echo, Ready, Delivered, Propose}
use Rattle.merkle_branch.specs.declared.Branch.{Branch}
use Rattle.merkle_branch.specs.Branches.{IsBranch, is_branch}
use Rattle.merkle_branch.specs.Digests.{tree_root}
use Rattle.merkle_branch.proofs.BranchLemmas.{branch_valid}
use Rattle.merkle_branch.proofs.Tested.{is_branch-from}
use Rattle.rs_shards.specs.Completing.{IsEncoding, encoded}
use Rattle.rs_shards.proofs.Encodings.{encoded-encoding, encoding-only}
use Rattle.hb_rules.specs.BroadcastRows.{echo_in, value_of, is_made_ready}
use Rattle.hb_rules.specs.Claims.{proposed, is_echo}
use Rattle.hb_rules.specs.Code.{data_count, IsCodedShard, HasQuorum, echo_count, ready_count}
use Rattle.hb_rules.specs.Hearing.{Hearing, hearing, heard_by, own_in, said_in}
use Rattle.hb_rules.specs.History.{IsLegal}
use Rattle.hb_rules.specs.Ledger.{IsCorrect}
use Rattle.hb_rules.specs.Strings.{IsHashed}
use Rattle.hb_rules.proofs.Addressed.{legal_addressed}
use Rattle.hb_rules.proofs.Cast.{IsOfDesk-proposal, desk_cast, cast_fits, heard_cast, was_allowed, said_later}
use Rattle.hb_rules.proofs.Counts.{count_nodes-mono, member_from_count}
use Rattle.hb_rules.proofs.FirstShards.{data_count-some, data_count-within, few_nodes}
use Rattle.hb_rules.proofs.Lists.{list_any-from}
use Rattle.rbc_world.proofs.Backed.{IsProposedRoot, quorum_proposed}
use Rattle.rbc_world.proofs.Once.{one_proposal}
use Rattle.rbc_world.proofs.Theorems.{deliveries_proposed, ready_quorum}
use Rattle.lane_progress.specs.Lanes.{IsQuietLane}
use Rattle.lane_progress.proofs.Hearings.{cast_heard, all_heard, heard_posted}
use Rattle.rbc_progress.proofs.Marks.{IsVal, echo_named}
use Rattle.rbc_progress.proofs.Settled.{val_cast, echo_cast}
use Rattle.rbc_world.proofs.Binding.{IsBoundTo}
use Rattle.rbc_progress.proofs.Codewords.{value_there}
use Rattle.rbc_progress.proofs.Totality.{echo_vote, becomes_ready, all_deliver}

-- what a correct desk proposes is of an epoch of the run
pub proposal_within : (c : Numbers) (history : List Post) (i e : ℕ) (value : List ℕ) → IsLegal c history → is_in c.liars i ≡ false
    → Contains (own_in c i c.n history) (Propose e value) → e < c.epochs
proposal_within c history i e value legal correct proposed =
    elim (was_allowed c i c.n correct history legal (Propose e value) proposed).may [
      | inl may ↦ absurd (omega (arith, may.0))
      | inr may ↦ may.1.0
    ]

proposal_some : (e : ℕ) (value : List ℕ) → is_some (proposed e (Propose e value)) ≡ true
proposal_some e value = let same : (e == e) ≡ true = eq-eqb e e refl in rw same refl

echo_some : (n e i j : ℕ) (root shard : List ℕ) (branch : Branch) → is_branch root n i shard branch ≡ true
    → is_some (echo_in n e i j (hearing j (Val e i root shard branch))) ≡ true
echo_some n e i j root shard branch valid =
    let lane : (j == j) ≡ true = eq-eqb j j refl in
    let epoch : (e == e) ≡ true = eq-eqb e e refl in
    let to : (i == i) ≡ true = eq-eqb i i refl in
    rw (lane, epoch, to, valid) refl

echo_marked : (n e m : ℕ) (root shard : List ℕ) (branch : Branch) → m < n → IsBranch root n m shard branch
    → is_echo n e root m (Echo e root shard branch) ≡ true
echo_marked n e m root shard branch below valid =
    let epoch : (e == e) ≡ true = eq-eqb e e refl in
    let node : nat_lt m n ≡ true = lt-ltb m n below in
    let leads : is_branch root n m shard branch ≡ true = is_branch-from root n m shard branch valid in
    rw (epoch, node, leads) ((bytes_eq-Decides root root).1 refl)

-- ---- shards of a codeword

-- the branch of such a shard is valid
coded_branch : (c : Numbers) (value : List ℕ) (m : ℕ) (root shard : List ℕ) (branch : Branch) → AreSound c → m < c.n
    → IsCodedShard c value m root shard branch → IsBranch root c.n m shard branch
coded_branch c value m root shard branch sound below coded =
    let count : length coded.shards ≡ c.n = coded.encoding.codeword.count in
    let leaf : get_or coded.shards m [] ≡ shard = get_or_from_slice_get coded.shards m shard [] coded.shard_is in
    let valid = branch_valid coded.shards m (omega (arith, count, sound.nodes.1)) (omega (arith, count, below)) in
    rw (coded.root_is, count, leaf, coded.branch_is) at valid

-- a value has one codeword
one_encoding : (c : Numbers) (value : List ℕ) (shards : List (List ℕ)) → AreSound c → IsEncoding c.n (data_count c) value shards
    → shards ≡ encoded c.n (data_count c) value
one_encoding c value shards sound encoding =
    encoding-only c.n (data_count c) value shards (data_count-some c sound) (data_count-within c) (few_nodes c sound) encoding

-- a Val of node j for node m, with its shard of the value, was heard
record HasVal (c : Numbers) (j e : ℕ) (value : List ℕ) (m : ℕ) (heard : List Hearing) : Type 0 where
  root : List ℕ
  shard : List ℕ
  branch : Branch
  told : Contains heard (hearing j (Val e m root shard branch))
  coded : IsCodedShard c value m root shard branch

-- ---- the broadcast of a running sender

module _ (c : Numbers) (j : ℕ) (history : List Post) (runs : ℕ → Bool) (heard : ℕ → List Hearing) (quiet : IsQuietLane c j history runs heard)
    (e : ℕ) (value : List ℕ) (sends : runs j ≡ true) (proposes : Contains (own_in c j c.n history) (Propose e value)) where
  honest : is_in c.liars j ≡ false
  honest = (quiet.correct j sends).honest

  below : e < c.epochs
  below = proposal_within c history j e value quiet.legal honest proposes

  -- the codeword of the proposal, and its root
  encoding : IsEncoding c.n (data_count c) value (encoded c.n (data_count c) value)
  encoding =
      encoded-encoding c.n (data_count c) value (data_count-some c quiet.sound) (data_count-within c) (few_nodes c quiet.sound)
      (cast_fits c j c.n history (Propose e value) (legal_addressed c history quiet.legal) honest proposes).fields.0.2

  abbrev root : List ℕ
  root = tree_root (encoded c.n (data_count c) value)

  bound : IsBoundTo c history root
  bound = record {
    shards = encoded c.n (data_count c) value;
    codeword = encoding.codeword;
    root_is = refl;
    hashed = record { each = λ string stands. IsHashed.proposed j e value (encoded c.n (data_count c) value) (quiet.correct j sends) proposes encoding stands };
  }

  -- ---- Val

  -- what the sender's lane sends is a shard of the proposal
  val_coded : (m : ℕ) (other shard : List ℕ) (branch : Branch) → Contains (own_in c j j history) (Val e m other shard branch)
      → IsCodedShard c value m other shard branch
  val_coded m other shard branch stands =
      let vote : Vote = Val e m other shard branch in
      let was = was_allowed c j j honest history quiet.legal vote stands in
      elim was.may [
        | inl may ↦
            let part = may.1.1 in
            let before = desk_cast c j j j (Propose e part.value) was.before (IsOfDesk-proposal c.n e part.value) part.proposed in
            let now = said_later c j j j c.n history vote (Propose e part.value) was before in
            subst (λ (v : List ℕ). IsCodedShard c v m other shard branch)
            (one_proposal c j c.n e honest history quiet.legal part.value value now proposes) part.coded
        | inr may ↦ absurd may.1
      ]

  lane_is : nat_lt j c.n ≡ true
  lane_is = lt-ltb j c.n quiet.lane

  in_run : (nat_lt e c.epochs && true) ≡ true
  in_run = and_from (nat_lt e c.epochs) true (lt-ltb e c.epochs below) refl

  both_same : (a m : ℕ) → ((a == a) && (m == m)) ≡ true
  both_same a m = and_from (a == a) (m == m) (eq-eqb a a refl) (eq-eqb m m refl)

  -- the sender's lane has heard what its desk has proposed
  proposal_heard : Contains (heard j) (hearing j (Propose e value))
  proposal_heard =
      let from_desk : ((nat_lt c.n c.n && (j == c.n)) || ((c.n == c.n) && nat_lt j c.n)) ≡ true =
      or_right (nat_lt c.n c.n && (j == c.n)) ((c.n == c.n) && nat_lt j c.n) (and_from (c.n == c.n) (nat_lt j c.n) (eq-eqb c.n c.n refl) lane_is) in
      let goes : ((j == j) && ((nat_lt c.n c.n && (j == c.n)) || ((c.n == c.n) && nat_lt j c.n))) ≡ true =
      and_from (j == j) ((nat_lt c.n c.n && (j == c.n)) || ((c.n == c.n) && nat_lt j c.n)) (eq-eqb j j refl) from_desk in
      cast_heard c j history runs heard j j c.n (Propose e value) quiet sends sends goes
      (and_from (nat_lt j c.n) ((j == j) && (c.n == c.n)) lane_is (both_same j c.n)) in_run proposes

  -- so it has sent each node a shard
  val_sent : (m : ℕ) → m < c.n → (vote : Vote) × Contains (own_in c j j history) vote × IsVal e m vote
  val_sent m node =
      let mine : (j == j) ≡ true = eq-eqb j j refl in
      val_cast c j j e (own_in c j j history) (heard j) (quiet.idle j sends) below m node refl (hearing j (Propose e value)) proposal_heard
      (rw mine (proposal_some e value))

  -- and each running node has heard it
  val_told : (m : ℕ) → runs m ≡ true → (other shard : List ℕ) (branch : Branch) → Contains (own_in c j j history) (Val e m other shard branch)
      → HasVal c j e value m (heard m)
  val_told m here other shard branch sent = record {
    root = other;
    shard = shard;
    branch = branch;
    told = cast_heard c j history runs heard m j j (Val e m other shard branch) quiet here sends (both_same j m)
        (and_from (nat_lt j c.n) ((j == j) && (m == m)) lane_is (both_same j m)) in_run sent;
    coded = val_coded m other shard branch sent;
  }

  val_heard : (m : ℕ) → runs m ≡ true → HasVal c j e value m (heard m)
  val_heard m here =
      let sent = val_sent m (quiet.correct m here).known in
      val_told m here sent.2.root sent.2.shard sent.2.branch (subst (λ (v : Vote). Contains (own_in c j j history) v) sent.2.is sent.1)

  -- ---- Echo

  -- what the lane of a correct node echoes is a shard of the proposal
  echo_coded : (m : ℕ) (other shard : List ℕ) (branch : Branch) → is_in c.liars m ≡ false → Contains (own_in c m j history) (Echo e other shard branch)
      → IsCodedShard c value m other shard branch
  echo_coded m other shard branch correct stands =
      let was = was_allowed c m j correct history quiet.legal (Echo e other shard branch) stands in
      elim was.may [
        | inl may ↦
            let val : Vote = Val e m other shard branch in
            let before = heard_cast c m j was.before (hearing j val) was.addressed quiet.lane correct may.1.0 (λ home. absurd (cc (home))) in
            val_coded m other shard branch (said_later c m j j j history (Echo e other shard branch) val was before)
        | inr may ↦ absurd may.1
      ]

  -- so it is a valid Echo for the proposal's root
  echo_valid : (m : ℕ) (other shard : List ℕ) (branch : Branch) → IsCorrect c m → Contains (own_in c m j history) (Echo e other shard branch)
      → said_in c j history m (is_echo c.n e root m) ≡ true
  echo_valid m other shard branch correct stands =
      let coded = echo_coded m other shard branch correct.honest stands in
      let same : other ≡ root = sym coded.root_is ∙ ap tree_root (one_encoding c value coded.shards quiet.sound coded.encoding) in
      let right = coded_branch c value m other shard branch quiet.sound correct.known coded in
      list_any-from (is_echo c.n e root m) (own_in c m j history) (Echo e other shard branch) stands
      (subst (λ (r : List ℕ). is_echo c.n e r m (Echo e other shard branch) ≡ true) same
      (echo_marked c.n e m other shard branch correct.known right))

  -- each running node echoes that root
  echo_said : (m : ℕ) → runs m ≡ true → said_in c j history m (is_echo c.n e root m) ≡ true
  echo_said m here =
      let val = val_heard m here in
      let valid = coded_branch c value m val.root val.shard val.branch quiet.sound (quiet.correct m here).known val.coded in
      let own = echo_cast c m j e (own_in c m j history) (heard m) (quiet.idle m here) below
      (hearing j (Val e m val.root val.shard val.branch)) val.told
      (echo_some c.n e m j val.root val.shard val.branch (is_branch-from val.root c.n m val.shard val.branch valid)) in
      echo_valid m own.2.root own.2.shard own.2.branch (quiet.correct m here)
      (subst (λ (v : Vote). Contains (own_in c m j history) v) own.2.is own.1)

  -- ---- Ready

  echoes_heard : (m : ℕ) → runs m ≡ true → c.n - c.f ≤ echo_count c.n e root (heard_by (heard m))
  echoes_heard m here =
      all_heard c j history runs heard m (λ a. is_echo c.n e root a) quiet here (λ a. echo_vote c j e a root quiet.lane below) echo_said

  -- what a correct node is ready for is the proposal's root
  ready_root : (m : ℕ) (other : List ℕ) → runs m ≡ true → Contains (own_in c m j history) (Ready e other) → other ≡ root
  ready_root m other here ready =
      let quorum : HasQuorum c e other (said_in c j history) =
      ready_quorum c history j e m other quiet.sound quiet.legal (quiet.correct m here) ready in
      let source : IsProposedRoot c j e other history = quorum_proposed c j e other history quiet.sound quiet.legal honest quorum in
      let same : source.value ≡ value = one_proposal c j c.n e honest history quiet.legal source.value value source.proposed proposes in
      sym source.root_is ∙ ap tree_root (one_encoding c source.value source.shards quiet.sound source.encoding)
      ∙ ap (λ (v : List ℕ). tree_root (encoded c.n (data_count c) v)) same

  all_ready : (m : ℕ) → runs m ≡ true → Contains (own_in c m j history) (Ready e root)
  all_ready m here =
      let enough = echoes_heard m here in
      let some = member_from_count c.n (λ a. heard_by (heard m) a (is_echo c.n e root a)) (omega (arith, enough, quiet.sound.enough)) in
      let rebuilds : is_some (value_of c e (heard m) root) ≡ true =
      value_there c j e root history quiet.sound quiet.apart bound m (heard m) (quiet.correct m here) (heard_posted c j history runs heard m quiet here)
      (omega (arith, enough)) in
      let quorum : Bool = nat_le (c.n - c.f) (echo_count c.n e root (heard_by (heard m))) in
      let makes : is_made_ready c e (heard m) root ≡ true =
      or_left (quorum && is_some (value_of c e (heard m) root)) (nat_le (c.f + 1) (ready_count c.n e root (heard_by (heard m))))
      (and_from quorum (is_some (value_of c e (heard m) root)) (le-leb _ _ enough) rebuilds) in
      let own = becomes_ready c j history runs heard quiet e below m root here (echo_named c.n e some.0 root (heard m) some.2) makes in
      subst (λ (r : List ℕ). Contains (own_in c m j history) (Ready e r)) (ready_root m own.0 here own.1) own.1

  -- ---- Delivered

  pub sender_delivered : (m : ℕ) → runs m ≡ true → Contains (own_in c m j history) (Delivered e value)
  sender_delivered m here =
      let echoes : count_nodes c.n runs ≤ echo_count c.n e root (said_in c j history) =
      count_nodes-mono c.n runs (λ a. said_in c j history a (is_echo c.n e root a)) (λ a node there. echo_said a there) in
      let own = all_deliver c j history runs heard quiet e below root bound (omega (arith, echoes, quiet.many)) all_ready m here in
      let proposed_too = (deliveries_proposed c history quiet.sound quiet.legal quiet.apart).proposed j e m own.0 (quiet.correct j sends) (quiet.correct m here) own.1 in
      let same : own.0 ≡ value = one_proposal c j c.n e honest history quiet.legal own.0 value proposed_too proposes in
      subst (λ (v : List ℕ). Contains (own_in c m j history) (Delivered e v)) same own.1
