-- What stands behind the Ready and Delivered votes of correct nodes, and behind Val and Echo in the lane of a correct node.
use Rattle.std.proofs.Common.{◌≡◌, ℕ, ◌+◌, ◌<◌, ◌≤◌, false, inl, inr, List, [], ◌∷◌, ◌++◌, Contains, sym, subst, arith}
use Rattle.hb_base.specs.Numbers.{Numbers, AreSound}
use Rattle.hb_base.specs.NodeSet.{is_in}
use Rattle.merkle_branch.specs.declared.Branch.{Branch}
use Rattle.merkle_branch.specs.Digests.{tree_root}
use Rattle.rs_shards.specs.Completing.{IsEncoding}
use Rattle.hb_wire.specs.declared.vote.Vote.TheVariants.{Val, Echo, Ready, Delivered, Propose}
use Rattle.hb_wire.specs.declared.post.Post.{Post}
use Rattle.hb_rules.specs.Claims.{is_echo, is_ready}
use Rattle.hb_rules.specs.Hearing.{hearing, heard_in, heard_by, own_in, said_in}
use Rattle.hb_rules.specs.Code.{data_count, HasQuorum, HasDelivery, ready_count}
use Rattle.hb_rules.specs.Rules.{MayCast}
use Rattle.hb_rules.specs.History.{MayFollow, IsLegal}
use Rattle.hb_rules.specs.Ledger.{IsCorrect}
use Rattle.hb_rules.proofs.Among.{Grows, heard_by-grows, HasQuorum-grows, HasDelivery-grows, ready_count-grows}
use Rattle.hb_rules.proofs.Addressed.{AreAddressed, addressed_induction, legal_addressed}
use Rattle.hb_rules.proofs.Cast.{newly_cast, cast_stays, heard_stays, heard_cast, IsOfDesk-proposal, desk_cast, was_allowed}
use Rattle.hb_rules.proofs.Said.{heard-said, correct_said, both_said}
use Rattle.rbc_world.proofs.Shown.{ready_said, echo_said}
use Rattle.rbc_world.proofs.Once.{one_echo}

-- of more than f nodes that are ready one is correct
pub ready_correct : (c : Numbers) (x e : ℕ) (root : List ℕ) (history : List Post) → AreSound c → c.f + 1 ≤ ready_count c.n e root (said_in c x history)
    → (a : ℕ) × IsCorrect c a × Contains (own_in c a x history) (Ready e root)
ready_correct c x e root history sound many =
    let found = correct_said c x history (λ a. is_ready e root) sound many in
    (found.0, record { known = found.1.known; honest = found.1.correct }, ready_said c x e found.0 root history found.1.said)

-- ---- Ready and Delivered

-- what a lane of a correct node hears of a history, it hears of it with more posts
heard_grows : (c : Numbers) (i x : ℕ) (history more : List Post) → Grows (heard_by (heard_in c i x history)) (heard_by (heard_in c i x (history ++ more)))
heard_grows c i x history more =
    heard_by-grows (heard_in c i x history) (heard_in c i x (history ++ more)) (record { each = heard_stays c i x history more })

-- lane x of a correct node has heard a quorum for the root
pub record HasHeardQuorum (c : Numbers) (x e : ℕ) (root : List ℕ) (history : List Post) : Type 0 where
  pub node : ℕ
  pub correct : IsCorrect c node
  pub lane : x < c.n
  pub quorum : HasQuorum c e root (heard_by (heard_in c node x history))

-- for what correct nodes are ready in the lanes of this number, one of them has heard a quorum
record AreBacked (c : Numbers) (x : ℕ) (history : List Post) : Type 0 where
  readies : (e i : ℕ) (root : List ℕ) → IsCorrect c i → Contains (own_in c i x history) (Ready e root) → HasHeardQuorum c x e root history

-- what a correct node may become ready for
ready_source : (c : Numbers) (x e i : ℕ) (root : List ℕ) (history : List Post) → AreSound c → AreAddressed c history → AreBacked c x history
    → IsCorrect c i → MayCast c i x (own_in c i x history) (heard_in c i x history) (Ready e root) → HasHeardQuorum c x e root history
ready_source c x e i root history sound addressed backed correct (inr may) = absurd may.1
ready_source c x e i root history sound addressed backed correct (inl may) = elim may.1.0 [
  | inl quorum ↦ record { node = i; correct = correct; lane = may.0; quorum = quorum }
  | inr readies ↦
      let grows = heard-said c i x history addressed may.0 correct.honest in
      let more = ready_count-grows c.n e root (heard_by (heard_in c i x history)) (said_in c x history) grows in
      let found = ready_correct c x e root history sound (omega (arith, readies, more)) in
      backed.readies e found.0 root found.1 found.2
]

HasHeardQuorum-stays : (c : Numbers) (x e : ℕ) (root : List ℕ) (history more : List Post) → HasHeardQuorum c x e root history
    → HasHeardQuorum c x e root (history ++ more)
HasHeardQuorum-stays c x e root history more has = record {
  node = has.node;
  correct = has.correct;
  lane = has.lane;
  quorum =
      HasQuorum-grows c e root (heard_by (heard_in c has.node x history)) (heard_by (heard_in c has.node x (history ++ more)))
      (heard_grows c has.node x history more) has.quorum;
}

AreBacked-push : (c : Numbers) (x : ℕ) → AreSound c → (history : List Post) (post : Post) → AreAddressed c history → AreBacked c x history
    → MayFollow c history post
    → AreBacked c x (history ++ post ∷ [])
AreBacked-push c x sound history post addressed backed follows = record {
  readies = λ e i root correct h.
      HasHeardQuorum-stays c x e root history (post ∷ []) (elim (newly_cast c i x history post (Ready e root) correct.honest follows h) [
        | inl before ↦ backed.readies e i root correct before
        | inr new ↦ ready_source c x e i root history sound addressed backed correct new.may
      ]);
}

are_backed : (c : Numbers) (x : ℕ) → AreSound c → (history : List Post) → IsLegal c history → AreBacked c x history
are_backed c x sound history legal =
    addressed_induction c (AreBacked c x) (record {
      readies = λ e i root correct h. absurd (omega (arith, h.1));
    }) (λ before post addressed backed follows. AreBacked-push c x sound before post addressed backed follows) history legal

pub ready_heard : (c : Numbers) (x e i : ℕ) (root : List ℕ) → AreSound c → (history : List Post) → IsLegal c history → IsCorrect c i
    → Contains (own_in c i x history) (Ready e root) → HasHeardQuorum c x e root history
ready_heard c x e i root sound history legal correct h = (are_backed c x sound history legal).readies e i root correct h

-- the quorum was said
pub ready_backed : (c : Numbers) (x e i : ℕ) (root : List ℕ) → AreSound c → (history : List Post) → IsLegal c history → IsCorrect c i
    → Contains (own_in c i x history) (Ready e root) → HasQuorum c e root (said_in c x history)
ready_backed c x e i root sound history legal correct h =
    let has = ready_heard c x e i root sound history legal correct h in
    HasQuorum-grows c e root (heard_by (heard_in c has.node x history)) (said_in c x history)
    (heard-said c has.node x history (legal_addressed c history legal) has.lane has.correct.honest) has.quorum

-- what a correct node delivers, its lane has heard
pub delivery_heard : (c : Numbers) (x e i : ℕ) (value : List ℕ) (history : List Post) → IsLegal c history → is_in c.liars i ≡ false
    → Contains (own_in c i x history) (Delivered e value) → HasDelivery c e value (heard_by (heard_in c i x history))
delivery_heard c x e i value history legal correct delivered =
    let was = was_allowed c i x correct history legal (Delivered e value) delivered in
    elim was.may [
      | inl may ↦
          subst (λ (posts : List Post). HasDelivery c e value (heard_by (heard_in c i x posts))) (sym was.is)
          (HasDelivery-grows c e value (heard_by (heard_in c i x was.before)) (heard_by (heard_in c i x (was.before ++ was.later)))
          (heard_grows c i x was.before was.later) may.1.0)
      | inr may ↦ absurd may.1
    ]

-- only lanes deliver
pub delivery_lane : (c : Numbers) (i x e : ℕ) (value : List ℕ) → is_in c.liars i ≡ false → (history : List Post) → IsLegal c history
    → Contains (own_in c i x history) (Delivered e value) → x < c.n
delivery_lane c i x e value correct history legal delivered =
    let was = was_allowed c i x correct history legal (Delivered e value) delivered in
    elim was.may [ inl may ↦ may.0 | inr may ↦ absurd may.1 ]

-- the delivery was said
pub delivery_backed : (c : Numbers) (x e i : ℕ) (value : List ℕ) (history : List Post) → IsLegal c history → is_in c.liars i ≡ false
    → Contains (own_in c i x history) (Delivered e value) → HasDelivery c e value (said_in c x history)
delivery_backed c x e i value history legal correct h =
    HasDelivery-grows c e value (heard_by (heard_in c i x history)) (said_in c x history)
    (heard-said c i x history (legal_addressed c history legal) (delivery_lane c i x e value correct history legal h) correct)
    (delivery_heard c x e i value history legal correct h)

-- ---- quorums

-- two quorums of Echoes are of one root, since they share a correct node
pub quorums_agree : (c : Numbers) (x e : ℕ) (root other : List ℕ) (history : List Post) → AreSound c → IsLegal c history
    → HasQuorum c e root (said_in c x history) → HasQuorum c e other (said_in c x history)
    → root ≡ other
quorums_agree c x e root other history sound legal first second =
    let found =
    both_said c x history (λ a. is_echo c.n e root a) (λ a. is_echo c.n e other a) sound (omega (arith, first.echoes, second.echoes, sound.enough)) in
    let one = echo_said c x e found.0 root history found.1.said in
    let two = echo_said c x e found.0 other history found.2.said in
    one_echo c found.0 x e found.1.correct history legal root other one.0 two.0 one.1 two.1 one.2 two.2

-- ---- Val and Echo in the lane of a correct node

-- the root is that of the codeword of a value that the desk of node x has proposed
pub record IsProposedRoot (c : Numbers) (x e : ℕ) (root : List ℕ) (history : List Post) : Type 0 where
  pub value : List ℕ
  pub proposed : Contains (own_in c x c.n history) (Propose e value)
  pub shards : List (List ℕ)
  pub encoding : IsEncoding c.n (data_count c) value shards
  pub root_is : tree_root shards ≡ root

IsProposedRoot-stays : (c : Numbers) (x e : ℕ) (root : List ℕ) (history more : List Post) → IsProposedRoot c x e root history
    → IsProposedRoot c x e root (history ++ more)
IsProposedRoot-stays c x e root history more proposed = record {
  value = proposed.value;
  proposed = cast_stays c x c.n history more (Propose e proposed.value) proposed.proposed;
  shards = proposed.shards;
  encoding = proposed.encoding;
  root_is = proposed.root_is;
}

record AreSourced (c : Numbers) (x : ℕ) (history : List Post) : Type 0 where
  vals : (e m : ℕ) (root shard : List ℕ) (branch : Branch) → Contains (own_in c x x history) (Val e m root shard branch)
      → IsProposedRoot c x e root history
  echoes : (e i : ℕ) (root shard : List ℕ) (branch : Branch) → is_in c.liars i ≡ false → Contains (own_in c i x history) (Echo e root shard branch)
      → IsProposedRoot c x e root history

val_source : (c : Numbers) (x e m : ℕ) (root shard : List ℕ) (branch : Branch) (history : List Post)
    → MayCast c x x (own_in c x x history) (heard_in c x x history) (Val e m root shard branch)
    → IsProposedRoot c x e root history
val_source c x e m root shard branch history (inr may) = absurd may.1
val_source c x e m root shard branch history (inl may) =
    let part = may.1.1 in
    record {
      value = part.value;
      proposed = desk_cast c x x x (Propose e part.value) history (IsOfDesk-proposal c.n e part.value) part.proposed;
      shards = part.coded.shards;
      encoding = part.coded.encoding;
      root_is = part.coded.root_is;
    }

echo_source : (c : Numbers) (x e i : ℕ) (root shard : List ℕ) (branch : Branch) (history : List Post) → AreAddressed c history → AreSourced c x history
    → is_in c.liars i ≡ false → MayCast c i x (own_in c i x history) (heard_in c i x history) (Echo e root shard branch)
    → IsProposedRoot c x e root history
echo_source c x e i root shard branch history addressed sourced correct (inr may) = absurd may.1
echo_source c x e i root shard branch history addressed sourced correct (inl may) =
    sourced.vals e i root shard branch
    (heard_cast c i x history (hearing x (Val e i root shard branch)) addressed may.0 correct may.1.0 (λ home. absurd (cc (home))))

AreSourced-push : (c : Numbers) (x : ℕ) → is_in c.liars x ≡ false → (history : List Post) (post : Post) → AreAddressed c history
    → AreSourced c x history → MayFollow c history post
    → AreSourced c x (history ++ post ∷ [])
AreSourced-push c x sender history post addressed sourced follows = record {
  vals = λ e m root shard branch h.
      IsProposedRoot-stays c x e root history (post ∷ []) (elim (newly_cast c x x history post (Val e m root shard branch) sender follows h) [
        | inl before ↦ sourced.vals e m root shard branch before
        | inr new ↦ val_source c x e m root shard branch history new.may
      ]);
  echoes = λ e i root shard branch correct h.
      IsProposedRoot-stays c x e root history (post ∷ []) (elim (newly_cast c i x history post (Echo e root shard branch) correct follows h) [
        | inl before ↦ sourced.echoes e i root shard branch correct before
        | inr new ↦ echo_source c x e i root shard branch history addressed sourced correct new.may
      ]);
}

are_sourced : (c : Numbers) (x : ℕ) → is_in c.liars x ≡ false → (history : List Post) → IsLegal c history → AreSourced c x history
are_sourced c x sender history legal =
    addressed_induction c (AreSourced c x) (record {
      vals = λ e m root shard branch h. absurd (omega (arith, h.1));
      echoes = λ e i root shard branch correct h. absurd (omega (arith, h.1));
    }) (λ before post addressed sourced follows. AreSourced-push c x sender before post addressed sourced follows) history legal

-- a root with a quorum in the lane of a correct node is that of a proposal
pub quorum_proposed : (c : Numbers) (x e : ℕ) (root : List ℕ) (history : List Post) → AreSound c → IsLegal c history → is_in c.liars x ≡ false
    → HasQuorum c e root (said_in c x history)
    → IsProposedRoot c x e root history
quorum_proposed c x e root history sound legal sender quorum =
    let found = correct_said c x history (λ a. is_echo c.n e root a) sound (omega (arith, quorum.echoes, sound.enough)) in
    let shown = echo_said c x e found.0 root history found.1.said in
    (are_sourced c x sender history legal).echoes e found.0 root shown.0 shown.1 found.1.correct shown.2
