-- The theorems on the broadcast: agreement, validity, and one codeword for a root.
use Rattle.std.proofs.Common.{◌≡◌, ℕ, ◌+◌, ◌<◌, ◌≤◌, List, Contains, length, sym, ap, ◌∙◌, arith}
use Rattle.hb_base.specs.Limits.{longest_value}
use Rattle.hb_base.specs.Numbers.{Numbers, AreSound}
use Rattle.merkle_branch.specs.Digests.{tree_strings}
use Rattle.rs_shards.specs.Frame.{value_in, framed_value}
use Rattle.rs_shards.proofs.Values.{value_in-frame}
use Rattle.hb_wire.specs.declared.vote.Vote.TheVariants.{Ready, Delivered, Propose}
use Rattle.hb_wire.specs.declared.post.Post.{Post}
use Rattle.hb_rules.specs.Hearing.{heard_in, heard_by, own_in, said_in}
use Rattle.hb_rules.specs.Code.{data_count, HasQuorum, HasDelivery, ready_count}
use Rattle.hb_rules.specs.History.{IsLegal}
use Rattle.hb_rules.specs.Ledger.{IsCorrect}
use Rattle.hb_rules.specs.Strings.{IsHashed, NoCollision}
use Rattle.hb_rules.proofs.FirstShards.{data_count-some}
use Rattle.rbc_world.specs.Agreed.{ReadiesAgree, DeliveriesAgree, DeliveriesAreProposed, ProposalsAgree, IsAgreed}
use Rattle.rbc_world.specs.Backing.{RootsAreBound, SaidRootsAreBound, IsHashedOrSaid, NoCollisionAmong, IsBacked}
use Rattle.hb_rules.proofs.Addressed.{legal_addressed}
use Rattle.hb_rules.proofs.Among.{ready_count-grows}
use Rattle.hb_rules.proofs.Cast.{cast_fits}
use Rattle.hb_rules.proofs.Said.{heard-said}
use Rattle.rbc_world.proofs.Once.{one_proposal}
use Rattle.rbc_world.proofs.Backed.{ready_correct, ready_heard, ready_backed, delivery_heard, delivery_backed, delivery_lane, quorums_agree, IsProposedRoot, quorum_proposed}
use Rattle.rbc_world.proofs.Binding.{AreCounted, IsBoundTo, one_tree, echoed-hashed, echoed-bound, one_codeword, one_codeword_said}

one_ready : (c : Numbers) (j e i m : ℕ) (root other : List ℕ) (history : List Post) → AreSound c → IsLegal c history → IsCorrect c i
    → IsCorrect c m → Contains (own_in c i j history) (Ready e root) → Contains (own_in c m j history) (Ready e other) → root ≡ other
one_ready c j e i m root other history sound legal correct also first second =
    quorums_agree c j e root other history sound legal (ready_backed c j e i root sound history legal correct first)
    (ready_backed c j e m other sound history legal also second)

pub readies_agree : (c : Numbers) (history : List Post) → AreSound c → IsLegal c history → ReadiesAgree c history
readies_agree c history sound legal = record {
  one = λ j e i m root other lane correct also first second.
      one_ready c j e i m root other history sound legal correct also first second;
}

-- the root of a delivery is that of each correct Ready
named_root : (c : Numbers) (j e m : ℕ) (root value : List ℕ) (history : List Post) → AreSound c → IsLegal c history
    → (delivery : HasDelivery c e value (said_in c j history)) → IsCorrect c m → Contains (own_in c m j history) (Ready e root)
    → root ≡ delivery.root
named_root c j e m root value history sound legal delivery correct ready =
    let found = ready_correct c j e delivery.root history sound (omega (arith, delivery.readies)) in
    one_ready c j e m found.0 root delivery.root history sound legal correct found.1 ready found.2

-- a correct node is ready for the root of a delivery that a lane of a correct node has heard
delivery_ready : (c : Numbers) (j e i : ℕ) (value : List ℕ) (history : List Post) → AreSound c → IsLegal c history → j < c.n → IsCorrect c i
    → (delivery : HasDelivery c e value (heard_by (heard_in c i j history)))
    → (a : ℕ) × IsCorrect c a × Contains (own_in c a j history) (Ready e delivery.root)
delivery_ready c j e i value history sound legal lane correct delivery =
    let more =
    ready_count-grows c.n e delivery.root (heard_by (heard_in c i j history)) (said_in c j history)
    (heard-said c i j history (legal_addressed c history legal) lane correct.honest) in
    ready_correct c j e delivery.root history sound (omega (arith, delivery.readies, more))

-- two deliveries of a lane are of one root, and so of one codeword
one_value : (c : Numbers) (j e i m : ℕ) (value other : List ℕ) (history : List Post) → AreSound c → IsLegal c history → NoCollision c history → j < c.n
    → IsCorrect c i → IsCorrect c m → HasDelivery c e value (heard_by (heard_in c i j history))
    → HasDelivery c e other (heard_by (heard_in c m j history)) → value ≡ other
one_value c j e i m value other history sound legal premise lane correct also first second =
    let one = delivery_ready c j e i value history sound legal lane correct first in
    let two = delivery_ready c j e m other history sound legal lane also second in
    let roots : first.root ≡ second.root = one_ready c j e one.0 two.0 first.root second.root history sound legal one.1 two.1 one.2 two.2 in
    let count : length first.shards ≡ c.n = first.echoed.rebuilt.codeword.count in
    let long : length second.shards ≡ c.n = second.echoed.rebuilt.codeword.count in
    let same : first.shards ≡ second.shards =
    one_tree c history first.shards second.shards premise (count ∙ sym long) (omega (arith, count, sound.nodes.1))
    (echoed-hashed c i j e first.root history first.shards correct first.echoed)
    (echoed-hashed c m j e second.root history second.shards also second.echoed)
    (first.echoed.root_is ∙ roots ∙ sym second.echoed.root_is) in
    sym first.value_is ∙ ap (framed_value (data_count c)) same ∙ second.value_is

pub deliveries_agree : (c : Numbers) (history : List Post) → AreSound c → IsLegal c history → NoCollision c history → DeliveriesAgree c history
deliveries_agree c history sound legal premise = record {
  one = λ j e i m value other lane correct also first second.
      one_value c j e i m value other history sound legal premise lane correct also (delivery_heard c j e i value history legal correct.honest first)
      (delivery_heard c j e m other history legal also.honest second);
}

pub proposals_agree : (c : Numbers) (history : List Post) → IsLegal c history → ProposalsAgree c history
proposals_agree c history legal = record {
  one = λ i e value other correct first second. one_proposal c i c.n e correct.honest history legal value other first second;
}

-- the strings of the tree over the codeword of a proposal count as hashed
proposed-hashed : (c : Numbers) (j e : ℕ) (root : List ℕ) (history : List Post) → IsCorrect c j → (source : IsProposedRoot c j e root history)
    → AreCounted (IsHashed c history) (tree_strings source.shards)
proposed-hashed c j e root history sender source = record {
  each = λ string stands. IsHashed.proposed j e source.value source.shards sender source.proposed source.encoding stands;
}

delivery_proposed : (c : Numbers) (j e i : ℕ) (value : List ℕ) (history : List Post) → AreSound c → IsLegal c history → NoCollision c history
    → IsCorrect c j → IsCorrect c i → HasDelivery c e value (heard_by (heard_in c i j history)) → Contains (own_in c j c.n history) (Propose e value)
delivery_proposed c j e i value history sound legal premise sender correct delivery =
    let found = delivery_ready c j e i value history sound legal sender.known correct delivery in
    let source : IsProposedRoot c j e delivery.root history =
    quorum_proposed c j e delivery.root history sound legal sender.honest
    (ready_backed c j e found.0 delivery.root sound history legal found.1 found.2) in
    let fits = cast_fits c j c.n history (Propose e source.value) (legal_addressed c history legal) sender.honest source.proposed in
    let short : length source.value ≤ longest_value = fits.fields.0.1 in
    let count : length delivery.shards ≡ c.n = delivery.echoed.rebuilt.codeword.count in
    let long : length source.shards ≡ c.n = source.encoding.codeword.count in
    let same : delivery.shards ≡ source.shards =
    one_tree c history delivery.shards source.shards premise (count ∙ sym long) (omega (arith, count, sound.nodes.1))
    (echoed-hashed c i j e delivery.root history delivery.shards correct delivery.echoed)
    (proposed-hashed c j e delivery.root history sender source)
    (delivery.echoed.root_is ∙ sym source.root_is) in
    let is : value ≡ source.value =
    sym delivery.value_is ∙ ap (framed_value (data_count c)) same ∙ ap (value_in (data_count c)) source.encoding.framed
    ∙ value_in-frame (data_count c) source.value (data_count-some c sound) short in
    rw is source.proposed

pub deliveries_proposed : (c : Numbers) (history : List Post) → AreSound c → IsLegal c history → NoCollision c history
    → DeliveriesAreProposed c history
deliveries_proposed c history sound legal premise = record {
  proposed = λ j e i value sender correct delivered.
      delivery_proposed c j e i value history sound legal premise sender correct
      (delivery_heard c j e i value history legal correct.honest delivered);
}

pub is_backed : (c : Numbers) (history : List Post) (j e i : ℕ) (value : List ℕ) → AreSound c → IsLegal c history → IsCorrect c i
    → Contains (own_in c i j history) (Delivered e value) → IsBacked c history j e value
is_backed c history j e i value sound legal correct delivered =
    let delivery : HasDelivery c e value (said_in c j history) = delivery_backed c j e i value history legal correct.honest delivered in
    record {
      lane = delivery_lane c i j e value correct.honest history legal delivered;
      delivery = delivery;
      named = λ m root other ready. named_root c j e m root value history sound legal delivery other ready;
    }

-- a root for which more than f nodes are ready is that of a codeword whose tree's strings count as hashed
pub ready_bound : (c : Numbers) (history : List Post) (j e : ℕ) (root : List ℕ) → AreSound c → IsLegal c history
    → c.f + 1 ≤ ready_count c.n e root (said_in c j history) → IsBoundTo c history root
ready_bound c history j e root sound legal readies =
    let found = ready_correct c j e root history sound readies in
    let has = ready_heard c j e found.0 root sound history legal found.1 found.2 in
    echoed-bound c has.node j e root history has.quorum.shards has.correct has.quorum.echoed

pub roots_bound : (c : Numbers) (history : List Post) → AreSound c → IsLegal c history → NoCollision c history → RootsAreBound c history
roots_bound c history sound legal premise = record {
  one = λ j e root lane readies. one_codeword c j e root history sound premise (ready_bound c history j e root sound legal readies);
}

pub said_roots_bound : (c : Numbers) (history : List Post) → AreSound c → IsLegal c history → NoCollisionAmong (IsHashedOrSaid c history)
    → SaidRootsAreBound c history
said_roots_bound c history sound legal premise = record {
  one = λ j e root lane readies. one_codeword_said c j e root history sound premise (ready_bound c history j e root sound legal readies);
}

pub ready_quorum : (c : Numbers) (history : List Post) (j e i : ℕ) (root : List ℕ) → AreSound c → IsLegal c history → IsCorrect c i
    → Contains (own_in c i j history) (Ready e root) → HasQuorum c e root (said_in c j history)
ready_quorum c history j e i root sound legal correct ready = ready_backed c j e i root sound history legal correct ready

pub legal_agreed : (c : Numbers) (history : List Post) → AreSound c → IsLegal c history → NoCollision c history → IsAgreed c history
legal_agreed c history sound legal premise = record {
  readies = readies_agree c history sound legal;
  deliveries = deliveries_agree c history sound legal premise;
  proposed = deliveries_proposed c history sound legal premise;
}
