-- Totality: what a correct node has delivered, each running node delivers.
use Rattle.std.proofs.Common.{◌≡◌, ℕ, ◌+◌, ◌-◌, ◌*◌, ◌<◌, ◌≤◌, ◌&&◌, ◌==◌, nat_lt, nat_le, Bool, true, false, inl, inr, List, Contains, refl, sym, subst, arith}
use Rattle.std.specs.Option.{is_some}
use Rattle.std.proofs.lemmas.Bool.{and_parts, and_from, or_right, ltb-true, lt-ltb, le-leb}
use Rattle.hb_base.specs.NodeSet.{is_in}
use Rattle.hb_base.specs.Numbers.{Numbers}
use Rattle.hb_wire.specs.declared.post.Post.{Post}
use Rattle.hb_wire.specs.declared.vote.Vote.{Vote}
use Rattle.hb_wire.specs.declared.vote.Vote.TheVariants.{Ready, Delivered}
use Rattle.hb_rules.specs.BroadcastRows.{value_of, is_made_ready}
use Rattle.hb_rules.specs.Claims.{is_echo, is_ready}
use Rattle.hb_rules.specs.Code.{data_count, HasQuorum, echo_count, ready_count}
use Rattle.hb_rules.specs.Hearing.{Hearing, is_within, heard_in, heard_by, own_in, said_in}
use Rattle.hb_rules.specs.History.{IsLegal}
use Rattle.hb_rules.specs.Ledger.{IsCorrect}
use Rattle.hb_rules.proofs.Among.{any_stands}
use Rattle.hb_rules.proofs.BroadcastSlots.{echoed-is}
use Rattle.hb_rules.proofs.Cast.{was_allowed, heard_from}
use Rattle.hb_rules.proofs.Counts.{member_from_count}
use Rattle.hb_rules.proofs.Lists.{list_any-from}
use Rattle.rbc_world.specs.Backing.{IsBacked}
use Rattle.rbc_world.proofs.Binding.{IsBoundTo}
use Rattle.rbc_world.proofs.Theorems.{deliveries_agree, ready_bound, ready_quorum, is_backed}
use Rattle.lane_progress.specs.Lanes.{IsQuietLane}
use Rattle.lane_progress.proofs.Hearings.{IsForLanes, AreForLanes, many_heard, all_heard, heard_posted}
use Rattle.rbc_progress.proofs.Marks.{IsNamed, ready-is, ready-marked, ready_named, echo-is}
use Rattle.rbc_progress.proofs.Settled.{ready_cast, delivery_cast}
use Rattle.rbc_progress.proofs.Codewords.{value_there}

-- ---- votes that all lanes of a number hear

pub echo_vote : (c : Numbers) (j e a : ℕ) (root : List ℕ) → j < c.n → e < c.epochs → AreForLanes c j (is_echo c.n e root a)
echo_vote c j e a root lane below = record { each = each }
  where
    each : (vote : Vote) → is_echo c.n e root a vote ≡ true → IsForLanes c j vote
    each vote passes =
        let is = echoed-is c.n e a vote (root, (echo-is c.n e root a vote passes).shard) (echo-is c.n e root a vote passes).is in
        subst (IsForLanes c j) (sym is.is) (record {
          all = refl;
          heeded = λ i a y. lt-ltb j c.n lane;
          within = and_from (nat_lt e c.epochs) true (lt-ltb e c.epochs below) refl;
        })

ready_vote : (c : Numbers) (j e : ℕ) (root : List ℕ) → j < c.n → e < c.epochs → AreForLanes c j (is_ready e root)
ready_vote c j e root lane below = record { each = each }
  where
    each : (vote : Vote) → is_ready e root vote ≡ true → IsForLanes c j vote
    each vote passes = subst (IsForLanes c j) (sym (ready-is e root vote passes)) (record {
      all = refl;
      heeded = λ i a y. lt-ltb j c.n lane;
      within = and_from (nat_lt e c.epochs) true (lt-ltb e c.epochs below) refl;
    })

-- what a lane hears is of the run
heard_within : (c : Numbers) (i j : ℕ) (history : List Post) (h : Hearing) → Contains (heard_in c i j history) h → is_within c h.vote ≡ true
heard_within c i j history h stands =
    let post = heard_from c i j history h stands in
    subst (λ (g : Hearing). is_within c g.vote ≡ true) post.2.hearing_is post.2.within

ready_within : (c : Numbers) (i j e a : ℕ) (root : List ℕ) (history : List Post) → heard_by (heard_in c i j history) a (is_ready e root) ≡ true
    → e < c.epochs
ready_within c i j e a root history said =
    let found = any_stands (λ h. (h.from == a) && is_ready e root h.vote) (heard_in c i j history) said in
    let parts = and_parts (found.0.from == a) (is_ready e root found.0.vote) found.2 in
    let run : (nat_lt e c.epochs && true) ≡ true =
    subst (λ (v : Vote). is_within c v ≡ true) (ready-is e root found.0.vote parts.1) (heard_within c i j history found.0 found.1) in
    ltb-true e c.epochs (and_parts (nat_lt e c.epochs) true run).0

-- what a correct node delivers is of an epoch of the run
pub delivery_within : (c : Numbers) (history : List Post) (i j e : ℕ) (value : List ℕ) → IsLegal c history → is_in c.liars i ≡ false
    → Contains (own_in c i j history) (Delivered e value) → e < c.epochs
delivery_within c history i j e value legal correct delivered =
    let was = was_allowed c i j correct history legal (Delivered e value) delivered in
    elim was.may [
      | inl may ↦
          let delivery = may.1.0 in
          let some = member_from_count c.n (λ a. heard_by (heard_in c i j was.before) a (is_ready e delivery.root)) (omega (arith, delivery.readies)) in
          ready_within c i j e some.0 delivery.root was.before some.2
      | inr may ↦ absurd may.1
    ]

-- ---- one broadcast of a quiet lane

module _ (c : Numbers) (j : ℕ) (history : List Post) (runs : ℕ → Bool) (heard : ℕ → List Hearing) (quiet : IsQuietLane c j history runs heard)
    (e : ℕ) (below : e < c.epochs) where
  -- who runs and has heard more than f Readys for a root, or n - f valid Echoes that rebuild to it, is ready for some root
  pub becomes_ready : (m : ℕ) (root : List ℕ) → runs m ≡ true → IsNamed c.n e (heard m) root
      → is_made_ready c e (heard m) root ≡ true → (other : List ℕ) × Contains (own_in c m j history) (Ready e other)
  becomes_ready m root here name enough = ready_cast c m j e (own_in c m j history) (heard m) (quiet.idle m here) below root name enough

  -- where more than f nodes have been heard to be ready for a root
  ready_by_readies : (m : ℕ) (root : List ℕ) → runs m ≡ true → c.f + 1 ≤ ready_count c.n e root (heard_by (heard m))
      → (other : List ℕ) × Contains (own_in c m j history) (Ready e other)
  ready_by_readies m root here enough =
      let some = member_from_count c.n (λ a. heard_by (heard m) a (is_ready e root)) (omega (arith, enough)) in
      becomes_ready m root here (ready_named c.n e some.0 root (heard m) some.2)
      (or_right (nat_le (c.n - c.f) (echo_count c.n e root (heard_by (heard m))) && is_some (value_of c e (heard m) root))
      (nat_le (c.f + 1) (ready_count c.n e root (heard_by (heard m)))) (le-leb _ _ enough))

  -- Where all who run are ready for a root that is bound to a codeword, and n - f nodes have posted valid Echoes for it, all who run
  -- have delivered something.
  pub all_deliver : (root : List ℕ) → IsBoundTo c history root → c.n - c.f ≤ echo_count c.n e root (said_in c j history)
      → ((a : ℕ) → runs a ≡ true → Contains (own_in c a j history) (Ready e root))
      → (m : ℕ) → runs m ≡ true → (value : List ℕ) × Contains (own_in c m j history) (Delivered e value)
  all_deliver root bound echoes ready m here =
      delivery_cast c m j e (own_in c m j history) (heard m) (quiet.idle m here) below root (ready_named c.n e some.0 root (heard m) some.2) enough
      (value_there c j e root history quiet.sound quiet.apart bound m (heard m) (quiet.correct m here) (heard_posted c j history runs heard m quiet here) shards)
    where
      readies : c.n - c.f ≤ ready_count c.n e root (heard_by (heard m))
      readies =
          all_heard c j history runs heard m (λ a. is_ready e root) quiet here (λ a. ready_vote c j e root quiet.lane below)
          (λ a there. list_any-from (is_ready e root) (own_in c a j history) (Ready e root) (ready a there) (ready-marked e root))

      enough : 2 * c.f + 1 ≤ ready_count c.n e root (heard_by (heard m))
      enough = omega (arith, readies, quiet.sound.enough)

      some : (a : ℕ) × (a < c.n) × (heard_by (heard m) a (is_ready e root) ≡ true)
      some = member_from_count c.n (λ a. heard_by (heard m) a (is_ready e root)) (omega (arith, enough))

      shards : data_count c ≤ echo_count c.n e root (heard_by (heard m))
      shards =
          let heard_too = many_heard c j history runs heard m (λ a. is_echo c.n e root a) quiet here (λ a. echo_vote c j e a root quiet.lane below) in
          omega (arith, echoes, heard_too, quiet.sound.enough)

  -- ---- totality

  module _ (i : ℕ) (value : List ℕ) (correct : IsCorrect c i) (delivered : Contains (own_in c i j history) (Delivered e value)) where
    backed : IsBacked c history j e value
    backed = is_backed c history j e i value quiet.sound quiet.legal correct delivered

    -- f + 1 of the nodes behind the delivery run, so all who run are ready for its root
    all_ready : (m : ℕ) → runs m ≡ true → Contains (own_in c m j history) (Ready e backed.delivery.root)
    all_ready m here =
        let root = backed.delivery.root in
        let heard_too = many_heard c j history runs heard m (λ a. is_ready e root) quiet here (λ a. ready_vote c j e root quiet.lane below) in
        let own = ready_by_readies m root here (omega (arith, backed.delivery.readies, heard_too)) in
        let same : own.0 ≡ root = backed.named m own.0 (quiet.correct m here) own.1 in
        subst (λ (r : List ℕ). Contains (own_in c m j history) (Ready e r)) same own.1

    bound : IsBoundTo c history backed.delivery.root
    bound = ready_bound c history j e backed.delivery.root quiet.sound quiet.legal (omega (arith, backed.delivery.readies))

    pub total : (m : ℕ) → runs m ≡ true → Contains (own_in c m j history) (Delivered e value)
    total m here =
        let root = backed.delivery.root in
        let quorum : HasQuorum c e root (said_in c j history) =
        ready_quorum c history j e m root quiet.sound quiet.legal (quiet.correct m here) (all_ready m here) in
        let own = all_deliver root bound quorum.echoes all_ready m here in
        let same : own.0 ≡ value =
        (deliveries_agree c history quiet.sound quiet.legal quiet.apart).one j e m i own.0 value quiet.lane (quiet.correct m here) correct own.1 delivered in
        subst (λ (v : List ℕ). Contains (own_in c m j history) (Delivered e v)) same own.1
