-- What some hearings show, more hearings show: so what may be cast in the broadcast by some may be cast by more.
use Rattle.std.proofs.Common.{◌≡◌, ◌≢◌, ℕ, ◌≤◌, Bool, true, ◌&&◌, ◌==◌, inl, inr, List, Contains, arith}
use Rattle.std.specs.List.{list_any}
use Rattle.std.proofs.lemmas.List.Elements.{All-weaker}
use Rattle.std.proofs.lemmas.List.Folds.{Any-from_list_any}
use Rattle.hb_base.specs.Numbers.{Numbers}
use Rattle.hb_wire.specs.Votes.{address_of}
use Rattle.hb_wire.specs.declared.vote.To.TheVariants.{Home}
use Rattle.hb_wire.specs.declared.vote.Vote.{Vote}
use Rattle.hb_wire.specs.declared.vote.Vote.TheVariants.{Val, Echo, Ready, Delivered, Propose}
use Rattle.merkle_branch.specs.declared.Branch.{Branch}
use Rattle.hb_rules.specs.Claims.{is_echo, is_ready, is_shard_echo}
use Rattle.hb_rules.specs.Hearing.{Hearing, hearing, heard_by}
use Rattle.hb_rules.specs.Code.{data_count, AreEchoes, AreEchoed, HasQuorum, HasDelivery, echo_count, ready_count}
use Rattle.hb_rules.specs.Broadcast.{IsProposedShard, MayBroadcast}
use Rattle.hb_rules.specs.Terms.{AreAmong}
use Rattle.hb_rules.proofs.Counts.{count_nodes-mono}
use Rattle.hb_rules.proofs.Lists.{list_any-from}

-- an element that passes the test
pub any_stands : {A : Type 0} (test : A → Bool) (xs : List A) → list_any test xs ≡ true → (x : A) × Contains xs x × (test x ≡ true)
any_stands test xs h = let found = Any-from_list_any test xs h in (found.1, (found.0, found.2, found.3), found.4)

-- a test that only votes pass which do not stay at their own node
pub record IsAway (test : Vote → Bool) : Type 0 where
  pub away : (vote : Vote) → test vote ≡ true → address_of vote ≢ Home

pub is_echo-away : (n e : ℕ) (root : List ℕ) (m : ℕ) → IsAway (is_echo n e root m)
is_echo-away n e root m = record { away = away }
  where
    away : (vote : Vote) → is_echo n e root m vote ≡ true → address_of vote ≢ Home
    away (Echo d other shard branch) passes home = absurd (cc (home))
    away vote passes home = absurd (cc (passes))

pub is_shard_echo-away : (n e : ℕ) (root : List ℕ) (m : ℕ) (shard : List ℕ) → IsAway (is_shard_echo n e root m shard)
is_shard_echo-away n e root m shard = record { away = away }
  where
    away : (vote : Vote) → is_shard_echo n e root m shard vote ≡ true → address_of vote ≢ Home
    away (Echo d other piece branch) passes home = absurd (cc (home))
    away vote passes home = absurd (cc (passes))

pub is_ready-away : (e : ℕ) (root : List ℕ) → IsAway (is_ready e root)
is_ready-away e root = record { away = away }
  where
    away : (vote : Vote) → is_ready e root vote ≡ true → address_of vote ≢ Home
    away (Ready d other) passes home = absurd (cc (home))
    away vote passes home = absurd (cc (passes))

-- what passes such a test of the one's votes has passed it of the other's
pub record Grows (some more : ℕ → (Vote → Bool) → Bool) : Type 0 where
  pub grows : (a : ℕ) (test : Vote → Bool) → IsAway test → some a test ≡ true → more a test ≡ true

-- what was shown by some hearings is shown by more, whatever the test
pub heard_by-among : (some all : List Hearing) (a : ℕ) (test : Vote → Bool) → AreAmong some all → heard_by some a test ≡ true
    → heard_by all a test ≡ true
heard_by-among some all a test among h =
    let passes : Hearing → Bool = λ g. (g.from == a) && test g.vote in
    let found = any_stands passes some h in
    list_any-from passes all found.0 (among.each found.0 found.1) found.2

pub heard_by-grows : (some all : List Hearing) → AreAmong some all → Grows (heard_by some) (heard_by all)
heard_by-grows some all among = record { grows = λ a test away h. heard_by-among some all a test among h }

pub echo_count-grows : (n e : ℕ) (root : List ℕ) (some more : ℕ → (Vote → Bool) → Bool) → Grows some more
    → echo_count n e root some ≤ echo_count n e root more
echo_count-grows n e root some more grows =
    count_nodes-mono n (λ a. some a (is_echo n e root a)) (λ a. more a (is_echo n e root a)) (λ a below h. grows.grows a (is_echo n e root a) (is_echo-away n e root a) h)

pub ready_count-grows : (n e : ℕ) (root : List ℕ) (some more : ℕ → (Vote → Bool) → Bool) → Grows some more
    → ready_count n e root some ≤ ready_count n e root more
ready_count-grows n e root some more grows =
    count_nodes-mono n (λ a. some a (is_ready e root)) (λ a. more a (is_ready e root)) (λ a below h. grows.grows a (is_ready e root) (is_ready-away e root) h)

pub AreEchoes-grows : (n k e : ℕ) (root : List ℕ) (some more : ℕ → (Vote → Bool) → Bool) (got : List (ℕ × List ℕ)) → Grows some more
    → AreEchoes n k e root some got → AreEchoes n k e root more got
AreEchoes-grows n k e root some more got grows echoes = record {
  enough = echoes.enough;
  shards = echoes.shards;
  each =
      All-weaker (λ (x : ℕ × List ℕ). some x.0 (is_shard_echo n e root x.0 x.1) ≡ true) (λ (x : ℕ × List ℕ). more x.0 (is_shard_echo n e root x.0 x.1) ≡ true)
      (λ x h. grows.grows x.0 (is_shard_echo n e root x.0 x.1) (is_shard_echo-away n e root x.0 x.1) h) got echoes.each;
}

pub AreEchoed-grows : (n k e : ℕ) (root : List ℕ) (some more : ℕ → (Vote → Bool) → Bool) (shards : List (List ℕ)) → Grows some more
    → AreEchoed n k e root some shards → AreEchoed n k e root more shards
AreEchoed-grows n k e root some more shards grows echoed = record {
  got = echoed.got;
  echoes = AreEchoes-grows n k e root some more echoed.got grows echoed.echoes;
  rebuilt = echoed.rebuilt;
  root_is = echoed.root_is;
}

pub HasQuorum-grows : (c : Numbers) (e : ℕ) (root : List ℕ) (some more : ℕ → (Vote → Bool) → Bool) → Grows some more → HasQuorum c e root some
    → HasQuorum c e root more
HasQuorum-grows c e root some more grows quorum = record {
  echoes = omega (arith, quorum.echoes, echo_count-grows c.n e root some more grows);
  shards = quorum.shards;
  echoed = AreEchoed-grows c.n (data_count c) e root some more quorum.shards grows quorum.echoed;
}

pub HasDelivery-grows : (c : Numbers) (e : ℕ) (value : List ℕ) (some more : ℕ → (Vote → Bool) → Bool) → Grows some more → HasDelivery c e value some
    → HasDelivery c e value more
HasDelivery-grows c e value some more grows delivery = record {
  root = delivery.root;
  readies = omega (arith, delivery.readies, ready_count-grows c.n e delivery.root some more grows);
  shards = delivery.shards;
  echoed = AreEchoed-grows c.n (data_count c) e delivery.root some more delivery.shards grows delivery.echoed;
  value_is = delivery.value_is;
}

proposed_among : (c : Numbers) (i e : ℕ) (some all : List Hearing) (m : ℕ) (root shard : List ℕ) (branch : Branch) → AreAmong some all
    → IsProposedShard c i e some m root shard branch → IsProposedShard c i e all m root shard branch
proposed_among c i e some all m root shard branch among proposed = record {
  value = proposed.value;
  proposed = among.each (hearing i (Propose e proposed.value)) proposed.proposed;
  coded = proposed.coded;
}

-- what may be cast by some hearings may be cast by all
pub MayBroadcast-among : (c : Numbers) (i j : ℕ) (own : List Vote) (some all : List Hearing) (vote : Vote) → AreAmong some all
    → MayBroadcast c i j own some vote → MayBroadcast c i j own all vote
MayBroadcast-among c i j own some all (Val e m root shard branch) among may =
    (may.0, proposed_among c i e some all m root shard branch among may.1, may.2)
MayBroadcast-among c i j own some all (Echo e root shard branch) among may =
    (among.each (hearing j (Val e i root shard branch)) may.0, may.1, may.2)
MayBroadcast-among c i j own some all (Ready e root) among may = (
  elim may.0 [
    | inl quorum ↦ inl (HasQuorum-grows c e root (heard_by some) (heard_by all) (heard_by-grows some all among) quorum)
    | inr readies ↦ inr (omega (arith, readies, ready_count-grows c.n e root (heard_by some) (heard_by all) (heard_by-grows some all among)))
  ],
  may.1,
)
MayBroadcast-among c i j own some all (Delivered e value) among may =
    (HasDelivery-grows c e value (heard_by some) (heard_by all) (heard_by-grows some all among) may.0, may.1)
MayBroadcast-among c i j own some all vote among may = absurd may
