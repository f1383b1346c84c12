-- The agreement of a lane and an epoch in a calm run: what running nodes have cast there, all running nodes have heard.
use Rattle.std.proofs.Common.{◌≡◌, ℕ, zero, suc, ◌+◌, ◌-◌, ◌<◌, ◌≤◌, ◌⊎◌, ◌&&◌, ◌==◌, nat_lt, Bool, true, false, inl, inr, List, Contains, refl, sym, subst, arith}
use Rattle.std.proofs.lemmas.Bool.{and_parts, and_from, eqb-true, eq-eqb, lt-ltb, cases_eq}
use Rattle.hb_base.specs.Counting.{count_nodes}
use Rattle.hb_base.specs.Numbers.{Numbers}
use Rattle.merkle_branch.specs.declared.Branch.{Branch}
use Rattle.hb_wire.specs.declared.post.Post.{Post}
use Rattle.hb_wire.specs.declared.vote.Vote.{Vote}
use Rattle.hb_wire.specs.declared.vote.Vote.TheVariants.{Bval, Aux, Conf, Coin}
use Rattle.hb_rules.specs.Claims.{same_bit}
use Rattle.hb_rules.specs.Hearing.{Hearing, hearing, heard_by, own_in, said_in, count_shown}
use Rattle.hb_rules.specs.Marks.{single, same_vals, has_bit, Mark, has, Claim, bvals, auxes, any_auxes, confs, any_confs, confs_with, makes, support}
use Rattle.hb_rules.specs.AgreementRows.{View, view_of}
use Rattle.hb_rules.specs.Ledger.{IsCorrect}
use Rattle.hb_rules.proofs.Counts.{count_nodes-mono, count_nodes-and}
use Rattle.hb_rules.proofs.FirstShares.{count_nodes-without}
use Rattle.hb_rules.proofs.Said.{correct_said}
use Rattle.aba_world.proofs.Votes.{makes-away}
use Rattle.lane_progress.specs.Lanes.{IsQuietLane}
use Rattle.lane_progress.proofs.Hearings.{IsForLanes, AreForLanes, cast_heard, said_heard, all_heard, heard_said}

-- lane j in epoch e of a calm run with config c: what a node that runs has cast, and what it has heard
pub record QuietAgreement : Type 0 where
  pub c : Numbers
  pub j : ℕ
  pub e : ℕ
  pub history : List Post
  pub runs : ℕ → Bool
  pub heard : ℕ → List Hearing
  pub lane : IsQuietLane c j history runs heard
  pub epoch : e < c.epochs

abbrev pub own : QuietAgreement → ℕ → List Vote
own q i = own_in q.c i q.j q.history

-- what the slots of node i look at
abbrev pub view : QuietAgreement → ℕ → View
view q i = view_of q.c i q.j q.e (own q i) (q.heard i)

-- whether node i has cast a vote with this mark
abbrev pub cast : QuietAgreement → Mark → ℕ → Bool
cast q mark i = has q.e mark (own q i)

-- each running node has
abbrev pub EachCast : QuietAgreement → Mark → Type 0
EachCast q mark = (i : ℕ) → q.runs i ≡ true → cast q mark i ≡ true

-- whether node a has made a claim
abbrev pub said : QuietAgreement → Claim → ℕ → Bool
said q claim a = said_in q.c q.j q.history a (makes q.e claim)

-- from how many nodes node i has heard a claim
abbrev pub support_at : QuietAgreement → Claim → ℕ → ℕ
support_at q claim i = support q.c.n q.e claim (q.heard i)

-- how many of the running nodes have made a claim
abbrev pub speakers : QuietAgreement → Claim → ℕ
speakers q claim = count_nodes q.c.n (λ a. said q claim a && q.runs a)

-- ---- claims are for the lanes of all nodes

-- the round of a claim
abbrev pub round_in : Claim → ℕ
round_in (bvals r b) = r
round_in (auxes r b) = r
round_in (any_auxes r) = r
round_in (confs r b) = r
round_in (any_confs r) = r
round_in (confs_with r b) = r

-- the run has the epoch and the round
in_run : (c : Numbers) (e r d s : ℕ) → e < c.epochs → r < c.rounds → (d == e) ≡ true → (s == r) ≡ true → (nat_lt d c.epochs && nat_lt s c.rounds) ≡ true
in_run c e r d s epoch round same_epoch same_round =
    let epochs : d ≡ e = eqb-true d e same_epoch in
    let rounds : s ≡ r = eqb-true s r same_round in
    and_from (nat_lt d c.epochs) (nat_lt s c.rounds) (lt-ltb d c.epochs (omega (arith, epochs, epoch))) (lt-ltb s c.rounds (omega (arith, rounds, round)))

-- so it is with what passes these tests, and one more
in_run_and : (c : Numbers) (e r d s : ℕ) (rest : Bool) → e < c.epochs → r < c.rounds → ((d == e) && ((s == r) && rest)) ≡ true
    → (nat_lt d c.epochs && nat_lt s c.rounds) ≡ true
in_run_and c e r d s rest epoch round h =
    let outer = and_parts (d == e) ((s == r) && rest) h in
    in_run c e r d s epoch round outer.0 (and_parts (s == r) rest outer.1).0

-- what makes a claim goes to all nodes, and the lanes of its number take heed of it
claim_for_lanes : (c : Numbers) (j e : ℕ) (claim : Claim) → j < c.n → e < c.epochs → round_in claim < c.rounds → AreForLanes c j (makes e claim)
claim_for_lanes c j e claim lane epoch round = record { each = λ vote h. each claim vote round h }
  where
    each : (claim : Claim) (vote : Vote) → round_in claim < c.rounds → makes e claim vote ≡ true → IsForLanes c j vote
    each (bvals r b) (Bval d s bit) round h = record {
      all = refl;
      heeded = λ i a y. lt-ltb j c.n lane;
      within = in_run_and c e r d s (same_bit bit b) epoch round h;
    }
    each (bvals r b) vote round h = absurd (cc (h))
    each (auxes r b) (Aux d s bit) round h = record {
      all = refl;
      heeded = λ i a y. lt-ltb j c.n lane;
      within = in_run_and c e r d s (same_bit bit b) epoch round h;
    }
    each (auxes r b) vote round h = absurd (cc (h))
    each (any_auxes r) (Aux d s bit) round h =
        let parts = and_parts (d == e) (s == r) h in
        record { all = refl; heeded = λ i a y. lt-ltb j c.n lane; within = in_run c e r d s epoch round parts.0 parts.1 }
    each (any_auxes r) vote round h = absurd (cc (h))
    each (confs r b) (Conf d s vals) round h = record {
      all = refl;
      heeded = λ i a y. lt-ltb j c.n lane;
      within = in_run_and c e r d s (same_vals vals (single b)) epoch round h;
    }
    each (confs r b) vote round h = absurd (cc (h))
    each (any_confs r) (Conf d s vals) round h =
        let parts = and_parts (d == e) (s == r) h in
        record { all = refl; heeded = λ i a y. lt-ltb j c.n lane; within = in_run c e r d s epoch round parts.0 parts.1 }
    each (any_confs r) vote round h = absurd (cc (h))
    each (confs_with r b) (Conf d s vals) round h = record {
      all = refl;
      heeded = λ i a y. lt-ltb j c.n lane;
      within = in_run_and c e r d s (has_bit b vals) epoch round h;
    }
    each (confs_with r b) vote round h = absurd (cc (h))

-- a claim of a running node is heard by each
claim_heard : (q : QuietAgreement) (claim : Claim) (i a : ℕ) → round_in claim < q.c.rounds → q.runs i ≡ true → q.runs a ≡ true → said q claim a ≡ true
    → heard_by (q.heard i) a (makes q.e claim) ≡ true
claim_heard q claim i a round runs speaks h =
    said_heard q.c q.j q.history q.runs q.heard i a (makes q.e claim) q.lane runs speaks (claim_for_lanes q.c q.j q.e claim q.lane.lane q.epoch round) h

-- so is its share of a coin
pub share_heard : (q : QuietAgreement) (i a r share : ℕ) (salt : List ℕ) (branch : Branch) → r < q.c.rounds → q.runs i ≡ true → q.runs a ≡ true
    → Contains (own q a) (Coin q.e r share salt branch) → Contains (q.heard i) (hearing a (Coin q.e r share salt branch))
share_heard q i a r share salt branch round runs speaks stands =
    cast_heard q.c q.j q.history q.runs q.heard i a q.j (Coin q.e r share salt branch) q.lane runs speaks (eq-eqb q.j q.j refl) (lt-ltb q.j q.c.n q.lane.lane)
    (in_run q.c q.e r q.e r q.epoch round (eq-eqb q.e q.e refl) (eq-eqb r r refl)) stands

-- ---- how many make a claim

-- the running nodes that have made a claim are heard by each
pub speakers_heard : (q : QuietAgreement) (claim : Claim) (i : ℕ) → round_in claim < q.c.rounds → q.runs i ≡ true
    → speakers q claim ≤ support_at q claim i
speakers_heard q claim i round runs =
    count_nodes-mono q.c.n (λ a. said q claim a && q.runs a) (λ a. heard_by (q.heard i) a (makes q.e claim))
    (λ a below h. let parts = and_parts (said q claim a) (q.runs a) h in claim_heard q claim i a round runs parts.1 parts.0)

-- at most f of the nodes that have made a claim do not run
pub speakers_run : (q : QuietAgreement) (claim : Claim) → count_shown q.c.n (said_in q.c q.j q.history) (makes q.e claim) ≤ speakers q claim + q.c.f
speakers_run q claim = omega (arith, count_nodes-and q.c.n (λ a. said q claim a) q.runs, q.lane.many, q.lane.sound.enough)

-- where all running nodes have made it, n - f nodes are heard to make it
pub each_heard : (q : QuietAgreement) (claim : Claim) (i : ℕ) → round_in claim < q.c.rounds → q.runs i ≡ true
    → ((a : ℕ) → q.runs a ≡ true → said q claim a ≡ true)
    → q.c.n - q.c.f ≤ support_at q claim i
each_heard q claim i round runs each =
    all_heard q.c q.j q.history q.runs q.heard i (λ a. makes q.e claim) q.lane runs
    (λ a. claim_for_lanes q.c q.j q.e claim q.lane.lane q.epoch round) each

-- one running node that has made it is heard to make it
pub one_heard : (q : QuietAgreement) (claim : Claim) (i a : ℕ) → round_in claim < q.c.rounds → q.runs i ≡ true → q.runs a ≡ true → said q claim a ≡ true
    → 1 ≤ support_at q claim i
one_heard q claim i a round runs speaks h =
    omega (
      arith,
      count_nodes-without q.c.n (λ a. heard_by (q.heard i) a (makes q.e claim)) a (q.lane.correct a speaks).known
          (claim_heard q claim i a round runs speaks h),
    )

-- of more than f nodes that are heard to make a claim one is correct, and has made it
pub correct_claim : (q : QuietAgreement) (claim : Claim) (i : ℕ) → q.runs i ≡ true → q.c.f + 1 ≤ support_at q claim i
    → (a : ℕ) × IsCorrect q.c a × (said q claim a ≡ true)
correct_claim q claim i runs many =
    let posted : support_at q claim i ≤ count_shown q.c.n (said_in q.c q.j q.history) (makes q.e claim) =
    count_nodes-mono q.c.n (λ a. heard_by (q.heard i) a (makes q.e claim)) (λ a. said q claim a)
    (λ a below h. (heard_said q.c q.j q.history q.runs q.heard i q.lane runs).grows a (makes q.e claim) (makes-away q.e claim) h) in
    let found = correct_said q.c q.j q.history (λ a. makes q.e claim) q.lane.sound (omega (arith, many, posted)) in
    (found.0, record { known = found.1.known; honest = found.1.correct }, found.1.said)

-- ---- all running nodes, or one way out

each_below : (n : ℕ) (P : ℕ → Type 0) (Out : Type 0) → ((i : ℕ) → i < n → P i ⊎ Out) → ((i : ℕ) → i < n → P i) ⊎ Out
each_below zero P Out either = inl (λ i below. absurd (omega arith))
each_below (suc n) P Out either = elim (each_below n P Out (λ i below. either i (omega arith))) [
  | inl before ↦ elim (either n (omega arith)) [
    | inl here ↦ inl (λ i below. elim (cases_eq i n) [
      | inl same ↦ subst P (sym same) here
      | inr other ↦ before i (omega (arith, below, other))
    ])
    | inr out ↦ inr out
  ]
  | inr out ↦ inr out
]

-- where it is so of each running node, or there is a way out, it is so of all, or there is the way out
pub each_or : (q : QuietAgreement) (P : ℕ → Type 0) (Out : Type 0) → ((i : ℕ) → q.runs i ≡ true → P i ⊎ Out)
    → ((i : ℕ) → q.runs i ≡ true → P i) ⊎ Out
each_or q P Out either = elim (each_below q.c.n (λ i. q.runs i ≡ true → P i) Out (λ i below. by i (q.runs i) refl)) [
  | inl all ↦ inl (λ i runs. all i (q.lane.correct i runs).known runs)
  | inr out ↦ inr out
]
  where
    by : (i : ℕ) (b : Bool) → q.runs i ≡ b → (q.runs i ≡ true → P i) ⊎ Out
    by i false stopped = inl (λ runs. absurd (cc (stopped, runs)))
    by i true runs = elim (either i runs) [
      | inl holds ↦ inl (λ again. holds)
      | inr out ↦ inr out
    ]
