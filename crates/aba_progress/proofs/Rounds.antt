-- One round of an agreement in a calm run: where all running nodes have entered it, all pick what is left of it.
use Rattle.std.proofs.Common.{◌≡◌, ℕ, ◌+◌, ◌-◌, ◌*◌, ◌<◌, ◌≤◌, ◌⊎◌, ◌&&◌, not, Bool, true, false, inl, inr, Contains, refl, subst, arith}
use Rattle.std.proofs.lemmas.Bool.{and_parts, and_from, cases_lt, leb-true, le-leb}
use Rattle.hb_base.specs.Counting.{count_nodes}
use Rattle.hb_wire.specs.declared.vote.Vals.{Vals}
use Rattle.hb_wire.specs.declared.vote.Vote.{Vote}
use Rattle.hb_wire.specs.declared.vote.Vote.TheVariants.{Aux, Conf}
use Rattle.hb_rules.specs.Agreement.{confirms}
use Rattle.hb_rules.specs.AgreementRows.{is_supported, has_quorum, is_made, is_left_one, is_left_both}
use Rattle.hb_rules.specs.Ledger.{IsCorrect}
use Rattle.hb_rules.specs.Marks.{single, any_est, any_aux, any_conf, any_pick, Claim, bvals, auxes, any_auxes, confs, any_confs, confs_with, makes}
use Rattle.hb_rules.proofs.Among.{any_stands}
use Rattle.hb_rules.proofs.Counts.{count_nodes-mono, count_nodes-less}
use Rattle.hb_rules.proofs.Lists.{list_any-from}
use Rattle.aba_world.specs.Backing.{supporters}
use Rattle.aba_world.proofs.Stood.{single-has, aux_supported, conf_supported}
use Rattle.aba_progress.proofs.Running.{QuietAgreement, own, view, cast, EachCast, said, support_at, speakers, round_in, speakers_heard, speakers_run, each_heard, one_heard, correct_claim, each_or}
use Rattle.aba_progress.proofs.Filled.{supports_own, supports_others, accepts, confirms_one, confirms_both, picks_one, picks_both}
use Rattle.aba_world.proofs.Votes.{aux-is, conf-is}
use Rattle.aba_progress.proofs.Marked.{has_or_other, bit_or_other, has_vote, est_bit, aux-marked, any_aux-is, conf-marked, conf_with-is, conf_with-marked, any_conf-is}

-- ---- supported bits

-- each running node has 2f + 1 supporters of the bit
abbrev pub IsSupported : QuietAgreement → ℕ → Bool → Type 0
IsSupported q r b = (i : ℕ) → q.runs i ≡ true → 2 * q.c.f + 1 ≤ support_at q (bvals r b) i

-- what f + 1 running nodes support, all do
spreads : (q : QuietAgreement) (r : ℕ) (b : Bool) → r < q.c.rounds → EachCast q (any_est r) → q.c.f + 1 ≤ speakers q (bvals r b) → IsSupported q r b
spreads q r b round entered many i runs =
    let each : (a : ℕ) → q.runs a ≡ true → said q (bvals r b) a ≡ true = λ a speaks.
    supports_others q a r b speaks round (entered a speaks) (omega (arith, many, speakers_heard q (bvals r b) a round speaks)) in
    omega (arith, each_heard q (bvals r b) i round runs each, q.lane.sound.enough)

-- so do all what 2f + 1 nodes support, of which f may not run
backed_spreads : (q : QuietAgreement) (r : ℕ) (b : Bool) → r < q.c.rounds → EachCast q (any_est r)
    → 2 * q.c.f + 1 ≤ supporters q.c q.history q.j q.e r b
    → IsSupported q r b
backed_spreads q r b round entered backed = spreads q r b round entered (omega (arith, backed, speakers_run q (bvals r b)))

-- some bit is the estimate of f + 1 running nodes
some_supported : (q : QuietAgreement) (r : ℕ) → r < q.c.rounds → EachCast q (any_est r) → (b : Bool) × IsSupported q r b
some_supported q r round entered = elim (cases_lt q.c.f (speakers q (bvals r false))) [
  | inl many ↦ (false, spreads q r false round entered (omega (arith, many)))
  | inr few ↦ (
    true,
    spreads q r true round entered
        (omega (arith, few, less, more, q.lane.many, q.lane.sound.enough)),
  )
]
  where
    others : (a : ℕ) → (q.runs a && not (said q (bvals r false) a && q.runs a)) ≡ true → (said q (bvals r true) a && q.runs a) ≡ true
    others a h =
        let parts = and_parts (q.runs a) (not (said q (bvals r false) a && q.runs a)) h in
        let estimate = est_bit q.e r (own q a) (entered a parts.0) in
        by estimate.0 (supports_own q a r estimate.0 parts.0 round estimate.1) parts.0 parts.1
      where
        by : (b : Bool) → said q (bvals r b) a ≡ true → q.runs a ≡ true → not (said q (bvals r false) a && q.runs a) ≡ true
            → (said q (bvals r true) a && q.runs a) ≡ true
        by true supports runs other = and_from (said q (bvals r true) a) (q.runs a) supports runs
        by false supports runs other =
            let both : (said q (bvals r false) a && q.runs a) ≡ true = and_from (said q (bvals r false) a) (q.runs a) supports runs in
            absurd (cc (rw both at other))

    less : count_nodes q.c.n q.runs ≤ count_nodes q.c.n (λ a. q.runs a && not (said q (bvals r false) a && q.runs a)) + speakers q (bvals r false)
    less = count_nodes-less q.c.n q.runs (λ a. said q (bvals r false) a && q.runs a)

    more : count_nodes q.c.n (λ a. q.runs a && not (said q (bvals r false) a && q.runs a)) ≤ speakers q (bvals r true)
    more =
        count_nodes-mono q.c.n (λ a. q.runs a && not (said q (bvals r false) a && q.runs a)) (λ a. said q (bvals r true) a && q.runs a)
        (λ a below h. others a h)

-- ---- a phase of a round, in which each node says which bits are left

-- All running nodes have said it, in a round that the run has. `alone` is the claim that a bit is left alone, `among` that it is left, `any` that some are. What
-- a correct node says is left has 2f + 1 supporters.
record IsPhase (q : QuietAgreement) (r : ℕ) (alone : Bool → Claim) (any : Claim) (among : Bool → Claim) : Type 0 where
  alone_known : (b : Bool) → round_in (alone b) < q.c.rounds
  any_known : round_in any < q.c.rounds
  among_known : (b : Bool) → round_in (among b) < q.c.rounds
  each : (a : ℕ) → q.runs a ≡ true → said q any a ≡ true
  either : (a : ℕ) (b : Bool) → q.runs a ≡ true → (said q (among b) a ≡ true) ⊎ (said q (alone (not b)) a ≡ true)
  alone_backed : (a : ℕ) (b : Bool) → IsCorrect q.c a → said q (alone b) a ≡ true → 2 * q.c.f + 1 ≤ supporters q.c q.history q.j q.e r b
  among_backed : (a : ℕ) (b : Bool) → IsCorrect q.c a → said q (among b) a ≡ true → 2 * q.c.f + 1 ≤ supporters q.c q.history q.j q.e r b

-- the bit is left alone at node i
record IsLeftAlone (q : QuietAgreement) (i r : ℕ) (alone : Bool → Claim) (b : Bool) : Type 0 where
  supported : is_supported q.c (view q i) r b ≡ true
  quorum : has_quorum q.c (view q i) (alone b) ≡ true

-- both bits are left there, and neither alone
record AreBothLeft (q : QuietAgreement) (i r : ℕ) (alone : Bool → Claim) (any : Claim) (among : Bool → Claim) : Type 0 where
  supported : (b : Bool) → is_supported q.c (view q i) r b ≡ true
  made : (b : Bool) → is_made (view q i) (among b) ≡ true
  quorum : has_quorum q.c (view q i) any ≡ true
  neither : (b : Bool) → has_quorum q.c (view q i) (alone b) ≡ false

-- a running node whose set has the bit
record HasAmong (q : QuietAgreement) (claim : Claim) : Type 0 where
  node : ℕ
  runs : q.runs node ≡ true
  said : said q claim node ≡ true

quorum_from : (q : QuietAgreement) (i : ℕ) (claim : Claim) → round_in claim < q.c.rounds → q.runs i ≡ true → ((a : ℕ) → q.runs a ≡ true → said q claim a ≡ true)
    → has_quorum q.c (view q i) claim ≡ true
quorum_from q i claim round runs each = le-leb (q.c.n - q.c.f) (support_at q claim i) (each_heard q claim i round runs each)

supported_from : (q : QuietAgreement) (i r : ℕ) (b : Bool) → q.runs i ≡ true → IsSupported q r b → is_supported q.c (view q i) r b ≡ true
supported_from q i r b runs supported = le-leb (2 * q.c.f + 1) (support_at q (bvals r b) i) (supported i runs)

-- unless the other bit is left alone, a running node's set has this one
some_among : (q : QuietAgreement) (i r : ℕ) (alone : Bool → Claim) (any : Claim) (among : Bool → Claim) (b : Bool) → IsPhase q r alone any among
    → q.runs i ≡ true → has_quorum q.c (view q i) (alone (not b)) ≡ false → HasAmong q (among b)
some_among q i r alone any among b phase runs other =
    elim (each_or q (λ a. said q (alone (not b)) a ≡ true) (HasAmong q (among b)) (λ a speaks. elim (phase.either a b speaks) [
      | inl has ↦ inr (record { node = a; runs = speaks; said = has })
      | inr lacks ↦ inl lacks
    ])) [
      | inl all ↦ let quorum = quorum_from q i (alone (not b)) (phase.alone_known (not b)) runs all in absurd (cc (other, quorum))
      | inr found ↦ found
    ]

-- at each running node one bit is left, or both are
left_in_phase : (q : QuietAgreement) (i r : ℕ) (alone : Bool → Claim) (any : Claim) (among : Bool → Claim) → IsPhase q r alone any among
    → r < q.c.rounds → EachCast q (any_est r) → q.runs i ≡ true
    → ((b : Bool) × IsLeftAlone q i r alone b) ⊎ AreBothLeft q i r alone any among
left_in_phase q i r alone any among phase round entered runs =
    by (has_quorum q.c (view q i) (alone false)) (has_quorum q.c (view q i) (alone true)) refl refl
  where
    one : (b : Bool) → has_quorum q.c (view q i) (alone b) ≡ true → IsLeftAlone q i r alone b
    one b quorum =
        let many : q.c.n - q.c.f ≤ support_at q (alone b) i = leb-true (q.c.n - q.c.f) (support_at q (alone b) i) quorum in
        let found = correct_claim q (alone b) i runs (omega (arith, many, q.lane.sound.enough)) in
        record {
          supported = supported_from q i r b runs (backed_spreads q r b round entered (phase.alone_backed found.0 b found.1 found.2));
          quorum = quorum;
        }

    both : ((b : Bool) → has_quorum q.c (view q i) (alone b) ≡ false) → AreBothLeft q i r alone any among
    both neither =
        let found : (b : Bool) → HasAmong q (among b) = λ b. some_among q i r alone any among b phase runs (neither (not b)) in
        record {
          supported = λ b.
              supported_from q i r b runs
              (backed_spreads q r b round entered (phase.among_backed (found b).node b (q.lane.correct (found b).node (found b).runs) (found b).said));
          made = λ b.
              le-leb 1 (support_at q (among b) i) (one_heard q (among b) i (found b).node (phase.among_known b) runs (found b).runs (found b).said);
          quorum = quorum_from q i any phase.any_known runs phase.each;
          neither = neither;
        }

    each_bit : has_quorum q.c (view q i) (alone false) ≡ false → has_quorum q.c (view q i) (alone true) ≡ false
        → (b : Bool) → has_quorum q.c (view q i) (alone b) ≡ false
    each_bit low high false = low
    each_bit low high true = high

    by : (low high : Bool) → has_quorum q.c (view q i) (alone false) ≡ low → has_quorum q.c (view q i) (alone true) ≡ high
        → ((b : Bool) × IsLeftAlone q i r alone b) ⊎ AreBothLeft q i r alone any among
    by true high is_low is_high = inl (false, one false is_low)
    by false true is_low is_high = inl (true, one true is_high)
    by false false is_low is_high = inr (both (each_bit is_low is_high))

-- ---- the phase of Aux, and that of Conf

aux_said : (q : QuietAgreement) (a r : ℕ) (b : Bool) → Contains (own q a) (Aux q.e r b) → said q (auxes r b) a ≡ true
aux_said q a r b stands = list_any-from (makes q.e (auxes r b)) (own q a) (Aux q.e r b) stands (aux-marked q.e r b)

aux_phase : (q : QuietAgreement) (r : ℕ) → r < q.c.rounds → EachCast q (any_aux r) → IsPhase q r (auxes r) (any_auxes r) (auxes r)
aux_phase q r round accepted = record {
  alone_known = λ b. round;
  any_known = round;
  among_known = λ b. round;
  each = accepted;
  either = λ a b runs.
      let has = has_vote (makes q.e (any_auxes r)) (Aux q.e r) (own q a) (any_aux-is q.e r) (accepted a runs) in
      elim (bit_or_other b has.what) [
        | inl same ↦ inl (aux_said q a r b (subst (λ (d : Bool). Contains (own q a) (Aux q.e r d)) same has.stands))
        | inr other ↦ inr (aux_said q a r (not b) (subst (λ (d : Bool). Contains (own q a) (Aux q.e r d)) other has.stands))
      ];
  alone_backed = backed;
  among_backed = backed;
}
  where
    backed : (a : ℕ) (b : Bool) → IsCorrect q.c a → said q (auxes r b) a ≡ true → 2 * q.c.f + 1 ≤ supporters q.c q.history q.j q.e r b
    backed a b correct h =
        let found = any_stands (makes q.e (auxes r b)) (own q a) h in
        aux_supported q.c q.j q.e r a b q.history q.lane.legal correct.honest
        (subst (λ (vote : Vote). Contains (own q a) vote) (aux-is q.e r b found.0 found.2) found.1)

conf_phase : (q : QuietAgreement) (r : ℕ) → r < q.c.rounds → EachCast q (any_conf r) → IsPhase q r (confs r) (any_confs r) (confs_with r)
conf_phase q r round confirmed = record {
  alone_known = λ b. round;
  any_known = round;
  among_known = λ b. round;
  each = confirmed;
  either = λ a b runs.
      let has = has_vote (makes q.e (any_confs r)) (Conf q.e r) (own q a) (any_conf-is q.e r) (confirmed a runs) in
      elim (has_or_other b has.what) [
        | inl among ↦ inl (list_any-from (makes q.e (confs_with r b)) (own q a) (Conf q.e r has.what) has.stands (conf_with-marked q.e r b has.what among))
        | inr other ↦
            inr (list_any-from (makes q.e (confs r (not b))) (own q a) (Conf q.e r (single (not b)))
            (subst (λ (vals : Vals). Contains (own q a) (Conf q.e r vals)) other has.stands) (conf-marked q.e r (single (not b))))
      ];
  alone_backed = λ a b correct h.
      let found = any_stands (makes q.e (confs r b)) (own q a) h in
      conf_supported q.c q.j q.e r a (single b) b q.history q.lane.legal correct.honest
      (subst (λ (vote : Vote). Contains (own q a) vote) (conf-is q.e r (single b) found.0 found.2) found.1) (single-has b);
  among_backed = λ a b correct h.
      let found = any_stands (makes q.e (confs_with r b)) (own q a) h in
      let with = conf_with-is q.e r b found.0 found.2 in
      conf_supported q.c q.j q.e r a with.vals b q.history q.lane.legal correct.honest
      (subst (λ (vote : Vote). Contains (own q a) vote) with.is found.1) with.among;
}

-- ---- what is picked

three : (x y z : Bool) → x ≡ true → y ≡ true → z ≡ true → (x && (y && z)) ≡ true
three x y z one two last = rw (one, two, last) refl

gathered_both : (entered low high zero one any zero_alone one_alone : Bool) → entered ≡ true → low ≡ true → high ≡ true → zero ≡ true → one ≡ true
    → any ≡ true → zero_alone ≡ false → one_alone ≡ false
    → (entered && ((low && high) && ((zero && one) && (any && (not zero_alone && not one_alone))))) ≡ true
gathered_both entered low high zero one any zero_alone one_alone a b c d e f g h = rw (a, b, c, d, e, f, g, h) refl

confirmed_both : (entered low high zero one any zero_alone one_alone : Bool) → entered ≡ true → low ≡ true → high ≡ true → zero ≡ true → one ≡ true
    → any ≡ true → zero_alone ≡ false → one_alone ≡ false
    → (entered && ((low && high) && (any && ((zero && one) && (not zero_alone && not one_alone))))) ≡ true
confirmed_both entered low high zero one any zero_alone one_alone a b c d e f g h = rw (a, b, c, d, e, f, g, h) refl

-- one bit, or both, by this version of the rules
abbrev IsLeft : QuietAgreement → ℕ → ℕ → Bool → Type 0
IsLeft q i r confirm =
    ((b : Bool) × (is_left_one confirm q.c (view q i) r b ≡ true)) ⊎ (is_left_both confirm q.c (view q i) r ≡ true)

left_gathered : (q : QuietAgreement) (i r : ℕ) → r < q.c.rounds → EachCast q (any_est r) → EachCast q (any_aux r) → q.runs i ≡ true → IsLeft q i r false
left_gathered q i r round entered accepted runs =
    let v = view q i in
    elim (left_in_phase q i r (auxes r) (any_auxes r) (auxes r) (aux_phase q r round accepted) round entered runs) as (λ _. IsLeft q i r false) [
      | inl left ↦ inl (
        left.0,
        three (cast q (any_aux r) i) (is_supported q.c v r left.0) (has_quorum q.c v (auxes r left.0)) (accepted i runs) left.1.supported left.1.quorum,
      )
      | inr left ↦ inr (
          gathered_both (cast q (any_aux r) i) (is_supported q.c v r false) (is_supported q.c v r true) (is_made v (auxes r false)) (is_made v (auxes r true))
          (has_quorum q.c v (any_auxes r)) (has_quorum q.c v (auxes r false)) (has_quorum q.c v (auxes r true))
          (accepted i runs) (left.supported false) (left.supported true) (left.made false) (left.made true) left.quorum (left.neither false) (left.neither true)
          )
    ]

left_confirmed : (q : QuietAgreement) (i r : ℕ) → r < q.c.rounds → EachCast q (any_est r) → EachCast q (any_conf r) → q.runs i ≡ true → IsLeft q i r true
left_confirmed q i r round entered confirmed runs =
    let v = view q i in
    elim (left_in_phase q i r (confs r) (any_confs r) (confs_with r) (conf_phase q r round confirmed) round entered runs) as (λ _. IsLeft q i r true) [
      | inl left ↦ inl (
        left.0,
        three (cast q (any_conf r) i) (is_supported q.c v r left.0) (has_quorum q.c v (confs r left.0)) (confirmed i runs) left.1.supported left.1.quorum,
      )
      | inr left ↦ inr (
          confirmed_both (cast q (any_conf r) i) (is_supported q.c v r false) (is_supported q.c v r true) (is_made v (confs_with r false))
          (is_made v (confs_with r true)) (has_quorum q.c v (any_confs r)) (has_quorum q.c v (confs r false)) (has_quorum q.c v (confs r true))
          (confirmed i runs) (left.supported false) (left.supported true) (left.made false) (left.made true) left.quorum (left.neither false) (left.neither true)
          )
    ]

-- all running nodes accept a bit
all_accept : (q : QuietAgreement) (r : ℕ) → r < q.c.rounds → EachCast q (any_est r) → EachCast q (any_aux r)
all_accept q r round entered i runs =
    let some = some_supported q r round entered in
    accepts q i r some.0 runs round (entered i runs) (some.1 i runs)

-- in the confirm phase all say with what they are left
all_confirm : (q : QuietAgreement) (r : ℕ) → confirms q.c ≡ true → r < q.c.rounds → EachCast q (any_est r) → EachCast q (any_conf r)
all_confirm q r confirming round entered i runs = elim (left_gathered q i r round entered (all_accept q r round entered) runs) [
  | inl one ↦ confirms_one q i r one.0 runs round confirming one.1
  | inr both ↦ confirms_both q i r runs round confirming both
]

left_after : (q : QuietAgreement) (i r : ℕ) (confirm : Bool) → confirms q.c ≡ confirm → r < q.c.rounds → EachCast q (any_est r) → q.runs i ≡ true
    → IsLeft q i r confirm
left_after q i r false is round entered runs = left_gathered q i r round entered (all_accept q r round entered) runs
left_after q i r true is round entered runs = left_confirmed q i r round entered (all_confirm q r is round entered) runs

-- all pick
pub all_pick : (q : QuietAgreement) (r : ℕ) → r < q.c.rounds → EachCast q (any_est r) → EachCast q (any_pick r)
all_pick q r round entered i runs = elim (left_after q i r (confirms q.c) refl round entered runs) [
  | inl one ↦ picks_one q i r one.0 runs round one.1
  | inr both ↦ picks_both q i r runs round both
]
