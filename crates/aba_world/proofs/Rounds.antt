-- What correct nodes estimate, round after round: a bit that more than f nodes support was a correct node's estimate, in one
-- round correct nodes are left with one bit alone, and once a bit is settled all later estimates are it.
use Rattle.std.proofs.Common.{◌≡◌, ℕ, zero, suc, ◌+◌, ◌≤◌, Bool, false, inl, inr, List, [], ◌∷◌, ◌++◌, Contains, refl, ◌∙◌, subst, arith}
use Rattle.std.proofs.lemmas.Bool.{cases_lt}
use Rattle.hb_base.specs.Numbers.{Numbers, AreSound}
use Rattle.hb_base.specs.NodeSet.{is_in}
use Rattle.coin_deal.specs.Deal.{dealt_coin}
use Rattle.hb_wire.specs.declared.vote.Vals.TheVariants.{Both}
use Rattle.hb_wire.specs.declared.vote.Vote.TheVariants.{Est, Bval, Pick}
use Rattle.hb_wire.specs.declared.post.Post.{Post}
use Rattle.hb_rules.specs.Hearing.{heard_in, own_in}
use Rattle.hb_rules.specs.Marks.{single, est, bvals, bears, makes}
use Rattle.hb_rules.specs.Agreement.{confirms}
use Rattle.hb_rules.specs.Rules.{MayCast}
use Rattle.hb_rules.specs.History.{MayFollow, IsLegal}
use Rattle.hb_rules.specs.Ledger.{IsCorrect}
use Rattle.hb_rules.specs.Strings.{NoCollision}
use Rattle.hb_rules.proofs.Addressed.{AreAddressed, addressed_induction}
use Rattle.hb_rules.proofs.Cast.{newly_cast, cast_stays}
use Rattle.hb_rules.proofs.Said.{correct_said, both_said}
use Rattle.aba_world.specs.Agreed.{HasEstimate}
use Rattle.aba_world.specs.Backing.{supporters}
use Rattle.aba_world.proofs.Votes.{est-is, bval-is, found_vote, ballots, one_ballot}
use Rattle.aba_world.proofs.Stood.{heard_support, single-has, pick_supported, pick_balloted, had_dealt, went_on}

-- ---- what correct nodes support is an estimate

-- each bit that a correct node supports in the agreements of this lane and epoch was a correct node's estimate
record AreEstimates (c : Numbers) (j e : ℕ) (history : List Post) : Type 0 where
  bvals : (r i : ℕ) (b : Bool) → IsCorrect c i → Contains (own_in c i j history) (Bval e r b) → HasEstimate c history j e r b

estimate_stays : (c : Numbers) (j e r : ℕ) (b : Bool) (history more : List Post) → HasEstimate c history j e r b
    → HasEstimate c (history ++ more) j e r b
estimate_stays c j e r b history more had = record {
  node = had.node;
  correct = had.correct;
  cast = cast_stays c had.node j history more (Est e r b) had.cast;
}

-- of more than f nodes that support a bit one is correct
supported_by : (c : Numbers) (j e r : ℕ) (b : Bool) (history : List Post) → AreSound c → AreEstimates c j e history
    → c.f + 1 ≤ supporters c history j e r b → HasEstimate c history j e r b
supported_by c j e r b history sound are many =
    let found = correct_said c j history (λ a. makes e (bvals r b)) sound many in
    are.bvals r found.0 b (record { known = found.1.known; honest = found.1.correct })
    (found_vote (own_in c found.0 j history) (makes e (bvals r b)) (Bval e r b) (bval-is e r b) found.1.said)

bval_source : (c : Numbers) (j e r i : ℕ) (b : Bool) (history : List Post) → AreSound c → AreAddressed c history → AreEstimates c j e history
    → IsCorrect c i → MayCast c i j (own_in c i j history) (heard_in c i j history) (Bval e r b) → HasEstimate c history j e r b
bval_source c j e r i b history sound addressed are correct (inr may) = absurd may.1
bval_source c j e r i b history sound addressed are correct (inl may) = elim may.1.1 [
  | inl own ↦ record {
    node = i;
    correct = correct;
    cast = found_vote (own_in c i j history) (bears e (est r b)) (Est e r b) (est-is e r b) own;
  }
  | inr others ↦
      supported_by c j e r b history sound are
      (omega (arith, others.1, heard_support c i j e history (bvals r b) addressed may.0 correct.honest))
]

estimates_push : (c : Numbers) (j e : ℕ) → AreSound c → (history : List Post) (post : Post) → AreAddressed c history → AreEstimates c j e history
    → MayFollow c history post
    → AreEstimates c j e (history ++ post ∷ [])
estimates_push c j e sound history post addressed are follows = record {
  bvals = λ r i b correct h.
      estimate_stays c j e r b history (post ∷ []) (elim (newly_cast c i j history post (Bval e r b) correct.honest follows h) [
        | inl before ↦ are.bvals r i b correct before
        | inr new ↦ bval_source c j e r i b history sound addressed are correct new.may
      ]);
}

are_estimates : (c : Numbers) (j e : ℕ) → AreSound c → (history : List Post) → IsLegal c history → AreEstimates c j e history
are_estimates c j e sound history legal =
    addressed_induction c (AreEstimates c j e) (record { bvals = λ r i b correct h. absurd (omega (arith, h.1)) })
    (λ before post addressed are follows. estimates_push c j e sound before post addressed are follows) history legal

pub bval_estimate : (c : Numbers) (j e r i : ℕ) (b : Bool) (history : List Post) → AreSound c → IsLegal c history → IsCorrect c i
    → Contains (own_in c i j history) (Bval e r b) → HasEstimate c history j e r b
bval_estimate c j e r i b history sound legal correct h = (are_estimates c j e sound history legal).bvals r i b correct h

pub supported_estimate : (c : Numbers) (j e r : ℕ) (b : Bool) (history : List Post) → AreSound c → IsLegal c history
    → c.f + 1 ≤ supporters c history j e r b → HasEstimate c history j e r b
supported_estimate c j e r b history sound legal many = supported_by c j e r b history sound (are_estimates c j e sound history legal) many

pub pick_estimate : (c : Numbers) (j e r i : ℕ) (b : Bool) (history : List Post) → AreSound c → IsLegal c history → IsCorrect c i
    → Contains (own_in c i j history) (Pick e r (single b)) → HasEstimate c history j e r b
pick_estimate c j e r i b history sound legal correct h =
    supported_estimate c j e r b history sound legal
    (omega (arith, pick_supported c j e r i (single b) b history legal correct.honest h (single-has b)))

-- ---- from a round to the one before

-- an estimate of a round was one of the round before
back_one : (c : Numbers) (j e r : ℕ) (b : Bool) (history : List Post) → AreSound c → IsLegal c history → HasEstimate c history j e (suc r) b
    → HasEstimate c history j e r b
back_one c j e r b history sound legal had =
    let on = went_on c j e r had.node b history legal had.correct.honest had.cast in
    elim on.picked [
      | inl alone ↦ pick_estimate c j e r had.node b history sound legal had.correct alone
      | inr both ↦
          supported_estimate c j e r b history sound legal
          (omega (arith, pick_supported c j e r had.node Both b history legal had.correct.honest both.0 refl))
    ]

pub began : (c : Numbers) (j e r : ℕ) (b : Bool) (history : List Post) → AreSound c → IsLegal c history → HasEstimate c history j e r b
    → HasEstimate c history j e 0 b
began c j e zero b history sound legal had = had
began c j e (suc r) b history sound legal had = began c j e r b history sound legal (back_one c j e r b history sound legal had)

-- ---- one bit alone

pub one_single : (c : Numbers) (j e r i m : ℕ) (b d : Bool) (history : List Post) → AreSound c → IsLegal c history → is_in c.liars i ≡ false
    → is_in c.liars m ≡ false → Contains (own_in c i j history) (Pick e r (single b)) → Contains (own_in c m j history) (Pick e r (single d))
    → b ≡ d
one_single c j e r i m b d history sound legal correct also first second =
    let found =
    both_said c j history (λ a. makes e (ballots (confirms c) r b)) (λ a. makes e (ballots (confirms c) r d)) sound
    (omega (arith, pick_balloted c j e r i b history legal correct first, pick_balloted c j e r m d history legal also second, sound.enough)) in
    one_ballot (confirms c) c found.0 j e r b d found.1.correct history legal found.1.said found.2.said

-- ---- locked

-- all estimates of correct nodes in a round are one bit
pub record IsLocked (c : Numbers) (history : List Post) (j e r : ℕ) (b : Bool) : Type 0 where
  pub one : (d : Bool) → HasEstimate c history j e r d → d ≡ b

-- a settled bit is locked in the next round
pub locked_from : (c : Numbers) (j e r i : ℕ) (b : Bool) (history : List Post) → AreSound c → IsLegal c history → NoCollision c history
    → is_in c.liars i ≡ false → Contains (own_in c i j history) (Pick e r (single b)) → dealt_coin c e j r ≡ b
    → IsLocked c history j e (suc r) b
locked_from c j e r i b history sound legal premise correct picked coin = record {
  one = λ d had.
      let on = went_on c j e r had.node d history legal had.correct.honest had.cast in
      elim on.picked [
        | inl alone ↦ one_single c j e r had.node i d b history sound legal had.correct.honest correct alone picked
        | inr both ↦ had_dealt c history j e r had.node d sound had.correct premise both.1 ∙ coin
      ];
}

locked_after : (c : Numbers) (j e r : ℕ) (b : Bool) (history : List Post) → AreSound c → IsLegal c history → IsLocked c history j e r b
    → IsLocked c history j e (suc r) b
locked_after c j e r b history sound legal locked = record { one = λ d had. locked.one d (back_one c j e r d history sound legal had) }

pub locked_later : (c : Numbers) (j e r s : ℕ) (b : Bool) (history : List Post) → AreSound c → IsLegal c history → r ≤ s → IsLocked c history j e r b
    → IsLocked c history j e s b
locked_later c j e r zero b history sound legal later locked =
    let same : r ≡ 0 = omega arith in
    subst (λ (k : ℕ). IsLocked c history j e k b) same locked
locked_later c j e r (suc s) b history sound legal later locked = elim (cases_lt s r) [
  | inl below ↦
      let same : r ≡ suc s = omega arith in
      subst (λ (k : ℕ). IsLocked c history j e k b) same locked
  | inr above ↦ locked_after c j e s b history sound legal (locked_later c j e r s b history sound legal above locked)
]
