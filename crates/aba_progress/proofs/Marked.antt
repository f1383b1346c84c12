-- The votes that bear marks and make claims of a round.
use Rattle.std.proofs.Common.{◌≡◌, ℕ, ◌⊎◌, ◌&&◌, ◌==◌, not, Bool, true, false, inl, inr, List, Contains, refl, subst}
use Rattle.std.specs.List.{list_any}
use Rattle.std.proofs.lemmas.Bool.{eq-eqb, and_parts, and_from}
use Rattle.merkle_branch.specs.declared.Branch.{Branch}
use Rattle.hb_wire.specs.declared.vote.Vals.{Vals}
use Rattle.hb_wire.specs.declared.vote.Vals.TheVariants.{Zero, One, Both}
use Rattle.hb_wire.specs.declared.vote.Vote.{Vote}
use Rattle.hb_wire.specs.declared.vote.Vote.TheVariants.{Est, Aux, Conf, Pick, Coin}
use Rattle.hb_rules.specs.Claims.{same_bit}
use Rattle.hb_rules.specs.Marks.{single, has_bit, same_vals, is_est, is_any_est, is_aux, is_any_aux, is_conf, is_any_conf, is_conf_with, is_pick, is_any_pick, is_any_coin, est, any_est, pick, has}
use Rattle.hb_rules.proofs.Among.{any_stands}
use Rattle.hb_rules.proofs.AgreementParts.{same_bit-refl}
use Rattle.hb_rules.proofs.Lists.{list_any-from}
use Rattle.aba_world.proofs.Votes.{named, alike, of_round}

-- ---- sets of bits

-- a set has the bit, or is the other bit alone
pub has_or_other : (b : Bool) (vals : Vals) → (has_bit b vals ≡ true) ⊎ (vals ≡ single (not b))
has_or_other false Zero = inl refl
has_or_other true Zero = inr refl
has_or_other false One = inr refl
has_or_other true One = inl refl
has_or_other b Both = inl refl

pub bit_or_other : (b d : Bool) → (d ≡ b) ⊎ (d ≡ not b)
bit_or_other true true = inl refl
bit_or_other true false = inr refl
bit_or_other false true = inr refl
bit_or_other false false = inl refl

-- a set each of whose bits is this one
pub only_bit : (b : Bool) (vals : Vals) → ((d : Bool) → has_bit d vals ≡ true → d ≡ b) → vals ≡ single b
only_bit false Zero each = refl
only_bit true Zero each = absurd (cc (each false refl))
only_bit false One each = absurd (cc (each true refl))
only_bit true One each = refl
only_bit false Both each = absurd (cc (each true refl))
only_bit true Both each = absurd (cc (each false refl))

-- ---- votes of one form

-- among the votes is one of this form
pub record HasVote {A : Type 0} (make : A → Vote) (votes : List Vote) : Type 0 where
  pub what : A
  pub stands : Contains votes (make what)

-- where one passes a test that only votes of this form pass
pub has_vote : {A : Type 0} (test : Vote → Bool) (make : A → Vote) (votes : List Vote)
    → ((vote : Vote) → test vote ≡ true → (x : A) × (vote ≡ make x)) → list_any test votes ≡ true → HasVote make votes
has_vote test make votes is h =
    let found = any_stands test votes h in
    let form = is found.0 found.2 in
    record { what = form.0; stands = subst (λ (vote : Vote). Contains votes vote) form.1 found.1 }

-- ---- votes of an epoch and a round

same_set-refl : (v : Vals) → same_vals v v ≡ true
same_set-refl Zero = refl
same_set-refl One = refl
same_set-refl Both = refl

round_passes : (e r : ℕ) (rest : Bool) → rest ≡ true → ((e == e) && ((r == r) && rest)) ≡ true
round_passes e r rest h = and_from (e == e) ((r == r) && rest) (eq-eqb e e refl) (and_from (r == r) rest (eq-eqb r r refl) h)

-- an estimate of a round is of one of the bits
pub est_bit : (e r : ℕ) (own : List Vote) → has e (any_est r) own ≡ true → (b : Bool) × (has e (est r b) own ≡ true)
est_bit e r own h = let found = any_stands (is_any_est e r) own h in by found.0 found.1 found.2
  where
    by : (vote : Vote) → Contains own vote → is_any_est e r vote ≡ true → (b : Bool) × (has e (est r b) own ≡ true)
    by (Est d s bit) stands marked =
        let parts = and_parts (d == e) (s == r) marked in (
          bit,
          list_any-from (is_est e r bit) own (Est d s bit) stands
              (and_from (d == e) ((s == r) && same_bit bit bit) parts.0 (and_from (s == r) (same_bit bit bit) parts.1 (same_bit-refl bit))),
        )
    by vote stands marked = absurd (cc (marked))

pub aux-marked : (e r : ℕ) (b : Bool) → is_aux e r b (Aux e r b) ≡ true
aux-marked e r b = round_passes e r (same_bit b b) (same_bit-refl b)

pub any_aux-is : (e r : ℕ) (vote : Vote) → is_any_aux e r vote ≡ true → (b : Bool) × (vote ≡ Aux e r b)
any_aux-is e r (Aux d s bit) h = (bit, of_round Aux d e s r bit h)
any_aux-is e r vote h = absurd (cc (h))

pub conf-marked : (e r : ℕ) (vals : Vals) → is_conf e r vals (Conf e r vals) ≡ true
conf-marked e r vals = round_passes e r (same_vals vals vals) (same_set-refl vals)

-- a Conf of a round whose set has the bit
pub record IsConfWith (e r : ℕ) (b : Bool) (vote : Vote) : Type 0 where
  pub vals : Vals
  pub is : vote ≡ Conf e r vals
  pub among : has_bit b vals ≡ true

pub conf_with-is : (e r : ℕ) (b : Bool) (vote : Vote) → is_conf_with e r b vote ≡ true → IsConfWith e r b vote
conf_with-is e r b (Conf d s set) h =
    let is = named d e s r (has_bit b set) h in
    record { vals = set; is = alike Conf d e s r set set (is.0, is.1, refl); among = is.2 }
conf_with-is e r b vote h = absurd (cc (h))

pub conf_with-marked : (e r : ℕ) (b : Bool) (vals : Vals) → has_bit b vals ≡ true → is_conf_with e r b (Conf e r vals) ≡ true
conf_with-marked e r b vals among = round_passes e r (has_bit b vals) among

pub any_conf-is : (e r : ℕ) (vote : Vote) → is_any_conf e r vote ≡ true → (vals : Vals) × (vote ≡ Conf e r vals)
any_conf-is e r (Conf d s vals) h = (vals, of_round Conf d e s r vals h)
any_conf-is e r vote h = absurd (cc (h))

pub any_pick-is : (e r : ℕ) (vote : Vote) → is_any_pick e r vote ≡ true → (vals : Vals) × (vote ≡ Pick e r vals)
any_pick-is e r (Pick d s vals) h = (vals, of_round Pick d e s r vals h)
any_pick-is e r vote h = absurd (cc (h))

-- a picked set is marked by itself
pub pick-cast : (e r : ℕ) (vals : Vals) (own : List Vote) → Contains own (Pick e r vals) → has e (pick r vals) own ≡ true
pick-cast e r vals own stands =
    list_any-from (λ vote. is_pick e r vals vote) own (Pick e r vals) stands (round_passes e r (same_vals vals vals) (same_set-refl vals))

-- the vote with a share of the coin of a round
pub record IsShare (e r : ℕ) (vote : Vote) : Type 0 where
  pub share : ℕ
  pub salt : List ℕ
  pub branch : Branch
  pub is : vote ≡ Coin e r share salt branch

pub any_coin-is : (e r : ℕ) (vote : Vote) → is_any_coin e r vote ≡ true → IsShare e r vote
any_coin-is e r (Coin d s share salt branch) h =
    record { share = share; salt = salt; branch = branch; is = of_round (λ a b (x : ℕ). Coin a b x salt branch) d e s r share h }
any_coin-is e r vote h = absurd (cc (h))
