-- What one more hearing changes of what a state shows.
use Rattle.std.proofs.Common.{◌≡◌, ℕ, ◌+◌, ◌<◌, ◌≤◌, Bool, true, false, not, ◌&&◌, ◌||◌, ◌==◌, nat_lt, inl, inr, List, [], ◌∷◌, ◌++◌, length, take, Option, None, Some, if◌then◌else◌, refl, sym, ap, ◌∙◌, append-nil, arith}
use Rattle.std.specs.List.{fold, filter_map, cons_option}
use Rattle.std.proofs.Math.Bool.{or-false}
use Rattle.std.proofs.lemmas.Bool.{eq-eqb, ltb-true, lt-ltb, cases_eq, ne_eqb}
use Rattle.std.proofs.lemmas.List.{take-append-le, length-append}
use Rattle.std.proofs.lemmas.List.Elements.{filter_map-append}
use Rattle.std.proofs.lemmas.List.Folds.{list_any-append}
use Rattle.std.proofs.lemmas.List.Sums.{fold-append}
use Rattle.hb_base.specs.Numbers.{Numbers}
use Rattle.merkle_branch.specs.declared.Branch.{Branch}
use Rattle.coin_deal.specs.Deal.{coin_root}
use Rattle.coin_deal.specs.Heard.{HeardShare, heard_share, has_share_of, is_good, with_heard, coin_through}
use Rattle.hb_wire.specs.declared.vote.Vote.{Vote}
use Rattle.hb_wire.specs.declared.vote.Vote.TheVariants.{Bval, Aux, Conf, Coin}
use Rattle.hb_wire.specs.Votes.{epoch_of}
use Rattle.hb_rules.specs.Claims.{is_no_more, same_bit}
use Rattle.hb_rules.specs.Coins.{share_in, shares_in, coin_from, coin_in}
use Rattle.hb_rules.specs.Hearing.{Hearing, heard_by}
use Rattle.hb_rules.specs.Marks.{Claim, bvals, auxes, any_auxes, confs, any_confs, confs_with, makes}
use Rattle.aba_core.specs.Noting.{IsClaim}
use Rattle.aba_core.specs.Tables.{claims, claims_set}
use Rattle.aba_core.specs.State.{claim_round}

-- ---- who has made a claim

turned : (a b : Bool) → (a || b) ≡ (b || a)
turned true true = refl
turned true false = refl
turned false true = refl
turned false false = refl

and_turned : (a b : Bool) → (a && b) ≡ (b && a)
and_turned true true = refl
and_turned true false = refl
and_turned false true = refl
and_turned false false = refl

-- in the order of the tables
pub heard_by-push : (heard : List Hearing) (h : Hearing) (m : ℕ) (test : Vote → Bool)
    → heard_by (heard ++ h ∷ []) m test ≡ ((test h.vote && (m == h.from)) || heard_by heard m test)
heard_by-push heard h m test =
    list_any-append (λ (g : Hearing). (g.from == m) && test g.vote) heard (h ∷ [])
    ∙ ap (λ (b : Bool). heard_by heard m test || b) (or-false ((h.from == m) && test h.vote))
    ∙ turned (heard_by heard m test) ((h.from == m) && test h.vote)
    ∙ ap (λ (b : Bool). b || heard_by heard m test) (and_turned (h.from == m) (test h.vote) ∙ ap (λ (b : Bool). test h.vote && b) (flipped h.from m))
  where
    flipped : (a b : ℕ) → (a == b) ≡ (b == a)
    flipped a b = elim (cases_eq a b) [
      | inl same ↦ eq-eqb a b same ∙ sym (eq-eqb b a (sym same))
      | inr apart ↦ ne_eqb a b apart ∙ sym (ne_eqb b a (λ h. apart (sym h)))
    ]

-- a hearing that fails the test shows nothing
pub heard_by-none : (heard : List Hearing) (h : Hearing) (m : ℕ) (test : Vote → Bool) → test h.vote ≡ false
    → heard_by (heard ++ h ∷ []) m test ≡ heard_by heard m test
heard_by-none heard h m test fails = heard_by-push heard h m test ∙ ap (λ (b : Bool). (b && (m == h.from)) || heard_by heard m test) fails

-- none but the n nodes was heard, after a hearing of a node
pub nodes_now : (n : ℕ) (heard : List Hearing) (h : Hearing) → h.from < n → ((m : ℕ) → n ≤ m → heard_by heard m (λ vote. true) ≡ false)
    → (m : ℕ) → n ≤ m → heard_by (heard ++ h ∷ []) m (λ vote. true) ≡ false
nodes_now n heard h from nodes m above =
    heard_by-push heard h m (λ vote. true) ∙ rw (ne_eqb m h.from (λ same. omega arith)) (nodes m above)

-- ---- the claims of a vote

bit_here : (d e s r : ℕ) (b : Bool) → d ≡ e → s ≡ r → ((d == e) && ((s == r) && b)) ≡ b
bit_here d e s r b epoch round = rw (eq-eqb d e epoch, eq-eqb s r round) refl

all_here : (d e s r : ℕ) → d ≡ e → s ≡ r → ((d == e) && (s == r)) ≡ true
all_here d e s r epoch round = rw (eq-eqb d e epoch, eq-eqb s r round) refl

-- of its own round
pub makes_claims : (e r : ℕ) (vote : Vote) (claim : Claim) → epoch_of vote ≡ e → IsClaim r vote → claim_round claim ≡ r → makes e claim vote ≡ claims claim vote
makes_claims e r (Bval d s b) (bvals t c) epoch is at = bit_here d e s t (same_bit b c) epoch (is ∙ sym at)
makes_claims e r (Bval d s b) claim epoch is at = refl
makes_claims e r (Aux d s b) (auxes t c) epoch is at = bit_here d e s t (same_bit b c) epoch (is ∙ sym at)
makes_claims e r (Aux d s b) (any_auxes t) epoch is at = all_here d e s t epoch (is ∙ sym at)
makes_claims e r (Aux d s b) claim epoch is at = refl
makes_claims e r (Conf d s vals) (confs t c) epoch is at = bit_here d e s t (claims_set (confs t c) vals) epoch (is ∙ sym at)
makes_claims e r (Conf d s vals) (any_confs t) epoch is at = all_here d e s t epoch (is ∙ sym at)
makes_claims e r (Conf d s vals) (confs_with t c) epoch is at = bit_here d e s t (claims_set (confs_with t c) vals) epoch (is ∙ sym at)
makes_claims e r (Conf d s vals) claim epoch is at = refl
makes_claims e r vote claim epoch is at = absurd is

bit_away : (d e s r : ℕ) (b : Bool) → (s ≡ r → ⊥) → ((d == e) && ((s == r) && b)) ≡ false
bit_away d e s r b apart = by (d == e)
  where
    by : (t : Bool) → (t && ((s == r) && b)) ≡ false
    by true = ap (λ (t : Bool). t && b) (ne_eqb s r apart)
    by false = refl

all_away : (d e s r : ℕ) → (s ≡ r → ⊥) → ((d == e) && (s == r)) ≡ false
all_away d e s r apart = by (d == e)
  where
    by : (t : Bool) → (t && (s == r)) ≡ false
    by true = ne_eqb s r apart
    by false = refl

-- of another round
pub makes_other : (e r : ℕ) (vote : Vote) (claim : Claim) → IsClaim r vote → (claim_round claim ≡ r → ⊥) → makes e claim vote ≡ false
makes_other e r (Bval d s b) (bvals t c) is apart = bit_away d e s t (same_bit b c) (λ h. apart (sym h ∙ is))
makes_other e r (Bval d s b) claim is apart = refl
makes_other e r (Aux d s b) (auxes t c) is apart = bit_away d e s t (same_bit b c) (λ h. apart (sym h ∙ is))
makes_other e r (Aux d s b) (any_auxes t) is apart = all_away d e s t (λ h. apart (sym h ∙ is))
makes_other e r (Aux d s b) claim is apart = refl
makes_other e r (Conf d s vals) (confs t c) is apart = bit_away d e s t _ (λ h. apart (sym h ∙ is))
makes_other e r (Conf d s vals) (any_confs t) is apart = all_away d e s t (λ h. apart (sym h ∙ is))
makes_other e r (Conf d s vals) (confs_with t c) is apart = bit_away d e s t _ (λ h. apart (sym h ∙ is))
makes_other e r (Conf d s vals) claim is apart = refl
makes_other e r vote claim is apart = absurd is

pub claim_shows_none : (e r s m : ℕ) (vote : Vote) → IsClaim s vote → share_in e r m vote ≡ None
claim_shows_none e r s m (Bval d t b) is = refl
claim_shows_none e r s m (Aux d t b) is = refl
claim_shows_none e r s m (Conf d t vals) is = refl
claim_shows_none e r s m vote is = absurd is

pub claim_no_more : (e s : ℕ) (vote : Vote) → IsClaim s vote → is_no_more e vote ≡ false
claim_no_more e s (Bval d t b) is = refl
claim_no_more e s (Aux d t b) is = refl
claim_no_more e s (Conf d t vals) is = refl
claim_no_more e s vote is = absurd is

-- ---- shares

some_shares : Numbers → ℕ → ℕ → ℕ → List HeardShare → Option HeardShare → List HeardShare
some_shares c e j r shares None = shares
some_shares c e j r shares (Some a) = with_heard (coin_root c e j r) c.n shares a

shares_push : (c : Numbers) (e j r : ℕ) (heard : List Hearing) (h : Hearing)
    → shares_in c e j r (heard ++ h ∷ []) ≡ some_shares c e j r (shares_in c e j r heard) (share_in e r h.from h.vote)
unfolding some_shares
shares_push c e j r heard h =
    ap (fold (with_heard (coin_root c e j r) c.n) []) (filter_map-append (λ (h : Hearing). share_in e r h.from h.vote) heard (h ∷ []))
    ∙ by (share_in e r h.from h.vote)
  where
    before : List HeardShare
    before = filter_map (λ (h : Hearing). share_in e r h.from h.vote) heard

    by : (o : Option HeardShare) → fold (with_heard (coin_root c e j r) c.n) [] (before ++ cons_option o []) ≡ some_shares c e j r (shares_in c e j r heard) o
    by None = ap (fold (with_heard (coin_root c e j r) c.n) []) (append-nil before)
    by (Some a) = fold-append (with_heard (coin_root c e j r) c.n) [] before (a ∷ [])

pub shares_none : (c : Numbers) (e j r : ℕ) (heard : List Hearing) (h : Hearing) → share_in e r h.from h.vote ≡ None
    → shares_in c e j r (heard ++ h ∷ []) ≡ shares_in c e j r heard
unfolding some_shares
shares_none c e j r heard h none = shares_push c e j r heard h ∙ ap (some_shares c e j r (shares_in c e j r heard)) none

pub shares_one : (c : Numbers) (e j r : ℕ) (heard : List Hearing) (h : Hearing) (a : HeardShare) → share_in e r h.from h.vote ≡ Some a
    → shares_in c e j r (heard ++ h ∷ []) ≡ with_heard (coin_root c e j r) c.n (shares_in c e j r heard) a
unfolding some_shares
shares_one c e j r heard h a one = shares_push c e j r heard h ∙ ap (some_shares c e j r (shares_in c e j r heard)) one

-- a coin that is known stays what it is
kept_coin : (root : List ℕ) (n f : ℕ) (shares : List HeardShare) (a : HeardShare) (b : Bool) → coin_from f shares ≡ Some b
    → coin_from f (with_heard root n shares a) ≡ Some b
kept_coin root n f shares a b known = by (not (has_share_of shares a.node) && is_good root n a)
  where
    enough : (t : Bool) → nat_lt f (length shares) ≡ t → (if t then Some (coin_through (take (f + 1) shares)) else None) ≡ Some b → f < length shares
    enough true is h = ltb-true f (length shares) is
    enough false is h = absurd (cc (h))

    many : f < length shares
    many = enough (nat_lt f (length shares)) refl known

    by : (t : Bool) → coin_from f (if t then shares ++ a ∷ [] else shares) ≡ Some b
    by false = known
    by true =
        let size : length (shares ++ a ∷ []) ≡ length shares + 1 = length-append shares (a ∷ []) in
        let more : nat_lt f (length (shares ++ a ∷ [])) ≡ true = lt-ltb f (length (shares ++ a ∷ [])) (omega (arith, size, many)) in
        let was : nat_lt f (length shares) ≡ true = lt-ltb f (length shares) many in
        rw (more, take-append-le (f + 1) shares (a ∷ []) (omega (arith, many))) (rw was at known)

pub coin_kept : (c : Numbers) (e j r : ℕ) (heard : List Hearing) (h : Hearing) (b : Bool) → coin_in c e j heard r ≡ Some b
    → coin_in c e j (heard ++ h ∷ []) r ≡ Some b
unfolding some_shares
coin_kept c e j r heard h b known = ap (coin_from c.f) (shares_push c e j r heard h) ∙ by (share_in e r h.from h.vote)
  where
    by : (o : Option HeardShare) → coin_from c.f (some_shares c e j r (shares_in c e j r heard) o) ≡ Some b
    by None = known
    by (Some a) = kept_coin (coin_root c e j r) c.n c.f (shares_in c e j r heard) a b known

pub share_here : (d e s r m share : ℕ) (salt : List ℕ) (branch : Branch) → d ≡ e → s ≡ r
    → share_in e r m (Coin d s share salt branch) ≡ Some (heard_share m share salt branch)
share_here d e s r m share salt branch epoch round = rw (eq-eqb d e epoch, eq-eqb s r round) refl

pub share_away : (d e s r m share : ℕ) (salt : List ℕ) (branch : Branch) → (s ≡ r → ⊥) → share_in e r m (Coin d s share salt branch) ≡ None
share_away d e s r m share salt branch apart = rw (all_away d e s r apart) refl
