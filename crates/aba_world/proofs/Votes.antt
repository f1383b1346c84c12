-- What tests of the agreement's votes say, where these votes go, and which of them a lane casts once.
use Rattle.std.proofs.Common.{◌≡◌, ◌≢◌, ℕ, Bool, true, false, ◌&&◌, ◌==◌, inl, inr, List, Contains, refl, ap, ◌∙◌, subst}
use Rattle.std.specs.List.{list_any}
use Rattle.std.proofs.lemmas.Bool.{eqb-true, eq-eqb, and_parts, and_from}
use Rattle.hb_base.specs.Numbers.{Numbers}
use Rattle.hb_base.specs.NodeSet.{is_in}
use Rattle.hb_wire.specs.Votes.{address_of}
use Rattle.hb_wire.specs.declared.vote.To.TheVariants.{Home}
use Rattle.hb_wire.specs.declared.vote.Vals.{Vals}
use Rattle.hb_wire.specs.declared.vote.Vals.TheVariants.{Zero, One, Both}
use Rattle.hb_wire.specs.declared.vote.Vote.{Vote}
use Rattle.hb_wire.specs.declared.vote.Vote.TheVariants.{Est, Bval, Aux, Conf, Pick, NoMore}
use Rattle.hb_wire.specs.declared.post.Post.{Post}
use Rattle.hb_rules.specs.Claims.{same_bit, is_no_more}
use Rattle.hb_rules.specs.Hearing.{Hearing, own_in, said_in}
use Rattle.hb_rules.specs.Marks.{single, same_vals, is_est, is_bval, is_aux, is_conf, is_pick, any_aux, any_conf, bears, Claim, bvals, auxes, any_auxes, confs, any_confs, confs_with, makes}
use Rattle.hb_rules.specs.Rules.{MayCast}
use Rattle.hb_rules.specs.History.{IsLegal}
use Rattle.hb_rules.proofs.AgreementParts.{same_bits}
use Rattle.hb_rules.proofs.Among.{any_stands, IsAway}
use Rattle.hb_rules.proofs.Once.{IsOnce, cast_once}

-- ---- the vote that passes a test

same_sets : (v w : Vals) → same_vals v w ≡ true → v ≡ w
same_sets Zero Zero h = refl
same_sets One One h = refl
same_sets Both Both h = refl
same_sets v w h = absurd (cc (h))

-- epoch and round are those of the test, and the rest of it passes
pub named : (d e s r : ℕ) (rest : Bool) → ((d == e) && ((s == r) && rest)) ≡ true → (d ≡ e) × (s ≡ r) × (rest ≡ true)
named d e s r rest h =
    let outer = and_parts (d == e) ((s == r) && rest) h in
    let inner = and_parts (s == r) rest outer.1 in
    (eqb-true d e outer.0, eqb-true s r inner.0, inner.1)

-- votes of one kind are the same where their parts are
pub alike : {A : Type 0} (make : ℕ → ℕ → A → Vote) (d e s r : ℕ) (x y : A) → (d ≡ e) × (s ≡ r) × (x ≡ y) → make d s x ≡ make e r y
alike make d e s r x y is =
    ap (λ (n : ℕ). make n s x) is.0 ∙ ap (λ (n : ℕ). make e n x) is.1 ∙ ap (make e r) is.2

-- the same of a test of epoch and round alone
pub of_round : {A : Type 0} (make : ℕ → ℕ → A → Vote) (d e s r : ℕ) (x : A) → ((d == e) && (s == r)) ≡ true → make d s x ≡ make e r x
of_round make d e s r x h =
    let is = and_parts (d == e) (s == r) h in
    alike make d e s r x x (eqb-true d e is.0, eqb-true s r is.1, refl)

-- so are the bits, and the sets
named_bit : (d e s r : ℕ) (bit b : Bool) → ((d == e) && ((s == r) && same_bit bit b)) ≡ true → (d ≡ e) × (s ≡ r) × (bit ≡ b)
named_bit d e s r bit b h = let is = named d e s r (same_bit bit b) h in (is.0, is.1, same_bits bit b is.2)

named_set : (d e s r : ℕ) (set vals : Vals) → ((d == e) && ((s == r) && same_vals set vals)) ≡ true → (d ≡ e) × (s ≡ r) × (set ≡ vals)
named_set d e s r set vals h = let is = named d e s r (same_vals set vals) h in (is.0, is.1, same_sets set vals is.2)

pub est-is : (e r : ℕ) (b : Bool) (vote : Vote) → is_est e r b vote ≡ true → vote ≡ Est e r b
est-is e r b (Est d s bit) h = alike Est d e s r bit b (named_bit d e s r bit b h)
est-is e r b vote h = absurd (cc (h))

pub bval-is : (e r : ℕ) (b : Bool) (vote : Vote) → is_bval e r b vote ≡ true → vote ≡ Bval e r b
bval-is e r b (Bval d s bit) h = alike Bval d e s r bit b (named_bit d e s r bit b h)
bval-is e r b vote h = absurd (cc (h))

pub aux-is : (e r : ℕ) (b : Bool) (vote : Vote) → is_aux e r b vote ≡ true → vote ≡ Aux e r b
aux-is e r b (Aux d s bit) h = alike Aux d e s r bit b (named_bit d e s r bit b h)
aux-is e r b vote h = absurd (cc (h))

pub conf-is : (e r : ℕ) (vals : Vals) (vote : Vote) → is_conf e r vals vote ≡ true → vote ≡ Conf e r vals
conf-is e r vals (Conf d s set) h = alike Conf d e s r set vals (named_set d e s r set vals h)
conf-is e r vals vote h = absurd (cc (h))

pub pick-is : (e r : ℕ) (vals : Vals) (vote : Vote) → is_pick e r vals vote ≡ true → vote ≡ Pick e r vals
pick-is e r vals (Pick d s set) h = alike Pick d e s r set vals (named_set d e s r set vals h)
pick-is e r vals vote h = absurd (cc (h))

pub no_more-is : (e : ℕ) (vote : Vote) → is_no_more e vote ≡ true → vote ≡ NoMore e
no_more-is e (NoMore d) h = let epoch : d ≡ e = eqb-true d e h in cc (epoch)
no_more-is e vote h = absurd (cc (h))

-- where only one vote passes a test that some vote passes, it is that one
pub found_vote : (votes : List Vote) (test : Vote → Bool) (vote : Vote) → ((v : Vote) → test v ≡ true → v ≡ vote) → list_any test votes ≡ true
    → Contains votes vote
found_vote votes test vote only h =
    let found = any_stands test votes h in
    subst (λ (v : Vote). Contains votes v) (only found.0 found.2) found.1

-- ---- where votes go

-- what makes a claim goes to all nodes
pub makes-away : (e : ℕ) (claim : Claim) → IsAway (makes e claim)
makes-away e claim = record { away = away claim }
  where
    away : (claim : Claim) (vote : Vote) → makes e claim vote ≡ true → address_of vote ≢ Home
    away (bvals r b) (Bval d s bit) passes home = absurd (cc (home))
    away (bvals r b) vote passes home = absurd (cc (passes))
    away (auxes r b) (Aux d s bit) passes home = absurd (cc (home))
    away (auxes r b) vote passes home = absurd (cc (passes))
    away (any_auxes r) (Aux d s bit) passes home = absurd (cc (home))
    away (any_auxes r) vote passes home = absurd (cc (passes))
    away (confs r b) (Conf d s vals) passes home = absurd (cc (home))
    away (confs r b) vote passes home = absurd (cc (passes))
    away (any_confs r) (Conf d s vals) passes home = absurd (cc (home))
    away (any_confs r) vote passes home = absurd (cc (passes))
    away (confs_with r b) (Conf d s vals) passes home = absurd (cc (home))
    away (confs_with r b) vote passes home = absurd (cc (passes))

-- ---- one ballot in a round

aux-once : (c : Numbers) (e r : ℕ) → IsOnce c (bears e (any_aux r))
aux-once c e r = record { first = first }
  where
    first : (i x : ℕ) (own : List Vote) (heard : List Hearing) (vote : Vote) → bears e (any_aux r) vote ≡ true → MayCast c i x own heard vote
        → list_any (bears e (any_aux r)) own ≡ false
    first i x own heard (Aux d s bit) marked (inl may) =
        let parts = and_parts (d == e) (s == r) marked in
        rw (eqb-true d e parts.0, eqb-true s r parts.1) at may.1.3
    first i x own heard (Aux d s bit) marked (inr may) = absurd may.1
    first i x own heard vote marked may = absurd (cc (marked))

conf-once : (c : Numbers) (e r : ℕ) → IsOnce c (bears e (any_conf r))
conf-once c e r = record { first = first }
  where
    first : (i x : ℕ) (own : List Vote) (heard : List Hearing) (vote : Vote) → bears e (any_conf r) vote ≡ true → MayCast c i x own heard vote
        → list_any (bears e (any_conf r)) own ≡ false
    first i x own heard (Conf d s vals) marked (inl may) =
        let parts = and_parts (d == e) (s == r) marked in
        rw (eqb-true d e parts.0, eqb-true s r parts.1) at may.1.3
    first i x own heard (Conf d s vals) marked (inr may) = absurd may.1
    first i x own heard vote marked may = absurd (cc (marked))

round_marked : (e r : ℕ) → ((e == e) && (r == r)) ≡ true
round_marked e r = and_from (e == e) (r == r) (eq-eqb e e refl) (eq-eqb r r refl)

one_bit : (b d : Bool) → single b ≡ single d → b ≡ d
one_bit true true h = refl
one_bit true false h = absurd (cc (h))
one_bit false true h = absurd (cc (h))
one_bit false false h = refl

-- what counts where a lane is left with one bit alone: where the rules have a confirm phase, that a node is left with the
-- bit alone, and else that it has accepted the bit
abbrev pub ballots : Bool → ℕ → Bool → Claim
ballots false r b = auxes r b
ballots true r b = confs r b

-- a correct lane has one such vote in a round
pub one_ballot : (confirming : Bool) (c : Numbers) (i x e r : ℕ) (b d : Bool) → is_in c.liars i ≡ false → (history : List Post) → IsLegal c history
    → said_in c x history i (makes e (ballots confirming r b)) ≡ true → said_in c x history i (makes e (ballots confirming r d)) ≡ true
    → b ≡ d
one_ballot false c i x e r b d correct history legal first second =
    let one = found_vote (own_in c i x history) (makes e (auxes r b)) (Aux e r b) (aux-is e r b) first in
    let other = found_vote (own_in c i x history) (makes e (auxes r d)) (Aux e r d) (aux-is e r d) second in
    let same : Aux e r b ≡ Aux e r d =
    cast_once c (bears e (any_aux r)) (aux-once c e r) i x correct history legal (Aux e r b) (Aux e r d) one other (round_marked e r) (round_marked e r) in
    cc (same)
one_ballot true c i x e r b d correct history legal first second =
    let one = found_vote (own_in c i x history) (makes e (confs r b)) (Conf e r (single b)) (conf-is e r (single b)) first in
    let other = found_vote (own_in c i x history) (makes e (confs r d)) (Conf e r (single d)) (conf-is e r (single d)) second in
    let same : Conf e r (single b) ≡ Conf e r (single d) =
    cast_once c (bears e (any_conf r)) (conf-once c e r) i x correct history legal (Conf e r (single b)) (Conf e r (single d)) one other
    (round_marked e r) (round_marked e r) in
    one_bit b d (let sets : single b ≡ single d = cc (same) in sets)
