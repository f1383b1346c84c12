-- What an actor owes is lawful by its terms.
use Rattle.std.proofs.Common.{◌≡◌, ℕ, ◌<◌, Bool, true, false, ◌==◌, nat_lt, inr, List, [], ◌∷◌, ◌++◌, if◌then◌else◌, refl, ap}
use Rattle.std.specs.Str.{bytes_eq}
use Rattle.std.specs.List.{AllByRecursion}
use Rattle.std.proofs.lemmas.Bool.{eqb-true, ltb-true}
use Rattle.hb_base.specs.ByteLists.{AreBytes}
use Rattle.hb_base.specs.Limits.{IsTransaction}
use Rattle.hb_base.specs.Numbers.{Numbers, AreSound}
use Rattle.hb_wire.specs.declared.vote.Vote.{Vote}
use Rattle.hb_wire.specs.declared.vote.Vote.TheVariants.{Propose}
use Rattle.hb_rules.specs.Hearing.{Hearing}
use Rattle.hb_rules.specs.History.{HasSpelling}
use Rattle.hb_rules.specs.Parts.{in_broadcast, in_agreement, heard_in_broadcast, read_in_agreement, heard_in_agreement}
use Rattle.hb_rules.specs.Rules.{MayCast}
use Rattle.hb_rules.specs.Desk.{MayAtDesk}
use Rattle.hb_rules.specs.Same.{AreSame}
use Rattle.hb_rules.specs.Slots.{Slot, IsPart, IsGuarded, IsForgetful}
use Rattle.hb_rules.specs.Tested.{IsTested}
use Rattle.hb_rules.specs.Turns.{InTurn, IsAllowedBy}
use Rattle.hb_rules.specs.BroadcastRows.{broadcast_rows}
use Rattle.hb_rules.specs.AgreementRows.{agreement_rows}
use Rattle.hb_rules.specs.DeskRows.{desk_rows}
use Rattle.hb_rules.specs.Owing.{lane_slots, desk_slots, slots_of}
use Rattle.hb_rules.specs.Terms.{is_proper, terms_of, AreCastable, AreProper, AreHeardSpelled, AreAmong, AreLawful}
use Rattle.hb_rules.proofs.Lists.{AllByRecursion-weaker}
use Rattle.hb_rules.proofs.Passing.{HasMade, passes-InTurn, passes-all, owed-rests, owed-forgets}
use Rattle.hb_rules.proofs.Rows.{by_rows-hold}
use Rattle.hb_rules.proofs.Tested.{owed-same}
use Rattle.hb_rules.proofs.BroadcastParts.{broadcast-parts}
use Rattle.hb_rules.proofs.AgreementParts.{agreement-parts}
use Rattle.hb_rules.proofs.LaneSlots.{lane_hold, lane-guarded, lane-forgets, lane-tested, lane-allowed, lane-spelled}
use Rattle.hb_rules.proofs.DeskParts.{pool_value-same, desk-guarded, desk-tested, desk-forgets}
use Rattle.hb_rules.proofs.DeskSlots.{desk-allowed, desk-proper, desk-spelled}

-- ---- no lane proposes

broadcast_proper : (c : Numbers) (submitted : List (List ℕ)) (own : List Vote) (e : ℕ) (vote : Vote) → in_broadcast e vote ≡ true
    → is_proper c submitted own vote ≡ true
broadcast_proper c submitted own e (Propose d value) h = absurd (cc (h))
broadcast_proper c submitted own e vote h = refl

agreement_proper : (c : Numbers) (submitted : List (List ℕ)) (own : List Vote) (e : ℕ) (vote : Vote) → in_agreement e vote ≡ true
    → is_proper c submitted own vote ≡ true
agreement_proper c submitted own e (Propose d value) h = absurd (cc (h))
agreement_proper c submitted own e vote h = refl

-- slots of a part whose votes have the property
part_rows : (P : List Vote → Vote → Type 0) (reads makes : ℕ → Vote → Bool) (hears : ℕ → Hearing → Bool) (heard : List Hearing)
    (rows : List (ℕ → List (Slot Vote Hearing)))
    → ((own : List Vote) (e : ℕ) (vote : Vote) → makes e vote ≡ true → P own vote)
    → AllByRecursion (λ row. (e : ℕ) → AllByRecursion (IsPart (reads e) (hears e) (makes e)) (row e)) rows
    → AllByRecursion (λ row. (e : ℕ) → AllByRecursion (IsAllowedBy P heard) (row e)) rows
part_rows P reads makes hears heard rows holds all =
    AllByRecursion-weaker (λ (row : ℕ → List (Slot Vote Hearing)). (e : ℕ) → AllByRecursion (IsPart (reads e) (hears e) (makes e)) (row e))
    (λ (row : ℕ → List (Slot Vote Hearing)). (e : ℕ) → AllByRecursion (IsAllowedBy P heard) (row e)) rows
    (λ row parts e.
    AllByRecursion-weaker (IsPart (reads e) (hears e) (makes e)) (IsAllowedBy P heard) (row e)
    (λ slot part. record { allowed = λ own vote empty some. holds own e vote (part.made own heard vote some) }) (parts e))
    all

lane-proper : (c : Numbers) (submitted : List (List ℕ)) (i j : ℕ) (heard : List Hearing)
    → AllByRecursion (IsAllowedBy (λ own vote. is_proper c submitted own vote ≡ true) heard) (lane_slots c i j)
lane-proper c submitted i j heard =
    lane_hold (IsAllowedBy (λ own vote. is_proper c submitted own vote ≡ true) heard) c i j
    (part_rows (λ own vote. is_proper c submitted own vote ≡ true) in_broadcast in_broadcast heard_in_broadcast heard (broadcast_rows c i j)
    (λ own e vote of. broadcast_proper c submitted own e vote of) (broadcast-parts c i j))
    (part_rows (λ own vote. is_proper c submitted own vote ≡ true) read_in_agreement in_agreement heard_in_agreement heard (agreement_rows c i j)
    (λ own e vote of. agreement_proper c submitted own e vote of) (agreement-parts c i j))

-- ---- lawful slots

-- slots from which what is owed is lawful
record AreSlotsLawful (c : Numbers) (submitted : List (List ℕ)) (i x : ℕ) (slots : List (Slot Vote Hearing)) : Type 0 where
  guarded : AllByRecursion IsGuarded slots
  forgetful : AllByRecursion IsForgetful slots
  tested : AllByRecursion IsTested slots
  proper : (heard : List Hearing) → AllByRecursion (IsAllowedBy (λ own vote. is_proper c submitted own vote ≡ true) heard) slots
  allowed : (some all : List Hearing) → AreHeardSpelled c some → AreAmong some all
      → AllByRecursion (IsAllowedBy (λ own vote. MayCast c i x own all vote) some) slots
  spelled : (heard : List Hearing) → AreHeardSpelled c heard → AllByRecursion (HasMade (HasSpelling c) heard) slots

lane_lawful : (c : Numbers) → AreSound c → (submitted : List (List ℕ)) (i x : ℕ) → i < c.n → x < c.n
    → AreSlotsLawful c submitted i x (lane_slots c i x)
lane_lawful c sound submitted i x node lane = record {
  guarded = lane-guarded c i x;
  forgetful = lane-forgets c i x;
  tested = lane-tested c i x;
  proper = λ heard. lane-proper c submitted i x heard;
  allowed = λ some all spelled among. lane-allowed c sound i x lane some all spelled among;
  spelled = λ heard spelled. lane-spelled c sound i x node heard spelled;
}

desk_lawful : (c : Numbers) → AreSound c → (submitted : List (List ℕ)) → AllByRecursion IsTransaction submitted → AllByRecursion AreBytes submitted
    → (i x : ℕ) → x ≡ c.n
    → AreSlotsLawful c submitted i x (desk_slots c submitted)
desk_lawful c sound submitted fit bytes i x desk = record {
  guarded = by_rows-hold IsGuarded c.epochs (desk_rows c submitted) (desk-guarded c submitted);
  forgetful = by_rows-hold IsForgetful c.epochs (desk_rows c submitted) (desk-forgets c sound submitted);
  tested = by_rows-hold IsTested c.epochs (desk_rows c submitted) (desk-tested c submitted);
  proper = λ heard. desk-proper c submitted heard;
  allowed = λ some all spelled among.
      AllByRecursion-weaker (IsAllowedBy (λ own vote. MayAtDesk c own all vote) some) (IsAllowedBy (λ own vote. MayCast c i x own all vote) some)
      (desk_slots c submitted)
      (λ slot by. record { allowed = λ own vote empty made. inr (desk, by.allowed own vote empty made) })
      (desk-allowed c submitted some all among);
  spelled = λ heard spelled. desk-spelled c sound submitted fit bytes heard spelled;
}

none_lawful : (c : Numbers) (submitted : List (List ℕ)) (i x : ℕ) → AreSlotsLawful c submitted i x []
none_lawful c submitted i x = record {
  guarded = tt;
  forgetful = tt;
  tested = tt;
  proper = λ heard. tt;
  allowed = λ some all spelled among. tt;
  spelled = λ heard spelled. tt;
}

slots_lawful : (c : Numbers) → AreSound c → (submitted : List (List ℕ)) → AllByRecursion IsTransaction submitted → AllByRecursion AreBytes submitted
    → (i x : ℕ) → i < c.n
    → AreSlotsLawful c submitted i x (slots_of c submitted i x)
slots_lawful c sound submitted fit bytes i x node = by (nat_lt x c.n) (x == c.n) refl refl
  where
    by : (lane desk : Bool) → nat_lt x c.n ≡ lane → (x == c.n) ≡ desk
        → AreSlotsLawful c submitted i x (if lane then lane_slots c i x else (if desk then desk_slots c submitted else []))
    by true desk is_lane is_desk = lane_lawful c sound submitted i x node (ltb-true x c.n is_lane)
    by false true is_lane is_desk = desk_lawful c sound submitted fit bytes i x (eqb-true x c.n is_desk)
    by false false is_lane is_desk = none_lawful c submitted i x

-- ---- terms

castable_in_turn : (c : Numbers) (submitted : List (List ℕ)) (i x : ℕ) (heard : List Hearing) (own votes : List Vote)
    → InTurn (λ own vote. MayCast c i x own heard vote) own votes
    → AreCastable (terms_of c submitted i x) heard own votes
castable_in_turn c submitted i x heard own [] turn = tt
castable_in_turn c submitted i x heard own (vote ∷ votes) turn = (turn.0, castable_in_turn c submitted i x heard (own ++ vote ∷ []) votes turn.1)

proper_in_turn : (c : Numbers) (submitted : List (List ℕ)) (i x : ℕ) (own votes : List Vote)
    → InTurn (λ own vote. is_proper c submitted own vote ≡ true) own votes
    → AreProper (terms_of c submitted i x) own votes
proper_in_turn c submitted i x own [] turn = tt
proper_in_turn c submitted i x own (vote ∷ votes) turn = (turn.0, proper_in_turn c submitted i x (own ++ vote ∷ []) votes turn.1)

proper-same : (c : Numbers) (submitted : List (List ℕ)) (own other : List Vote) (vote : Vote) → AreSame own other
    → is_proper c submitted own vote ≡ is_proper c submitted other vote
proper-same c submitted own other (Propose e value) same = ap (bytes_eq value) (pool_value-same c submitted e own other same)
proper-same c submitted own other vote same = refl

pub terms_lawful : (c : Numbers) → AreSound c → (submitted : List (List ℕ)) → AllByRecursion IsTransaction submitted → AllByRecursion AreBytes submitted
    → (i x : ℕ) → i < c.n
    → AreLawful (terms_of c submitted i x)
terms_lawful c sound submitted fit bytes i x node =
    let slots : List (Slot Vote Hearing) = slots_of c submitted i x in
    let lawful : AreSlotsLawful c submitted i x slots = slots_lawful c sound submitted fit bytes i x node in
    record {
      castable = λ own some all spelled among before.
          castable_in_turn c submitted i x all own _
          (passes-InTurn (λ own vote. MayCast c i x own all vote) some slots (lawful.allowed some all spelled among) _ own);
      proper = λ own heard.
          proper_in_turn c submitted i x own _
          (passes-InTurn (λ own vote. is_proper c submitted own vote ≡ true) heard slots (lawful.proper heard) _ own);
      spelled = λ own heard spelled. passes-all (HasSpelling c) heard slots (lawful.spelled heard spelled) _ own;
      rests = λ own heard. owed-rests slots lawful.guarded own heard;
      same = λ own other heard same. owed-same slots lawful.tested own other heard same;
      same_proper = λ own other vote same. proper-same c submitted own other vote same;
      less = λ own heard none. owed-forgets slots lawful.guarded lawful.forgetful own heard none;
    }
