-- What a hearing shows of the lanes.
use Rattle.std.proofs.Common.{◌≡◌, ℕ, ◌<◌, Bool, true, false, ◌==◌, inl, inr, List, length, set, Option, None, Some, if◌then◌else◌, refl, sym, ap, ◌∙◌, get_or-set_same, get_or-set_other}
use Rattle.std.specs.Option.{option_or}
use Rattle.std.proofs.lemmas.Bool.{cases_eq, eqb-true, eq-eqb, false_from_ne_true}
use Rattle.hb_wire.specs.declared.vote.Vote.{Vote}
use Rattle.hb_wire.specs.declared.vote.Vote.TheVariants.{Decided, Delivered}
use Rattle.hb_rules.specs.Claims.{decided, delivered}
use Rattle.hb_rules.specs.DeskRows.{claimed_by}
use Rattle.hb_rules.specs.Hearing.{Hearing, hearing}
use Rattle.acs_core.specs.declared.shown.Shown.{Shown}
use Rattle.acs_core.specs.Shown.{nothing, shown_at, with_decision, with_value}
use Rattle.acs_core.specs.Subset.{Notes}
use Rattle.acs_core.proofs.Firsts.{option_or-none}

-- ---- claims of a hearing

if_same : {A : Type 0} (b : Bool) (o : Option A) → o ≡ None → (if b then o else None) ≡ None
if_same true o none = none
if_same false o none = refl

-- a vote that claims nothing claims nothing of any lane
pub claims_nothing : {A : Type 0} (claim : Vote → Option A) (j : ℕ) (h : Hearing) → claim h.vote ≡ None → claimed_by j claim h ≡ None
claims_nothing claim j h none = if_same (h.from == j) (claim h.vote) none

-- of the lane that is heard, and of another
claim_here : {A : Type 0} (claim : Vote → Option A) (j : ℕ) (h : Hearing) → h.from ≡ j → claimed_by j claim h ≡ claim h.vote
claim_here {A} claim j h same = ap (λ (b : Bool). if b then claim h.vote else None) (eq-eqb h.from j same)

claim_elsewhere : {A : Type 0} (claim : Vote → Option A) (j : ℕ) (h : Hearing) → (h.from ≡ j → ⊥) → claimed_by j claim h ≡ None
claim_elsewhere {A} claim j h apart =
    ap (λ (b : Bool). if b then claim h.vote else None) (false_from_ne_true (h.from == j) (λ same. apart (eqb-true h.from j same)))

pub some_here : {A : Type 0} (e : ℕ) (x : A) → (if e == e then Some x else None) ≡ Some x
some_here {A} e x = ap (λ (b : Bool). if b then Some x else None) (eq-eqb e e refl)

pub none_elsewhere : {A : Type 0} (d e : ℕ) (x : A) → (d ≡ e → ⊥) → (if d == e then Some x else None) ≡ None
none_elsewhere {A} d e x apart =
    ap (λ (b : Bool). if b then Some x else None) (false_from_ne_true (d == e) (λ same. apart (eqb-true d e same)))

unchanged : {A : Type 0} (o p : Option A) → p ≡ None → o ≡ option_or o p
unchanged {A} o p none = sym (ap (λ (p : Option A). option_or o p) none ∙ option_or-none o)

-- ---- what is shown then

-- a vote that neither decides nor delivers in the epoch shows nothing
pub notes_nothing : (e n : ℕ) (lanes : List Shown) (h : Hearing) → decided e h.vote ≡ None → delivered e h.vote ≡ None → Notes e n lanes lanes h
notes_nothing e n lanes h no_decision no_value = record {
  decisions = λ j below. unchanged (shown_at lanes j).decision (claimed_by j (decided e) h) (claims_nothing (decided e) j h no_decision);
  values = λ j below. unchanged (shown_at lanes j).value (claimed_by j (delivered e) h) (claims_nothing (delivered e) j h no_value);
}

-- one lane has shown this now
pub record Sets (old new : List Shown) (lane : ℕ) (now : Shown) : Type 0 where
  pub here : shown_at new lane ≡ now
  pub others : (j : ℕ) → (lane ≡ j → ⊥) → shown_at new j ≡ shown_at old j

pub sets_one : (lanes : List Shown) (lane : ℕ) (now : Shown) → lane < length lanes → Sets lanes (set lanes lane now) lane now
sets_one lanes lane now below = record {
  here = get_or-set_same lanes lane now nothing below;
  others = λ j apart. get_or-set_other lanes lane j now nothing (λ same. apart (sym same));
}

pub notes_decision : (e n : ℕ) (old new : List Shown) (lane : ℕ) (bit : Bool) → Sets old new lane (with_decision (shown_at old lane) bit)
    → Notes e n old new (hearing lane (Decided e bit))
notes_decision e n old new lane bit sets = record {
  decisions = λ j below. elim (cases_eq lane j) [
    | inl same ↦
        ap (λ (k : ℕ). (shown_at new k).decision) (sym same) ∙ ap (λ (s : Shown). s.decision) sets.here
        ∙ ap (λ (o : Option Bool). option_or (shown_at old lane).decision o)
        (sym (claim_here (decided e) lane (hearing lane (Decided e bit)) refl ∙ some_here e bit))
        ∙ ap (λ (k : ℕ). option_or (shown_at old k).decision (claimed_by k (decided e) (hearing lane (Decided e bit)))) same
    | inr apart ↦
        ap (λ (s : Shown). s.decision) (sets.others j apart)
        ∙ unchanged (shown_at old j).decision (claimed_by j (decided e) (hearing lane (Decided e bit)))
        (claim_elsewhere (decided e) j (hearing lane (Decided e bit)) apart)
  ];
  values = λ j below. same_value j
      ∙ unchanged (shown_at old j).value (claimed_by j (delivered e) (hearing lane (Decided e bit)))
      (claims_nothing (delivered e) j (hearing lane (Decided e bit)) refl);
}
  where
    same_value : (j : ℕ) → (shown_at new j).value ≡ (shown_at old j).value
    same_value j = elim (cases_eq lane j) [
      | inl same ↦
          ap (λ (k : ℕ). (shown_at new k).value) (sym same) ∙ ap (λ (s : Shown). s.value) sets.here
          ∙ ap (λ (k : ℕ). (shown_at old k).value) same
      | inr apart ↦ ap (λ (s : Shown). s.value) (sets.others j apart)
    ]

pub notes_delivery : (e n : ℕ) (old new : List Shown) (lane : ℕ) (value : List ℕ) → Sets old new lane (with_value (shown_at old lane) value)
    → Notes e n old new (hearing lane (Delivered e value))
notes_delivery e n old new lane value sets = record {
  decisions = λ j below. same_decision j
      ∙ unchanged (shown_at old j).decision (claimed_by j (decided e) (hearing lane (Delivered e value)))
      (claims_nothing (decided e) j (hearing lane (Delivered e value)) refl);
  values = λ j below. elim (cases_eq lane j) [
    | inl same ↦
        ap (λ (k : ℕ). (shown_at new k).value) (sym same) ∙ ap (λ (s : Shown). s.value) sets.here
        ∙ ap (λ (o : Option (List ℕ)). option_or (shown_at old lane).value o)
        (sym (claim_here (delivered e) lane (hearing lane (Delivered e value)) refl ∙ some_here e value))
        ∙ ap (λ (k : ℕ). option_or (shown_at old k).value (claimed_by k (delivered e) (hearing lane (Delivered e value)))) same
    | inr apart ↦
        ap (λ (s : Shown). s.value) (sets.others j apart)
        ∙ unchanged (shown_at old j).value (claimed_by j (delivered e) (hearing lane (Delivered e value)))
        (claim_elsewhere (delivered e) j (hearing lane (Delivered e value)) apart)
  ];
}
  where
    same_decision : (j : ℕ) → (shown_at new j).decision ≡ (shown_at old j).decision
    same_decision j = elim (cases_eq lane j) [
      | inl same ↦
          ap (λ (k : ℕ). (shown_at new k).decision) (sym same) ∙ ap (λ (s : Shown). s.decision) sets.here
          ∙ ap (λ (k : ℕ). (shown_at old k).decision) same
      | inr apart ↦ ap (λ (s : Shown). s.decision) (sets.others j apart)
    ]

-- ---- votes that show nothing

pub other_kind : (e : ℕ) (vote : Vote) → ((d : ℕ) (bit : Bool) → vote ≡ Decided d bit → ⊥) → ((d : ℕ) (value : List ℕ) → vote ≡ Delivered d value → ⊥)
    → (decided e vote ≡ None) × (delivered e vote ≡ None)
other_kind e (Decided d bit) no_decision no_value = absurd (no_decision d bit refl)
other_kind e (Delivered d value) no_decision no_value = absurd (no_value d value refl)
other_kind e vote no_decision no_value = (refl, refl)
