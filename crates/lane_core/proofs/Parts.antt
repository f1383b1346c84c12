-- What the parts of an epoch look at, and what they make owed. The letters: lane j of node i, epochs e and k.
use Rattle.std.proofs.Common.{◌≡◌, ℕ, Bool, true, false, ◌&&◌, ◌||◌, ◌==◌, inl, inr, List, [], ◌∷◌, ◌++◌, refl, sym, ap, ap₂, ◌∙◌, append-nil, append_assoc, if◌then◌else◌}
use Rattle.std.specs.List.{list_any, list_all, filter, AllByRecursion}
use Rattle.std.proofs.lemmas.Bool.{and_parts, and_from, or_cases, or_parts, or_left, or_right}
use Rattle.std.proofs.lemmas.List.Elements.{filter-append}
use Rattle.std.proofs.lemmas.List.Folds.{list_any-append}
use Rattle.hb_base.specs.Numbers.{Numbers}
use Rattle.hb_wire.specs.declared.vote.Vote.{Vote}
use Rattle.hb_wire.specs.declared.vote.Vote.TheVariants.{Val, Echo, Ready, Delivered, Propose, NoMore}
use Rattle.hb_wire.specs.Votes.{epoch_of}
use Rattle.hb_rules.specs.Claims.{is_any_delivery, is_any_proposal, is_no_more}
use Rattle.hb_rules.specs.Hearing.{Hearing}
use Rattle.hb_rules.specs.Parts.{Part, broadcast, agreement, desk, part_of, is_broadcast, is_agreement, in_broadcast, heard_in_broadcast, in_agreement, read_in_agreement, heard_in_agreement, in_epoch, heard_in_epoch}
use Rattle.hb_rules.specs.Slots.{pass, IsOwed, IsPart}
use Rattle.hb_rules.specs.Owing.{broadcast_slots, agreement_slots}
use Rattle.hb_rules.proofs.Lists.{filter-twice, filter_none, filter_all, any_within}
use Rattle.hb_rules.proofs.Rows.{of_epoch-hold}
use Rattle.hb_rules.proofs.Within.{pass-same, IsOwed-same}
use Rattle.hb_rules.proofs.BroadcastParts.{some_only, broadcast-parts}
use Rattle.hb_rules.proofs.AgreementParts.{agreement-parts}
use Rattle.hb_rules.specs.BroadcastRows.{broadcast_rows}
use Rattle.hb_rules.specs.AgreementRows.{agreement_rows}
use Rattle.lane_core.specs.Cores.{is_for_broadcast, is_for_agreement}

-- ---- each part looks at its epoch alone

pub broadcast_inside : (e : ℕ) (vote : Vote) → in_broadcast e vote ≡ true → in_epoch e vote ≡ true
broadcast_inside e vote h = (and_parts (is_broadcast (part_of vote)) (epoch_of vote == e) h).1

pub agreement_inside : (e : ℕ) (vote : Vote) → in_agreement e vote ≡ true → in_epoch e vote ≡ true
agreement_inside e vote h = (and_parts (is_agreement (part_of vote)) (epoch_of vote == e) h).1

-- a delivery is a vote of the broadcast
pub delivery_inside : (e : ℕ) (vote : Vote) → is_any_delivery e vote ≡ true → in_broadcast e vote ≡ true
delivery_inside e (Delivered d value) h = some_only (d == e) value h
delivery_inside e vote h = absurd (cc (h))

proposal_inside : (e : ℕ) (vote : Vote) → is_any_proposal e vote ≡ true → in_epoch e vote ≡ true
proposal_inside e (Propose d value) h = some_only (d == e) value h
proposal_inside e vote h = absurd (cc (h))

no_more_inside : (e : ℕ) (vote : Vote) → is_no_more e vote ≡ true → in_epoch e vote ≡ true
no_more_inside e (NoMore d) h = h
no_more_inside e vote h = absurd (cc (h))

pub heard_broadcast_inside : (e : ℕ) (h : Hearing) → heard_in_broadcast e h ≡ true → heard_in_epoch e h ≡ true
heard_broadcast_inside e h heard = elim (or_cases (in_broadcast e h.vote) (is_any_proposal e h.vote) heard) [
  | inl of ↦ broadcast_inside e h.vote of
  | inr of ↦ proposal_inside e h.vote of
]

pub read_agreement_inside : (e : ℕ) (vote : Vote) → read_in_agreement e vote ≡ true → in_epoch e vote ≡ true
read_agreement_inside e vote read = elim (or_cases (in_agreement e vote) (is_any_delivery e vote) read) [
  | inl of ↦ agreement_inside e vote of
  | inr of ↦ broadcast_inside e vote (delivery_inside e vote of)
]

pub heard_agreement_inside : (e : ℕ) (h : Hearing) → heard_in_agreement e h ≡ true → heard_in_epoch e h ≡ true
heard_agreement_inside e h heard = elim (or_cases (in_agreement e h.vote) (is_no_more e h.vote) heard) [
  | inl of ↦ agreement_inside e h.vote of
  | inr of ↦ no_more_inside e h.vote of
]

-- no vote is heard by both
pub for_broadcast_only : (vote : Vote) → is_for_broadcast vote ≡ true → is_for_agreement vote ≡ false
for_broadcast_only (Val e m root shard branch) h = refl
for_broadcast_only (Echo e root shard branch) h = refl
for_broadcast_only (Ready e root) h = refl
for_broadcast_only (Delivered e value) h = refl
for_broadcast_only (Propose e value) h = refl
for_broadcast_only vote h = absurd (cc (h))

-- ---- own votes, once votes of the broadcast and then votes of the agreement are cast

-- a vote of the one part is none of the other
parts_apart : (e : ℕ) (vote : Vote) → in_agreement e vote ≡ true → in_broadcast e vote ≡ false
parts_apart e vote h = by (part_of vote) (and_parts (is_agreement (part_of vote)) (epoch_of vote == e) h).0
  where
    by : (part : Part) → is_agreement part ≡ true → (is_broadcast part && (epoch_of vote == e)) ≡ false
    by broadcast h = absurd (cc (h))
    by agreement h = refl
    by desk h = absurd (cc (h))

not_agreement : (e : ℕ) (vote : Vote) → in_broadcast e vote ≡ true → in_agreement e vote ≡ false
not_agreement e vote h = by (part_of vote) (and_parts (is_broadcast (part_of vote)) (epoch_of vote == e) h).0
  where
    by : (part : Part) → is_broadcast part ≡ true → (is_agreement part && (epoch_of vote == e)) ≡ false
    by broadcast h = refl
    by agreement h = absurd (cc (h))
    by desk h = absurd (cc (h))

-- of votes of the broadcast the agreement looks at deliveries
read_is : (e : ℕ) (vote : Vote) → in_broadcast e vote ≡ true → read_in_agreement e vote ≡ is_any_delivery e vote
read_is e vote h = ap (λ (b : Bool). b || is_any_delivery e vote) (not_agreement e vote h)

pub all_deliveries : (e : ℕ) (votes : List Vote) → list_all (in_broadcast e) votes ≡ true
    → list_all (is_any_delivery e) (filter (read_in_agreement e) votes) ≡ true
all_deliveries e [] all = refl
all_deliveries e (vote ∷ votes) all =
    let parts = and_parts (in_broadcast e vote) (list_all (in_broadcast e) votes) all in
    rw (read_is e vote parts.0) (by (is_any_delivery e vote) refl (all_deliveries e votes parts.1))
  where
    by : (b : Bool) → is_any_delivery e vote ≡ b → list_all (is_any_delivery e) (filter (read_in_agreement e) votes) ≡ true
        → list_all (is_any_delivery e) (if b then vote ∷ filter (read_in_agreement e) votes else filter (read_in_agreement e) votes) ≡ true
    by true is later = and_from (is_any_delivery e vote) (list_all (is_any_delivery e) (filter (read_in_agreement e) votes)) is later
    by false is later = later

pub some_delivery : (e : ℕ) (own votes : List Vote) → list_any (is_any_delivery e) votes ≡ true
    → list_any (is_any_delivery e) (own ++ filter (read_in_agreement e) votes) ≡ true
some_delivery e own votes some =
    list_any-append (is_any_delivery e) own (filter (read_in_agreement e) votes)
    ∙ or_right (list_any (is_any_delivery e) own) (list_any (is_any_delivery e) (filter (read_in_agreement e) votes))
    (any_within (is_any_delivery e) (read_in_agreement e) (λ vote is. or_right (in_agreement e vote) (is_any_delivery e vote) is) votes ∙ some)

pub no_delivery : (e : ℕ) (votes : List Vote) → list_all (in_broadcast e) votes ≡ true → list_any (is_any_delivery e) votes ≡ false
    → filter (read_in_agreement e) votes ≡ []
no_delivery e [] all none = refl
no_delivery e (vote ∷ votes) all none =
    let parts = and_parts (in_broadcast e vote) (list_all (in_broadcast e) votes) all in
    let others = or_parts (is_any_delivery e vote) (list_any (is_any_delivery e) votes) none in
    let left : read_in_agreement e vote ≡ false = read_is e vote parts.0 ∙ others.0 in
    rw left (no_delivery e votes parts.1 others.1)

pub own_in_broadcast : (e : ℕ) (own first second : List Vote) → list_all (in_broadcast e) first ≡ true → list_all (in_agreement e) second ≡ true
    → filter (in_broadcast e) (own ++ (first ++ second)) ≡ filter (in_broadcast e) own ++ first
own_in_broadcast e own first second one two =
    filter-append (in_broadcast e) own (first ++ second)
    ∙ ap (λ (votes : List Vote). filter (in_broadcast e) own ++ votes)
    (filter-append (in_broadcast e) first second
    ∙ ap₂ (λ (xs ys : List Vote). xs ++ ys) (filter_all (in_broadcast e) (in_broadcast e) (λ vote is. is) first one)
    (filter_none (in_agreement e) (in_broadcast e) (parts_apart e) second two)
    ∙ append-nil first)

pub own_in_agreement : (e : ℕ) (own first second : List Vote) → list_all (in_agreement e) second ≡ true
    → filter (read_in_agreement e) (own ++ (first ++ second)) ≡ (filter (read_in_agreement e) own ++ filter (read_in_agreement e) first) ++ second
own_in_agreement e own first second two =
    ap (filter (read_in_agreement e)) (sym (append_assoc own first second))
    ∙ filter-append (read_in_agreement e) (own ++ first) second
    ∙ ap₂ (λ (xs ys : List Vote). xs ++ ys) (filter-append (read_in_agreement e) own first)
    (filter_all (in_agreement e) (read_in_agreement e) (λ vote is. or_left (in_agreement e vote) (is_any_delivery e vote) is) second two)

-- ---- what is heard

pub heard_now : (hears : Hearing → Bool) (heard : List Hearing) (h : Hearing) → hears h ≡ true
    → filter hears (heard ++ h ∷ []) ≡ filter hears heard ++ h ∷ []
heard_now hears heard h passes = filter-append hears heard (h ∷ []) ∙ rw passes refl

-- ---- what each part owes, by what it looks at

pub broadcast_slots-parts : (c : Numbers) (i j e : ℕ)
    → AllByRecursion (IsPart (in_broadcast e) (heard_in_broadcast e) (in_broadcast e)) (broadcast_slots c i j e)
broadcast_slots-parts c i j e =
    of_epoch-hold (λ k slot. IsPart (in_broadcast k) (heard_in_broadcast k) (in_broadcast k) slot) e (broadcast_rows c i j) (broadcast-parts c i j)

pub agreement_slots-parts : (c : Numbers) (i j e : ℕ)
    → AllByRecursion (IsPart (read_in_agreement e) (heard_in_agreement e) (in_agreement e)) (agreement_slots c i j e)
agreement_slots-parts c i j e =
    of_epoch-hold (λ k slot. IsPart (read_in_agreement k) (heard_in_agreement k) (in_agreement k) slot) e (agreement_rows c i j) (agreement-parts c i j)

-- one pass over the broadcast's slots, where its own votes are these, and its hearings these
pub broadcast_pass : (c : Numbers) (i j e : ℕ) (own : List Vote) (heard now : List Hearing) → filter (heard_in_broadcast e) now ≡ heard
    → pass (broadcast_slots c i j e) own now ≡ pass (broadcast_slots c i j e) (filter (in_broadcast e) own) heard
broadcast_pass c i j e own heard now same =
    pass-same (in_broadcast e) (heard_in_broadcast e) (in_broadcast e) (broadcast_slots c i j e) (broadcast_slots-parts c i j e)
    own (filter (in_broadcast e) own) now (filter (heard_in_broadcast e) now) (sym (filter-twice (in_broadcast e) own)) (sym (filter-twice (heard_in_broadcast e) now))
    ∙ ap (pass (broadcast_slots c i j e) (filter (in_broadcast e) own)) same

-- what the agreement owes
pub agreement_owed : (c : Numbers) (i j e : ℕ) (own other : List Vote) (heard now : List Hearing) (votes : List Vote)
    → filter (read_in_agreement e) own ≡ other → filter (heard_in_agreement e) now ≡ heard
    → IsOwed (agreement_slots c i j e) other heard votes → IsOwed (agreement_slots c i j e) own now votes
agreement_owed c i j e own other heard now votes cast hearings owed =
    IsOwed-same (read_in_agreement e) (heard_in_agreement e) (in_agreement e) (agreement_slots c i j e) (agreement_slots-parts c i j e)
    other own heard now votes
    (ap (filter (read_in_agreement e)) (sym cast) ∙ filter-twice (read_in_agreement e) own)
    (ap (filter (heard_in_agreement e)) (sym hearings) ∙ filter-twice (heard_in_agreement e) now)
    owed
