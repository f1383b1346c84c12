-- What the core of a lane stands for: at its start, after a restart, and after each hearing. The letters: lane j of node i,
-- epochs e and k.
use Rattle.std.proofs.Common.{◌≡◌, ℕ, ◌+◌, ◌*◌, ◌<◌, ◌≤◌, Bool, true, false, if◌then◌else◌, nat_lt, inl, inr, List, [], ◌∷◌, ◌++◌, length, get_or, set, Option, None, Some, refl, sym, ap, ◌∙◌, subst, append-nil, length-append, below_more, get_or-set_same, get_or-set_other, arith}
use Rattle.std.specs.List.{list_any, list_all, filter, AllByRecursion}
use Rattle.std.specs.Option.{is_some}
use Rattle.std.proofs.lemmas.Bool.{cases_eq, cases_lt, eqb-true, ne_eqb, le-ltb, lt-ltb, or_parts}
use Rattle.std.proofs.lemmas.List.{get_or_past, get_or_push, get_or_append_left, get_or_default, length_push}
use Rattle.std.proofs.lemmas.List.Elements.{filter-append}
use Rattle.hb_base.specs.Numbers.{Numbers}
use Rattle.hb_wire.specs.declared.vote.Vote.{Vote}
use Rattle.hb_wire.specs.Votes.{epoch_of}
use Rattle.hb_rules.specs.Hearing.{Hearing}
use Rattle.hb_rules.specs.Parts.{in_broadcast, heard_in_broadcast, in_agreement, read_in_agreement, heard_in_agreement, in_epoch, heard_in_epoch}
use Rattle.hb_rules.specs.Slots.{Slot, pass, IsIdle, IsOwed, IsPart}
use Rattle.hb_rules.specs.Owing.{Place, broadcast_slots, agreement_slots, lane_slots}
use Rattle.hb_rules.specs.BroadcastRows.{broadcast_rows}
use Rattle.hb_rules.specs.AgreementRows.{agreement_rows}
use Rattle.hb_rules.proofs.Lists.{filter_within, filter_none, filter-twice, AllByRecursion-weaker}
use Rattle.hb_rules.proofs.Passing.{idle_parts, IsOwed-nil}
use Rattle.hb_rules.proofs.Rows.{by_rows-all, idle-epoch, of_epoch-append, not_heard}
use Rattle.hb_rules.proofs.Within.{IsPart-wider, pass-same, pass-made, IsOwed-made}
use Rattle.hb_rules.proofs.LaneSlots.{lane-parts, lane_hears}
use Rattle.rbc_core.specs.Broadcast as broadcast
use Rattle.aba_core.specs.State as agreement
use Rattle.lane_core.specs.declared.cores.Cores.{Cores}
use Rattle.lane_core.specs.Cores.{is_for_broadcast, StandFor, IsUntouched, StandsAt, HearsOne}
use Rattle.lane_core.specs.Lane.{LaneView, slots_at, cores_at, is_open, AreAtEpoch, StaysAt, ArePlaced, Stands, Hears, Sets, Opens, HearsAt, IsOpenFor, HasRoom, StandsOn, AreRecovered, KeepsStanding}
use Rattle.lane_core.proofs.Parts.{broadcast_inside, agreement_inside, heard_broadcast_inside, read_agreement_inside, heard_agreement_inside, broadcast_slots-parts, agreement_slots-parts}

-- ---- lists of which an epoch looks at the same

same_within : {A : Type 0} (part epoch : A → Bool) → ((x : A) → part x ≡ true → epoch x ≡ true) → (xs ys : List A)
    → filter epoch xs ≡ filter epoch ys → filter part xs ≡ filter part ys
same_within part epoch within xs ys same =
    sym (filter_within part epoch within xs) ∙ ap (filter part) same ∙ filter_within part epoch within ys

pub StandsAt-same : (e : ℕ) (place : Option Cores) (own other : List Vote) (heard now : List Hearing) → filter (in_epoch e) own ≡ filter (in_epoch e) other
    → filter (heard_in_epoch e) heard ≡ filter (heard_in_epoch e) now → StandsAt e place own heard → StandsAt e place other now
StandsAt-same e None own other heard now cast hearings stands = record { none_cast = sym cast ∙ stands.none_cast; none_heard = sym hearings ∙ stands.none_heard }
StandsAt-same e (Some cores) own other heard now cast hearings stands = record {
  rbc =
      rw (
        ← same_within (in_broadcast e) (in_epoch e) (broadcast_inside e) own other cast,
        ← same_within (heard_in_broadcast e) (heard_in_epoch e) (heard_broadcast_inside e) heard now hearings,
      ) stands.rbc;
  aba =
      rw (
        ← same_within (read_in_agreement e) (in_epoch e) (read_agreement_inside e) own other cast,
        ← same_within (heard_in_agreement e) (heard_in_epoch e) (heard_agreement_inside e) heard now hearings,
      ) stands.aba;
}

-- ---- an epoch of which nothing was cast or heard

agreement_idle : (c : Numbers) (i j e : ℕ) (own : List Vote) (heard : List Hearing) → e < c.epochs → IsIdle (lane_slots c i j) own heard
    → IsIdle (agreement_slots c i j e) own heard
agreement_idle c i j e own heard below idle =
    (idle_parts (broadcast_slots c i j e) (agreement_slots c i j e) own heard
    (rw (← of_epoch-append e (broadcast_rows c i j) (agreement_rows c i j)) (idle-epoch c.epochs (broadcast_rows c i j ++ agreement_rows c i j) own heard idle e below))).1

-- its agreement owes nothing by what it looks at
pub agreement_rests : (c : Numbers) (i j e : ℕ) (own other : List Vote) (heard now : List Hearing) → e < c.epochs → IsIdle (lane_slots c i j) own heard
    → filter (read_in_agreement e) own ≡ filter (read_in_agreement e) other → filter (heard_in_agreement e) heard ≡ filter (heard_in_agreement e) now
    → IsIdle (agreement_slots c i j e) other now
agreement_rests c i j e own other heard now below idle cast hearings =
    sym (pass-same (read_in_agreement e) (heard_in_agreement e) (in_agreement e) (agreement_slots c i j e) (agreement_slots-parts c i j e)
    own other heard now cast hearings)
    ∙ agreement_idle c i j e own heard below idle

-- ---- cores are made

-- what is made of no votes stands for what an epoch looks at of which nothing was cast or heard
made_stands : (c : Numbers) (i j e : ℕ) (cores : Cores) → (IsIdle (agreement_slots c i j e) [] [] → StandFor e cores [] [])
    → (own : List Vote) (heard : List Hearing) → e < c.epochs → IsIdle (lane_slots c i j) own heard → IsUntouched e own heard → StandFor e cores own heard
made_stands c i j e cores made own heard below idle untouched =
    let cast : filter (in_epoch e) [] ≡ filter (in_epoch e) own = sym untouched.none_cast in
    let hearings : filter (heard_in_epoch e) [] ≡ filter (heard_in_epoch e) heard = sym untouched.none_heard in
    StandsAt-same e (Some cores) [] own [] heard cast hearings
    (made (agreement_rests c i j e own [] heard [] below idle
    (sym (same_within (read_in_agreement e) (in_epoch e) (read_agreement_inside e) [] own cast))
    (sym (same_within (heard_in_agreement e) (heard_in_epoch e) (heard_agreement_inside e) [] heard hearings))))

shut_is : (o : Option Cores) → is_some o ≡ false → o ≡ None
shut_is None shut = refl
shut_is (Some cores) shut = absurd (cc (shut))

pub Opens-made : (l : LaneView) (epochs : List (Option Cores)) (e : ℕ) (cores : Cores) → e < l.config.epochs → is_open l e ≡ false
    → (IsIdle (agreement_slots l.config l.node l.lane e) [] [] → StandFor e cores [] []) → Sets l.epochs epochs e cores
    → Opens l (record l { epochs = epochs }) e
Opens-made l epochs e cores below shut made sets = record {
  same = refl;
  is_open = ap is_some sets.here;
  stands = λ own heard stands. record {
    idle = stands.idle;
    each = λ k inside. elim (cases_eq k e) [
      | inl same ↦
          subst (λ (k : ℕ). StandsAt k (cores_at epochs k) own heard) (sym same)
          (subst (λ (place : Option Cores). StandsAt e place own heard) (sym sets.here)
          (made_stands l.config l.node l.lane e cores made own heard below stands.idle
          (subst (λ (place : Option Cores). StandsAt e place own heard) (shut_is (cores_at l.epochs e) shut) (stands.each e below))))
      | inr other ↦ subst (λ (place : Option Cores). StandsAt k place own heard) (sym (sets.others k other)) (stands.each k inside)
    ];
  };
}

pub Opens-open : (l : LaneView) (e : ℕ) → is_open l e ≡ true → Opens l l e
Opens-open l e is = record { same = refl; is_open = is; stands = λ own heard stands. stands }

-- ---- places

-- one place more, at which there is nothing
pub grown : (epochs : List (Option Cores)) (k : ℕ) → cores_at (epochs ++ None ∷ []) k ≡ cores_at epochs k
grown epochs k =
    let none : Option Cores = None in
    elim (cases_lt k (length epochs)) [
      | inl below ↦ get_or_append_left epochs (none ∷ []) none k below
      | inr above ↦ elim (cases_lt (length epochs) k) [
        | inl past ↦
            get_or_past (epochs ++ none ∷ []) k none (omega (arith, length_push epochs none, past))
            ∙ sym (get_or_past epochs k none above)
        | inr here ↦ get_or_push epochs none none k (omega (arith, above, here)) ∙ sym (get_or_past epochs k none above)
      ]
    ]

pub sets_place : (old epochs : List (Option Cores)) (e : ℕ) (cores : Cores) → e < length epochs → ((k : ℕ) → cores_at epochs k ≡ cores_at old k)
    → Sets old (set epochs e (Some cores)) e cores
sets_place old epochs e cores below same = record {
  here = get_or-set_same epochs e (Some cores) None below;
  others = λ k other. get_or-set_other epochs e k (Some cores) None other ∙ same k;
}

pub ArePlaced-stay : (c : Numbers) (i j : ℕ) (old new : List (Option Cores)) (e : ℕ) → ArePlaced c i j old
    → ((k : ℕ) → (k ≡ e → ⊥) → cores_at new k ≡ cores_at old k) → AreAtEpoch c i j e (cores_at new e) → ArePlaced c i j new
ArePlaced-stay c i j old new e placed others at = record {
  each = λ k. elim (cases_eq k e) [
    | inl same ↦ subst (λ (k : ℕ). AreAtEpoch c i j k (cores_at new k)) (sym same) at
    | inr other ↦ subst (λ (place : Option Cores). AreAtEpoch c i j k place) (sym (others k other)) (placed.each k)
  ];
}

pub ArePlaced-same : (c : Numbers) (i j : ℕ) (old new : List (Option Cores)) → ArePlaced c i j old → ((k : ℕ) → cores_at new k ≡ cores_at old k)
    → ArePlaced c i j new
ArePlaced-same c i j old new placed same = record {
  each = λ k. subst (λ (place : Option Cores). AreAtEpoch c i j k place) (sym (same k)) (placed.each k);
}

-- a lane of which no epoch has changed
pub kept_places : (l : LaneView) (epochs : List (Option Cores)) → ((k : ℕ) → cores_at epochs k ≡ cores_at l.epochs k)
    → KeepsStanding l (record l { epochs = epochs })
kept_places l epochs same = λ own heard stands. record {
  idle = stands.idle;
  each = λ e below. subst (λ (place : Option Cores). StandsAt e place own heard) (sym (same e)) (stands.each e below);
}

-- cores stand at a place that is there
pub open_below : (epochs : List (Option Cores)) (k from : ℕ) → IsOpenFor (cores_at epochs k) from → k < length epochs
open_below epochs k from is = elim (cases_lt k (length epochs)) [
  | inl below ↦ below
  | inr above ↦ absurd (subst (λ (place : Option Cores). IsOpenFor place from) (get_or_past epochs k None above) is)
]

-- a place that is written stays of its lane and epoch
pub StaysAt-in : (epochs : List (Option Cores)) (k e : ℕ) (default new : Option Cores) → k ≡ e → k < length epochs
    → StaysAt (get_or epochs k default) new → StaysAt (cores_at epochs e) (cores_at (set epochs k new) e)
StaysAt-in epochs k e default new same below stays =
    subst (λ (e : ℕ). StaysAt (cores_at epochs e) (cores_at (set epochs k new) e)) same
    (subst (λ (old : Option Cores). StaysAt old (cores_at (set epochs k new) k)) (get_or_default epochs k default None below)
    (subst (λ (now : Option Cores). StaysAt (get_or epochs k default) now) (sym (get_or-set_same epochs k new None below)) stays))

-- and stands for what it stood for
pub StandsOn-in : (epochs : List (Option Cores)) (k e : ℕ) (default new : Option Cores) → k ≡ e → k < length epochs
    → StandsOn (get_or epochs k default) new → StandsOn (cores_at epochs e) (cores_at (set epochs k new) e)
StandsOn-in epochs k e default new same below on =
    subst (λ (e : ℕ). StandsOn (cores_at epochs e) (cores_at (set epochs k new) e)) same
    (subst (λ (old : Option Cores). StandsOn old (cores_at (set epochs k new) k)) (get_or_default epochs k default None below)
    (subst (λ (now : Option Cores). StandsOn (get_or epochs k default) now) (sym (get_or-set_same epochs k new None below)) on))

-- a lane of which one epoch stands for what it stood for, and the others have not changed
pub stands_there : (l : LaneView) (epochs : List (Option Cores)) (e : ℕ) → ((k : ℕ) → (k ≡ e → ⊥) → cores_at epochs k ≡ cores_at l.epochs k)
    → StandsOn (cores_at l.epochs e) (cores_at epochs e) → KeepsStanding l (record l { epochs = epochs })
stands_there l epochs e others on = λ own heard stands. record {
  idle = stands.idle;
  each = λ k below. elim (cases_eq k e) [
    | inl same ↦
        subst (λ (k : ℕ). StandsAt k (cores_at epochs k) own heard) (sym same)
        (on.stands e own heard (subst (λ (k : ℕ). StandsAt k (cores_at l.epochs k) own heard) same (stands.each k below)))
    | inr other ↦ subst (λ (place : Option Cores). StandsAt k place own heard) (sym (others k other)) (stands.each k below)
  ];
}

pub open_for : (c : Numbers) (i j e : ℕ) (place : Option Cores) (from : ℕ) → AreAtEpoch c i j e place → is_some place ≡ true → from < c.n → IsOpenFor place from
open_for c i j e None from at is below = absurd (cc (is))
open_for c i j e (Some cores) from at is below = (
  subst (λ (p : Place). from < p.config.n) (sym at.rbc) below,
  subst (λ (p : Place). from < p.config.n) (sym at.aba) below,
)

pub has_room : (c : Numbers) (i j e : ℕ) (place : Option Cores) (vote : Vote) (spare : ℕ) → AreAtEpoch c i j e place → is_some place ≡ true
    → (if is_for_broadcast vote then 7 * c.rounds + 1 + c.n + 2 else 7 * c.rounds + 1) ≤ spare → HasRoom place vote spare
has_room c i j e None vote spare at is room = absurd (cc (is))
has_room c i j e (Some cores) vote spare at is room =
    subst (λ (p : Place). (if is_for_broadcast vote then 7 * p.config.rounds + 1 + (broadcast.place_of cores.rbc).config.n + 2
    else 7 * p.config.rounds + 1) ≤ spare) (sym at.aba)
    (subst (λ (p : Place). (if is_for_broadcast vote then 7 * c.rounds + 1 + p.config.n + 2 else 7 * c.rounds + 1) ≤ spare) (sym at.rbc) room)

-- ---- a hearing

-- own votes of another epoch, after these
others_cast : (c : Numbers) (i j e k : ℕ) (own first second : List Vote) → (k ≡ e → ⊥) → list_all (in_broadcast e) first ≡ true
    → list_all (in_agreement e) second ≡ true
    → filter (in_epoch k) own ≡ filter (in_epoch k) (own ++ (first ++ second))
others_cast c i j e k own first second other one two =
    let apart : (vote : Vote) → in_epoch e vote ≡ true → in_epoch k vote ≡ false =
    λ vote is. ne_eqb (epoch_of vote) k (λ same. other (sym same ∙ eqb-true (epoch_of vote) e is)) in
    let none : filter (in_epoch k) (first ++ second) ≡ [] =
    filter-append (in_epoch k) first second
    ∙ ap (λ (votes : List Vote). votes ++ filter (in_epoch k) second) (filter_none (in_broadcast e) (in_epoch k) (λ vote is. apart vote (broadcast_inside e vote is)) first one)
    ∙ filter_none (in_agreement e) (in_epoch k) (λ vote is. apart vote (agreement_inside e vote is)) second two in
    sym (filter-append (in_epoch k) own (first ++ second) ∙ ap (λ (votes : List Vote). filter (in_epoch k) own ++ votes) none ∙ append-nil (filter (in_epoch k) own))

others_heard : (e k : ℕ) (heard : List Hearing) (h : Hearing) → (k ≡ e → ⊥) → epoch_of h.vote ≡ e
    → filter (heard_in_epoch k) heard ≡ filter (heard_in_epoch k) (heard ++ h ∷ [])
others_heard e k heard h other is =
    sym (not_heard (heard_in_epoch k) heard h (ne_eqb (epoch_of h.vote) k (λ same. other (sym same ∙ is))))

hears_placed : (l : LaneView) (epochs : List (Option Cores)) (h : Hearing) (before after : List Vote) (old new : Cores) → epoch_of h.vote < l.config.epochs
    → cores_at l.epochs (epoch_of h.vote) ≡ Some old → cores_at epochs (epoch_of h.vote) ≡ Some new
    → ((k : ℕ) → (k ≡ epoch_of h.vote → ⊥) → cores_at epochs k ≡ cores_at l.epochs k)
    → HearsOne l.config l.node l.lane (epoch_of h.vote) old new h before after → Hears l (record l { epochs = epochs }) h before after
hears_placed l epochs h before after old new below was is others hears =
    let c : Numbers = l.config in
    let e : ℕ = epoch_of h.vote in
    let votes : List Vote = hears.first ++ hears.second in
    let here : (own : List Vote) (heard : List Hearing) → Stands l own heard → StandFor e old own heard =
    λ own heard stands. subst (λ (place : Option Cores). StandsAt e place own heard) was (stands.each e below) in
    let owed : (own : List Vote) (heard : List Hearing) → Stands l own heard → IsOwed (slots_at l) own (heard ++ h ∷ []) votes =
    λ own heard stands.
    let passes : pass (broadcast_slots c l.node l.lane e) own (heard ++ h ∷ []) ≡ hears.first = hears.passes own heard (here own heard stands) in
    subst (λ (first : List Vote). IsOwed (slots_at l) own (heard ++ h ∷ []) (first ++ hears.second)) passes
    (lane_hears c l.node l.lane own heard h hears.second below stands.idle
    (subst (λ (first : List Vote). IsOwed (agreement_slots c l.node l.lane e) (own ++ first) (heard ++ h ∷ []) hears.second) (sym passes)
    (hears.owed own heard (here own heard stands)))) in
    record {
      same = refl;
      votes = votes;
      due = hears.due;
      owed = owed;
      stands = λ own heard stands. record {
        idle = (owed own heard stands).rests;
        each = λ k inside. elim (cases_eq k e) [
          | inl same ↦
              subst (λ (k : ℕ). StandsAt k (cores_at epochs k) (own ++ votes) (heard ++ h ∷ [])) (sym same)
              (subst (λ (place : Option Cores). StandsAt e place (own ++ votes) (heard ++ h ∷ [])) (sym is)
              (hears.stands own heard (here own heard stands)))
          | inr other ↦
              subst (λ (place : Option Cores). StandsAt k place (own ++ votes) (heard ++ h ∷ [])) (sym (others k other))
              (StandsAt-same k (cores_at l.epochs k) own (own ++ votes) heard (heard ++ h ∷ [])
              (others_cast c l.node l.lane e k own hears.first hears.second other
              (ap (list_all (in_broadcast e)) (sym (hears.passes own heard (here own heard stands)))
              ∙ pass-made (in_broadcast e) (heard_in_broadcast e) (in_broadcast e) (broadcast_slots c l.node l.lane e) (broadcast_slots-parts c l.node l.lane e) own (heard ++ h ∷ []))
              (IsOwed-made (read_in_agreement e) (heard_in_agreement e) (in_agreement e) (agreement_slots c l.node l.lane e) (agreement_slots-parts c l.node l.lane e)
              (own ++ hears.first) (heard ++ h ∷ []) hears.second (hears.owed own heard (here own heard stands))))
              (others_heard e k heard h other refl) (stands.each k inside))
        ];
      };
    }

pub hears_there : (l : LaneView) (epochs : List (Option Cores)) (h : Hearing) (before after : List Vote) → ArePlaced l.config l.node l.lane l.epochs
    → epoch_of h.vote < l.config.epochs
    → ((k : ℕ) → (k ≡ epoch_of h.vote → ⊥) → cores_at epochs k ≡ cores_at l.epochs k)
    → HearsAt (cores_at l.epochs (epoch_of h.vote)) (cores_at epochs (epoch_of h.vote)) h before after
    → Hears l (record l { epochs = epochs }) h before after
hears_there l epochs h before after placed below others hears =
    by (cores_at l.epochs (epoch_of h.vote)) (cores_at epochs (epoch_of h.vote)) refl refl (placed.each (epoch_of h.vote)) hears
  where
    by : (old new : Option Cores) → cores_at l.epochs (epoch_of h.vote) ≡ old → cores_at epochs (epoch_of h.vote) ≡ new
        → AreAtEpoch l.config l.node l.lane (epoch_of h.vote) old → HearsAt old new h before after → Hears l (record l { epochs = epochs }) h before after
    by None new was is at hears = absurd hears
    by (Some old) None was is at hears = absurd hears
    by (Some old) (Some new) was is at hears =
        hears_placed l epochs h before after old new below was is others (hears l.config l.node l.lane at)

pub Hears-opened : (old mid new : LaneView) (e : ℕ) (h : Hearing) (before after : List Vote) → Opens old mid e → Hears mid new h before after
    → Hears old new h before after
Hears-opened old mid new e h before after opens hears = record {
  same = hears.same ∙ ap (λ (l : LaneView). record l { epochs = new.epochs }) opens.same;
  votes = hears.votes;
  due = hears.due;
  owed = λ own heard stands.
      subst (λ (l : LaneView). IsOwed (slots_at l) own (heard ++ h ∷ []) hears.votes) opens.same (hears.owed own heard (opens.stands own heard stands));
  stands = λ own heard stands. hears.stands own heard (opens.stands own heard stands);
}

-- ---- a vote of an epoch that the run does not have

abbrev any_vote : Vote → Bool
any_vote vote = true

abbrev is_inside : Numbers → Hearing → Bool
is_inside c h = nat_lt (epoch_of h.vote) c.epochs

lane_parts_within : (c : Numbers) (i j : ℕ) → AllByRecursion (IsPart any_vote (is_inside c) any_vote) (lane_slots c i j)
lane_parts_within c i j =
    by_rows-all (IsPart any_vote (is_inside c) any_vote) c.epochs (broadcast_rows c i j ++ agreement_rows c i j)
    (AllByRecursion-weaker
    (λ (row : ℕ → List (Slot Vote Hearing)). (k : ℕ) → AllByRecursion (IsPart (in_epoch k) (heard_in_epoch k) (in_epoch k)) (row k))
    (λ (row : ℕ → List (Slot Vote Hearing)). (k : ℕ) → k < c.epochs → AllByRecursion (IsPart any_vote (is_inside c) any_vote) (row k))
    (broadcast_rows c i j ++ agreement_rows c i j)
    (λ row parts k below.
    AllByRecursion-weaker (IsPart (in_epoch k) (heard_in_epoch k) (in_epoch k)) (IsPart any_vote (is_inside c) any_vote) (row k)
    (λ slot part.
    IsPart-wider (in_epoch k) any_vote (heard_in_epoch k) (is_inside c) (in_epoch k) any_vote slot
    (λ vote is. refl) (λ h is. lt-ltb (epoch_of h.vote) c.epochs (omega (arith, below, eqb-true (epoch_of h.vote) k is))) (λ vote is. refl) part)
    (parts k))
    (lane-parts c i j))

idle_outside : (c : Numbers) (i j : ℕ) (own : List Vote) (heard : List Hearing) (h : Hearing) → c.epochs ≤ epoch_of h.vote → IsIdle (lane_slots c i j) own heard
    → IsIdle (lane_slots c i j) own (heard ++ h ∷ [])
idle_outside c i j own heard h outside idle =
    pass-same any_vote (is_inside c) any_vote (lane_slots c i j) (lane_parts_within c i j) own own (heard ++ h ∷ []) heard refl
    (not_heard (is_inside c) heard h (le-ltb (epoch_of h.vote) c.epochs outside))
    ∙ idle

pub Hears-outside : (l : LaneView) (h : Hearing) (votes : List Vote) → l.config.epochs ≤ epoch_of h.vote → Hears l l h votes votes
Hears-outside l h votes outside = record {
  same = refl;
  votes = [];
  due = sym (append-nil votes);
  owed = λ own heard stands.
      IsOwed-nil (slots_at l) own (heard ++ h ∷ []) (idle_outside l.config l.node l.lane own heard h outside stands.idle);
  stands = λ own heard stands.
      subst (λ (own : List Vote). Stands l own (heard ++ h ∷ [])) (sym (append-nil own))
      (record {
        idle = idle_outside l.config l.node l.lane own heard h outside stands.idle;
        each = λ k inside.
            StandsAt-same k (cores_at l.epochs k) own own heard (heard ++ h ∷ []) refl
            (sym (not_heard (heard_in_epoch k) heard h (ne_eqb (epoch_of h.vote) k (λ same. absurd (omega (arith, same, inside, outside))))))
            (stands.each k inside);
      });
}

-- ---- the start, and a restart

pub Stands-new : (c : Numbers) (i j : ℕ) → IsIdle (lane_slots c i j) [] [] → Stands (record { config = c; node = i; lane = j; epochs = [] }) [] []
Stands-new c i j idle = record { idle = idle; each = λ e below. record { none_cast = refl; none_heard = refl } }

pub ArePlaced-none : (c : Numbers) (i j : ℕ) → ArePlaced c i j []
ArePlaced-none c i j = record { each = λ e. tt }

pub Stands-recovered : (l : LaneView) (own : List Vote) (epochs : List (Option Cores)) → AreRecovered l own l.config.epochs epochs → IsIdle (slots_at l) own []
    → Stands (record l { epochs = epochs }) own []
Stands-recovered l own epochs are idle = record { idle = idle; each = are.stands idle }

pub ArePlaced-recovered : (l : LaneView) (own : List Vote) (n : ℕ) (epochs : List (Option Cores)) → AreRecovered l own n epochs
    → ArePlaced l.config l.node l.lane epochs
ArePlaced-recovered l own n epochs are = record {
  each = λ e. elim (cases_lt e n) [
    | inl below ↦ are.at e below
    | inr above ↦
        subst (λ (place : Option Cores). AreAtEpoch l.config l.node l.lane e place) (sym (get_or_past epochs e None (omega (arith, above, are.count)))) tt
  ];
}

-- one epoch more
pub AreRecovered-more : (l : LaneView) (own : List Vote) (n : ℕ) (epochs : List (Option Cores)) (place : Option Cores) → AreRecovered l own n epochs
    → AreAtEpoch l.config l.node l.lane n place → (IsIdle (slots_at l) own [] → StandsAt n place own []) → AreRecovered l own (n + 1) (epochs ++ place ∷ [])
AreRecovered-more l own n epochs place are at stands = record {
  count = let size = length-append epochs (place ∷ []) in omega (arith, size, are.count);
  at =
      below_more (λ e. AreAtEpoch l.config l.node l.lane e (cores_at (epochs ++ place ∷ []) e)) n
      (λ e below. subst (AreAtEpoch l.config l.node l.lane e) (sym (get_or_append_left epochs (place ∷ []) None e (omega (arith, below, are.count)))) (are.at e below))
      (subst (AreAtEpoch l.config l.node l.lane n) (sym (get_or_push epochs place None n are.count)) at);
  stands = λ idle.
      below_more (λ e. StandsAt e (cores_at (epochs ++ place ∷ []) e) own []) n
      (λ e below.
      subst (λ (place : Option Cores). StandsAt e place own []) (sym (get_or_append_left epochs (place ∷ []) None e (omega (arith, below, are.count))))
      (are.stands idle e below))
      (subst (λ (place : Option Cores). StandsAt n place own []) (sym (get_or_push epochs place None n are.count)) (stands idle));
}

-- nothing of the epoch was cast
pub untouched_by : (e : ℕ) (own : List Vote) → list_any (in_epoch e) own ≡ false → IsUntouched e own []
untouched_by e own none = record { none_cast = none_of e own none; none_heard = refl }
  where
    none_of : (e : ℕ) (own : List Vote) → list_any (in_epoch e) own ≡ false → filter (in_epoch e) own ≡ []
    none_of e [] none = refl
    none_of e (vote ∷ own) none =
        let parts = or_parts (in_epoch e vote) (list_any (in_epoch e) own) none in
        rw parts.0 (none_of e own parts.1)

-- the agreement of an epoch of a lane that owes nothing by these votes
pub recovered_rests : (c : Numbers) (i j e : ℕ) (own : List Vote) → e < c.epochs → IsIdle (lane_slots c i j) own []
    → IsIdle (agreement_slots c i j e) (filter (read_in_agreement e) own) []
recovered_rests c i j e own below idle =
    agreement_rests c i j e own (filter (read_in_agreement e) own) [] [] below idle (sym (filter-twice (read_in_agreement e) own)) refl
