-- What the cores of an epoch stand for after one more hearing. The letters: lane j of node i, epoch e.
use Rattle.std.proofs.lemmas.Bool.{cases_Bool, cond-true, cond-false}
use Rattle.std.proofs.Common.{◌≡◌, ◌≤◌, ◌+◌, ⊎_elim, arith, ℕ, true, false, List, [], ◌∷◌, ◌++◌, refl, sym, ap, ◌∙◌, subst, append-nil, append_assoc, length, drop}
use Rattle.std.specs.List.{list_any, list_all, filter}
use Rattle.std.proofs.lemmas.List.Elements.{filter-append}
use Rattle.hb_base.specs.Numbers.{Numbers}
use Rattle.hb_wire.specs.declared.vote.Vote.{Vote}
use Rattle.hb_rules.specs.Claims.{is_any_delivery}
use Rattle.hb_rules.specs.Hearing.{Hearing}
use Rattle.hb_rules.specs.Parts.{in_broadcast, heard_in_broadcast, in_agreement, read_in_agreement, heard_in_agreement}
use Rattle.hb_rules.specs.Slots.{pass, IsIdle, IsOwed}
use Rattle.hb_rules.specs.Owing.{Place, broadcast_slots, agreement_slots}
use Rattle.hb_rules.proofs.Passing.{IsOwed-nil}
use Rattle.hb_rules.proofs.Rows.{not_heard}
use Rattle.hb_rules.proofs.Within.{pass-made, IsOwed-made}
use Rattle.rbc_core.specs.Broadcast as broadcast
use Rattle.aba_core.specs.State as agreement
use Rattle.aba_core.specs.Standing as standing
use Rattle.lane_core.specs.declared.cores.Cores.{Cores}
use Rattle.lane_core.specs.Cores.{is_for_broadcast, AreAt, StayAt, StandFor, StandOn, HearsOne, agreement_room, room_for}
use Rattle.lane_core.proofs.Parts.{all_deliveries, some_delivery, no_delivery, own_in_broadcast, own_in_agreement, heard_now, broadcast_slots-parts, agreement_slots-parts, broadcast_pass, agreement_owed}

-- ---- places

pub StayAt-by : (old new : Cores) → broadcast.place_of new.rbc ≡ broadcast.place_of old.rbc → agreement.place_of new.aba ≡ agreement.place_of old.aba → StayAt old new
StayAt-by old new one two = λ c i j e at. record { rbc = one ∙ at.rbc; aba = two ∙ at.aba }

pub kept_place : (old new : broadcast.RbcView) → broadcast.KeepsStanding old new → broadcast.place_of new ≡ broadcast.place_of old
kept_place old new keeps =
    ap broadcast.place_of keeps.marks
    ∙ ap (λ (c : Numbers). let p : Place = record { config = c; node = old.node; lane = old.lane; epoch = old.epoch } in p) keeps.roots.config

-- ---- what each part owes, at its place

first_passes : (c : Numbers) (i j e : ℕ) (old : Cores) (h : Hearing) (votes : List Vote) → AreAt c i j e old → heard_in_broadcast e h ≡ true
    → ((own : List Vote) (heard : List Hearing) → broadcast.Stands old.rbc own heard → pass (broadcast.slots_at (broadcast.place_of old.rbc)) own (heard ++ h ∷ []) ≡ votes)
    → (own : List Vote) (heard : List Hearing) → StandFor e old own heard → pass (broadcast_slots c i j e) own (heard ++ h ∷ []) ≡ votes
first_passes c i j e old h votes at kind gives own heard stands =
    broadcast_pass c i j e own (filter (heard_in_broadcast e) heard ++ h ∷ []) (heard ++ h ∷ []) (heard_now (heard_in_broadcast e) heard h kind)
    ∙ subst (λ (p : Place). pass (broadcast.slots_at p) (filter (in_broadcast e) own) (filter (heard_in_broadcast e) heard ++ h ∷ []) ≡ votes) at.rbc
    (gives (filter (in_broadcast e) own) (filter (heard_in_broadcast e) heard) stands.rbc)

first_made : (c : Numbers) (i j e : ℕ) (own : List Vote) (heard : List Hearing) (votes : List Vote) → pass (broadcast_slots c i j e) own heard ≡ votes
    → list_all (in_broadcast e) votes ≡ true
first_made c i j e own heard votes is =
    ap (list_all (in_broadcast e)) (sym is)
    ∙ pass-made (in_broadcast e) (heard_in_broadcast e) (in_broadcast e) (broadcast_slots c i j e) (broadcast_slots-parts c i j e) own heard

second_made : (c : Numbers) (i j e : ℕ) (own : List Vote) (heard : List Hearing) (votes : List Vote) → IsOwed (agreement_slots c i j e) own heard votes
    → list_all (in_agreement e) votes ≡ true
second_made c i j e own heard votes owed =
    IsOwed-made (read_in_agreement e) (heard_in_agreement e) (in_agreement e) (agreement_slots c i j e) (agreement_slots-parts c i j e) own heard votes owed

-- nothing is owed by what the states stand for
first_idle : (c : Numbers) (i j e : ℕ) (old : Cores) (own : List Vote) (heard : List Hearing) → AreAt c i j e old → StandFor e old own heard
    → IsIdle (broadcast_slots c i j e) (filter (in_broadcast e) own) (filter (heard_in_broadcast e) heard)
first_idle c i j e old own heard at stands =
    subst (λ (p : Place). IsIdle (broadcast.slots_at p) (filter (in_broadcast e) own) (filter (heard_in_broadcast e) heard)) at.rbc stands.rbc.idle

second_idle : (c : Numbers) (i j e : ℕ) (old : Cores) (own : List Vote) (heard : List Hearing) → AreAt c i j e old → StandFor e old own heard
    → IsIdle (agreement_slots c i j e) (filter (read_in_agreement e) own) (filter (heard_in_agreement e) heard)
second_idle c i j e old own heard at stands =
    subst (λ (p : Place). IsIdle (standing.slots_at p) (filter (read_in_agreement e) own) (filter (heard_in_agreement e) heard)) at.aba stands.aba.idle

-- the states stand for lists of which they look at the same
StandFor-by : (e : ℕ) (cores : Cores) (own : List Vote) (heard : List Hearing) (own_rbc own_aba : List Vote) (heard_rbc heard_aba : List Hearing)
    → filter (in_broadcast e) own ≡ own_rbc → filter (heard_in_broadcast e) heard ≡ heard_rbc
    → filter (read_in_agreement e) own ≡ own_aba → filter (heard_in_agreement e) heard ≡ heard_aba
    → broadcast.Stands cores.rbc own_rbc heard_rbc → standing.Stands cores.aba own_aba heard_aba → StandFor e cores own heard
StandFor-by e cores own heard own_rbc own_aba heard_rbc heard_aba one two three four rbc aba = record {
  rbc = rw (one, two) rbc;
  aba = rw (three, four) aba;
}

-- ---- the broadcast hears the vote

-- the lane does not deliver by it
pub HearsOne-passed : (c : Numbers) (i j e : ℕ) (old new : Cores) (h : Hearing) (before after : List Vote) → AreAt c i j e old
    → heard_in_broadcast e h ≡ true → heard_in_agreement e h ≡ false → (hears : broadcast.Hears old.rbc new.rbc h before after) → new.aba ≡ old.aba
    → list_any (is_any_delivery e) hears.votes ≡ false → HearsOne c i j e old new h before after
HearsOne-passed c i j e old new h before after at kind other hears same empty =
    let first : List Vote = hears.votes in
    let passes = first_passes c i j e old h first at kind hears.gives in
    let made : (own : List Vote) (heard : List Hearing) → StandFor e old own heard → list_all (in_broadcast e) first ≡ true =
    λ own heard stands. first_made c i j e own (heard ++ h ∷ []) first (passes own heard stands) in
    let read : (own : List Vote) (heard : List Hearing) → StandFor e old own heard → filter (read_in_agreement e) (own ++ first) ≡ filter (read_in_agreement e) own =
    λ own heard stands.
    filter-append (read_in_agreement e) own first
    ∙ ap (λ (votes : List Vote). filter (read_in_agreement e) own ++ votes) (no_delivery e first (made own heard stands) empty)
    ∙ append-nil (filter (read_in_agreement e) own) in
    record {
      first = first;
      second = [];
      due = hears.due ∙ ap (λ (votes : List Vote). before ++ votes) (sym (append-nil first));
      passes = passes;
      owed = λ own heard stands.
          agreement_owed c i j e (own ++ first) (filter (read_in_agreement e) own) (filter (heard_in_agreement e) heard) (heard ++ h ∷ []) []
          (read own heard stands) (not_heard (heard_in_agreement e) heard h other)
          (IsOwed-nil (agreement_slots c i j e) (filter (read_in_agreement e) own) (filter (heard_in_agreement e) heard) (second_idle c i j e old own heard at stands));
      stands = λ own heard stands.
          StandFor-by e new (own ++ (first ++ [])) (heard ++ h ∷ [])
          (filter (in_broadcast e) own ++ first) (filter (read_in_agreement e) own)
          (filter (heard_in_broadcast e) heard ++ h ∷ []) (filter (heard_in_agreement e) heard)
          (own_in_broadcast e own first [] (made own heard stands) refl) (heard_now (heard_in_broadcast e) heard h kind)
          (ap (λ (votes : List Vote). filter (read_in_agreement e) (own ++ votes)) (append-nil first) ∙ read own heard stands)
          (not_heard (heard_in_agreement e) heard h other)
          (hears.stands (filter (in_broadcast e) own) (filter (heard_in_broadcast e) heard) stands.rbc)
          (subst (λ (a : agreement.AbaView). standing.Stands a (filter (read_in_agreement e) own) (filter (heard_in_agreement e) heard)) (sym same) stands.aba);
    }

-- the lane delivers by it
pub HearsOne-delivered : (c : Numbers) (i j e : ℕ) (old new : Cores) (h : Hearing) (before mid after : List Vote) → AreAt c i j e old
    → heard_in_broadcast e h ≡ true → heard_in_agreement e h ≡ false → (hears : broadcast.Hears old.rbc new.rbc h before mid)
    → list_any (is_any_delivery e) hears.votes ≡ true → standing.Takes true old.aba new.aba mid after → HearsOne c i j e old new h before after
HearsOne-delivered c i j e old new h before mid after at kind other hears some takes =
    let first : List Vote = hears.votes in
    let second : List Vote = takes.votes in
    let more : List Vote = filter (read_in_agreement e) first in
    let passes = first_passes c i j e old h first at kind hears.gives in
    let epoch : old.aba.epoch ≡ e = ap (λ (p : Place). p.epoch) at.aba in
    let made : (own : List Vote) (heard : List Hearing) → StandFor e old own heard → list_all (in_broadcast e) first ≡ true =
    λ own heard stands. first_made c i j e own (heard ++ h ∷ []) first (passes own heard stands) in
    let taken : (own : List Vote) (heard : List Hearing) → StandFor e old own heard
    → IsOwed (standing.slots_at (agreement.place_of old.aba)) (filter (read_in_agreement e) own ++ more) (filter (heard_in_agreement e) heard) second
    × standing.Stands new.aba ((filter (read_in_agreement e) own ++ more) ++ second) (filter (heard_in_agreement e) heard) =
    λ own heard stands.
    takes.one refl (filter (read_in_agreement e) own) more (filter (heard_in_agreement e) heard) stands.aba
    (rw epoch (all_deliveries e first (made own heard stands)))
    (rw epoch (some_delivery e (filter (read_in_agreement e) own) first some)) in
    let owed : (own : List Vote) (heard : List Hearing) → StandFor e old own heard → IsOwed (agreement_slots c i j e) (own ++ first) (heard ++ h ∷ []) second =
    λ own heard stands.
    agreement_owed c i j e (own ++ first) (filter (read_in_agreement e) own ++ more) (filter (heard_in_agreement e) heard) (heard ++ h ∷ []) second
    (filter-append (read_in_agreement e) own first) (not_heard (heard_in_agreement e) heard h other)
    (subst (λ (p : Place). IsOwed (standing.slots_at p) (filter (read_in_agreement e) own ++ more) (filter (heard_in_agreement e) heard) second) at.aba
    (taken own heard stands).0) in
    record {
      first = first;
      second = second;
      due = takes.due ∙ ap (λ (votes : List Vote). votes ++ second) hears.due ∙ append_assoc before first second;
      passes = passes;
      owed = owed;
      stands = λ own heard stands.
          let all = second_made c i j e (own ++ first) (heard ++ h ∷ []) second (owed own heard stands) in
          StandFor-by e new (own ++ (first ++ second)) (heard ++ h ∷ [])
          (filter (in_broadcast e) own ++ first) ((filter (read_in_agreement e) own ++ more) ++ second)
          (filter (heard_in_broadcast e) heard ++ h ∷ []) (filter (heard_in_agreement e) heard)
          (own_in_broadcast e own first second (made own heard stands) all) (heard_now (heard_in_broadcast e) heard h kind)
          (own_in_agreement e own first second all) (not_heard (heard_in_agreement e) heard h other)
          (hears.stands (filter (in_broadcast e) own) (filter (heard_in_broadcast e) heard) stands.rbc)
          (taken own heard stands).1;
    }

-- ---- the agreement hears the vote

pub HearsOne-agreed : (c : Numbers) (i j e : ℕ) (old new : Cores) (h : Hearing) (before after : List Vote) → AreAt c i j e old
    → heard_in_broadcast e h ≡ false → heard_in_agreement e h ≡ true → new.rbc ≡ old.rbc → standing.Hears old.aba new.aba h before after
    → HearsOne c i j e old new h before after
HearsOne-agreed c i j e old new h before after at other kind same hears =
    let second : List Vote = hears.votes in
    let owed : (own : List Vote) (heard : List Hearing) → StandFor e old own heard → IsOwed (agreement_slots c i j e) (own ++ []) (heard ++ h ∷ []) second =
    λ own heard stands.
    agreement_owed c i j e (own ++ []) (filter (read_in_agreement e) own) (filter (heard_in_agreement e) heard ++ h ∷ []) (heard ++ h ∷ []) second
    (ap (filter (read_in_agreement e)) (append-nil own)) (heard_now (heard_in_agreement e) heard h kind)
    (subst (λ (p : Place). IsOwed (standing.slots_at p) (filter (read_in_agreement e) own) (filter (heard_in_agreement e) heard ++ h ∷ []) second) at.aba
    (hears.owed (filter (read_in_agreement e) own) (filter (heard_in_agreement e) heard) stands.aba)) in
    record {
      first = [];
      second = second;
      due = hears.due;
      passes = λ own heard stands.
          broadcast_pass c i j e own (filter (heard_in_broadcast e) heard) (heard ++ h ∷ []) (not_heard (heard_in_broadcast e) heard h other)
          ∙ first_idle c i j e old own heard at stands;
      owed = owed;
      stands = λ own heard stands.
          let all = second_made c i j e (own ++ []) (heard ++ h ∷ []) second (owed own heard stands) in
          StandFor-by e new (own ++ second) (heard ++ h ∷ [])
          (filter (in_broadcast e) own ++ []) ((filter (read_in_agreement e) own ++ []) ++ second)
          (filter (heard_in_broadcast e) heard) (filter (heard_in_agreement e) heard ++ h ∷ [])
          (own_in_broadcast e own [] second refl all) (not_heard (heard_in_broadcast e) heard h other)
          (own_in_agreement e own [] second all) (heard_now (heard_in_agreement e) heard h kind)
          (rw (append-nil, same) stands.rbc)
          (rw append-nil (hears.stands (filter (read_in_agreement e) own) (filter (heard_in_agreement e) heard) stands.aba));
    }

-- ---- neither hears it

pub HearsOne-nothing : (c : Numbers) (i j e : ℕ) (old : Cores) (h : Hearing) (votes : List Vote) → AreAt c i j e old
    → heard_in_broadcast e h ≡ false → heard_in_agreement e h ≡ false → HearsOne c i j e old old h votes votes
HearsOne-nothing c i j e old h votes at one two = record {
  first = [];
  second = [];
  due = sym (append-nil votes);
  passes = λ own heard stands.
      broadcast_pass c i j e own (filter (heard_in_broadcast e) heard) (heard ++ h ∷ []) (not_heard (heard_in_broadcast e) heard h one)
      ∙ first_idle c i j e old own heard at stands;
  owed = λ own heard stands.
      agreement_owed c i j e (own ++ []) (filter (read_in_agreement e) own) (filter (heard_in_agreement e) heard) (heard ++ h ∷ []) []
      (ap (filter (read_in_agreement e)) (append-nil own)) (not_heard (heard_in_agreement e) heard h two)
      (IsOwed-nil (agreement_slots c i j e) (filter (read_in_agreement e) own) (filter (heard_in_agreement e) heard) (second_idle c i j e old own heard at stands));
  stands = λ own heard stands.
      StandFor-by e old (own ++ []) (heard ++ h ∷ [])
      (filter (in_broadcast e) own) (filter (read_in_agreement e) own) (filter (heard_in_broadcast e) heard) (filter (heard_in_agreement e) heard)
      (ap (filter (in_broadcast e)) (append-nil own)) (not_heard (heard_in_broadcast e) heard h one)
      (ap (filter (read_in_agreement e)) (append-nil own)) (not_heard (heard_in_agreement e) heard h two)
      stands.rbc stands.aba;
}

-- ---- votes that were added behind others

pub drop_front : (xs ys : List Vote) → drop (length xs) (xs ++ ys) ≡ ys
drop_front [] ys = refl
drop_front (x ∷ xs) ys = drop_front xs ys

-- ---- where memory is wanting

pub broadcast_stands_on : (old new : Cores) → broadcast.KeepsStanding old.rbc new.rbc → new.aba ≡ old.aba → StandOn old new
broadcast_stands_on old new keeps same = record {
  stand = λ e own heard stands. record {
    rbc = keeps.stands (filter (in_broadcast e) own) (filter (heard_in_broadcast e) heard) stands.rbc;
    aba = subst (λ (a : agreement.AbaView). standing.Stands a (filter (read_in_agreement e) own) (filter (heard_in_agreement e) heard)) (sym same) stands.aba;
  };
}

-- ---- room

pub agreement_fits : (cores : Cores) (vote : Vote) (spare : ℕ) → room_for cores vote ≤ spare → agreement_room cores ≤ spare
agreement_fits cores vote spare room =
    let most = agreement_room cores + (broadcast.place_of cores.rbc).config.n + 2 in
    ⊎_elim
    (λ is. omega (arith, room, cond-true {A = ℕ} (is_for_broadcast vote) most (agreement_room cores) is))
    (λ no_one. omega (arith, room, cond-false {A = ℕ} (is_for_broadcast vote) most (agreement_room cores) no_one))
    (cases_Bool (is_for_broadcast vote))

-- also once the broadcast has heard its vote
pub agreement_fits_then : (cores : Cores) (vote : Vote) (spare left : ℕ) → is_for_broadcast vote ≡ true → room_for cores vote ≤ spare
    → spare ≤ left + (broadcast.place_of cores.rbc).config.n + 2 → agreement_room cores ≤ left
agreement_fits_then cores vote spare left is room used =
    omega (
      arith,
      room,
      used,
      cond-true {A = ℕ} (is_for_broadcast vote) (agreement_room cores + (broadcast.place_of cores.rbc).config.n + 2) (agreement_room cores) is,
    )

-- the votes that were added
pub added_votes : (before first all votes : List Vote) (k : ℕ) → votes ≡ drop k all → k ≡ length before → all ≡ before ++ first → votes ≡ first
added_votes before first all votes k is at whole =
    is ∙ ap (λ (n : ℕ). drop n all) at ∙ ap (drop (length before)) whole ∙ drop_front before first
