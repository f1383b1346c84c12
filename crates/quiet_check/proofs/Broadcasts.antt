-- A broadcast whose hearings are gone through one after the other: nothing is owed by all of them exactly where none makes
-- anything due. The letters: lane j of node i, epoch e.
use Rattle.std.proofs.Common.{◌≡◌, ◌↔◌, ℕ, ◌<◌, Bool, true, false, ◌&&◌, ◌==◌, nat_lt, List, [], ◌∷◌, ◌++◌, length, take, bytes_eq, Option, None, Some, if◌then◌else◌, refl, sym, ap, ◌∙◌, subst, append-nil, arith}
use Rattle.std.specs.List.{filter}
use Rattle.std.specs.Option.{option_and_then}
use Rattle.std.proofs.lemmas.Bool.{ne_eqb, lt-ltb, both_ways}
use Rattle.std.proofs.lemmas.List.Elements.{filter-append}
use Rattle.hb_base.specs.Numbers.{Numbers, AreSound}
use Rattle.hb_wire.specs.declared.vote.Vote.{Vote}
use Rattle.hb_wire.specs.declared.vote.Vote.TheVariants.{Echo}
use Rattle.merkle_branch.specs.Branches.{is_branch}
use Rattle.hb_rules.specs.BroadcastRows.{proposal_in, echo_in, echo_made, shard_of, value_through, value_of}
use Rattle.hb_rules.specs.Claims.{proposed, echoed, is_echo, is_ready}
use Rattle.hb_rules.specs.Code.{data_count}
use Rattle.hb_rules.specs.FirstShown.{firsts_shown}
use Rattle.hb_rules.specs.Hearing.{Hearing}
use Rattle.hb_rules.specs.Owing.{Place, broadcast_slots}
use Rattle.hb_rules.specs.Slots.{pass, IsIdle, first_of, when}
use Rattle.hb_rules.proofs.Lists.{first_within, filter_map_within}
use Rattle.rbc_core.specs.Broadcast.{RbcView, place_of, slots_at, Stands, Hears}
use Rattle.quiet_check.specs.Inside.{is_inside}
use Rattle.quiet_check.proofs.Outside.{count_inside}
use Rattle.quiet_check.proofs.Carrying.{broadcast_carried, idle_early}

-- ---- hearings of nodes that the run does not have

other_node : {A : Type 0} (n a : ℕ) (h : Hearing) (o : Option A) → a < n → is_inside n h ≡ false → (if h.from == a then o else None) ≡ None
other_node n a h o below outside =
    let apart : (h.from == a) ≡ false = ne_eqb h.from a (λ same. both_ways (nat_lt h.from n) outside (lt-ltb h.from n (omega (arith, same, below)))) in
    rw apart refl

no_shard : (n e : ℕ) (root : List ℕ) (h : Hearing) → is_inside n h ≡ false → shard_of n e root h ≡ None
no_shard n e root h outside = ap shown (none h.vote)
  where
    shown : Option (List ℕ × List ℕ) → Option (ℕ × List ℕ)
    shown = option_and_then (λ part. when (bytes_eq root part.0) (h.from, part.1))

    none : (vote : Vote) → echoed n e h.from vote ≡ None
    none (Echo d root shard branch) = by (d == e) (root, shard)
      where
        by : (b : Bool) (part : List ℕ × List ℕ) → (if b && (nat_lt h.from n && is_branch root n h.from shard branch) then Some part else None) ≡ None
        by true part = rw outside refl
        by false part = refl
    none vote = refl

value_inside : (c : Numbers) (e : ℕ) (heard : List Hearing) (root : List ℕ) → value_of c e (filter (is_inside c.n) heard) root ≡ value_of c e heard root
value_inside c e heard root =
    ap (λ (shards : List (ℕ × List ℕ)). value_through c root (take (data_count c) (firsts_shown shards)))
    (filter_map_within (shard_of c.n e root) (is_inside c.n) (no_shard c.n e root) heard)

proposal_inside : (c : Numbers) (i e : ℕ) (heard : List Hearing) → i < c.n
    → first_of (proposal_in i e) (filter (is_inside c.n) heard) ≡ first_of (proposal_in i e) heard
proposal_inside c i e heard below =
    first_within (proposal_in i e) (is_inside c.n) (λ h outside. other_node c.n i h (proposed e h.vote) below outside) heard

val_inside : (c : Numbers) (i j e : ℕ) (heard : List Hearing) → j < c.n
    → first_of (echo_in c.n e i j) (filter (is_inside c.n) heard) ≡ first_of (echo_in c.n e i j) heard
val_inside c i j e heard below =
    first_within (echo_in c.n e i j) (is_inside c.n) (λ h outside. other_node c.n j h (echo_made c.n e i h.vote) below outside) heard

pub broadcast_inside : (c : Numbers) (i j e : ℕ) (own : List Vote) (heard : List Hearing) → AreSound c → i < c.n → j < c.n
    → IsIdle (broadcast_slots c i j e) own (filter (is_inside c.n) heard) ↔ IsIdle (broadcast_slots c i j e) own heard
broadcast_inside c i j e own heard sound node lane = (
  broadcast_carried c i j e own few heard sound (λ k. record {
    proposal = λ none. sym (proposal_inside c i k heard node) ∙ none;
    val = λ none. sym (val_inside c i j k heard lane) ∙ none;
    echoes = λ root. let same = count_inside c.n heard (λ a. is_echo c.n k root a) in omega (arith, same);
    readies = λ root. let same = count_inside c.n heard (λ a. is_ready k root) in omega (arith, same);
    value = λ root value gives. value_inside c k heard root ∙ gives;
  }),
  broadcast_carried c i j e own heard few sound (λ k. record {
    proposal = λ none. proposal_inside c i k heard node ∙ none;
    val = λ none. val_inside c i j k heard lane ∙ none;
    echoes = λ root. let same = count_inside c.n heard (λ a. is_echo c.n k root a) in omega (arith, same);
    readies = λ root. let same = count_inside c.n heard (λ a. is_ready k root) in omega (arith, same);
    value = λ root value gives. sym (value_inside c k heard root) ∙ gives;
  }),
)
  where
    few : List Hearing
    few = filter (is_inside c.n) heard

-- ---- one hearing after the other

-- the state stands for what was cast, and for what was heard of the run's nodes
pub record HasHeard (r : RbcView) (p : Place) (own : List Vote) (heard : List Hearing) (due : List Vote) : Type 0 where
  pub place : place_of r ≡ p
  pub stands : Stands r own (filter (is_inside p.config.n) heard)
  pub none : due ≡ []

pub heard_first : (r : RbcView) (p : Place) (own due : List Vote) → place_of r ≡ p → Stands r own [] → due ≡ [] → HasHeard r p own [] due
heard_first r p own due place stands none = record { place = place; stands = stands; none = none }

pub heard_outside : (r : RbcView) (p : Place) (own : List Vote) (heard : List Hearing) (h : Hearing) (due : List Vote) → HasHeard r p own heard due
    → nat_lt h.from p.config.n ≡ false → HasHeard r p own (heard ++ h ∷ []) due
heard_outside r p own heard h due has outside = record {
  place = has.place;
  stands =
      subst (Stands r own)
      (sym (filter-append (is_inside p.config.n) heard (h ∷ []) ∙ rw outside (append-nil (filter (is_inside p.config.n) heard)))) has.stands;
  none = has.none;
}

heard_now : (n : ℕ) (heard : List Hearing) (h : Hearing) → nat_lt h.from n ≡ true
    → filter (is_inside n) (heard ++ h ∷ []) ≡ filter (is_inside n) heard ++ h ∷ []
heard_now n heard h inside = filter-append (is_inside n) heard (h ∷ []) ∙ rw inside refl

pub heard_inside : (old new : RbcView) (p : Place) (own : List Vote) (heard : List Hearing) (h : Hearing) (before after : List Vote)
    → HasHeard old p own heard before → nat_lt h.from p.config.n ≡ true → Hears old new h before after → after ≡ []
    → HasHeard new p own (heard ++ h ∷ []) after
heard_inside old new p own heard h before after has inside hears none = record {
  place = hears.place ∙ has.place;
  stands =
      subst (Stands new own) (sym (heard_now p.config.n heard h inside))
      (subst (λ (own : List Vote). Stands new own (filter (is_inside p.config.n) heard ++ h ∷ []))
      (ap (λ (votes : List Vote). own ++ votes) votes ∙ append-nil own)
      (hears.stands own (filter (is_inside p.config.n) heard) has.stands));
  none = none;
}
  where
    votes : hears.votes ≡ []
    votes = sym (hears.due ∙ ap (λ (due : List Vote). due ++ hears.votes) has.none) ∙ none

-- where a hearing makes something due, something is owed by all that is heard
pub not_idle : (old new : RbcView) (p : Place) (own : List Vote) (heard : List Hearing) (h : Hearing) (later : List Hearing) (before after : List Vote)
    → AreSound p.config → p.node < p.config.n → p.lane < p.config.n
    → HasHeard old p own heard before → nat_lt h.from p.config.n ≡ true → Hears old new h before after → (after ≡ [] → ⊥)
    → IsIdle (slots_at p) own ((heard ++ h ∷ []) ++ later) → ⊥
not_idle old new p own heard h later before after sound node lane has inside hears some idle = some (hears.due ∙ ap (λ (due : List Vote). due ++ hears.votes) has.none ∙ votes)
  where
    n : ℕ
    n = p.config.n

    all : IsIdle (slots_at p) own (filter (is_inside n) ((heard ++ h ∷ []) ++ later))
    all = (broadcast_inside p.config p.node p.lane p.epoch own ((heard ++ h ∷ []) ++ later) sound node lane).1 idle

    early : IsIdle (slots_at p) own (filter (is_inside n) (heard ++ h ∷ []))
    early =
        idle_early p.config p.node p.lane p.epoch own (filter (is_inside n) (heard ++ h ∷ [])) (filter (is_inside n) later) sound
        (subst (IsIdle (slots_at p) own) (filter-append (is_inside n) (heard ++ h ∷ []) later) all)

    votes : hears.votes ≡ []
    votes =
        sym (hears.gives own (filter (is_inside n) heard) has.stands)
        ∙ ap (λ (q : Place). pass (slots_at q) own (filter (is_inside n) heard ++ h ∷ [])) has.place
        ∙ ap (pass (slots_at p) own) (sym (heard_now n heard h inside)) ∙ early

-- where none did, nothing is
pub idle_heard : (r : RbcView) (p : Place) (own : List Vote) (heard : List Hearing) (due : List Vote)
    → AreSound p.config → p.node < p.config.n → p.lane < p.config.n → HasHeard r p own heard due → IsIdle (slots_at p) own heard
idle_heard r p own heard due sound node lane has =
    (broadcast_inside p.config p.node p.lane p.epoch own heard sound node lane).0
    (subst (λ (q : Place). IsIdle (slots_at q) own (filter (is_inside p.config.n) heard)) has.place has.stands.idle)

pub no_votes : (votes : List Vote) → length votes ≡ 0 → votes ≡ []
no_votes [] h = refl
no_votes (vote ∷ votes) h = absurd (omega arith)
