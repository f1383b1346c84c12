-- Going through slots: what is cast is what one pass owes.
use Rattle.std.proofs.Common.{◌≡◌, ℕ, zero, suc, ◌+◌, ◌-◌, ◌<◌, ◌≤◌, Bool, true, false, ◌&&◌, ◌||◌, nat_le, nat_lt, inl, inr, List, [], ◌∷◌, ◌++◌, length, length-append, Option, None, Some, if◌then◌else◌, refl, sym, ap, ◌∙◌, subst, append_assoc, append-nil, arith}
use Rattle.std.specs.List.{AllByRecursion}
use Rattle.std.specs.Option.{option_map, option_and_then}
use Rattle.std.proofs.lemmas.Bool.{or_left, or_right, and_left}
use Rattle.std.proofs.lemmas.List.{map-append}
use Rattle.hb_base.specs.NodeSet.{is_in}
use Rattle.hb_base.specs.Numbers.{Numbers}
use Rattle.hb_wire.specs.declared.vote.Vals.TheVariants.{Both}
use Rattle.hb_wire.specs.declared.vote.Vote.{Vote}
use Rattle.hb_wire.specs.declared.vote.Vote.TheVariants.{Est, Bval, Aux, Conf, Pick, Decided}
use Rattle.hb_rules.specs.declared.agreement_slot.AgreementSlot.{AgreementSlot}
use Rattle.hb_rules.specs.declared.agreement_slot.AgreementSlot.TheVariants as slot
use Rattle.hb_rules.specs.Agreement.{confirms}
use Rattle.hb_rules.specs.AgreementRows.{choice_of, limit_of, agreement_slot, next_bit, stops, is_supported, has_quorum, is_gathered_one, is_gathered_both, is_confirmed_both, is_left_one, is_left_both, accepted_bit, dealt}
use Rattle.hb_rules.specs.Hearing.{Hearing, heard_by}
use Rattle.hb_rules.specs.Marks.{single, Mark, delivery, any_est, any_aux, any_conf, pick, bears, has, bvals, auxes, confs, makes}
use Rattle.hb_rules.specs.Room.{DueView}
use Rattle.hb_rules.specs.Slots.{Slot, each, owes, pass, passes, IsIdle, when}
use Rattle.hb_rules.specs.Owing.{Place}
use Rattle.hb_rules.proofs.Lists.{AllByRecursion-each, AllByRecursion-weaker, AllByRecursion-both}
use Rattle.hb_rules.proofs.Passing.{pass-append}
use Rattle.aba_core.specs.declared.marks.Marks.{Marks}
use Rattle.aba_core.specs.declared.passing.Row.{Row}
use Rattle.aba_core.specs.declared.passing.Row.TheVariants.{Support, Accept, ConfirmOne, ConfirmBoth, PickOne, PickBoth, ShowShare, GoOn, Decide}
use Rattle.aba_core.specs.declared.round.Round.{Round}
use Rattle.aba_core.specs.Marks.{no_marks, any_pick_in}
use Rattle.aba_core.specs.Tables.{voters_in, count_in}
use Rattle.aba_core.specs.Levels.{levels_of}
use Rattle.aba_core.specs.State.{AbaView, place_of, round_in, mark_round, claim_round, mark_at, view_at, choice_at, slot_round, IsAba}
use Rattle.aba_core.specs.Standing.{slots_at, Shows}
use Rattle.aba_core.specs.Rows.{row_at, row_of, needs_confirm, names_of, IsKnown, slots_for, Rests, RestsBelow, limits_of, room_of}
use Rattle.aba_core.specs.Passing.{Casts, Adds, Passed, PassedTimes, Settled}
use Rattle.aba_core.proofs.Casting.{Fills, choice_fills, has-push}
use Rattle.aba_core.proofs.Names.{slots_are, row_known, resting_idle}
use Rattle.aba_core.proofs.Resting.{Spares, spares_resting, begin_rests, filled_shown, made_shown, slot_named}
use Rattle.aba_core.proofs.Rooms.{free-less, limits_inside, limit_known}

-- ---- a vote that is cast

same_config : (old new : AbaView) → place_of new ≡ place_of old → new.config ≡ old.config
same_config old new place = ap (λ (p : Place). p.config) place

-- the state shows the vote
pub casts_shown : (old new : AbaView) (vote : Vote) → Casts old new vote → (own : List Vote) (heard : List Hearing) → Shows old own heard
    → Shows new (own ++ vote ∷ []) heard
casts_shown old new vote casts own heard shows =
    let config : new.config ≡ old.config = same_config old new casts.place in
    let epoch : new.epoch ≡ old.epoch = ap (λ (p : Place). p.epoch) casts.place in
    let lane : new.lane ≡ old.lane = ap (λ (p : Place). p.lane) casts.place in
    let node : new.node ≡ old.node = ap (λ (p : Place). p.node) casts.place in
    let rounds : new.config.rounds ≡ old.config.rounds = ap (λ (c : Numbers). c.rounds) config in
    record {
      cast = λ mark below.
          casts.marks mark (omega (arith, rounds)) ∙ ap (λ (b : Bool). bears old.epoch mark vote || b) (shows.cast mark (omega (arith, rounds)))
          ∙ sym (has-push old.epoch mark own vote) ∙ ap (λ (e : ℕ). has e mark (own ++ vote ∷ [])) (sym epoch);
      said = λ claim below m.
          ap (λ (x : Round). is_in (voters_in x.tables claim) m) (casts.rounds (claim_round claim)) ∙ shows.said claim (omega (arith, rounds)) m
          ∙ ap (λ (e : ℕ). heard_by heard m (makes e claim)) (sym epoch);
      shares = λ r below none.
          ap (λ (x : Round). x.shares.added) (casts.rounds r)
          ∙ shows.shares r (omega (arith, rounds)) (ap (λ (x : Round). x.coin) (sym (casts.rounds r)) ∙ none)
          ∙ rw (config, lane, epoch) refl;
      coins = λ r below. ap (λ (x : Round). x.coin) (casts.rounds r) ∙ shows.coins r (omega (arith, rounds)) ∙ rw (config, lane, epoch) refl;
      no_more = casts.no_more ∙ shows.no_more ∙ rw (node, epoch) refl;
      nodes = λ m above. shows.nodes m (omega (arith, ap (λ (c : Numbers). c.n) config));
      few = omega (arith, shows.few, ap (λ (c : Numbers). c.n) config);
    }

-- what was marked stays so
grown : (old new : AbaView) (vote : Vote) → Casts old new vote → (mark : Mark) → mark_round mark < old.config.rounds → mark_at old mark ≡ true
    → mark_at new mark ≡ true
grown old new vote casts mark below was = casts.marks mark below ∙ or_right (bears old.epoch mark vote) (mark_at old mark) was

-- slots of earlier rounds rest as before
casts_spare : (old new : AbaView) (name : AgreementSlot) (vote : Vote) → Casts old new vote → Fills old.epoch name vote
    → slot_round name ≤ old.config.rounds → Spares (slot_round name) old new
casts_spare old new name vote casts fills inside = record {
  place = casts.place;
  alike = record {
    cast = λ mark kind below.
        sym (casts.marks mark (omega arith) ∙ ap (λ (b : Bool). b || mark_at old mark) (fills.late.later mark kind below));
    levels = λ r below. ap (λ (x : Round). levels_of old.config (count_in x.tables) r) (sym (casts.rounds r));
    coin = λ r below. ap (λ (x : Round). x.coin) (sym (casts.rounds r));
  };
  begin = λ b some rests.
      begin_rests old new casts.place
      (record {
        delivery = sym (casts.marks delivery (omega arith) ∙ ap (λ (t : Bool). t || mark_at old delivery) fills.no_delivery);
        no_more = sym casts.no_more;
      })
      (λ was. grown old new vote casts (any_est 0) (omega arith) was) b rests;
  grows = grown old new vote casts;
}

less_resting : (a : AbaView) (k m : ℕ) → k ≤ m → RestsBelow a m → RestsBelow a k
less_resting a k m le resting name known below = resting name known (omega arith)

fewer_spared : (old new : AbaView) (k m : ℕ) → k ≤ m → Spares m old new → Spares k old new
fewer_spared old new k m le spares = record {
  place = spares.place;
  alike = record {
    cast = λ mark kind below. spares.alike.cast mark kind (omega arith);
    levels = λ r below. spares.alike.levels r (omega arith);
    coin = λ r below. spares.alike.coin r (omega arith);
  };
  begin = λ b some rests. spares.begin b (omega arith) rests;
  grows = spares.grows;
}

-- ---- votes that were added

pub Adds-none : (a : AbaView) (d : DueView) → Adds a a d d []
Adds-none a d = record {
  place = refl;
  due = sym (append-nil d.votes);
  spare = omega arith;
  room = omega arith;
  shows = λ own heard shows. subst (λ (votes : List Vote). Shows a votes heard) (sym (append-nil own)) shows;
}

pub Adds-append : (old mid new : AbaView) (before between after : DueView) (votes more : List Vote) → Adds old mid before between votes
    → Adds mid new between after more → Adds old new before after (votes ++ more)
Adds-append old mid new before between after votes more one two =
    let size : length (votes ++ more) ≡ length votes + length more = length-append votes more in
    record {
      place = two.place ∙ one.place;
      due = two.due ∙ ap (λ (vs : List Vote). vs ++ more) one.due ∙ append_assoc before.votes votes more;
      spare = omega (arith, size, one.spare, two.spare);
      room = omega (arith, size, one.room, two.room);
      shows = λ own heard shows.
          subst (λ (vs : List Vote). Shows new vs heard) (append_assoc own votes more) (two.shows (own ++ votes) heard (one.shows own heard shows));
    }

-- there is room for what may still become due
pub room_left : (old new : AbaView) (before after : DueView) (votes : List Vote) → Adds old new before after votes → room_of old ≤ before.spare
    → room_of new ≤ after.spare
room_left old new before after votes adds enough = omega (arith, adds.spare, adds.room)

-- ---- passes put together

pub Passed-append : (from : ℕ) (old mid new : AbaView) (names more : List AgreementSlot) (before between after : DueView)
    → Passed from old mid names before between → Passed from mid new more between after → Passed from old new (names ++ more) before after
Passed-append from old mid new names more before between after one two = record {
  votes = one.votes ++ two.votes;
  adds = Adds-append old mid new before between after one.votes two.votes one.adds two.adds;
  resting = λ resting. two.resting (one.resting resting);
  owed = λ resting own heard shows.
      let p : Place = place_of old in
      let first : pass (slots_for p names) own heard ≡ one.votes = one.owed resting own heard shows in
      let second : pass (slots_for p more) (own ++ one.votes) heard ≡ two.votes =
      subst (λ (p : Place). pass (slots_for p more) (own ++ one.votes) heard ≡ two.votes) one.adds.place
      (two.owed (one.resting resting) (own ++ one.votes) heard (one.adds.shows own heard shows)) in
      ap (λ (slots : List (Slot Vote Hearing)). pass slots own heard) (map-append (agreement_slot p.config p.node p.lane p.epoch) names more)
      ∙ pass-append (slots_for p names) (slots_for p more) own heard
      ∙ rw (first, second) refl;
}

pub Passed-none : (from : ℕ) (a : AbaView) (names : List AgreementSlot) (d : DueView)
    → (RestsBelow a from → AllByRecursion (λ name. IsKnown a.config name × Rests a name) names) → Passed from a a names d d
Passed-none from a names d rest = record {
  votes = [];
  adds = Adds-none a d;
  resting = λ resting. resting;
  owed = λ resting own heard shows. resting_idle a own heard shows names (rest resting);
}

-- ---- one slot

pub Passed-filled : (from : ℕ) (a : AbaView) (name : AgreementSlot) (d : DueView) → IsKnown a.config name → mark_at a (limit_of name) ≡ true
    → Passed from a a (name ∷ []) d d
Passed-filled from a name d known filled = Passed-none from a (name ∷ []) d (λ resting. ((known, inl filled), tt))

pub Passed-empty : (from : ℕ) (a : AbaView) (name : AgreementSlot) (d : DueView) → IsKnown a.config name → choice_at a name ≡ None
    → Passed from a a (name ∷ []) d d
Passed-empty from a name d known empty = Passed-none from a (name ∷ []) d (λ resting. ((known, inr empty), tt))

owes_one : (slot : Slot Vote Hearing) (own : List Vote) (heard : List Hearing) (vote : Vote) → slot.is_cast own ≡ false → slot.choice own heard ≡ Some vote
    → owes slot own heard ≡ vote ∷ []
owes_one slot own heard vote cast choice = rw (cast, choice) refl

pub room_some : (a : AbaView) (name : AgreementSlot) → IsKnown a.config name → mark_at a (limit_of name) ≡ false → 1 ≤ room_of a
room_some a name known empty =
    let less = free-less (mark_at a) (λ mark. true) (limits_of a.config.rounds) (limit_of name) (all_true (limits_of a.config.rounds)) (limit_known a.config name known) empty refl in
    omega (arith, less)
  where
    all_true : (marks : List Mark) → AllByRecursion (λ mark. mark_at a mark ≡ true → true ≡ true) marks
    all_true [] = tt
    all_true (mark ∷ marks) = ((λ h. refl), all_true marks)

pub Passed-cast : (from : ℕ) (old new : AbaView) (name : AgreementSlot) (vote : Vote) (before after : DueView) → IsKnown old.config name
    → from ≤ slot_round name → mark_at old (limit_of name) ≡ false → choice_at old name ≡ Some vote → Casts old new vote
    → after.votes ≡ before.votes ++ vote ∷ [] → after.spare + 1 ≡ before.spare → Passed from old new (name ∷ []) before after
Passed-cast from old new name vote before after known le empty chosen casts due spare =
    let fills : Fills old.epoch name vote = choice_fills old.config old.node old.lane old.epoch (view_at old) name vote chosen in
    let config : new.config ≡ old.config = same_config old new casts.place in
    let now : mark_at new (limit_of name) ≡ true =
    casts.marks (limit_of name) known.limit ∙ or_left (bears old.epoch (limit_of name) vote) (mark_at old (limit_of name)) fills.fills in
    let less = free-less (mark_at old) (mark_at new) (limits_of old.config.rounds) (limit_of name)
    (AllByRecursion-weaker (λ mark. mark_round mark < old.config.rounds) (λ mark. mark_at old mark ≡ true → mark_at new mark ≡ true) (limits_of old.config.rounds)
    (λ mark below was. grown old new vote casts mark below was) (limits_inside old.config.rounds (omega (arith, known.round))))
    (limit_known old.config name known) empty now in
    record {
      votes = vote ∷ [];
      adds = record {
        place = casts.place;
        due = due;
        spare = spare;
        room = rw config less;
        shows = casts_shown old new vote casts;
      };
      resting = spares_resting from old new (fewer_spared old new from (slot_round name) le (casts_spare old new name vote casts fills (omega (arith, known.round))));
      owed = λ resting own heard shows.
          ap (λ (votes : List Vote). votes ++ []) (owes_one (slot_named old name) own heard vote
          (sym (filled_shown old own heard shows name known) ∙ empty) (sym (made_shown old own heard shows name known) ∙ chosen));
    }

-- ---- rows

-- a slot of a row is of the round
row_rounds : (c : Numbers) (row : Row) (r : ℕ) (P : AgreementSlot → Type 0) → ((name : AgreementSlot) → slot_round name ≡ r → P name)
    → AllByRecursion P (row_at c row r)
row_rounds c Support r P all = (all (slot.Support r false) refl, (all (slot.Support r true) refl, tt))
row_rounds c Accept r P all = (all (slot.Accept r) refl, tt)
row_rounds c ConfirmOne r P all = (all (slot.ConfirmOne r false) refl, (all (slot.ConfirmOne r true) refl, tt))
row_rounds c ConfirmBoth r P all = (all (slot.ConfirmBoth r) refl, tt)
row_rounds c PickOne r P all = (all (slot.PickOne r false) refl, (all (slot.PickOne r true) refl, tt))
row_rounds c PickBoth r P all = (all (slot.PickBoth r) refl, tt)
row_rounds c ShowShare r P all = (all (slot.ShowShare r) refl, tt)
row_rounds c GoOn r P all = by (nat_lt (r + 1) c.rounds)
  where
    by : (b : Bool) → AllByRecursion P (if b then slot.GoOn r ∷ [] else [])
    by true = (all (slot.GoOn r) refl, tt)
    by false = tt
row_rounds c Decide r P all = (all (slot.Decide r) refl, tt)

row_both : (a : AbaView) (row : Row) → (needs_confirm row ≡ true → confirms a.config ≡ true) → (r : ℕ) → r < a.config.rounds
    → ((name : AgreementSlot) → IsKnown a.config name → slot_round name ≡ r → Rests a name)
    → AllByRecursion (λ name. IsKnown a.config name × Rests a name) (row_at a.config row r)
row_both a row phase r below rest =
    AllByRecursion-both (IsKnown a.config) (λ name. slot_round name ≡ r) (λ name. IsKnown a.config name × Rests a name) (row_at a.config row r)
    (λ name known is. (known, rest name known is)) (row_known a.config row phase r below) (row_rounds a.config row r (λ name. slot_round name ≡ r) (λ name is. is))

none_when : {A : Type 0} (b : Bool) (x : A) → b ≡ false → when b x ≡ None
none_when true x h = absurd (cc (h))
none_when false x h = refl

no_both : (a : AbaView) (r : ℕ) → (round_in a r).marks ≡ no_marks → is_gathered_both a.config (view_at a) r ≡ false
no_both a r bare = and_left (mark_at a (any_aux r)) _ (ap (λ (m : Marks). m.aux) bare)

no_confirmed : (a : AbaView) (r : ℕ) → (round_in a r).marks ≡ no_marks → is_confirmed_both a.config (view_at a) r ≡ false
no_confirmed a r bare = and_left (mark_at a (any_conf r)) _ (ap (λ (m : Marks). m.conf) bare)

-- the rounds before `from`
pub Passed-before : (from : ℕ) (a : AbaView) (row : Row) (d : DueView) → (needs_confirm row ≡ true → confirms a.config ≡ true) → from ≤ a.config.rounds
    → Passed from a a (each from (row_at a.config row)) d d
Passed-before from a row d phase inside =
    Passed-none from a (each from (row_at a.config row)) d
    (λ resting. AllByRecursion-each (λ name. IsKnown a.config name × Rests a name) from (row_at a.config row)
    (λ r below. row_both a row phase r (omega arith) (λ name known is. resting name known (omega (arith, is)))))

-- in a round in which nothing is cast no row makes a vote
unbegun : (a : AbaView) (r : ℕ) → (round_in a r).marks ≡ no_marks → (row : Row) → AllByRecursion (Rests a) (row_at a.config row r)
unfolding choice_of
unbegun a r bare Support = (
  inr (ap (λ (m : Marks). when (m.ests.zero || ((m.ests.zero || m.ests.one) && nat_le (a.config.f + 1) ((view_at a).count (bvals r false)))) (Bval a.epoch r false)) bare),
  (inr (ap (λ (m : Marks). when (m.ests.one || ((m.ests.zero || m.ests.one) && nat_le (a.config.f + 1) ((view_at a).count (bvals r true)))) (Bval a.epoch r true)) bare), tt),
)
unbegun a r bare Accept =
    (inr (ap (λ (m : Marks). if m.ests.zero || m.ests.one then option_map (Aux a.epoch r) (accepted_bit a.config (view_at a) r) else None) bare), tt)
unbegun a r bare ConfirmOne = (inr (one false), (inr (one true), tt))
  where
    one : (b : Bool) → when (is_gathered_one a.config (view_at a) r b) (Conf a.epoch r (single b)) ≡ None
    one b =
        ap (λ (m : Marks). when (m.aux && (is_supported a.config (view_at a) r b && has_quorum a.config (view_at a) (auxes r b))) (Conf a.epoch r (single b))) bare
unbegun a r bare ConfirmBoth = (inr (none_when (is_gathered_both a.config (view_at a) r) (Conf a.epoch r Both) (no_both a r bare)), tt)
unbegun a r bare PickOne = (inr (one (confirms a.config) false), (inr (one (confirms a.config) true), tt))
  where
    one : (confirm b : Bool) → when (is_left_one confirm a.config (view_at a) r b) (Pick a.epoch r (single b)) ≡ None
    one true b =
        ap (λ (m : Marks). when (m.conf && (is_supported a.config (view_at a) r b && has_quorum a.config (view_at a) (confs r b))) (Pick a.epoch r (single b))) bare
    one false b =
        ap (λ (m : Marks). when (m.aux && (is_supported a.config (view_at a) r b && has_quorum a.config (view_at a) (auxes r b))) (Pick a.epoch r (single b))) bare
unbegun a r bare PickBoth = (inr (both (confirms a.config)), tt)
  where
    both : (confirm : Bool) → when (is_left_both confirm a.config (view_at a) r) (Pick a.epoch r Both) ≡ None
    both true = none_when (is_confirmed_both a.config (view_at a) r) (Pick a.epoch r Both) (no_confirmed a r bare)
    both false = none_when (is_gathered_both a.config (view_at a) r) (Pick a.epoch r Both) (no_both a r bare)
unbegun a r bare ShowShare =
    (inr (ap (λ (m : Marks). when (any_pick_in m) (dealt a.config a.node a.lane a.epoch r)) bare), tt)
unbegun a r bare GoOn = by (nat_lt (r + 1) a.config.rounds)
  where
    bit : (coin : Bool) → next_bit (view_at a) r coin ≡ None
    bit coin = ap (λ (m : Marks). if m.picks.zero then Some false else (if m.picks.one then Some true else when m.pick_both coin)) bare

    stopped : (t : Bool) (o : Option Bool) → o ≡ None → (if t then None else option_map (Est a.epoch (r + 1)) o) ≡ None
    stopped true o none = refl
    stopped false o none = ap (λ (o : Option Bool). option_map (Est a.epoch (r + 1)) o) none

    next : (o : Option Bool)
        → option_and_then (λ coin. if stops (view_at a) r coin then None else option_map (Est a.epoch (r + 1)) (next_bit (view_at a) r coin)) o ≡ None
    next None = refl
    next (Some coin) = stopped (stops (view_at a) r coin) (next_bit (view_at a) r coin) (bit coin)

    by : (b : Bool) → AllByRecursion (Rests a) (if b then slot.GoOn r ∷ [] else [])
    by true = (inr (next ((view_at a).coin r)), tt)
    by false = tt
unbegun a r bare Decide = (inr (by ((view_at a).coin r)), tt)
  where
    by : (o : Option Bool) → option_and_then (λ coin. when ((view_at a).cast (pick r (single coin))) (Decided a.epoch coin)) o ≡ None
    by None = refl
    by (Some false) = ap (λ (m : Marks). when m.picks.zero (Decided a.epoch false)) bare
    by (Some true) = ap (λ (m : Marks). when m.picks.one (Decided a.epoch true)) bare

-- a row after one of its rounds, and after the rounds from the top on
pub Passed-above : (from : ℕ) (old new : AbaView) (row : Row) (before after : DueView) → (needs_confirm row ≡ true → confirms new.config ≡ true)
    → IsAba new → place_of new ≡ place_of old → (round : ℕ) → new.top ≤ round → round ≤ new.config.rounds
    → Passed from old new (each round (row_at old.config row)) before after → Passed from old new (row_of old.config row) before after
Passed-above from old new row before after phase sound place round above inside passed =
    subst (λ (k : ℕ). Passed from old new (each k (row_at old.config row)) before after)
    (let same : round + (old.config.rounds - round) ≡ old.config.rounds = omega (arith, ap (λ (c : Numbers). c.rounds) config, inside) in same)
    (more (old.config.rounds - round) (omega (arith, ap (λ (c : Numbers). c.rounds) config, inside)))
  where
    config : new.config ≡ old.config
    config = same_config old new place

    at : (r : ℕ) → new.top ≤ r → r < new.config.rounds → Passed from new new (row_at old.config row r) after after
    at r high low =
        subst (λ (c : Numbers). Passed from new new (row_at c row r) after after) config
        (Passed-none from new (row_at new.config row r) after
        (λ resting. AllByRecursion-both (IsKnown new.config) (Rests new) (λ name. IsKnown new.config name × Rests new name) (row_at new.config row r)
        (λ name known rests. (known, rests)) (row_known new.config row phase r low) (unbegun new r (sound.above r high) row)))

    more : (k : ℕ) → round + k ≤ old.config.rounds → Passed from old new (each (round + k) (row_at old.config row)) before after
    more zero le = subst (λ (m : ℕ). Passed from old new (each m (row_at old.config row)) before after) (let same : round ≡ round + 0 = omega arith in same) passed
    more (suc k) le =
        subst (λ (m : ℕ). Passed from old new (each m (row_at old.config row)) before after) (let same : suc (round + k) ≡ round + suc k = omega arith in same)
        (Passed-append from old new new (each (round + k) (row_at old.config row)) (row_at old.config row (round + k)) before after after
        (more k (omega arith)) (at (round + k) (omega arith) (omega (arith, le, ap (λ (c : Numbers). c.rounds) config))))

-- ---- all slots, again and again

pub Times-none : (from : ℕ) (a : AbaView) (d : DueView) → PassedTimes from a a d d
Times-none from a d = record { count = 0; votes = []; adds = Adds-none a d; resting = λ resting. resting; owed = λ resting own heard shows. refl }

passes-more : (slots : List (Slot Vote Hearing)) (k : ℕ) (own : List Vote) (heard : List Hearing)
    → passes (suc k) slots own heard ≡ passes k slots own heard ++ pass slots (own ++ passes k slots own heard) heard
passes-more slots zero own heard =
    append-nil (pass slots own heard) ∙ ap (λ (own : List Vote). pass slots own heard) (sym (append-nil own))
passes-more slots (suc k) own heard =
    let here : List Vote = pass slots own heard in
    let rest : List Vote = passes k slots (own ++ here) heard in
    ap (λ (votes : List Vote). here ++ votes) (passes-more slots k (own ++ here) heard)
    ∙ sym (append_assoc here rest (pass slots ((own ++ here) ++ rest) heard))
    ∙ ap (λ (before : List Vote). (here ++ rest) ++ pass slots before heard) (append_assoc own here rest)

pub Times-more : (from : ℕ) (old mid new : AbaView) (before between after : DueView) → PassedTimes from old mid before between
    → Passed from mid new (names_of mid.config) between after → PassedTimes from old new before after
Times-more from old mid new before between after one two = record {
  count = suc one.count;
  votes = one.votes ++ two.votes;
  adds = Adds-append old mid new before between after one.votes two.votes one.adds two.adds;
  resting = λ resting. two.resting (one.resting resting);
  owed = λ resting own heard shows.
      let slots : List (Slot Vote Hearing) = slots_for (place_of old) (names_of old.config) in
      let first : passes one.count slots own heard ≡ one.votes = one.owed resting own heard shows in
      let second : pass slots (own ++ one.votes) heard ≡ two.votes =
      subst (λ (p : Place). pass (slots_for p (names_of p.config)) (own ++ one.votes) heard ≡ two.votes) one.adds.place
      (two.owed (one.resting resting) (own ++ one.votes) heard (one.adds.shows own heard shows)) in
      passes-more slots one.count own heard ∙ rw (first, second) refl;
}

no_votes : (votes before after : List Vote) → after ≡ before ++ votes → length after ≡ length before → votes ≡ []
no_votes votes before after is same = by votes (let size : length (before ++ votes) ≡ length before + length votes = length-append before votes in
    omega (arith, ap (λ (vs : List Vote). length vs) is, same, size))
  where
    by : (votes : List Vote) → length votes ≡ 0 → votes ≡ []
    by [] h = refl
    by (v ∷ votes) h = absurd (omega (arith, h))

-- where a last pass added nothing, all that is owed was cast
pub Settled-from : (from : ℕ) (old mid new : AbaView) (before between after : DueView) → PassedTimes from old mid before between
    → Passed from mid new (names_of mid.config) between after → length after.votes ≡ length between.votes → Settled from old new before after
Settled-from from old mid new before between after one two same =
    let none : two.votes ≡ [] = no_votes two.votes between.votes after.votes two.adds.due same in
    let place : place_of new ≡ place_of old = two.adds.place ∙ one.adds.place in
    let rests : RestsBelow old from → (own : List Vote) (heard : List Hearing) → Shows old own heard
    → IsIdle (slots_at (place_of old)) (own ++ one.votes) heard =
    λ resting own heard shows.
    subst (λ (slots : List (Slot Vote Hearing)). IsIdle slots (own ++ one.votes) heard) (sym (slots_are (place_of old)))
    (subst (λ (p : Place). pass (slots_for p (names_of p.config)) (own ++ one.votes) heard ≡ []) one.adds.place
    (two.owed (one.resting resting) (own ++ one.votes) heard (one.adds.shows own heard shows) ∙ none)) in
    record {
      votes = one.votes;
      place = place;
      due = two.adds.due ∙ ap (λ (vs : List Vote). between.votes ++ vs) none ∙ append-nil between.votes ∙ one.adds.due;
      room =
          omega (
            arith,
            one.adds.spare,
            two.adds.spare,
            ap (λ (vs : List Vote). length vs) one.adds.due,
            ap (λ (vs : List Vote). length vs) two.adds.due,
            length-append before.votes one.votes,
            length-append between.votes two.votes,
          );
      owed = λ resting own heard shows. record {
        count = one.count;
        gives =
            subst (λ (slots : List (Slot Vote Hearing)). passes one.count slots own heard ≡ one.votes) (sym (slots_are (place_of old)))
            (one.owed resting own heard shows);
        rests = rests resting own heard shows;
      };
      stands = λ resting own heard shows. record {
        idle = subst (λ (p : Place). IsIdle (slots_at p) (own ++ one.votes) heard) (sym place) (rests resting own heard shows);
        shows =
            subst (λ (vs : List Vote). Shows new vs heard) (ap (λ (vs : List Vote). (own ++ one.votes) ++ vs) none ∙ append-nil (own ++ one.votes))
            (two.adds.shows (own ++ one.votes) heard (one.adds.shows own heard shows));
      };
    }

-- ---- what calls one after the other do

-- the slots are given by the numbers of the run
pub Passed-then : (from : ℕ) (old mid new : AbaView) (names : List AgreementSlot) (more : Numbers → List AgreementSlot) (before between after : DueView)
    → Passed from old mid names before between → Passed from mid new (more mid.config) between after → Passed from old new (names ++ more old.config) before after
Passed-then from old mid new names more before between after one two =
    Passed-append from old mid new names (more old.config) before between after one
    (subst (λ (c : Numbers). Passed from mid new (more c) between after) (same_config old mid one.adds.place) two)

-- there is room for what may still become due
pub room_after : (from : ℕ) (old new : AbaView) (names : List AgreementSlot) (before after : DueView) → Passed from old new names before after
    → room_of old ≤ before.spare → room_of new ≤ after.spare
room_after from old new names before after passed enough = room_left old new before after passed.votes passed.adds enough

-- the numbers of the run stay
pub config_after : (from : ℕ) (old new : AbaView) (names : List AgreementSlot) (before after : DueView) → Passed from old new names before after → new.config ≡ old.config
config_after from old new names before after passed = same_config old new passed.adds.place

-- one round of a row more
pub Passed-round : (from : ℕ) (old mid new : AbaView) (row : Row) (round : ℕ) (before between after : DueView)
    → Passed from old mid (each round (row_at old.config row)) before between → Passed from mid new (row_at mid.config row round) between after
    → Passed from old new (each (round + 1) (row_at old.config row)) before after
Passed-round from old mid new row round before between after one two =
    subst (λ (k : ℕ). Passed from old new (each k (row_at old.config row)) before after) (let is : suc round ≡ round + 1 = omega arith in is)
    (Passed-then from old mid new (each round (row_at old.config row)) (λ c. row_at c row round) before between after one two)

-- a pass that adds a vote leaves room for fewer
pub less_room : (from : ℕ) (old new : AbaView) (names : List AgreementSlot) (before after : DueView) → Passed from old new names before after
    → (length after.votes ≡ length before.votes → ⊥) → room_of new < room_of old
less_room from old new names before after passed more = by passed.votes passed.adds.due passed.adds.room
  where
    by : (votes : List Vote) → after.votes ≡ before.votes ++ votes → room_of new + length votes ≤ room_of old → room_of new < room_of old
    by [] due room = absurd (more (ap (λ (vs : List Vote). length vs) (due ∙ append-nil before.votes)))
    by (v ∷ votes) due room = let some : length (v ∷ votes) ≡ length votes + 1 = omega arith in omega (arith, room, some)
