-- The inputs of a state: that its lane has delivered, and that its own desk wants no more lanes.
use Rattle.std.proofs.Common.{◌≡◌, ℕ, ◌<◌, ◌≤◌, Bool, true, false, ◌||◌, inl, inr, List, [], ◌∷◌, ◌++◌, None, Some, refl, sym, ap, ◌∙◌, subst, append-nil, arith}
use Rattle.std.specs.List.{list_any, list_all}
use Rattle.std.proofs.Math.Bool.{or-false}
use Rattle.std.proofs.lemmas.Bool.{eq-eqb, and_parts}
use Rattle.std.proofs.lemmas.List.Folds.{list_any-append}
use Rattle.hb_wire.specs.declared.vote.Vote.{Vote}
use Rattle.hb_wire.specs.declared.vote.Vote.TheVariants.{Delivered, NoMore}
use Rattle.hb_rules.specs.Claims.{is_no_more, is_any_delivery}
use Rattle.hb_rules.specs.Coins.{share_in, coin_from}
use Rattle.hb_rules.specs.Hearing.{Hearing, hearing}
use Rattle.hb_rules.specs.Marks.{Mark, delivery, est, any_est, bval, any_aux, any_conf, pick, any_pick, any_coin, decision, any_decision, bears, has, Claim, bvals, auxes, any_auxes, confs, any_confs, confs_with, makes}
use Rattle.hb_rules.specs.Room.{DueView}
use Rattle.hb_rules.specs.Slots.{IsIdle, IsOwed}
use Rattle.hb_rules.specs.Owing.{Place}
use Rattle.hb_rules.proofs.Passing.{IsOwed-nil}
use Rattle.aba_core.specs.State.{AbaView, place_of, mark_round, mark_at, IsAba}
use Rattle.aba_core.specs.Standing.{slots_at, Shows, Stands, Takes}
use Rattle.aba_core.specs.Rows.{RestsBelow}
use Rattle.aba_core.specs.Passing.{Settled, Notes}
use Rattle.aba_core.specs.Inputs.{with_input}
use Rattle.aba_core.proofs.Hearing.{heard_by-push, heard_by-none, nodes_now, shares_none}
use Rattle.aba_core.proofs.Names.{idle_resting, all_resting_idle}
use Rattle.aba_core.proofs.Resting.{Spares, spares_resting}

-- ---- deliveries bear one mark

bears_none : (e : ℕ) (mark : Mark) → (mark ≡ delivery → ⊥) → (vote : Vote) → is_any_delivery e vote ≡ true → bears e mark vote ≡ false
bears_none e mark other (Delivered d value) h = by mark other
  where
    by : (mark : Mark) → (mark ≡ delivery → ⊥) → bears e mark (Delivered d value) ≡ false
    by delivery other = absurd (other refl)
    by mark other = refl
bears_none e mark other vote h = absurd (cc (h))

has_none : (e : ℕ) (mark : Mark) → (mark ≡ delivery → ⊥) → (more : List Vote) → list_all (is_any_delivery e) more ≡ true → has e mark more ≡ false
has_none e mark other [] all = refl
has_none e mark other (vote ∷ more) all =
    let parts = and_parts (is_any_delivery e vote) (list_all (is_any_delivery e) more) all in
    rw (bears_none e mark other vote parts.0) (has_none e mark other more parts.1)

-- the delivery is marked
pub one_shown : (a : AbaView) (own more : List Vote) (heard : List Hearing) → Shows a own heard → list_all (is_any_delivery a.epoch) more ≡ true
    → list_any (is_any_delivery a.epoch) (own ++ more) ≡ true → Shows (with_input true a) (own ++ more) heard
one_shown a own more heard shows all some = record {
  cast = by;
  said = shows.said;
  shares = shows.shares;
  coins = shows.coins;
  no_more = shows.no_more;
  nodes = shows.nodes;
  few = shows.few;
}
  where
    kept : (mark : Mark) → (mark ≡ delivery → ⊥) → mark_round mark < a.config.rounds → mark_at a mark ≡ has a.epoch mark (own ++ more)
    kept mark other below =
        shows.cast mark below ∙ sym (or-false (has a.epoch mark own)) ∙ ap (λ (b : Bool). has a.epoch mark own || b) (sym (has_none a.epoch mark other more all))
        ∙ sym (list_any-append (bears a.epoch mark) own more)

    by : (mark : Mark) → mark_round mark < a.config.rounds → mark_at (with_input true a) mark ≡ has a.epoch mark (own ++ more)
    by delivery below = sym some
    by (est r b) below = kept (est r b) (λ h. cc) below
    by (any_est r) below = kept (any_est r) (λ h. cc) below
    by (bval r b) below = kept (bval r b) (λ h. cc) below
    by (any_aux r) below = kept (any_aux r) (λ h. cc) below
    by (any_conf r) below = kept (any_conf r) (λ h. cc) below
    by (pick r vals) below = kept (pick r vals) (λ h. cc) below
    by (any_pick r) below = kept (any_pick r) (λ h. cc) below
    by (any_coin r) below = kept (any_coin r) (λ h. cc) below
    by (decision b) below = kept (decision b) (λ h. cc) below
    by any_decision below = kept any_decision (λ h. cc) below

-- ---- that the desk wants no more lanes is heard

no_claim : (e : ℕ) (claim : Claim) (vote : Vote) → is_no_more e vote ≡ true → makes e claim vote ≡ false
no_claim e (bvals t c) (NoMore d) h = refl
no_claim e (auxes t c) (NoMore d) h = refl
no_claim e (any_auxes t) (NoMore d) h = refl
no_claim e (confs t c) (NoMore d) h = refl
no_claim e (any_confs t) (NoMore d) h = refl
no_claim e (confs_with t c) (NoMore d) h = refl
no_claim e claim vote h = absurd (cc (h))

no_share : (e r m : ℕ) (vote : Vote) → is_no_more e vote ≡ true → share_in e r m vote ≡ None
no_share e r m (NoMore d) h = refl
no_share e r m vote h = absurd (cc (h))

pub zero_shown : (a : AbaView) → a.node < a.config.n → (own : List Vote) (heard : List Hearing) (h : Hearing) → Shows a own heard → h.from ≡ a.node
    → is_no_more a.epoch h.vote ≡ true → Shows (with_input false a) own (heard ++ h ∷ [])
zero_shown a inside own heard h shows from is = record {
  cast = λ mark below. kept mark ∙ shows.cast mark below;
  said = λ claim below m. shows.said claim below m ∙ sym (heard_by-none heard h m (makes a.epoch claim) (no_claim a.epoch claim h.vote is));
  shares = λ r below none. shows.shares r below none ∙ sym (shares_none a.config a.epoch a.lane r heard h (no_share a.epoch r h.from h.vote is));
  coins = λ r below.
      shows.coins r below ∙ sym (ap (coin_from a.config.f) (shares_none a.config a.epoch a.lane r heard h (no_share a.epoch r h.from h.vote is)));
  no_more = sym (heard_by-push heard h a.node (is_no_more a.epoch) ∙ rw (is, eq-eqb a.node h.from (sym from)) refl);
  nodes = nodes_now a.config.n heard h (omega (arith, from, inside)) shows.nodes;
  few = shows.few;
}
  where
    kept : (mark : Mark) → mark_at (with_input false a) mark ≡ mark_at a mark
    kept delivery = refl
    kept (decision b) = refl
    kept any_decision = refl
    kept mark = refl

-- ---- slots at rest

input_mark : (b : Bool) (a : AbaView) (mark : Mark) → (mark ≡ delivery → ⊥) → mark_at (with_input b a) mark ≡ mark_at a mark
input_mark b a delivery other = absurd (other refl)
input_mark true a (decision c) other = refl
input_mark true a any_decision other = refl
input_mark true a mark other = refl
input_mark false a (decision c) other = refl
input_mark false a any_decision other = refl
input_mark false a mark other = refl

-- Where an estimate of round 0 is cast, all rest that rested.
input_spares : (b : Bool) (a : AbaView) (k : ℕ) → mark_at a (any_est 0) ≡ true → Spares k a (with_input b a)
input_spares true a k begun = record {
  place = refl;
  alike = record { cast = λ mark kind below. sym (input_mark true a mark (λ is. absurd (cc (kind, is)))); levels = λ r below. refl; coin = λ r below. refl };
  begin = λ b some rests. inl begun;
  grows = λ mark below was. grows mark was;
}
  where
    grows : (mark : Mark) → mark_at a mark ≡ true → mark_at (with_input true a) mark ≡ true
    grows delivery was = refl
    grows (decision c) was = was
    grows any_decision was = was
    grows mark was = was
input_spares false a k begun = record {
  place = refl;
  alike = record { cast = λ mark kind below. sym (input_mark false a mark (λ is. absurd (cc (kind, is)))); levels = λ r below. refl; coin = λ r below. refl };
  begin = λ b some rests. inl begun;
  grows = λ mark below was. grows mark was;
}
  where
    grows : (mark : Mark) → mark_at a mark ≡ true → mark_at (with_input false a) mark ≡ true
    grows delivery was = was
    grows (decision c) was = was
    grows any_decision was = was
    grows mark was = was

pub resting_at_0 : (a : AbaView) → RestsBelow a 0
resting_at_0 a name known below = absurd (omega (arith, below))

-- ---- inputs

idle_after : (old new : AbaView) → place_of new ≡ place_of old → 1 ≤ old.config.rounds → (own : List Vote) (heard : List Hearing) → Shows new own heard
    → RestsBelow new new.config.rounds → IsIdle (slots_at (place_of old)) own heard
idle_after old new place some own heard shows resting =
    subst (λ (p : Place). IsIdle (slots_at p) own heard) place
    (all_resting_idle new own heard shows (omega (arith, some, ap (λ (p : Place). p.config.rounds) place)) resting)

-- what stands where nothing is owed
record StandsStill (a : AbaView) (own : List Vote) (heard : List Hearing) : Type 0 where
  owed : IsOwed (slots_at (place_of a)) own heard []
  stands : Stands a (own ++ []) heard

still : (a : AbaView) → 1 ≤ a.config.rounds → (own : List Vote) (heard : List Hearing) → Shows a own heard → RestsBelow a a.config.rounds → StandsStill a own heard
still a some own heard shows resting =
    let idle : IsIdle (slots_at (place_of a)) own heard = all_resting_idle a own heard shows some resting in
    record {
      owed = IsOwed-nil (slots_at (place_of a)) own heard idle;
      stands = subst (λ (votes : List Vote). Stands a votes heard) (sym (append-nil own)) (record { idle = idle; shows = shows });
    }

pub Takes-begun : (bit : Bool) (a : AbaView) (votes after : List Vote) → IsAba a → mark_at a (any_est 0) ≡ true → after ≡ votes
    → Takes bit a (with_input bit a) votes after
Takes-begun true a before after sound begun same = record {
  place = refl;
  votes = [];
  due = same ∙ sym (append-nil before);
  one = λ is own more heard stands all some.
      let end : StandsStill (with_input true a) (own ++ more) heard =
      still (with_input true a) sound.sound.rounds.0 (own ++ more) heard (one_shown a own more heard stands.shows all some)
      (spares_resting a.config.rounds a (with_input true a) (input_spares true a a.config.rounds begun) (idle_resting a own heard stands.shows stands.idle a.config.rounds)) in
      (end.owed, end.stands);
  zero = λ is own heard h stands from vote. absurd (cc (is));
  begun = λ h. refl;
}
Takes-begun false a before after sound begun same = record {
  place = refl;
  votes = [];
  due = same ∙ sym (append-nil before);
  one = λ is own more heard stands all some. absurd (cc (is));
  zero = λ is own heard h stands from vote.
      let end : StandsStill (with_input false a) own (heard ++ h ∷ []) =
      still (with_input false a) sound.sound.rounds.0 own (heard ++ h ∷ []) (zero_shown a sound.node own heard h stands.shows from vote)
      (spares_resting a.config.rounds a (with_input false a) (input_spares false a a.config.rounds begun) (idle_resting a own heard stands.shows stands.idle a.config.rounds)) in
      (end.owed, end.stands);
  begun = λ h. refl;
}

pub Takes-settled : (bit : Bool) (a new : AbaView) (before after : DueView) (votes : List Vote) → IsAba a → mark_at a (any_est 0) ≡ false
    → Settled 0 (with_input bit a) new before after → before.votes ≡ votes → Takes bit a new votes after.votes
Takes-settled true a new before after votes sound empty settled same = record {
  place = settled.place;
  votes = settled.votes;
  due = settled.due ∙ ap (λ (vs : List Vote). vs ++ settled.votes) same;
  one = λ is own more heard stands all some.
      let shows : Shows (with_input true a) (own ++ more) heard = one_shown a own more heard stands.shows all some in
      (settled.owed (resting_at_0 (with_input true a)) (own ++ more) heard shows, settled.stands (resting_at_0 (with_input true a)) (own ++ more) heard shows);
  zero = λ is own heard h stands from vote. absurd (cc (is));
  begun = λ h. absurd (cc (empty, h));
}
Takes-settled false a new before after votes sound empty settled same = record {
  place = settled.place;
  votes = settled.votes;
  due = settled.due ∙ ap (λ (vs : List Vote). vs ++ settled.votes) same;
  one = λ is own more heard stands all some. absurd (cc (is));
  zero = λ is own heard h stands from vote.
      let shows : Shows (with_input false a) own (heard ++ h ∷ []) = zero_shown a sound.node own heard h stands.shows from vote in
      (settled.owed (resting_at_0 (with_input false a)) own (heard ++ h ∷ []) shows, settled.stands (resting_at_0 (with_input false a)) own (heard ++ h ∷ []) shows);
  begun = λ h. absurd (cc (empty, h));
}

-- ---- the same, as it is heard

no_more_shown : (a : AbaView) (from : ℕ) → IsAba a → from ≡ a.node → (own : List Vote) (heard : List Hearing) → Shows a own heard
    → Shows (with_input false a) own (heard ++ hearing from (NoMore a.epoch) ∷ [])
no_more_shown a from sound is own heard shows =
    zero_shown a sound.node own heard (hearing from (NoMore a.epoch)) shows is (eq-eqb a.epoch a.epoch refl)

pub Notes-no_more : (a : AbaView) (from : ℕ) → IsAba a → from ≡ a.node → mark_at a (any_est 0) ≡ false
    → Notes a (with_input false a) (hearing from (NoMore a.epoch)) (Some 0)
Notes-no_more a from sound is waits = record {
  place = refl;
  known = omega (arith, sound.sound.rounds.0);
  shows = no_more_shown a from sound is;
  resting = λ resting. resting_at_0 (with_input false a);
  wakes = inr (inr (record { first = refl; own = is; no_more = eq-eqb a.epoch a.epoch refl; waits = waits }));
}

pub Notes-no_more_begun : (a : AbaView) (from : ℕ) → IsAba a → from ≡ a.node → mark_at a (any_est 0) ≡ true
    → Notes a (with_input false a) (hearing from (NoMore a.epoch)) None
Notes-no_more_begun a from sound is begun = record {
  place = refl;
  known = tt;
  shows = no_more_shown a from sound is;
  resting = spares_resting a.config.rounds a (with_input false a) (input_spares false a a.config.rounds begun);
  wakes = tt;
}

-- an input casts nothing
pub input_first : (bit : Bool) (a : AbaView) → mark_at (with_input bit a) (any_est 0) ≡ mark_at a (any_est 0)
input_first true a = refl
input_first false a = refl

pub input_place : (bit : Bool) (a : AbaView) → place_of (with_input bit a) ≡ place_of a
input_place true a = refl
input_place false a = refl
