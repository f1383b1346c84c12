-- A state that is rebuilt from what its lane has cast.
use Rattle.std.proofs.Common.{◌≡◌, ℕ, zero, suc, ◌<◌, ◌≤◌, Bool, true, false, ◌&&◌, ◌||◌, ◌==◌, nat_lt, List, [], ◌∷◌, ◌++◌, replicate, slice_index_or, None, Some, is_some, if◌then◌else◌, inr, refl, sym, ap, ◌∙◌, subst, arith, ltb-true, ltb-false, le-ltb}
use Rattle.std.specs.List.{filter}
use Rattle.hb_base.specs.Limits.{most_nodes}
use Rattle.hb_base.specs.NodeSet.{is_in}
use Rattle.hb_base.specs.Numbers.{Numbers, AreSound}
use Rattle.hb_wire.specs.declared.vote.Vals.TheVariants.{Zero, One, Both}
use Rattle.hb_wire.specs.declared.vote.Vote.{Vote}
use Rattle.hb_wire.specs.declared.vote.Vote.TheVariants.{Est, Bval, Aux, Conf, Pick, Coin, Decided}
use Rattle.std.proofs.lemmas.Bool.{or_right}
use Rattle.std.proofs.lemmas.List.{get_or_past}
use Rattle.hb_rules.specs.Claims.{is_bit, is_any_delivery}
use Rattle.hb_rules.specs.Coins.{coin_in}
use Rattle.hb_rules.specs.Marks.{Mark, delivery, est, any_est, bval, any_aux, any_conf, pick, any_pick, any_coin, decision, any_decision, bears, Claim, bvals, auxes, any_auxes, confs, any_confs, confs_with}
use Rattle.hb_rules.specs.Parts.{in_agreement, read_in_agreement}
use Rattle.hb_rules.specs.Slots.{IsIdle}
use Rattle.hb_rules.specs.Owing.{Place}
use Rattle.hb_rules.proofs.Lists.{any_within}
use Rattle.hb_rules.proofs.Starting.{choice_none}
use Rattle.aba_core.specs.declared.marks.Marks.{Marks}
use Rattle.aba_core.specs.declared.round.Round.{Round}
use Rattle.aba_core.specs.Bits.{no_bits}
use Rattle.aba_core.specs.Marks.{no_marks, is_marked}
use Rattle.aba_core.specs.Rounds.{IsNew, new_round, blank}
use Rattle.aba_core.specs.Made.{all_rounds}
use Rattle.aba_core.specs.Tables.{no_tables, voters_in}
use Rattle.aba_core.specs.State.{AbaView, place_of, mark_round, claim_round, mark_at, IsAba, AreNew}
use Rattle.aba_core.specs.Standing.{slots_at, Shows, Stands}
use Rattle.aba_core.specs.Passing.{Casts}
use Rattle.aba_core.proofs.Made.{length-all, all-new}
use Rattle.aba_core.proofs.Names.{all_resting_idle}
use Rattle.aba_core.proofs.Passes.{casts_shown}
use Rattle.aba_core.proofs.Resting.{choice_shown}

-- ---- nothing was cast or heard

none_in : (n m : ℕ) → slice_index_or (replicate n false) m false ≡ false
none_in zero zero = refl
none_in zero (suc m) = refl
none_in (suc n) zero = refl
none_in (suc n) (suc m) = none_in n m

none_claimed : (claim : Claim) (node : ℕ) → is_in (voters_in no_tables claim) node ≡ false
none_claimed (bvals r true) node = none_in most_nodes node
none_claimed (bvals r false) node = none_in most_nodes node
none_claimed (auxes r true) node = none_in most_nodes node
none_claimed (auxes r false) node = none_in most_nodes node
none_claimed (any_auxes r) node = none_in most_nodes node
none_claimed (confs r true) node = none_in most_nodes node
none_claimed (confs r false) node = none_in most_nodes node
none_claimed (any_confs r) node = none_in most_nodes node
none_claimed (confs_with r true) node = none_in most_nodes node
none_claimed (confs_with r false) node = none_in most_nodes node

new_is : (c : Numbers) (j e r : ℕ) → IsNew c j e r (new_round c j e r)
unfolding new_round
new_is c j e r = record {
  is_round = record { levels = refl; n = refl; f = refl; root = refl };
  marks = refl;
  none = none_claimed;
  shares = refl;
  coin = refl;
}

pub new_rounds : (c : Numbers) (j e : ℕ) → AreNew c j e (all_rounds c j e [])
new_rounds c j e = record {
  count = length-all c j e [] (omega arith);
  each = λ r below. subst (IsNew c j e r) (sym (all-new c j e [] r (omega arith) below)) (new_is c j e r);
}

abbrev pub new_aba : Place → List Round → AbaView
new_aba p rounds = record {
  config = p.config;
  node = p.node;
  lane = p.lane;
  epoch = p.epoch;
  is_delivered = false;
  decisions = no_bits;
  no_more = false;
  rounds = rounds;
  top = 0;
}

-- the run's rounds, and those that it does not have
bare : (p : Place) (rounds : List Round) → AreNew p.config p.lane p.epoch rounds → (r : ℕ) → (slice_index_or rounds r blank).marks ≡ no_marks
bare p rounds new r = by (nat_lt r p.config.rounds) refl
  where
    by : (b : Bool) → nat_lt r p.config.rounds ≡ b → (slice_index_or rounds r blank).marks ≡ no_marks
    by true low = (new.each r (ltb-true r p.config.rounds low)).marks
    by false high = ap (λ (x : Round). x.marks) (get_or_past rounds r blank (omega (arith, ltb-false r p.config.rounds high, new.count)))

pub new_sound : (p : Place) (rounds : List Round) → AreSound p.config → p.node < p.config.n → AreNew p.config p.lane p.epoch rounds → IsAba (new_aba p rounds)
new_sound p rounds sound node new = record {
  sound = sound;
  node = node;
  count = new.count;
  each = λ r below. (new.each r below).is_round;
  top = omega arith;
  above = λ r high. bare p rounds new r;
}

none_marked : (mark : Mark) → is_marked no_marks mark ≡ false
none_marked (est r true) = refl
none_marked (est r false) = refl
none_marked (bval r true) = refl
none_marked (bval r false) = refl
none_marked (pick r Zero) = refl
none_marked (pick r One) = refl
none_marked (pick r Both) = refl
none_marked mark = refl

none_cast : (p : Place) (rounds : List Round) → AreNew p.config p.lane p.epoch rounds → (mark : Mark) → mark_at (new_aba p rounds) mark ≡ false
none_cast p rounds new delivery = refl
none_cast p rounds new (decision true) = refl
none_cast p rounds new (decision false) = refl
none_cast p rounds new any_decision = refl
none_cast p rounds new mark = ap (λ (m : Marks). is_marked m mark) (bare p rounds new (mark_round mark)) ∙ none_marked mark

no_coin : (c : Numbers) (j e r : ℕ) → coin_in c e j [] r ≡ None
no_coin c j e r = let none : nat_lt c.f 0 ≡ false = le-ltb c.f 0 (omega arith) in rw none refl

new_shows : (p : Place) (rounds : List Round) → AreSound p.config → AreNew p.config p.lane p.epoch rounds → Shows (new_aba p rounds) [] []
new_shows p rounds sound new = record {
  cast = λ mark below. none_cast p rounds new mark;
  said = λ claim below m. (new.each (claim_round claim) below).none claim m;
  shares = λ r below none. (new.each r below).shares;
  coins = λ r below. (new.each r below).coin ∙ sym (no_coin p.config p.lane p.epoch r);
  no_more = refl;
  nodes = λ m above. refl;
  few = sound.nodes.1;
}

-- ---- one vote after the other

-- the state of an agreement shows what was cast, and nothing was heard
pub record IsBuilt (a : AbaView) (p : Place) (own : List Vote) : Type 0 where
  pub place : place_of a ≡ p
  pub shows : Shows a own []

pub IsBuilt-none : (p : Place) (rounds : List Round) → AreSound p.config → AreNew p.config p.lane p.epoch rounds → IsBuilt (new_aba p rounds) p []
IsBuilt-none p rounds sound new = record { place = refl; shows = new_shows p rounds sound new }

pub IsBuilt-more : (old new : AbaView) (p : Place) (own : List Vote) (vote : Vote) → IsBuilt old p own → Casts old new vote → IsBuilt new p (own ++ vote ∷ [])
IsBuilt-more old new p own vote built casts = record { place = casts.place ∙ built.place; shows = casts_shown old new vote casts own [] built.shows }

pub Stands-idle : (a : AbaView) (own : List Vote) → Shows a own [] → IsIdle (slots_at (place_of a)) own [] → Stands a own []
Stands-idle a own shows idle = record { idle = idle; shows = shows }

-- ---- where nothing was cast and heard, nothing is owed

pub Stands-none : (a : AbaView) → 1 ≤ a.config.rounds → Shows a [] [] → Stands a [] []
Stands-none a some shows =
    Stands-idle a [] shows
    (all_resting_idle a [] [] shows some (λ name known below. inr (choice_shown a [] [] shows name below ∙ choice_none a.config a.node a.lane a.epoch name)))

-- ---- only votes that the agreement reads are marked

front : (a b : Bool) → (a && b) ≡ true → a ≡ true
front true b h = refl
front false b h = absurd (cc (h))

reads_agreement : (e d : ℕ) (b : Bool) → (d == e) ≡ true → ((true && (d == e)) || b) ≡ true
reads_agreement e d b h = rw h refl

some_epoch : {A : Type 0} (b : Bool) (x : A) → is_some (if b then Some x else None) ≡ true → b ≡ true
some_epoch true x h = refl
some_epoch false x h = absurd (cc (h))

bit_epoch : (b bit c : Bool) → is_bit c (if b then Some bit else None) ≡ true → b ≡ true
bit_epoch true bit c h = refl
bit_epoch false bit c h = absurd (cc (h))

pub bears_read : (e : ℕ) (mark : Mark) (vote : Vote) → bears e mark vote ≡ true → read_in_agreement e vote ≡ true
bears_read e delivery vote h = or_right (in_agreement e vote) (is_any_delivery e vote) h
bears_read e (decision b) (Decided d bit) h = reads_agreement e d false (bit_epoch (d == e) bit b h)
bears_read e any_decision (Decided d bit) h = reads_agreement e d false (some_epoch (d == e) bit h)
bears_read e (est t c) (Est d s b) h = reads_agreement e d false (front (d == e) _ h)
bears_read e (any_est t) (Est d s b) h = reads_agreement e d false (front (d == e) _ h)
bears_read e (bval t c) (Bval d s b) h = reads_agreement e d false (front (d == e) _ h)
bears_read e (any_aux t) (Aux d s b) h = reads_agreement e d false (front (d == e) _ h)
bears_read e (any_conf t) (Conf d s vals) h = reads_agreement e d false (front (d == e) _ h)
bears_read e (pick t set) (Pick d s vals) h = reads_agreement e d false (front (d == e) _ h)
bears_read e (any_pick t) (Pick d s vals) h = reads_agreement e d false (front (d == e) _ h)
bears_read e (any_coin t) (Coin d s share salt branch) h = reads_agreement e d false (front (d == e) _ h)
bears_read e mark vote h = absurd (cc (h))

-- the state shows the votes that the agreement reads as it shows all
pub part_shown : (a : AbaView) (e : ℕ) (own : List Vote) → a.epoch ≡ e → Shows a own [] → Shows a (filter (read_in_agreement e) own) []
part_shown a e own epoch shows = record {
  cast = λ mark below.
      shows.cast mark below
      ∙ sym (any_within (bears a.epoch mark) (read_in_agreement e) (λ vote h. subst (λ (e : ℕ). read_in_agreement e vote ≡ true) epoch (bears_read a.epoch mark vote h)) own);
  said = shows.said;
  shares = shows.shares;
  coins = shows.coins;
  no_more = shows.no_more;
  nodes = shows.nodes;
  few = shows.few;
}
