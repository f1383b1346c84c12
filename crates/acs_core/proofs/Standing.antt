-- What a common subset's state stands for after one more hearing.
use Rattle.std.proofs.Common.{◌≡◌, ℕ, zero, suc, ◌+◌, ◌-◌, ◌<◌, Bool, true, false, not, ◌&&◌, ◌||◌, ◌==◌, nat_le, List, [], ◌∷◌, ◌++◌, length, set, Option, None, if◌then◌else◌, refl, sym, ap, ap₂, ◌∙◌, subst, append-nil, replicate, arith}
use Rattle.std.proofs.lemmas.List.{get_or-replicate}
use Rattle.std.specs.List.{list_any, filter}
use Rattle.std.specs.Prelude.{Result, Ok, Err, OnOk}
use Rattle.std.specs.Option.{option_or, option_to_list}
use Rattle.std.proofs.lemmas.Bool.{eq-eqb}
use Rattle.std.proofs.lemmas.List.Folds.{list_any-append}
use Rattle.hb_base.specs.Counting.{count_nodes}
use Rattle.hb_base.specs.Numbers.{Numbers}
use Rattle.hb_wire.specs.declared.vote.Vote.{Vote}
use Rattle.hb_wire.specs.declared.vote.Vote.TheVariants.{NoMore, Decided, Delivered}
use Rattle.hb_wire.specs.Votes.{epoch_of}
use Rattle.hb_rules.specs.Claims.{decided, delivered, is_bit, is_no_more}
use Rattle.hb_rules.specs.DeskRows.{claimed_by, decision_of, delivery_of, no_more_slot}
use Rattle.hb_rules.specs.Hearing.{Hearing, hearing}
use Rattle.hb_rules.specs.Slots.{Slot, pass, first_of, when, IsIdle, IsOwed}
use Rattle.hb_rules.specs.Turns.{IsPlain}
use Rattle.hb_rules.proofs.Lists.{some_if, first_within}
use Rattle.hb_rules.proofs.Passing.{pass-rests, IsOwed-pass}
use Rattle.acs_core.specs.declared.shown.Shown.{Shown}
use Rattle.acs_core.specs.Shown.{nothing, shown_at, with_decision, with_value}
use Rattle.acs_core.specs.Subset.{AcsView, node_epoch_of, fresh, slots_at, heard_in_subset, Stands, Hears, Notes, is_no_more_due}
use Rattle.acs_core.proofs.Firsts.{option_or-none, first_of-push, count_nodes-below}
use Rattle.acs_core.proofs.Noting.{claims_nothing, notes_nothing, Sets, sets_one, notes_decision, notes_delivery}

-- ---- the slot of NoMore

-- how many lanes have decided 1, by what was heard
abbrev pub deciders : Numbers → ℕ → List Hearing → ℕ
deciders c e heard = count_nodes c.n (λ j. is_bit true (decision_of e heard j))

-- it is filled by its vote, and looks at no own vote beside
pub no_more_plain : (c : Numbers) (e : ℕ) → IsPlain (no_more_slot c e)
unfolding no_more_slot
no_more_plain c e = record {
  guarded = record {
    filled = λ own heard vote some.
        let is = some_if (nat_le (c.n - c.f) (deciders c e heard)) (NoMore e) vote some in
        list_any-append (is_no_more e) own (vote ∷ [])
        ∙ subst (λ (v : Vote). (list_any (is_no_more e) own || (is_no_more e v || false)) ≡ true) is.1
        (ap (λ (b : Bool). list_any (is_no_more e) own || (b || false)) (eq-eqb e e refl) ∙ or_true (list_any (is_no_more e) own));
    stays = λ own more cast.
        list_any-append (is_no_more e) own more ∙ ap (λ (b : Bool). b || list_any (is_no_more e) more) cast;
  };
  free = λ own other heard. refl;
}
  where
    or_true : (b : Bool) → (b || true) ≡ true
    or_true true = refl
    or_true false = refl

-- what is owed, by whether NoMore is cast and how many lanes have decided 1
made_by : (e : ℕ) (cast enough : Bool)
    → (if cast then [] else option_to_list (when enough (NoMore e))) ++ [] ≡ option_to_list (when (not cast && enough) (NoMore e))
made_by e true enough = refl
made_by e false true = refl
made_by e false false = refl

pub pass_is : (c : Numbers) (e : ℕ) (own : List Vote) (heard : List Hearing)
    → pass (no_more_slot c e ∷ []) own heard
    ≡ option_to_list (when (not (list_any (is_no_more e) own) && nat_le (c.n - c.f) (deciders c e heard)) (NoMore e))
unfolding no_more_slot
pass_is c e own heard = made_by e (list_any (is_no_more e) own) (nat_le (c.n - c.f) (deciders c e heard))

-- the vote is NoMore, if there is one
cast_now : (e : ℕ) (b : Bool) → list_any (is_no_more e) (option_to_list (when b (NoMore e))) ≡ b
cast_now e true = ap (λ (b : Bool). b || false) (eq-eqb e e refl)
cast_now e false = refl

-- ---- one hearing more

decisions_now : (a : AcsView) (lanes : List Shown) (own : List Vote) (heard : List Hearing) (h : Hearing) → Stands a own heard
    → Notes a.epoch a.config.n a.lanes lanes h
    → (j : ℕ) → j < a.config.n → (shown_at lanes j).decision ≡ decision_of a.epoch (heard ++ h ∷ []) j
decisions_now a lanes own heard h stands notes j below =
    notes.decisions j below ∙ ap (λ (o : Option Bool). option_or o (claimed_by j (decided a.epoch) h)) (stands.decisions j below)
    ∙ sym (first_of-push (claimed_by j (decided a.epoch)) heard h)

values_now : (a : AcsView) (lanes : List Shown) (own : List Vote) (heard : List Hearing) (h : Hearing) → Stands a own heard
    → Notes a.epoch a.config.n a.lanes lanes h
    → (j : ℕ) → j < a.config.n → (shown_at lanes j).value ≡ delivery_of a.epoch (heard ++ h ∷ []) j
values_now a lanes own heard h stands notes j below =
    notes.values j below ∙ ap (λ (o : Option (List ℕ)). option_or o (claimed_by j (delivered a.epoch) h)) (stands.values j below)
    ∙ sym (first_of-push (claimed_by j (delivered a.epoch)) heard h)

-- the state with these lanes, which casts NoMore, or not
abbrev pub after : AcsView → List Shown → Bool → AcsView
after a lanes cast = record a { lanes = lanes; is_no_more_cast = a.is_no_more_cast || cast }

-- where the lanes are as they were heard, and one pass makes NoMore owed or nothing, the state has heard it
Hears-pass : (a : AcsView) (lanes : List Shown) (cast : Bool) (h : Hearing) (before now : List Vote) → Notes a.epoch a.config.n a.lanes lanes h
    → now ≡ before ++ option_to_list (when cast (NoMore a.epoch))
    → ((own : List Vote) (heard : List Hearing) → Stands a own heard
    → pass (slots_at (node_epoch_of a)) own (heard ++ h ∷ []) ≡ option_to_list (when cast (NoMore a.epoch)))
    → Hears a (after a lanes cast) h before now
Hears-pass a lanes cast h before now notes is gives = record {
  node_epoch = refl;
  is_due = cast;
  due = is;
  owed = λ own heard stands.
      subst (λ (vs : List Vote). IsOwed slots own (heard ++ h ∷ []) vs) (gives own heard stands)
      (IsOwed-pass slots own (heard ++ h ∷ []) (rests own (heard ++ h ∷ [])));
  stands = λ own heard stands. record {
    idle = subst (λ (vs : List Vote). IsIdle slots (own ++ vs) (heard ++ h ∷ [])) (gives own heard stands) (rests own (heard ++ h ∷ []));
    cast =
        ap (λ (b : Bool). b || cast) stands.cast
        ∙ ap (λ (b : Bool). list_any (is_no_more a.epoch) own || b) (sym (cast_now a.epoch cast))
        ∙ sym (list_any-append (is_no_more a.epoch) own (option_to_list (when cast (NoMore a.epoch))));
    decisions = decisions_now a lanes own heard h stands notes;
    values = values_now a lanes own heard h stands notes;
  };
}
  where
    slots : List (Slot Vote Hearing)
    slots = slots_at (node_epoch_of a)

    rests : (own : List Vote) (heard : List Hearing) → IsIdle (slots_at (node_epoch_of a)) (own ++ pass (slots_at (node_epoch_of a)) own heard) heard
    rests own heard = pass-rests (slots_at (node_epoch_of a)) (no_more_plain a.config a.epoch, tt) own heard

-- a lane may have decided: NoMore is due where enough have decided 1 then
pub Hears-decision : (a : AcsView) (lanes : List Shown) (h : Hearing) (before now : List Vote) → Notes a.epoch a.config.n a.lanes lanes h
    → now ≡ before ++ option_to_list (when (is_no_more_due (record a { lanes = lanes })) (NoMore a.epoch))
    → Hears a (after a lanes (is_no_more_due (record a { lanes = lanes }))) h before now
Hears-decision a lanes h before now notes is =
    Hears-pass a lanes (is_no_more_due (record a { lanes = lanes })) h before now notes is
    (λ own heard stands.
    pass_is a.config a.epoch own (heard ++ h ∷ [])
    ∙ ap (λ (b : Bool). option_to_list (when (not b && nat_le (a.config.n - a.config.f) (deciders a.config a.epoch (heard ++ h ∷ []))) (NoMore a.epoch))) (sym stands.cast)
    ∙ ap (λ (k : ℕ). option_to_list (when (not a.is_no_more_cast && nat_le (a.config.n - a.config.f) k) (NoMore a.epoch)))
    (sym (count_nodes-below a.config.n (λ j. is_bit true (shown_at lanes j).decision) (λ j. is_bit true (decision_of a.epoch (heard ++ h ∷ []) j))
    (λ j below. ap (is_bit true) (decisions_now a lanes own heard h stands notes j below)))))

same_cast : (a : AcsView) (lanes : List Shown) → after a lanes false ≡ record a { lanes = lanes }
same_cast a lanes = ap (λ (b : Bool). record a { lanes = lanes; is_no_more_cast = b }) (or_false a.is_no_more_cast)
  where
    or_false : (b : Bool) → (b || false) ≡ b
    or_false true = refl
    or_false false = refl

-- no lane has decided: nothing is due
pub Hears-quiet : (a : AcsView) (lanes : List Shown) (h : Hearing) (due : List Vote) → Notes a.epoch a.config.n a.lanes lanes h
    → decided a.epoch h.vote ≡ None → Hears a (record a { lanes = lanes }) h due due
Hears-quiet a lanes h due notes quiet =
    subst (λ (new : AcsView). Hears a new h due due) (same_cast a lanes)
    (Hears-pass a lanes false h due due notes (sym (append-nil due))
    (λ own heard stands.
    pass_is a.config a.epoch own (heard ++ h ∷ [])
    ∙ ap (λ (k : ℕ). option_to_list (when (not (list_any (is_no_more a.epoch) own) && nat_le (a.config.n - a.config.f) k) (NoMore a.epoch)))
    (count_nodes-below a.config.n (λ j. is_bit true (decision_of a.epoch (heard ++ h ∷ []) j)) (λ j. is_bit true (decision_of a.epoch heard j))
    (λ j below. ap (is_bit true) (same_decision heard j)))
    ∙ sym (pass_is a.config a.epoch own heard) ∙ stands.idle))
  where
    same_decision : (heard : List Hearing) (j : ℕ) → decision_of a.epoch (heard ++ h ∷ []) j ≡ decision_of a.epoch heard j
    same_decision heard j =
        first_of-push (claimed_by j (decided a.epoch)) heard h
        ∙ ap (λ (o : Option Bool). option_or (decision_of a.epoch heard j) o) (claims_nothing (decided a.epoch) j h quiet)
        ∙ option_or-none (decision_of a.epoch heard j)

-- a vote that shows nothing of the epoch
pub Hears-nothing : (a : AcsView) (h : Hearing) (due : List Vote) → decided a.epoch h.vote ≡ None → delivered a.epoch h.vote ≡ None → Hears a a h due due
Hears-nothing a h due no_decision no_value =
    Hears-quiet a a.lanes h due (notes_nothing a.epoch a.config.n a.lanes h no_decision no_value) no_decision

-- lane `lane` decides, by the tables
pub Hears-decided : (a new : AcsView) (lanes : List Shown) (lane : ℕ) (bit : Bool) (before mid now : List Vote) → lane < length a.lanes
    → lanes ≡ set a.lanes lane (with_decision (shown_at a.lanes lane) bit) → new ≡ after a lanes (is_no_more_due (record a { lanes = lanes }))
    → now ≡ mid ++ option_to_list (when (is_no_more_due (record a { lanes = lanes })) (NoMore a.epoch)) → mid ≡ before
    → Hears a new (hearing lane (Decided a.epoch bit)) before now
Hears-decided a new lanes lane bit before mid now below sets is due same =
    subst (λ (new : AcsView). Hears a new (hearing lane (Decided a.epoch bit)) before now) (sym is)
    (Hears-decision a lanes (hearing lane (Decided a.epoch bit)) before now
    (notes_decision a.epoch a.config.n a.lanes lanes lane bit
    (subst (λ (lanes : List Shown). Sets a.lanes lanes lane (with_decision (shown_at a.lanes lane) bit)) (sym sets)
    (sets_one a.lanes lane (with_decision (shown_at a.lanes lane) bit) below)))
    (due ∙ ap (λ (vs : List Vote). vs ++ option_to_list (when (is_no_more_due (record a { lanes = lanes })) (NoMore a.epoch))) same))

-- it delivers
pub Hears-delivered : (a : AcsView) (lanes : List Shown) (lane : ℕ) (value : List ℕ) (due : List Vote) → lane < length a.lanes
    → lanes ≡ set a.lanes lane (with_value (shown_at a.lanes lane) value)
    → Hears a (record a { lanes = lanes }) (hearing lane (Delivered a.epoch value)) due due
Hears-delivered a lanes lane value due below sets =
    Hears-quiet a lanes (hearing lane (Delivered a.epoch value)) due
    (notes_delivery a.epoch a.config.n a.lanes lanes lane value
    (subst (λ (lanes : List Shown). Sets a.lanes lanes lane (with_value (shown_at a.lanes lane) value)) (sym sets)
    (sets_one a.lanes lane (with_value (shown_at a.lanes lane) value) below)))
    refl

-- ---- nothing heard, and parts

nobody : (n : ℕ) → count_nodes n (λ j. is_bit true None) ≡ 0
nobody zero = refl
nobody (suc n) = ap (λ (k : ℕ). k + 0) (nobody n)

-- a state that has heard nothing, of a config with f below n
pub Stands-fresh : (a : AcsView) (own : List Vote) → a.config.f < a.config.n → a.is_no_more_cast ≡ list_any (is_no_more a.epoch) own
    → a.lanes ≡ replicate a.config.n nothing → Stands a own []
Stands-fresh a own enough cast none = record {
  idle =
      pass_is a.config a.epoch own []
      ∙ ap (λ (k : ℕ). option_to_list (when (not (list_any (is_no_more a.epoch) own) && nat_le (a.config.n - a.config.f) k) (NoMore a.epoch))) (nobody a.config.n)
      ∙ few (list_any (is_no_more a.epoch) own) (a.config.n - a.config.f) (omega arith);
  cast = cast;
  decisions = λ j below. ap (λ (lanes : List Shown). (shown_at lanes j).decision) none ∙ ap (λ (s : Shown). s.decision) (get_or-replicate a.config.n j nothing nothing below);
  values = λ j below. ap (λ (lanes : List Shown). (shown_at lanes j).value) none ∙ ap (λ (s : Shown). s.value) (get_or-replicate a.config.n j nothing nothing below);
}
  where
    few : (cast : Bool) (k : ℕ) → 0 < k → option_to_list (when (not cast && nat_le k 0) (NoMore a.epoch)) ≡ []
    few true k some = refl
    few false zero some = absurd (omega arith)
    few false (suc k) some =
        ap (λ (b : Bool). option_to_list (when b (NoMore a.epoch))) (let no : nat_le (suc k) 0 ≡ false = grind arith in no)

outside_decision : (e j : ℕ) (h : Hearing) → heard_in_subset e h ≡ false → claimed_by j (decided e) h ≡ None
outside_decision e j h outside = claims_nothing (decided e) j h (by h.vote outside)
  where
    by : (vote : Vote) → (epoch_of vote == e) ≡ false → decided e vote ≡ None
    by (Decided d bit) other = let off : (d == e) ≡ false = other in rw off refl
    by vote other = refl

outside_delivery : (e j : ℕ) (h : Hearing) → heard_in_subset e h ≡ false → claimed_by j (delivered e) h ≡ None
outside_delivery e j h outside = claims_nothing (delivered e) j h (by h.vote outside)
  where
    by : (vote : Vote) → (epoch_of vote == e) ≡ false → delivered e vote ≡ None
    by (Delivered d value) other = let off : (d == e) ≡ false = other in rw off refl
    by vote other = refl

-- what was decided and delivered in an epoch is of its hearings alone
pub decision_part : (e j : ℕ) (heard now : List Hearing) → filter (heard_in_subset e) heard ≡ filter (heard_in_subset e) now
    → decision_of e heard j ≡ decision_of e now j
decision_part e j heard now same =
    sym (first_within (claimed_by j (decided e)) (heard_in_subset e) (outside_decision e j) heard)
    ∙ ap (first_of (claimed_by j (decided e))) same
    ∙ first_within (claimed_by j (decided e)) (heard_in_subset e) (outside_decision e j) now

pub delivery_part : (e j : ℕ) (heard now : List Hearing) → filter (heard_in_subset e) heard ≡ filter (heard_in_subset e) now
    → delivery_of e heard j ≡ delivery_of e now j
delivery_part e j heard now same =
    sym (first_within (claimed_by j (delivered e)) (heard_in_subset e) (outside_delivery e j) heard)
    ∙ ap (first_of (claimed_by j (delivered e))) same
    ∙ first_within (claimed_by j (delivered e)) (heard_in_subset e) (outside_delivery e j) now

pub Stands-part : (a : AcsView) (own other : List Vote) (heard now : List Hearing)
    → list_any (is_no_more a.epoch) own ≡ list_any (is_no_more a.epoch) other
    → filter (heard_in_subset a.epoch) heard ≡ filter (heard_in_subset a.epoch) now → Stands a own heard → Stands a other now
Stands-part a own other heard now cast same stands = record {
  idle =
      pass_is a.config a.epoch other now
      ∙ ap (λ (b : Bool). option_to_list (when (not b && nat_le (a.config.n - a.config.f) (deciders a.config a.epoch now)) (NoMore a.epoch))) (sym cast)
      ∙ ap (λ (k : ℕ). option_to_list (when (not (list_any (is_no_more a.epoch) own) && nat_le (a.config.n - a.config.f) k) (NoMore a.epoch)))
      (count_nodes-below a.config.n (λ j. is_bit true (decision_of a.epoch now j)) (λ j. is_bit true (decision_of a.epoch heard j))
      (λ j below. ap (is_bit true) (sym (decision_part a.epoch j heard now same))))
      ∙ sym (pass_is a.config a.epoch own heard) ∙ stands.idle;
  cast = stands.cast ∙ cast;
  decisions = λ j below. stands.decisions j below ∙ decision_part a.epoch j heard now same;
  values = λ j below. stands.values j below ∙ delivery_part a.epoch j heard now same;
}

-- what an answer holds, where it is one
pub on_ok : {A E : Type 0} (r : Result A E) (P Q : Type 0) → (P → Q) → OnOk r P → OnOk r Q
on_ok (Ok a) P Q f h = f h
on_ok (Err e) P Q f h = tt

-- the state as it is made
pub fresh_is : (c : Numbers) (i e : ℕ) (cast other : Bool) (lanes : List Shown) → cast ≡ other → lanes ≡ replicate c.n nothing
    → record { config = c; node = i; epoch = e; is_no_more_cast = cast; lanes = lanes } ≡ fresh c i e other
fresh_is c i e cast other lanes same is =
    ap₂ (λ (b : Bool) (xs : List Shown). let a : AcsView = record { config = c; node = i; epoch = e; is_no_more_cast = b; lanes = xs } in a) same is
