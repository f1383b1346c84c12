-- Views that agree of the rounds below some number make the same choices there.
use Rattle.std.proofs.Common.{◌≡◌, ℕ, zero, suc, ◌+◌, ◌<◌, Bool, true, false, ◌&&◌, nat_le, Option, None, Some, if◌then◌else◌, refl, sym, ap, ◌∙◌, arith}
use Rattle.std.specs.List.{list_any, range_with_len}
use Rattle.std.specs.Option.{option_map, option_and_then}
use Rattle.std.proofs.lemmas.Bool.{and_parts, and_from}
use Rattle.hb_base.specs.Numbers.{Numbers}
use Rattle.hb_wire.specs.declared.vote.Vals.TheVariants.{Both}
use Rattle.hb_wire.specs.declared.vote.Vote.TheVariants.{Est, Conf, Pick, Decided}
use Rattle.hb_rules.specs.declared.agreement_slot.AgreementSlot.{AgreementSlot}
use Rattle.hb_rules.specs.declared.agreement_slot.AgreementSlot.TheVariants.{Begin, Support, Accept, ConfirmOne, ConfirmBoth, PickOne, PickBoth, ShowShare, GoOn, Decide}
use Rattle.hb_rules.specs.Agreement.{confirms}
use Rattle.hb_rules.specs.AgreementRows.{View, choice_of, is_supported, has_quorum, is_made, is_gathered_one, is_gathered_both, is_confirmed_one, is_confirmed_both, is_left_one, is_left_both, was_settled, next_bit, stops, dealt}
use Rattle.hb_rules.specs.Claims.{is_bit}
use Rattle.hb_rules.specs.Marks.{single, Mark, delivery, est, any_est, any_aux, any_conf, pick, any_pick, decision, any_decision, bvals, auxes, any_auxes, confs, any_confs, confs_with}
use Rattle.hb_rules.specs.Slots.{when}
use Rattle.aba_core.specs.declared.levels.Levels.{Levels}
use Rattle.aba_core.specs.Levels.{levels_of}
use Rattle.aba_core.specs.State.{mark_round, slot_round}

-- a mark of no round: of a decision, or of the delivery
abbrev pub is_decided : Mark → Bool
is_decided delivery = true
is_decided (decision b) = true
is_decided any_decision = true
is_decided _ = false

-- the same of what makes the first estimate
pub record StartAlike (v w : View) : Type 0 where
  pub delivery : v.cast delivery ≡ w.cast delivery
  pub no_more : v.no_more ≡ w.no_more

-- the same of all rounds below k
pub record AreAlike (c : Numbers) (k : ℕ) (v w : View) : Type 0 where
  pub cast : (mark : Mark) → is_decided mark ≡ false → mark_round mark < k → v.cast mark ≡ w.cast mark
  pub levels : (r : ℕ) → r < k → levels_of c v.count r ≡ levels_of c w.count r
  pub coin : (r : ℕ) → r < k → v.coin r ≡ w.coin r

-- ---- what the rows ask of counts

-- the same of one round
record Level (c : Numbers) (v w : View) (r : ℕ) : Type 0 where
  is : levels_of c v.count r ≡ levels_of c w.count r

backed : (c : Numbers) (v w : View) (r : ℕ) → Level c v w r → (b : Bool) → nat_le (c.f + 1) (v.count (bvals r b)) ≡ nat_le (c.f + 1) (w.count (bvals r b))
backed c v w r level false = ap (λ (l : Levels). l.backed.zero) level.is
backed c v w r level true = ap (λ (l : Levels). l.backed.one) level.is

supported : (c : Numbers) (v w : View) (r : ℕ) → Level c v w r → (b : Bool) → is_supported c v r b ≡ is_supported c w r b
supported c v w r level false = ap (λ (l : Levels). l.supported.zero) level.is
supported c v w r level true = ap (λ (l : Levels). l.supported.one) level.is

accepted : (c : Numbers) (v w : View) (r : ℕ) → Level c v w r → (b : Bool) → is_made v (auxes r b) ≡ is_made w (auxes r b)
accepted c v w r level false = ap (λ (l : Levels). l.accepted.zero) level.is
accepted c v w r level true = ap (λ (l : Levels). l.accepted.one) level.is

gathered : (c : Numbers) (v w : View) (r : ℕ) → Level c v w r → (b : Bool) → has_quorum c v (auxes r b) ≡ has_quorum c w (auxes r b)
gathered c v w r level false = ap (λ (l : Levels). l.gathered.zero) level.is
gathered c v w r level true = ap (λ (l : Levels). l.gathered.one) level.is

any_gathered : (c : Numbers) (v w : View) (r : ℕ) → Level c v w r → has_quorum c v (any_auxes r) ≡ has_quorum c w (any_auxes r)
any_gathered c v w r level = ap (λ (l : Levels). l.any_gathered) level.is

confirmed : (c : Numbers) (v w : View) (r : ℕ) → Level c v w r → (b : Bool) → has_quorum c v (confs r b) ≡ has_quorum c w (confs r b)
confirmed c v w r level false = ap (λ (l : Levels). l.confirmed.zero) level.is
confirmed c v w r level true = ap (λ (l : Levels). l.confirmed.one) level.is

any_confirmed : (c : Numbers) (v w : View) (r : ℕ) → Level c v w r → has_quorum c v (any_confs r) ≡ has_quorum c w (any_confs r)
any_confirmed c v w r level = ap (λ (l : Levels). l.any_confirmed) level.is

left : (c : Numbers) (v w : View) (r : ℕ) → Level c v w r → (b : Bool) → is_made v (confs_with r b) ≡ is_made w (confs_with r b)
left c v w r level false = ap (λ (l : Levels). l.left.zero) level.is
left c v w r level true = ap (λ (l : Levels). l.left.one) level.is

gathered_one : (c : Numbers) (v w : View) (r : ℕ) → v.cast (any_aux r) ≡ w.cast (any_aux r) → Level c v w r → (b : Bool)
    → is_gathered_one c v r b ≡ is_gathered_one c w r b
gathered_one c v w r aux level b = rw (aux, supported c v w r level b, gathered c v w r level b) refl

gathered_both : (c : Numbers) (v w : View) (r : ℕ) → v.cast (any_aux r) ≡ w.cast (any_aux r) → Level c v w r
    → is_gathered_both c v r ≡ is_gathered_both c w r
gathered_both c v w r aux level =
    rw (
      aux,
      supported c v w r level false,
      supported c v w r level true,
      accepted c v w r level false,
      accepted c v w r level true,
      any_gathered c v w r level,
      gathered c v w r level false,
      gathered c v w r level true,
    ) refl

confirmed_one : (c : Numbers) (v w : View) (r : ℕ) → v.cast (any_conf r) ≡ w.cast (any_conf r) → Level c v w r → (b : Bool)
    → is_confirmed_one c v r b ≡ is_confirmed_one c w r b
confirmed_one c v w r conf level b = rw (conf, supported c v w r level b, confirmed c v w r level b) refl

confirmed_both : (c : Numbers) (v w : View) (r : ℕ) → v.cast (any_conf r) ≡ w.cast (any_conf r) → Level c v w r
    → is_confirmed_both c v r ≡ is_confirmed_both c w r
confirmed_both c v w r conf level =
    rw (
      conf,
      supported c v w r level false,
      supported c v w r level true,
      any_confirmed c v w r level,
      left c v w r level false,
      left c v w r level true,
      confirmed c v w r level false,
      confirmed c v w r level true,
    ) refl

left_one : (confirm : Bool) (c : Numbers) (v w : View) (r : ℕ) → v.cast (any_aux r) ≡ w.cast (any_aux r) → v.cast (any_conf r) ≡ w.cast (any_conf r)
    → Level c v w r → (b : Bool) → is_left_one confirm c v r b ≡ is_left_one confirm c w r b
left_one true c v w r aux conf level b = confirmed_one c v w r conf level b
left_one false c v w r aux conf level b = gathered_one c v w r aux level b

left_both : (confirm : Bool) (c : Numbers) (v w : View) (r : ℕ) → v.cast (any_aux r) ≡ w.cast (any_aux r) → v.cast (any_conf r) ≡ w.cast (any_conf r)
    → Level c v w r → is_left_both confirm c v r ≡ is_left_both confirm c w r
left_both true c v w r aux conf level = confirmed_both c v w r conf level
left_both false c v w r aux conf level = gathered_both c v w r aux level

-- ---- earlier rounds

any_range : (p q : ℕ → Bool) (low k : ℕ) → ((s : ℕ) → s < low + k → p s ≡ q s) → list_any p (range_with_len low k) ≡ list_any q (range_with_len low k)
any_range p q low zero same = refl
any_range p q low (suc k) same =
    rw (same low (omega arith), any_range p q (low + 1) k (λ s below. same s (omega arith))) refl

pub settled_alike : (c : Numbers) (k : ℕ) (v w : View) → AreAlike c k v w → (r : ℕ) → r < k → (b : Bool) → was_settled v r b ≡ was_settled w r b
settled_alike c k v w alike r below b =
    any_range (λ s. v.cast (pick s (single b)) && is_bit b (v.coin s)) (λ s. w.cast (pick s (single b)) && is_bit b (w.coin s)) 0 r
    (λ s inside. rw (alike.cast (pick s (single b)) refl (omega arith), alike.coin s (omega arith)) refl)

next_alike : (v w : View) (r : ℕ) → v.cast (pick r (single false)) ≡ w.cast (pick r (single false)) → v.cast (pick r (single true)) ≡ w.cast (pick r (single true))
    → v.cast (pick r Both) ≡ w.cast (pick r Both) → (coin : Bool) → next_bit v r coin ≡ next_bit w r coin
next_alike v w r picks_zero picks_one picks_both coin = rw (picks_zero, picks_one, picks_both) refl

-- ---- choices

-- a slot of an estimate after the first looks at decisions too
abbrev pub is_next : AgreementSlot → Bool
is_next (GoOn r) = true
is_next _ = false

-- the first estimate
abbrev pub is_begin : AgreementSlot → Bool
is_begin (Begin b) = true
is_begin _ = false

level_at : (c : Numbers) (k : ℕ) (v w : View) → AreAlike c k v w → (r : ℕ) → r < k → Level c v w r
level_at c k v w alike r below = record { is = alike.levels r below }

pub choice_alike : (c : Numbers) (i j e k : ℕ) (v w : View) → AreAlike c k v w → (name : AgreementSlot) → is_next name ≡ false
    → (is_begin name ≡ true → StartAlike v w) → slot_round name < k
    → choice_of c i j e name v ≡ choice_of c i j e name w
unfolding choice_of
choice_alike c i j e k v w alike (Begin true) kind start below = ap (λ (b : Bool). when b (Est e 0 true)) (start refl).delivery
choice_alike c i j e k v w alike (Begin false) kind start below = ap (λ (b : Bool). when b (Est e 0 false)) (start refl).no_more
choice_alike c i j e k v w alike (Support r b) kind start below =
    rw (alike.cast (est r b) refl below, alike.cast (any_est r) refl below, backed c v w r (level_at c k v w alike r below) b) refl
choice_alike c i j e k v w alike (Accept r) kind start below =
    let level : Level c v w r = level_at c k v w alike r below in
    rw (alike.cast (any_est r) refl below, supported c v w r level true, supported c v w r level false) refl
choice_alike c i j e k v w alike (ConfirmOne r b) kind start below =
    ap (λ (t : Bool). when t (Conf e r (single b))) (gathered_one c v w r (alike.cast (any_aux r) refl below) (level_at c k v w alike r below) b)
choice_alike c i j e k v w alike (ConfirmBoth r) kind start below =
    ap (λ (t : Bool). when t (Conf e r Both)) (gathered_both c v w r (alike.cast (any_aux r) refl below) (level_at c k v w alike r below))
choice_alike c i j e k v w alike (PickOne r b) kind start below =
    ap (λ (t : Bool). when t (Pick e r (single b)))
    (left_one (confirms c) c v w r (alike.cast (any_aux r) refl below) (alike.cast (any_conf r) refl below) (level_at c k v w alike r below) b)
choice_alike c i j e k v w alike (PickBoth r) kind start below =
    ap (λ (t : Bool). when t (Pick e r Both))
    (left_both (confirms c) c v w r (alike.cast (any_aux r) refl below) (alike.cast (any_conf r) refl below) (level_at c k v w alike r below))
choice_alike c i j e k v w alike (ShowShare r) kind start below = ap (λ (t : Bool). when t (dealt c i j e r)) (alike.cast (any_pick r) refl below)
choice_alike c i j e k v w alike (GoOn r) kind start below = absurd (cc (kind))
choice_alike c i j e k v w alike (Decide r) kind start below =
    ap (λ (o : Option Bool). option_and_then (λ coin. when (v.cast (pick r (single coin))) (Decided e coin)) o) (alike.coin r below)
    ∙ by (w.coin r)
  where
    by : (o : Option Bool) → option_and_then (λ coin. when (v.cast (pick r (single coin))) (Decided e coin)) o
        ≡ option_and_then (λ coin. when (w.cast (pick r (single coin))) (Decided e coin)) o
    by None = refl
    by (Some coin) = ap (λ (t : Bool). when t (Decided e coin)) (alike.cast (pick r (single coin)) refl below)

-- the same, where decisions are the same too
pub next_choice_alike : (c : Numbers) (i j e k : ℕ) (v w : View) → AreAlike c k v w → ((b : Bool) → v.cast (decision b) ≡ w.cast (decision b))
    → (r : ℕ) → r < k → choice_of c i j e (GoOn r) v ≡ choice_of c i j e (GoOn r) w
unfolding choice_of
next_choice_alike c i j e k v w alike decided r below =
    ap (λ (o : Option Bool). option_and_then (λ coin. if stops v r coin then None else option_map (Est e (r + 1)) (next_bit v r coin)) o) (alike.coin r below)
    ∙ by (w.coin r)
  where
    by : (o : Option Bool) → option_and_then (λ coin. if stops v r coin then None else option_map (Est e (r + 1)) (next_bit v r coin)) o
        ≡ option_and_then (λ coin. if stops w r coin then None else option_map (Est e (r + 1)) (next_bit w r coin)) o
    by None = refl
    by (Some coin) =
        rw (
          decided coin,
          settled_alike c k v w alike r below coin,
          next_alike v w r (alike.cast (pick r (single false)) refl below) (alike.cast (pick r (single true)) refl below) (alike.cast (pick r Both) refl below) coin,
        )
        refl

-- Where decisions only grow, no estimate comes to be owed.
pub next_rests : (c : Numbers) (i j e k : ℕ) (v w : View) → AreAlike c k v w → ((b : Bool) → v.cast (decision b) ≡ true → w.cast (decision b) ≡ true)
    → (r : ℕ) → r < k → choice_of c i j e (GoOn r) v ≡ None → choice_of c i j e (GoOn r) w ≡ None
unfolding choice_of
next_rests c i j e k v w alike grows r below none =
    by (w.coin r) (ap (λ (o : Option Bool). option_and_then (λ coin. if stops v r coin then None else option_map (Est e (r + 1)) (next_bit v r coin)) o)
    (sym (alike.coin r below)) ∙ none)
  where
    bit_none : (o : Option Bool) → option_map (Est e (r + 1)) o ≡ None → o ≡ None
    bit_none None h = refl
    bit_none (Some b) h = absurd (cc (h))

    stopped : (coin : Bool) → stops v r coin ≡ true → stops w r coin ≡ true
    stopped coin h =
        let parts = and_parts (v.cast (decision coin)) (was_settled v r coin) h in
        and_from (w.cast (decision coin)) (was_settled w r coin) (grows coin parts.0) (sym (settled_alike c k v w alike r below coin) ∙ parts.1)

    none_after : (t : Bool) (o : Option Bool) → o ≡ None → (if t then None else option_map (Est e (r + 1)) o) ≡ None
    none_after true o h = refl
    none_after false o h = ap (λ (o : Option Bool). option_map (Est e (r + 1)) o) h

    at : (coin t : Bool) → stops v r coin ≡ t → (if t then None else option_map (Est e (r + 1)) (next_bit v r coin)) ≡ None
        → (if stops w r coin then None else option_map (Est e (r + 1)) (next_bit w r coin)) ≡ None
    at coin true is h = let s : stops w r coin ≡ true = stopped coin is in rw s refl
    at coin false is h =
        none_after (stops w r coin) (next_bit w r coin)
        (sym (next_alike v w r (alike.cast (pick r (single false)) refl below) (alike.cast (pick r (single true)) refl below) (alike.cast (pick r Both) refl below) coin)
        ∙ bit_none (next_bit v r coin) h)

    by : (o : Option Bool) → option_and_then (λ coin. if stops v r coin then None else option_map (Est e (r + 1)) (next_bit v r coin)) o ≡ None
        → option_and_then (λ coin. if stops w r coin then None else option_map (Est e (r + 1)) (next_bit w r coin)) o ≡ None
    by None h = refl
    by (Some coin) h = at coin (stops v r coin) refl h
