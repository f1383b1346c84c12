-- The slots of the agreement look at votes and hearings of their epoch's agreement alone, and their votes fill them.
use Rattle.std.proofs.Common.{◌≡◌, ℕ, ◌+◌, ◌-◌, ◌*◌, ◌<◌, Bool, true, false, ◌&&◌, ◌||◌, ◌==◌, nat_le, List, [], ◌∷◌, map, take, Option, None, Some, if◌then◌else◌, refl, sym, ap, ◌∙◌, subst, arith}
use Rattle.std.proofs.Math.Path.{fun_ext}
use Rattle.std.specs.List.{AllByRecursion, filter, fold}
use Rattle.std.specs.Option.{option_map, option_and_then, is_some}
use Rattle.std.proofs.lemmas.Bool.{eq-eqb, le-ltb, lt-leb, and_parts, and_left, and_right, or_left, or_right, or_parts, and_from}
use Rattle.std.proofs.lemmas.Option.{option_and_then_some, cond_some}
use Rattle.hb_base.specs.Numbers.{Numbers}
use Rattle.coin_deal.specs.Deal.{coin_root}
use Rattle.coin_deal.specs.Heard.{HeardShare, with_heard, coin_through}
use Rattle.hb_wire.specs.declared.vote.Vals.{Vals}
use Rattle.hb_wire.specs.declared.vote.Vals.TheVariants.{Both}
use Rattle.hb_wire.specs.declared.vote.Vote.{Vote}
use Rattle.hb_wire.specs.declared.vote.Vote.TheVariants.{Est, Bval, Aux, Conf, Pick, Coin, Decided}
use Rattle.hb_rules.specs.declared.agreement_slot.AgreementSlot.{AgreementSlot}
use Rattle.hb_rules.specs.declared.agreement_slot.AgreementSlot.TheVariants.{Begin, Support, Accept, ConfirmOne, ConfirmBoth, PickOne, PickBoth, ShowShare, GoOn, Decide}
use Rattle.hb_rules.specs.Claims.{same_bit, is_bit, decided, is_decision, is_any_decision, is_any_delivery, is_no_more}
use Rattle.hb_rules.specs.Hearing.{Hearing, heard_by}
use Rattle.hb_rules.specs.Marks.{single, has_bit, same_vals, is_est, is_any_est, is_bval, is_aux, is_any_aux, is_conf, is_any_conf, is_conf_with, is_pick, is_any_pick, is_any_coin, Mark, delivery, est, any_est, bval, any_aux, any_conf, pick, any_pick, any_coin, decision, any_decision, bears, has, Claim, bvals, auxes, any_auxes, confs, any_confs, confs_with, makes, support}
use Rattle.hb_rules.specs.Coins.{share_in, coin_from, coin_in}
use Rattle.hb_rules.specs.Agreement.{confirms}
use Rattle.hb_rules.specs.Slots.{Slot, IsPart, IsGuarded, IsForgetful, AreRows, each}
use Rattle.hb_rules.specs.Tested.{IsTested}
use Rattle.hb_rules.specs.Parts.{in_agreement, read_in_agreement, heard_in_agreement}
use Rattle.hb_rules.specs.AgreementRows.{View, view_of, is_supported, has_quorum, is_gathered_one, is_gathered_both, is_confirmed_one, is_left_one, is_left_both, next_bit, stops, accepted_bit, dealt, choice_of, limit_of, agreement_slot, confirm_names, agreement_names, agreement_rows}
use Rattle.hb_rules.proofs.Counts.{count_nodes-same, count_nodes-none}
use Rattle.hb_rules.proofs.Lists.{AllByRecursion-append, AllByRecursion-each, AllByRecursion-map, AllByRecursion-weaker, any_within, filter_map_within}
use Rattle.hb_rules.proofs.BroadcastParts.{any_filled, any_stays, some_only, some_where}

-- ---- what each slot makes

-- what the slot makes owed by this view has the property
abbrev pub Gives : Numbers → ℕ → ℕ → ℕ → AgreementSlot → View → (Vote → Type 0) → Type 0
Gives c i j e (Begin true) v P = v.cast delivery ≡ true → P (Est e 0 true)
Gives c i j e (Begin false) v P = v.no_more ≡ true → P (Est e 0 false)
Gives c i j e (Support r b) v P = (v.cast (est r b) || (v.cast (any_est r) && nat_le (c.f + 1) (v.count (bvals r b)))) ≡ true → P (Bval e r b)
Gives c i j e (Accept r) v P = (b : Bool) → v.cast (any_est r) ≡ true → is_supported c v r b ≡ true → P (Aux e r b)
Gives c i j e (ConfirmOne r b) v P = is_gathered_one c v r b ≡ true → P (Conf e r (single b))
Gives c i j e (ConfirmBoth r) v P = is_gathered_both c v r ≡ true → P (Conf e r Both)
Gives c i j e (PickOne r b) v P = is_left_one (confirms c) c v r b ≡ true → P (Pick e r (single b))
Gives c i j e (PickBoth r) v P = is_left_both (confirms c) c v r ≡ true → P (Pick e r Both)
Gives c i j e (ShowShare r) v P = v.cast (any_pick r) ≡ true → P (dealt c i j e r)
Gives c i j e (GoOn r) v P = (coin b : Bool) → v.coin r ≡ Some coin → next_bit v r coin ≡ Some b → P (Est e (r + 1) b)
Gives c i j e (Decide r) v P = (coin : Bool) → v.coin r ≡ Some coin → v.cast (pick r (single coin)) ≡ true → P (Decided e coin)

when_gives : (P : Vote → Type 0) (test : Bool) (x vote : Vote) → (test ≡ true → P x) → (if test then Some x else None) ≡ Some vote → P vote
when_gives P test x vote gives h = let chosen = cond_some test x vote h in subst P chosen.1 (gives chosen.0)

map_gives : {A : Type 0} (P : Vote → Type 0) (f : A → Vote) (o : Option A) (vote : Vote) → ((x : A) → o ≡ Some x → P (f x))
    → option_map f o ≡ Some vote → P vote
map_gives P f None vote gives h = absurd (cc (h))
map_gives P f (Some x) vote gives h = let same : f x ≡ vote = cc in subst P same (gives x refl)

pub accepted_supported : (c : Numbers) (v : View) (r : ℕ) (b : Bool) → accepted_bit c v r ≡ Some b → is_supported c v r b ≡ true
accepted_supported c v r b h = by (is_supported c v r true) (is_supported c v r false) refl refl h
  where
    by : (high low : Bool) → is_supported c v r true ≡ high → is_supported c v r false ≡ low
        → (if high then Some true else (if low then Some false else None)) ≡ Some b → is_supported c v r b ≡ true
    by true low is is_low h = let same : true ≡ b = cc in subst (λ (b : Bool). is_supported c v r b ≡ true) same is
    by false true is is_low h = let same : false ≡ b = cc in subst (λ (b : Bool). is_supported c v r b ≡ true) same is_low
    by false false is is_low h = absurd (cc (h))

pub choice_gives : (c : Numbers) (i j e : ℕ) (name : AgreementSlot) (v : View) (P : Vote → Type 0) → Gives c i j e name v P → (vote : Vote)
    → choice_of c i j e name v ≡ Some vote → P vote
unfolding choice_of
choice_gives c i j e (Begin true) v P gives vote h = when_gives P (v.cast delivery) (Est e 0 true) vote gives h
choice_gives c i j e (Begin false) v P gives vote h = when_gives P v.no_more (Est e 0 false) vote gives h
choice_gives c i j e (Support r b) v P gives vote h =
    when_gives P (v.cast (est r b) || (v.cast (any_est r) && nat_le (c.f + 1) (v.count (bvals r b)))) (Bval e r b) vote gives h
choice_gives c i j e (Accept r) v P gives vote h = by (v.cast (any_est r)) refl h
  where
    by : (begun : Bool) → v.cast (any_est r) ≡ begun → (if begun then option_map (Aux e r) (accepted_bit c v r) else None) ≡ Some vote → P vote
    by true begun h =
        map_gives P (λ b. Aux e r b) (accepted_bit c v r) vote (λ b is. gives b begun (accepted_supported c v r b is)) h
    by false begun h = absurd (cc (h))
choice_gives c i j e (ConfirmOne r b) v P gives vote h = when_gives P (is_gathered_one c v r b) (Conf e r (single b)) vote gives h
choice_gives c i j e (ConfirmBoth r) v P gives vote h = when_gives P (is_gathered_both c v r) (Conf e r Both) vote gives h
choice_gives c i j e (PickOne r b) v P gives vote h = when_gives P (is_left_one (confirms c) c v r b) (Pick e r (single b)) vote gives h
choice_gives c i j e (PickBoth r) v P gives vote h = when_gives P (is_left_both (confirms c) c v r) (Pick e r Both) vote gives h
choice_gives c i j e (ShowShare r) v P gives vote h = when_gives P (v.cast (any_pick r)) (dealt c i j e r) vote gives h
choice_gives c i j e (GoOn r) v P gives vote h =
    option_and_then_some (λ (coin : Bool). if stops v r coin then None else option_map (Est e (r + 1)) (next_bit v r coin)) (v.coin r) vote h
    (λ coin is goes. by coin is (stops v r coin) goes)
  where
    by : (coin : Bool) → v.coin r ≡ Some coin → (stop : Bool)
        → (if stop then None else option_map (Est e (r + 1)) (next_bit v r coin)) ≡ Some vote → P vote
    by coin is true goes = absurd (cc (goes))
    by coin is false goes = map_gives P (λ b. Est e (r + 1) b) (next_bit v r coin) vote (λ b next. gives coin b is next) goes
choice_gives c i j e (Decide r) v P gives vote h =
    option_and_then_some (λ (coin : Bool). if v.cast (pick r (single coin)) then Some (Decided e coin) else None) (v.coin r) vote h
    (λ coin is decides. when_gives P (v.cast (pick r (single coin))) (Decided e coin) vote (λ picked. gives coin is picked) decides)

-- ---- the vote of a slot fills it, and is of the epoch's agreement

pub same_bit-refl : (b : Bool) → same_bit b b ≡ true
same_bit-refl true = refl
same_bit-refl false = refl

pub same_bits : (b d : Bool) → same_bit b d ≡ true → b ≡ d
same_bits true true h = refl
same_bits true false h = absurd (cc (h))
same_bits false true h = absurd (cc (h))
same_bits false false h = refl

both_same : (e r : ℕ) → ((e == e) && (r == r)) ≡ true
both_same e r = and_from (e == e) (r == r) (eq-eqb e e refl) (eq-eqb r r refl)

pub gives_filled : (c : Numbers) (i j e : ℕ) (name : AgreementSlot) (v : View) → Gives c i j e name v (λ vote. bears e (limit_of name) vote ≡ true)
gives_filled c i j e (Begin true) v = λ h. both_same e 0
gives_filled c i j e (Begin false) v = λ h. both_same e 0
gives_filled c i j e (Support r b) v =
    λ h. and_from (e == e) ((r == r) && same_bit b b) (eq-eqb e e refl) (and_from (r == r) (same_bit b b) (eq-eqb r r refl) (same_bit-refl b))
gives_filled c i j e (Accept r) v = λ b begun supported. both_same e r
gives_filled c i j e (ConfirmOne r b) v = λ h. both_same e r
gives_filled c i j e (ConfirmBoth r) v = λ h. both_same e r
gives_filled c i j e (PickOne r b) v = λ h. both_same e r
gives_filled c i j e (PickBoth r) v = λ h. both_same e r
gives_filled c i j e (ShowShare r) v = λ h. both_same e r
gives_filled c i j e (GoOn r) v = λ coin b is next. both_same e (r + 1)
gives_filled c i j e (Decide r) v = λ coin is picked. some_where (e == e) coin (eq-eqb e e refl)

pub gives_inside : (c : Numbers) (i j e : ℕ) (name : AgreementSlot) (v : View) → Gives c i j e name v (λ vote. in_agreement e vote ≡ true)
gives_inside c i j e (Begin true) v = λ h. eq-eqb e e refl
gives_inside c i j e (Begin false) v = λ h. eq-eqb e e refl
gives_inside c i j e (Support r b) v = λ h. eq-eqb e e refl
gives_inside c i j e (Accept r) v = λ b begun supported. eq-eqb e e refl
gives_inside c i j e (ConfirmOne r b) v = λ h. eq-eqb e e refl
gives_inside c i j e (ConfirmBoth r) v = λ h. eq-eqb e e refl
gives_inside c i j e (PickOne r b) v = λ h. eq-eqb e e refl
gives_inside c i j e (PickBoth r) v = λ h. eq-eqb e e refl
gives_inside c i j e (ShowShare r) v = λ h. eq-eqb e e refl
gives_inside c i j e (GoOn r) v = λ coin b is next. eq-eqb e e refl
gives_inside c i j e (Decide r) v = λ coin is picked. eq-eqb e e refl

-- ---- votes of the epoch's agreement

is_est-inside : (e r : ℕ) (b : Bool) (vote : Vote) → is_est e r b vote ≡ true → in_agreement e vote ≡ true
is_est-inside e r b (Est d s bit) h = (and_parts (d == e) ((s == r) && same_bit bit b) h).0
is_est-inside e r b vote h = absurd (cc (h))

is_any_est-inside : (e r : ℕ) (vote : Vote) → is_any_est e r vote ≡ true → in_agreement e vote ≡ true
is_any_est-inside e r (Est d s bit) h = (and_parts (d == e) (s == r) h).0
is_any_est-inside e r vote h = absurd (cc (h))

is_bval-inside : (e r : ℕ) (b : Bool) (vote : Vote) → is_bval e r b vote ≡ true → in_agreement e vote ≡ true
is_bval-inside e r b (Bval d s bit) h = (and_parts (d == e) ((s == r) && same_bit bit b) h).0
is_bval-inside e r b vote h = absurd (cc (h))

is_aux-inside : (e r : ℕ) (b : Bool) (vote : Vote) → is_aux e r b vote ≡ true → in_agreement e vote ≡ true
is_aux-inside e r b (Aux d s bit) h = (and_parts (d == e) ((s == r) && same_bit bit b) h).0
is_aux-inside e r b vote h = absurd (cc (h))

is_any_aux-inside : (e r : ℕ) (vote : Vote) → is_any_aux e r vote ≡ true → in_agreement e vote ≡ true
is_any_aux-inside e r (Aux d s bit) h = (and_parts (d == e) (s == r) h).0
is_any_aux-inside e r vote h = absurd (cc (h))

is_conf-inside : (e r : ℕ) (set : Vals) (vote : Vote) → is_conf e r set vote ≡ true → in_agreement e vote ≡ true
is_conf-inside e r set (Conf d s vals) h = (and_parts (d == e) ((s == r) && same_vals vals set) h).0
is_conf-inside e r set vote h = absurd (cc (h))

is_any_conf-inside : (e r : ℕ) (vote : Vote) → is_any_conf e r vote ≡ true → in_agreement e vote ≡ true
is_any_conf-inside e r (Conf d s vals) h = (and_parts (d == e) (s == r) h).0
is_any_conf-inside e r vote h = absurd (cc (h))

is_conf_with-inside : (e r : ℕ) (b : Bool) (vote : Vote) → is_conf_with e r b vote ≡ true → in_agreement e vote ≡ true
is_conf_with-inside e r b (Conf d s vals) h = (and_parts (d == e) ((s == r) && has_bit b vals) h).0
is_conf_with-inside e r b vote h = absurd (cc (h))

is_pick-inside : (e r : ℕ) (set : Vals) (vote : Vote) → is_pick e r set vote ≡ true → in_agreement e vote ≡ true
is_pick-inside e r set (Pick d s vals) h = (and_parts (d == e) ((s == r) && same_vals vals set) h).0
is_pick-inside e r set vote h = absurd (cc (h))

is_any_pick-inside : (e r : ℕ) (vote : Vote) → is_any_pick e r vote ≡ true → in_agreement e vote ≡ true
is_any_pick-inside e r (Pick d s vals) h = (and_parts (d == e) (s == r) h).0
is_any_pick-inside e r vote h = absurd (cc (h))

is_any_coin-inside : (e r : ℕ) (vote : Vote) → is_any_coin e r vote ≡ true → in_agreement e vote ≡ true
is_any_coin-inside e r (Coin d s share salt branch) h = (and_parts (d == e) (s == r) h).0
is_any_coin-inside e r vote h = absurd (cc (h))

is_any_decision-inside : (e : ℕ) (vote : Vote) → is_any_decision e vote ≡ true → in_agreement e vote ≡ true
is_any_decision-inside e (Decided d bit) h = some_only (d == e) bit h
is_any_decision-inside e vote h = absurd (cc (h))

decision_any : (e : ℕ) (b : Bool) (vote : Vote) → is_decision e b vote ≡ true → is_any_decision e vote ≡ true
decision_any e b vote h = by (decided e vote) h
  where
    by : (o : Option Bool) → is_bit b o ≡ true → is_some o ≡ true
    by None h = absurd (cc (h))
    by (Some bit) h = refl

mark_inside : (e : ℕ) (mark : Mark) (vote : Vote) → bears e mark vote ≡ true → read_in_agreement e vote ≡ true
mark_inside e delivery vote h = or_right (in_agreement e vote) (is_any_delivery e vote) h
mark_inside e (est r b) vote h = or_left (in_agreement e vote) (is_any_delivery e vote) (is_est-inside e r b vote h)
mark_inside e (any_est r) vote h = or_left (in_agreement e vote) (is_any_delivery e vote) (is_any_est-inside e r vote h)
mark_inside e (bval r b) vote h = or_left (in_agreement e vote) (is_any_delivery e vote) (is_bval-inside e r b vote h)
mark_inside e (any_aux r) vote h = or_left (in_agreement e vote) (is_any_delivery e vote) (is_any_aux-inside e r vote h)
mark_inside e (any_conf r) vote h = or_left (in_agreement e vote) (is_any_delivery e vote) (is_any_conf-inside e r vote h)
mark_inside e (pick r vals) vote h = or_left (in_agreement e vote) (is_any_delivery e vote) (is_pick-inside e r vals vote h)
mark_inside e (any_pick r) vote h = or_left (in_agreement e vote) (is_any_delivery e vote) (is_any_pick-inside e r vote h)
mark_inside e (any_coin r) vote h = or_left (in_agreement e vote) (is_any_delivery e vote) (is_any_coin-inside e r vote h)
mark_inside e (decision b) vote h =
    or_left (in_agreement e vote) (is_any_delivery e vote) (is_any_decision-inside e vote (decision_any e b vote h))
mark_inside e any_decision vote h = or_left (in_agreement e vote) (is_any_delivery e vote) (is_any_decision-inside e vote h)

claim_inside : (e : ℕ) (claim : Claim) (vote : Vote) → makes e claim vote ≡ true → in_agreement e vote ≡ true
claim_inside e (bvals r b) vote h = is_bval-inside e r b vote h
claim_inside e (auxes r b) vote h = is_aux-inside e r b vote h
claim_inside e (any_auxes r) vote h = is_any_aux-inside e r vote h
claim_inside e (confs r b) vote h = is_conf-inside e r (single b) vote h
claim_inside e (any_confs r) vote h = is_any_conf-inside e r vote h
claim_inside e (confs_with r b) vote h = is_conf_with-inside e r b vote h

-- ---- hearings of the epoch's agreement

share_outside : (e r : ℕ) (h : Hearing) → heard_in_agreement e h ≡ false → share_in e r h.from h.vote ≡ None
share_outside e r h outside = by h.from h.vote (or_parts (in_agreement e h.vote) (is_no_more e h.vote) outside).0
  where
    by : (m : ℕ) (vote : Vote) → in_agreement e vote ≡ false → share_in e r m vote ≡ None
    by m (Coin d s share salt branch) outside = let other : (d == e) ≡ false = outside in rw other refl
    by m vote outside = refl

-- a view, by its parts
view_by : (Mark → Bool) → (Claim → ℕ) → (ℕ → Option Bool) → Bool → View
view_by cast count coin no_more = record { cast = cast; count = count; coin = coin; no_more = no_more }

has-within : (e : ℕ) (own : List Vote) (mark : Mark) → has e mark own ≡ has e mark (filter (read_in_agreement e) own)
has-within e own mark = sym (any_within (bears e mark) (read_in_agreement e) (mark_inside e mark) own)

heard-within : (e : ℕ) (heard : List Hearing) (a : ℕ) (test : Vote → Bool)
    → ((h : Hearing) → test h.vote ≡ true → heard_in_agreement e h ≡ true)
    → heard_by heard a test ≡ heard_by (filter (heard_in_agreement e) heard) a test
heard-within e heard a test inside =
    sym (any_within (λ (h : Hearing). (h.from == a) && test h.vote) (heard_in_agreement e)
    (λ h passes. inside h (and_parts (h.from == a) (test h.vote) passes).1) heard)

support-within : (n e : ℕ) (heard : List Hearing) (claim : Claim) → support n e claim heard ≡ support n e claim (filter (heard_in_agreement e) heard)
support-within n e heard claim =
    count_nodes-same n (λ a. heard_by heard a (makes e claim)) (λ a. heard_by (filter (heard_in_agreement e) heard) a (makes e claim))
    (λ a. heard-within e heard a (makes e claim)
    (λ h makes. or_left (in_agreement e h.vote) (is_no_more e h.vote) (claim_inside e claim h.vote makes)))

coin-within : (c : Numbers) (e j : ℕ) (heard : List Hearing) (r : ℕ) → coin_in c e j heard r ≡ coin_in c e j (filter (heard_in_agreement e) heard) r
coin-within c e j heard r =
    ap (λ (xs : List HeardShare). coin_from c.f (fold (with_heard (coin_root c e j r) c.n) [] xs))
    (sym (filter_map_within (λ (h : Hearing). share_in e r h.from h.vote) (heard_in_agreement e) (share_outside e r) heard))

view-within : (c : Numbers) (i j e : ℕ) (own : List Vote) (heard : List Hearing)
    → view_of c i j e own heard ≡ view_of c i j e (filter (read_in_agreement e) own) (filter (heard_in_agreement e) heard)
unfolding view_by
view-within c i j e own heard =
    let cast : List Vote = filter (read_in_agreement e) own in
    let part : List Hearing = filter (heard_in_agreement e) heard in
    ap (λ (f : Mark → Bool). view_by f (λ claim. support c.n e claim heard) (coin_in c e j heard) (heard_by heard i (is_no_more e)))
    (fun_ext (λ mark. has-within e own mark))
    ∙ ap (λ (f : Claim → ℕ). view_by (λ mark. has e mark cast) f (coin_in c e j heard) (heard_by heard i (is_no_more e)))
    (fun_ext (λ claim. support-within c.n e heard claim))
    ∙ ap (λ (f : ℕ → Option Bool). view_by (λ mark. has e mark cast) (λ claim. support c.n e claim part) f (heard_by heard i (is_no_more e)))
    (fun_ext (λ r. coin-within c e j heard r))
    ∙ ap (λ (b : Bool). view_by (λ mark. has e mark cast) (λ claim. support c.n e claim part) (coin_in c e j part) b)
    (heard-within e heard i (is_no_more e) (λ h is. or_right (in_agreement e h.vote) (is_no_more e h.vote) is))

-- ---- parts

pub agreement_slot-part : (c : Numbers) (i j e : ℕ) (name : AgreementSlot)
    → IsPart (read_in_agreement e) (heard_in_agreement e) (in_agreement e) (agreement_slot c i j e name)
unfolding agreement_slot
agreement_slot-part c i j e name = record {
  cast = λ own. has-within e own (limit_of name);
  choice = λ own heard. ap (choice_of c i j e name) (view-within c i j e own heard);
  made = λ own heard vote some.
      choice_gives c i j e name (view_of c i j e own heard) (λ vote. in_agreement e vote ≡ true)
      (gives_inside c i j e name (view_of c i j e own heard)) vote some;
}

pub agreement_slot-guarded : (c : Numbers) (i j e : ℕ) (name : AgreementSlot) → IsGuarded (agreement_slot c i j e name)
unfolding agreement_slot
agreement_slot-guarded c i j e name = record {
  filled = λ own heard vote some.
      any_filled (bears e (limit_of name)) own vote
      (choice_gives c i j e name (view_of c i j e own heard) (λ vote. bears e (limit_of name) vote ≡ true)
      (gives_filled c i j e name (view_of c i j e own heard)) vote some);
  stays = any_stays (bears e (limit_of name));
}

-- ---- own votes count by tests alone

pub agreement_slot-tested : (c : Numbers) (i j e : ℕ) (name : AgreementSlot) → IsTested (agreement_slot c i j e name)
unfolding agreement_slot view_by
agreement_slot-tested c i j e name = record {
  cast = λ own other same. same.tests (bears e (limit_of name));
  choice = λ own other heard same.
      ap (λ (f : Mark → Bool). choice_of c i j e name (view_by f (λ claim. support c.n e claim heard) (coin_in c e j heard) (heard_by heard i (is_no_more e))))
      (fun_ext (λ mark. same.tests (bears e mark)));
}

-- ---- where nothing was heard, no more is made

no_support : (n e k : ℕ) (claim : Claim) → nat_le (k + 1) (support n e claim []) ≡ false
no_support n e k claim =
    let none : support n e claim [] ≡ 0 = count_nodes-none n (λ a. heard_by [] a (makes e claim)) (λ a. refl) in
    lt-leb (k + 1) (support n e claim []) (omega arith)

no_coin : (c : Numbers) (e j r : ℕ) → coin_in c e j [] r ≡ None
no_coin c e j r = ap (λ (b : Bool). if b then Some (coin_through (take (c.f + 1) [])) else None) (le-ltb c.f 0 (omega arith))

not_when : (test : Bool) (x : Vote) → test ≡ false → (if test then Some x else None) ≡ None
not_when true x fails = absurd (cc (fails))
not_when false x fails = refl

less_when : (a b d : Bool) (x : Vote) → d ≡ false → (if a || b then Some x else None) ≡ None → (if a || d then Some x else None) ≡ None
less_when true b d x fails h = absurd (cc (h))
less_when false b d x fails h = not_when d x fails

-- a view without hearings

bare-gathered_one : (c : Numbers) (i j e r : ℕ) (b : Bool) (own : List Vote) → is_gathered_one c (view_of c i j e own []) r b ≡ false
bare-gathered_one c i j e r b own =
    let v : View = view_of c i j e own [] in
    and_right (v.cast (any_aux r)) (is_supported c v r b && has_quorum c v (auxes r b))
    (and_left (is_supported c v r b) (has_quorum c v (auxes r b)) (no_support c.n e (2 * c.f) (bvals r b)))

bare-confirmed_one : (c : Numbers) (i j e r : ℕ) (b : Bool) (own : List Vote) → is_confirmed_one c (view_of c i j e own []) r b ≡ false
bare-confirmed_one c i j e r b own =
    let v : View = view_of c i j e own [] in
    and_right (v.cast (any_conf r)) (is_supported c v r b && has_quorum c v (confs r b))
    (and_left (is_supported c v r b) (has_quorum c v (confs r b)) (no_support c.n e (2 * c.f) (bvals r b)))

-- neither bit is supported, whatever else is asked
unsupported : (c : Numbers) (i j e r : ℕ) (own : List Vote) (entered rest : Bool)
    → (entered && ((is_supported c (view_of c i j e own []) r false && is_supported c (view_of c i j e own []) r true) && rest)) ≡ false
unsupported c i j e r own entered rest =
    let v : View = view_of c i j e own [] in
    let zero : Bool = is_supported c v r false in
    let one : Bool = is_supported c v r true in
    and_right entered ((zero && one) && rest)
    (and_left (zero && one) rest (and_left zero one (no_support c.n e (2 * c.f) (bvals r false))))

bare-left_one : (confirm : Bool) (c : Numbers) (i j e r : ℕ) (b : Bool) (own : List Vote) → is_left_one confirm c (view_of c i j e own []) r b ≡ false
bare-left_one true c i j e r b own = bare-confirmed_one c i j e r b own
bare-left_one false c i j e r b own = bare-gathered_one c i j e r b own

bare-left_both : (confirm : Bool) (c : Numbers) (i j e r : ℕ) (own : List Vote) → is_left_both confirm c (view_of c i j e own []) r ≡ false
bare-left_both true c i j e r own = unsupported c i j e r own (has e (any_conf r) own) _
bare-left_both false c i j e r own = unsupported c i j e r own (has e (any_aux r) own) _

none_accepted : (high low : Bool) → high ≡ false → low ≡ false → (if high then Some true else (if low then Some false else None)) ≡ None
none_accepted true low no_high no_low = absurd (cc (no_high))
none_accepted false true no_high no_low = absurd (cc (no_low))
none_accepted false false no_high no_low = refl

bare-accepted : (c : Numbers) (i j e r : ℕ) (own : List Vote) → accepted_bit c (view_of c i j e own []) r ≡ None
bare-accepted c i j e r own =
    none_accepted (is_supported c (view_of c i j e own []) r true) (is_supported c (view_of c i j e own []) r false)
    (no_support c.n e (2 * c.f) (bvals r true)) (no_support c.n e (2 * c.f) (bvals r false))

choice_forgets : (c : Numbers) (i j e : ℕ) (name : AgreementSlot) (own : List Vote) (heard : List Hearing)
    → choice_of c i j e name (view_of c i j e own heard) ≡ None → choice_of c i j e name (view_of c i j e own []) ≡ None
unfolding choice_of
choice_forgets c i j e (Begin true) own heard h = h
choice_forgets c i j e (Begin false) own heard h = refl
choice_forgets c i j e (Support r b) own heard h =
    let begun : Bool = has e (any_est r) own in
    less_when (has e (est r b) own) (begun && nat_le (c.f + 1) (support c.n e (bvals r b) heard)) (begun && nat_le (c.f + 1) (support c.n e (bvals r b) []))
    (Bval e r b) (and_right begun (nat_le (c.f + 1) (support c.n e (bvals r b) [])) (no_support c.n e c.f (bvals r b))) h
choice_forgets c i j e (Accept r) own heard h = by (has e (any_est r) own)
  where
    by : (begun : Bool) → (if begun then option_map (Aux e r) (accepted_bit c (view_of c i j e own []) r) else None) ≡ None
    by true = ap (option_map (λ b. Aux e r b)) (bare-accepted c i j e r own)
    by false = refl
choice_forgets c i j e (ConfirmOne r b) own heard h =
    not_when (is_gathered_one c (view_of c i j e own []) r b) (Conf e r (single b)) (bare-gathered_one c i j e r b own)
choice_forgets c i j e (ConfirmBoth r) own heard h =
    not_when (is_gathered_both c (view_of c i j e own []) r) (Conf e r Both) (unsupported c i j e r own (has e (any_aux r) own) _)
choice_forgets c i j e (PickOne r b) own heard h =
    not_when (is_left_one (confirms c) c (view_of c i j e own []) r b) (Pick e r (single b)) (bare-left_one (confirms c) c i j e r b own)
choice_forgets c i j e (PickBoth r) own heard h =
    not_when (is_left_both (confirms c) c (view_of c i j e own []) r) (Pick e r Both) (bare-left_both (confirms c) c i j e r own)
choice_forgets c i j e (ShowShare r) own heard h = h
choice_forgets c i j e (GoOn r) own heard h =
    let v : View = view_of c i j e own [] in
    ap (option_and_then (λ (coin : Bool). if stops v r coin then None else option_map (Est e (r + 1)) (next_bit v r coin))) (no_coin c e j r)
choice_forgets c i j e (Decide r) own heard h =
    let v : View = view_of c i j e own [] in
    ap (option_and_then (λ (coin : Bool). if v.cast (pick r (single coin)) then Some (Decided e coin) else None)) (no_coin c e j r)

pub agreement_slot-forgets : (c : Numbers) (i j e : ℕ) (name : AgreementSlot) → IsForgetful (agreement_slot c i j e name)
unfolding agreement_slot
agreement_slot-forgets c i j e name = record { forgets = λ own heard none. choice_forgets c i j e name own heard none }

-- ---- all slots of the rows

-- the slot is of a round that the run has, and a round of its own in the confirm phase where there is one
abbrev pub IsKnown : Numbers → AgreementSlot → Type 0
IsKnown c (Begin bit) = Unit {0}
IsKnown c (Support r b) = r < c.rounds
IsKnown c (Accept r) = r < c.rounds
IsKnown c (ConfirmOne r b) = (r < c.rounds) × (confirms c ≡ true)
IsKnown c (ConfirmBoth r) = (r < c.rounds) × (confirms c ≡ true)
IsKnown c (PickOne r b) = r < c.rounds
IsKnown c (PickBoth r) = r < c.rounds
IsKnown c (ShowShare r) = r < c.rounds
IsKnown c (GoOn r) = r + 1 < c.rounds
IsKnown c (Decide r) = r < c.rounds

confirm_known : (c : Numbers) (confirm : Bool) → confirms c ≡ confirm → AllByRecursion (λ names. AllByRecursion (IsKnown c) names) (confirm_names confirm c.rounds)
confirm_known c false is = tt
confirm_known c true is = (
  AllByRecursion-each (IsKnown c) c.rounds (λ r. ConfirmOne r false ∷ ConfirmOne r true ∷ []) (λ r below. ((below, is), ((below, is), tt))),
  (AllByRecursion-each (IsKnown c) c.rounds (λ r. ConfirmBoth r ∷ []) (λ r below. ((below, is), tt)), tt),
)

names_known : (c : Numbers) → AllByRecursion (λ names. AllByRecursion (IsKnown c) names) (agreement_names c)
names_known c =
    let rest : List (List AgreementSlot) =
    each c.rounds (λ r. PickOne r false ∷ PickOne r true ∷ [])
    ∷ each c.rounds (λ r. PickBoth r ∷ [])
    ∷ each c.rounds (λ r. ShowShare r ∷ [])
    ∷ each (c.rounds - 1) (λ r. GoOn r ∷ [])
    ∷ each c.rounds (λ r. Decide r ∷ []) ∷ [] in (
      (tt, tt),
      (
        (tt, tt),
        (
          AllByRecursion-each (IsKnown c) c.rounds (λ r. Support r false ∷ Support r true ∷ []) (λ r below. (below, (below, tt))),
          (
            AllByRecursion-each (IsKnown c) c.rounds (λ r. Accept r ∷ []) (λ r below. (below, tt)),
            AllByRecursion-append (λ names. AllByRecursion (IsKnown c) names) (confirm_names (confirms c) c.rounds) rest (confirm_known c (confirms c) refl) (
              AllByRecursion-each (IsKnown c) c.rounds (λ r. PickOne r false ∷ PickOne r true ∷ []) (λ r below. (below, (below, tt))),
              (
                AllByRecursion-each (IsKnown c) c.rounds (λ r. PickBoth r ∷ []) (λ r below. (below, tt)),
                (
                  AllByRecursion-each (IsKnown c) c.rounds (λ r. ShowShare r ∷ []) (λ r below. (below, tt)),
                  (
                    AllByRecursion-each (IsKnown c) (c.rounds - 1) (λ r. GoOn r ∷ []) (λ r below. (omega arith, tt)),
                    (AllByRecursion-each (IsKnown c) c.rounds (λ r. Decide r ∷ []) (λ r below. (below, tt)), tt),
                  ),
                ),
              ),
            ),
          ),
        ),
      ),
    )

-- what holds of each slot of a name that is known holds of all
pub agreement_hold : (P : ℕ → Slot Vote Hearing → Type 0) (c : Numbers) (i j : ℕ)
    → ((e : ℕ) (name : AgreementSlot) → IsKnown c name → P e (agreement_slot c i j e name))
    → AllByRecursion (λ row. (e : ℕ) → AllByRecursion (P e) (row e)) (agreement_rows c i j)
agreement_hold P c i j holds =
    AllByRecursion-map (λ (row : ℕ → List (Slot Vote Hearing)). (e : ℕ) → AllByRecursion (P e) (row e)) (λ names e. map (agreement_slot c i j e) names)
    (agreement_names c)
    (AllByRecursion-weaker (λ names. AllByRecursion (IsKnown c) names) (λ names. (e : ℕ) → AllByRecursion (P e) (map (agreement_slot c i j e) names))
    (agreement_names c)
    (λ names known e.
    AllByRecursion-map (P e) (agreement_slot c i j e) names
    (AllByRecursion-weaker (IsKnown c) (λ name. P e (agreement_slot c i j e name)) names (λ name is. holds e name is) known))
    (names_known c))

pub agreement-parts : (c : Numbers) (i j : ℕ) → AreRows read_in_agreement heard_in_agreement in_agreement (agreement_rows c i j)
agreement-parts c i j =
    agreement_hold (λ e slot. IsPart (read_in_agreement e) (heard_in_agreement e) (in_agreement e) slot) c i j (λ e name known. agreement_slot-part c i j e name)

pub agreement-guarded : (c : Numbers) (i j : ℕ) → AllByRecursion (λ row. (e : ℕ) → AllByRecursion IsGuarded (row e)) (agreement_rows c i j)
agreement-guarded c i j = agreement_hold (λ e slot. IsGuarded slot) c i j (λ e name known. agreement_slot-guarded c i j e name)

pub agreement-forgets : (c : Numbers) (i j : ℕ) → AllByRecursion (λ row. (e : ℕ) → AllByRecursion IsForgetful (row e)) (agreement_rows c i j)
agreement-forgets c i j = agreement_hold (λ e slot. IsForgetful slot) c i j (λ e name known. agreement_slot-forgets c i j e name)

pub agreement-tested : (c : Numbers) (i j : ℕ) → AllByRecursion (λ row. (e : ℕ) → AllByRecursion IsTested (row e)) (agreement_rows c i j)
agreement-tested c i j = agreement_hold (λ e slot. IsTested slot) c i j (λ e name known. agreement_slot-tested c i j e name)
