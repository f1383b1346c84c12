-- Rules look at own votes through tests alone; and no vote may be cast that was cast before.
use Rattle.std.proofs.Common.{◌≡◌, ℕ, zero, suc, Bool, true, false, ◌&&◌, ◌==◌, inl, inr, ⊎_elim, List, Contains, refl, sym, ◌∙◌, subst}
use Rattle.std.specs.List.{list_any}
use Rattle.std.proofs.lemmas.Bool.{eq-eqb, and_from, false_from_ne_true}
use Rattle.hb_base.specs.Numbers.{Numbers}
use Rattle.hb_wire.specs.declared.vote.Vals.{Vals}
use Rattle.hb_wire.specs.declared.vote.Vals.TheVariants.{Zero, One, Both}
use Rattle.hb_wire.specs.declared.vote.Vote.{Vote}
use Rattle.hb_wire.specs.declared.vote.Vote.TheVariants.{Val, Echo, Ready, Delivered, Est, Bval, Aux, Conf, Pick, Coin, Decided, Propose, NoMore, Closed}
use Rattle.hb_wire.proofs.Equality.{one_vote}
use Rattle.hb_rules.specs.Agreement.{IsGathered, IsConfirmed, IsLeftWith, MayBegin, HasSettled, MayAgree, confirms}
use Rattle.hb_rules.specs.Broadcast.{MayBroadcast}
use Rattle.hb_rules.specs.Claims.{same_bit, is_val_to, is_any_echo, is_any_ready, is_any_delivery, is_any_decision, is_any_proposal, is_no_more, is_any_closing}
use Rattle.hb_rules.specs.Desk.{MayAtDesk, is_open}
use Rattle.hb_rules.specs.Hearing.{Hearing}
use Rattle.hb_rules.specs.Marks.{is_any_est, is_bval, is_any_aux, is_any_conf, is_any_pick, is_any_coin}
use Rattle.hb_rules.specs.Parts.{Part, broadcast, agreement, desk, part_of}
use Rattle.hb_rules.specs.Rules.{MayInPart, MayCast}
use Rattle.hb_rules.specs.Same.{AreSame, same_vote}
use Rattle.hb_rules.proofs.Among.{any_stands}
use Rattle.hb_rules.proofs.Lists.{list_any-from}

-- ---- what may be cast by own votes may be cast by others that no test tells from them

module _ (own other : List Vote) (same : AreSame own other) where
  keep : (test : Vote → Bool) (b : Bool) → list_any test own ≡ b → list_any test other ≡ b
  keep test b h = sym (same.tests test) ∙ h

  gathered_same : (c : Numbers) (e r : ℕ) (vals : Vals) (heard : List Hearing) → IsGathered c e r vals own heard → IsGathered c e r vals other heard
  gathered_same c e r Zero heard g = record { entered = keep _ _ g.entered; supported = g.supported; accepted = g.accepted }
  gathered_same c e r One heard g = record { entered = keep _ _ g.entered; supported = g.supported; accepted = g.accepted }
  gathered_same c e r Both heard g = record { entered = keep _ _ g.entered; supported = g.supported; each = g.each; accepted = g.accepted }

  confirmed_same : (c : Numbers) (e r : ℕ) (vals : Vals) (heard : List Hearing) → IsConfirmed c e r vals own heard → IsConfirmed c e r vals other heard
  confirmed_same c e r Zero heard g = record { entered = keep _ _ g.entered; supported = g.supported; confirmed = g.confirmed }
  confirmed_same c e r One heard g = record { entered = keep _ _ g.entered; supported = g.supported; confirmed = g.confirmed }
  confirmed_same c e r Both heard g = record { entered = keep _ _ g.entered; supported = g.supported; confirmed = g.confirmed; each = g.each }

  left_same : (confirming : Bool) (c : Numbers) (e r : ℕ) (vals : Vals) (heard : List Hearing) → IsLeftWith confirming c e r vals own heard
      → IsLeftWith confirming c e r vals other heard
  left_same false c e r vals heard left = gathered_same c e r vals heard left
  left_same true c e r vals heard left = confirmed_same c e r vals heard left

  begin_same : (c : Numbers) (i j e r : ℕ) (b : Bool) (heard : List Hearing) → MayBegin c i j e r b own heard → MayBegin c i j e r b other heard
  begin_same c i j e zero true heard may = keep _ _ may
  begin_same c i j e zero false heard may = may
  begin_same c i j e (suc r) b heard may = record {
    shares = may.shares;
    picked = ⊎_elim (λ alone. inl (keep _ _ alone)) (λ both. inr (keep _ _ both.0, both.1)) may.picked;
  }

  settled_same : (c : Numbers) (j e : ℕ) (b : Bool) (heard : List Hearing) → HasSettled c j e b own heard → HasSettled c j e b other heard
  settled_same c j e b heard settled = record {
    round = settled.round;
    known = settled.known;
    picked = keep _ _ settled.picked;
    shares = settled.shares;
    coin = settled.coin;
  }

  agree_same : (c : Numbers) (i j : ℕ) (heard : List Hearing) (vote : Vote) → MayAgree c i j own heard vote → MayAgree c i j other heard vote
  agree_same c i j heard (Est e r b) may = (may.0, begin_same c i j e r b heard may.1, keep _ _ may.2)
  agree_same c i j heard (Bval e r b) may = (
    may.0,
    ⊎_elim (λ estimate. inl (keep _ _ estimate)) (λ others. inr (keep _ _ others.0, others.1)) may.1,
    keep _ _ may.2,
  )
  agree_same c i j heard (Aux e r b) may = (may.0, keep _ _ may.1, may.2, keep _ _ may.3)
  agree_same c i j heard (Conf e r vals) may = (may.0, may.1, gathered_same c e r vals heard may.2, keep _ _ may.3)
  agree_same c i j heard (Pick e r vals) may = (may.0, left_same (confirms c) c e r vals heard may.1, keep _ _ may.2)
  agree_same c i j heard (Coin e r share salt branch) may = (may.0, may.1, may.2, may.3, keep _ _ may.4, keep _ _ may.5)
  agree_same c i j heard (Decided e b) may = (settled_same c j e b heard may.0, keep _ _ may.1)
  agree_same c i j heard vote may = absurd may

  broadcast_same : (c : Numbers) (i j : ℕ) (heard : List Hearing) (vote : Vote) → MayBroadcast c i j own heard vote → MayBroadcast c i j other heard vote
  broadcast_same c i j heard (Val e m root shard branch) may = (may.0, may.1, keep _ _ may.2)
  broadcast_same c i j heard (Echo e root shard branch) may = (may.0, may.1, keep _ _ may.2)
  broadcast_same c i j heard (Ready e root) may = (may.0, keep _ _ may.1)
  broadcast_same c i j heard (Delivered e value) may = (may.0, keep _ _ may.1)
  broadcast_same c i j heard vote may = absurd may

  open_same : (e : ℕ) → is_open e own ≡ true → is_open e other ≡ true
  open_same zero is = refl
  open_same (suc e) is = keep _ _ is

  desk_same : (c : Numbers) (heard : List Hearing) (vote : Vote) → MayAtDesk c own heard vote → MayAtDesk c other heard vote
  desk_same c heard (Propose e value) may = (may.0, open_same e may.1, keep _ _ may.2)
  desk_same c heard (NoMore e) may = (may.0, keep _ _ may.1)
  desk_same c heard (Closed e list) may = (open_same e may.0, may.1, keep _ _ may.2)
  desk_same c heard vote may = absurd may

  part_same : (part : Part) (c : Numbers) (i x : ℕ) (heard : List Hearing) (vote : Vote) → MayInPart part c i x own heard vote
      → MayInPart part c i x other heard vote
  part_same broadcast c i x heard vote may = broadcast_same c i x heard vote may
  part_same agreement c i x heard vote may = agree_same c i x heard vote may
  part_same desk c i x heard vote may = absurd may

  pub cast_same : (c : Numbers) (i x : ℕ) (heard : List Hearing) (vote : Vote) → MayCast c i x own heard vote → MayCast c i x other heard vote
  cast_same c i x heard vote (inl may) = inl (may.0, part_same (part_of vote) c i x heard vote may.1)
  cast_same c i x heard vote (inr may) = inr (may.0, desk_same c heard vote may.1)

-- ---- a vote that may be cast was not cast

same_itself : (vote : Vote) → same_vote vote vote ≡ true
same_itself vote = (one_vote vote vote).1 refl

unlike : (mark : Vote → Bool) (own : List Vote) (vote : Vote) → list_any mark own ≡ false → mark vote ≡ true → list_any (same_vote vote) own ≡ false
unlike mark own vote none marked = false_from_ne_true (list_any (same_vote vote) own) (λ among.
    let found = any_stands (same_vote vote) own among in
    let stands : Contains own vote = subst (λ (v : Vote). Contains own v) (sym ((one_vote vote found.0).0 found.2)) found.1 in
    absurd (cc (none, list_any-from mark own vote stands marked)))

is_same : (n : ℕ) → (n == n) ≡ true
is_same n = eq-eqb n n refl

are_same : (n m : ℕ) → ((n == n) && (m == m)) ≡ true
are_same n m = and_from (n == n) (m == m) (is_same n) (is_same m)

bit_same : (b : Bool) → same_bit b b ≡ true
bit_same true = refl
bit_same false = refl

new_agreement : (c : Numbers) (i j : ℕ) (own : List Vote) (heard : List Hearing) (vote : Vote) → MayAgree c i j own heard vote
    → list_any (same_vote vote) own ≡ false
new_agreement c i j own heard (Est e r b) may = unlike (is_any_est e r) own (Est e r b) may.2 (are_same e r)
new_agreement c i j own heard (Bval e r b) may =
    unlike (is_bval e r b) own (Bval e r b) may.2
    (and_from (e == e) ((r == r) && same_bit b b) (is_same e) (and_from (r == r) (same_bit b b) (is_same r) (bit_same b)))
new_agreement c i j own heard (Aux e r b) may = unlike (is_any_aux e r) own (Aux e r b) may.3 (are_same e r)
new_agreement c i j own heard (Conf e r vals) may = unlike (is_any_conf e r) own (Conf e r vals) may.3 (are_same e r)
new_agreement c i j own heard (Pick e r vals) may = unlike (is_any_pick e r) own (Pick e r vals) may.2 (are_same e r)
new_agreement c i j own heard (Coin e r share salt branch) may = unlike (is_any_coin e r) own (Coin e r share salt branch) may.5 (are_same e r)
new_agreement c i j own heard (Decided e b) may = unlike (is_any_decision e) own (Decided e b) may.1 (decides (e == e) (is_same e))
  where
    decides : (d : Bool) → d ≡ true → is_any_decision e (Decided e b) ≡ true
    decides d h = rw (is_same e) refl
new_agreement c i j own heard vote may = absurd may

new_broadcast : (c : Numbers) (i j : ℕ) (own : List Vote) (heard : List Hearing) (vote : Vote) → MayBroadcast c i j own heard vote
    → list_any (same_vote vote) own ≡ false
new_broadcast c i j own heard (Val e m root shard branch) may = unlike (is_val_to e m) own (Val e m root shard branch) may.2 (are_same e m)
new_broadcast c i j own heard (Echo e root shard branch) may = unlike (is_any_echo e) own (Echo e root shard branch) may.2 (is_same e)
new_broadcast c i j own heard (Ready e root) may = unlike (is_any_ready e) own (Ready e root) may.1 (rw (is_same e) refl)
new_broadcast c i j own heard (Delivered e value) may = unlike (is_any_delivery e) own (Delivered e value) may.1 (rw (is_same e) refl)
new_broadcast c i j own heard vote may = absurd may

new_at_desk : (c : Numbers) (own : List Vote) (heard : List Hearing) (vote : Vote) → MayAtDesk c own heard vote → list_any (same_vote vote) own ≡ false
new_at_desk c own heard (Propose e value) may = unlike (is_any_proposal e) own (Propose e value) may.2 (rw (is_same e) refl)
new_at_desk c own heard (NoMore e) may = unlike (is_no_more e) own (NoMore e) may.1 (is_same e)
new_at_desk c own heard (Closed e list) may = unlike (is_any_closing e) own (Closed e list) may.2 (rw (is_same e) refl)
new_at_desk c own heard vote may = absurd may

new_in_part : (part : Part) (c : Numbers) (i x : ℕ) (own : List Vote) (heard : List Hearing) (vote : Vote) → MayInPart part c i x own heard vote
    → list_any (same_vote vote) own ≡ false
new_in_part broadcast c i x own heard vote may = new_broadcast c i x own heard vote may
new_in_part agreement c i x own heard vote may = new_agreement c i x own heard vote may
new_in_part desk c i x own heard vote may = absurd may

pub new_vote : (c : Numbers) (i x : ℕ) (own : List Vote) (heard : List Hearing) (vote : Vote) → MayCast c i x own heard vote
    → list_any (same_vote vote) own ≡ false
new_vote c i x own heard vote (inl may) = new_in_part (part_of vote) c i x own heard vote may.1
new_vote c i x own heard vote (inr may) = new_at_desk c own heard vote may.1
