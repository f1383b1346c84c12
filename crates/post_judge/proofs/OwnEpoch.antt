-- A lane looks at those of its own votes alone that are of the epoch of the vote in question. The letters: lane x of node i, e is an epoch.
use Rattle.std.proofs.Common.{◌≡◌, ℕ, zero, suc, Bool, true, false, ◌==◌, inl, inr, ⊎_elim, List, sym, ◌∙◌}
use Rattle.std.specs.List.{list_any}
use Rattle.std.proofs.lemmas.Bool.{and_parts, eqb-true}
use Rattle.hb_base.specs.Numbers.{Numbers}
use Rattle.hb_wire.specs.declared.vote.Vals.{Vals}
use Rattle.hb_wire.specs.declared.vote.Vals.TheVariants.{Zero, One, Both}
use Rattle.hb_wire.specs.declared.vote.Vote.{Vote}
use Rattle.hb_wire.specs.declared.vote.Vote.TheVariants.{Val, Echo, Ready, Delivered, Est, Bval, Aux, Conf, Pick, Coin, Decided}
use Rattle.hb_wire.specs.Votes.{epoch_of}
use Rattle.hb_rules.specs.Agreement.{IsGathered, IsConfirmed, IsLeftWith, MayBegin, HasSettled, MayAgree, confirms}
use Rattle.hb_rules.specs.Broadcast.{MayBroadcast}
use Rattle.hb_rules.specs.Claims.{is_val_to, is_any_echo, is_any_ready, is_any_delivery}
use Rattle.hb_rules.specs.Hearing.{Hearing}
use Rattle.hb_rules.specs.Marks.{Mark, delivery, est, any_est, bval, any_aux, any_conf, pick, any_pick, any_coin, any_decision, has, bears, single}
use Rattle.hb_rules.specs.Parts.{Part, broadcast, agreement, desk}
use Rattle.hb_rules.specs.Rules.{MayInPart}
use Rattle.hb_rules.proofs.BroadcastParts.{some_only}
use Rattle.post_judge.proofs.Epochs.{mark_epoch}

-- no test that only votes of this epoch pass tells the lists apart
pub record AreAlike (e : ℕ) (own other : List Vote) : Type 0 where
  pub tests : (test : Vote → Bool) → ((vote : Vote) → test vote ≡ true → epoch_of vote ≡ e) → list_any test own ≡ list_any test other

-- ---- tests of an epoch

val_epoch : (e m : ℕ) (vote : Vote) → is_val_to e m vote ≡ true → epoch_of vote ≡ e
val_epoch e m (Val d target root shard branch) h = eqb-true d e (and_parts (d == e) (target == m) h).0
val_epoch e m vote h = absurd (cc (h))

echo_epoch : (e : ℕ) (vote : Vote) → is_any_echo e vote ≡ true → epoch_of vote ≡ e
echo_epoch e (Echo d root shard branch) h = eqb-true d e h
echo_epoch e vote h = absurd (cc (h))

ready_epoch : (e : ℕ) (vote : Vote) → is_any_ready e vote ≡ true → epoch_of vote ≡ e
ready_epoch e (Ready d root) h = eqb-true d e (some_only (d == e) root h)
ready_epoch e vote h = absurd (cc (h))

module _ (own other : List Vote) (e : ℕ) (alike : AreAlike e own other) where
  keep : (mark : Mark) (b : Bool) → has e mark own ≡ b → has e mark other ≡ b
  keep mark b h = sym (alike.tests (bears e mark) (mark_epoch e mark)) ∙ h

  gathered_kept : (c : Numbers) (r : ℕ) (vals : Vals) (heard : List Hearing) → IsGathered c e r vals own heard → IsGathered c e r vals other heard
  gathered_kept c r Zero heard g = record { entered = keep (any_aux r) true g.entered; supported = g.supported; accepted = g.accepted }
  gathered_kept c r One heard g = record { entered = keep (any_aux r) true g.entered; supported = g.supported; accepted = g.accepted }
  gathered_kept c r Both heard g = record { entered = keep (any_aux r) true g.entered; supported = g.supported; each = g.each; accepted = g.accepted }

  confirmed_kept : (c : Numbers) (r : ℕ) (vals : Vals) (heard : List Hearing) → IsConfirmed c e r vals own heard → IsConfirmed c e r vals other heard
  confirmed_kept c r Zero heard g = record { entered = keep (any_conf r) true g.entered; supported = g.supported; confirmed = g.confirmed }
  confirmed_kept c r One heard g = record { entered = keep (any_conf r) true g.entered; supported = g.supported; confirmed = g.confirmed }
  confirmed_kept c r Both heard g =
      record { entered = keep (any_conf r) true g.entered; supported = g.supported; confirmed = g.confirmed; each = g.each }

  left_kept : (confirming : Bool) (c : Numbers) (r : ℕ) (vals : Vals) (heard : List Hearing) → IsLeftWith confirming c e r vals own heard
      → IsLeftWith confirming c e r vals other heard
  left_kept false c r vals heard left = gathered_kept c r vals heard left
  left_kept true c r vals heard left = confirmed_kept c r vals heard left

  begin_kept : (c : Numbers) (i j r : ℕ) (b : Bool) (heard : List Hearing) → MayBegin c i j e r b own heard → MayBegin c i j e r b other heard
  begin_kept c i j zero true heard may = keep delivery true may
  begin_kept c i j zero false heard may = may
  begin_kept c i j (suc r) b heard may = record {
    shares = may.shares;
    picked = ⊎_elim (λ alone. inl (keep (pick r (single b)) true alone)) (λ both. inr (keep (pick r Both) true both.0, both.1)) may.picked;
  }

  settled_kept : (c : Numbers) (j : ℕ) (b : Bool) (heard : List Hearing) → HasSettled c j e b own heard → HasSettled c j e b other heard
  settled_kept c j b heard settled = record {
    round = settled.round;
    known = settled.known;
    picked = keep (pick settled.round (single b)) true settled.picked;
    shares = settled.shares;
    coin = settled.coin;
  }

agree_kept : (own other : List Vote) (c : Numbers) (i j : ℕ) (heard : List Hearing) (vote : Vote) → AreAlike (epoch_of vote) own other
    → MayAgree c i j own heard vote → MayAgree c i j other heard vote
agree_kept own other c i j heard (Est e r b) alike may =
    (may.0, begin_kept own other e alike c i j r b heard may.1, keep own other e alike (any_est r) false may.2)
agree_kept own other c i j heard (Bval e r b) alike may = (
  may.0,
  ⊎_elim (λ estimate. inl (keep own other e alike (est r b) true estimate)) (λ others. inr (keep own other e alike (any_est r) true others.0, others.1)) may.1,
  keep own other e alike (bval r b) false may.2,
)
agree_kept own other c i j heard (Aux e r b) alike may =
    (may.0, keep own other e alike (any_est r) true may.1, may.2, keep own other e alike (any_aux r) false may.3)
agree_kept own other c i j heard (Conf e r vals) alike may =
    (may.0, may.1, gathered_kept own other e alike c r vals heard may.2, keep own other e alike (any_conf r) false may.3)
agree_kept own other c i j heard (Pick e r vals) alike may =
    (may.0, left_kept own other e alike (confirms c) c r vals heard may.1, keep own other e alike (any_pick r) false may.2)
agree_kept own other c i j heard (Coin e r share salt branch) alike may =
    (may.0, may.1, may.2, may.3, keep own other e alike (any_pick r) true may.4, keep own other e alike (any_coin r) false may.5)
agree_kept own other c i j heard (Decided e b) alike may =
    (settled_kept own other e alike c j b heard may.0, keep own other e alike any_decision false may.1)
agree_kept own other c i j heard vote alike may = absurd may

broadcast_kept : (own other : List Vote) (c : Numbers) (i j : ℕ) (heard : List Hearing) (vote : Vote) → AreAlike (epoch_of vote) own other
    → MayBroadcast c i j own heard vote → MayBroadcast c i j other heard vote
broadcast_kept own other c i j heard (Val e m root shard branch) alike may = (may.0, may.1, sym (alike.tests (is_val_to e m) (val_epoch e m)) ∙ may.2)
broadcast_kept own other c i j heard (Echo e root shard branch) alike may = (may.0, may.1, sym (alike.tests (is_any_echo e) (echo_epoch e)) ∙ may.2)
broadcast_kept own other c i j heard (Ready e root) alike may = (may.0, sym (alike.tests (is_any_ready e) (ready_epoch e)) ∙ may.1)
broadcast_kept own other c i j heard (Delivered e value) alike may =
    (may.0, sym (alike.tests (is_any_delivery e) (mark_epoch e delivery)) ∙ may.1)
broadcast_kept own other c i j heard vote alike may = absurd may

-- what a lane may cast by its own votes, it may cast by others that are alike in the epoch of the vote
pub in_part_alike : (part : Part) (own other : List Vote) (c : Numbers) (i j : ℕ) (heard : List Hearing) (vote : Vote) → AreAlike (epoch_of vote) own other
    → MayInPart part c i j own heard vote → MayInPart part c i j other heard vote
in_part_alike broadcast own other c i j heard vote alike may = broadcast_kept own other c i j heard vote alike may
in_part_alike agreement own other c i j heard vote alike may = agree_kept own other c i j heard vote alike may
in_part_alike desk own other c i j heard vote alike may = absurd may
