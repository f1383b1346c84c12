-- An epoch in which a lane of a correct node has decided is one of the run.
use Rattle.std.proofs.Common.{◌≡◌, ℕ, ◌<◌, ◌&&◌, ◌==◌, nat_lt, Bool, true, false, inl, inr, List, Contains, sym, ap, subst, arith}
use Rattle.std.specs.List.{list_any}
use Rattle.std.proofs.lemmas.Bool.{and_parts, eqb-true, ltb-true}
use Rattle.hb_base.specs.NodeSet.{is_in}
use Rattle.hb_base.specs.Numbers.{Numbers}
use Rattle.hb_wire.specs.Votes.{epoch_of}
use Rattle.hb_wire.specs.declared.vote.Vote.{Vote}
use Rattle.hb_wire.specs.declared.vote.Vote.TheVariants.{Coin, Decided}
use Rattle.hb_wire.specs.declared.post.Post.{Post}
use Rattle.hb_rules.specs.Agreement.{HasSettled}
use Rattle.hb_rules.specs.Claims.{is_any_decision}
use Rattle.hb_rules.specs.Coins.{is_share}
use Rattle.hb_rules.specs.Hearing.{Hearing, heard_in, heard_by, own_in, is_below, round_of}
use Rattle.hb_rules.specs.History.{IsLegal}
use Rattle.hb_rules.proofs.Among.{any_stands}
use Rattle.hb_rules.proofs.Cast.{heard_from, was_allowed}
use Rattle.hb_rules.proofs.Counts.{member_from_count}
use Rattle.hb_rules.proofs.DeskVotes.{any_decision-is}

-- a share of a round of the epoch is a vote of the epoch
share_epoch : (c : Numbers) (e j r a : ℕ) (vote : Vote) → is_share c e j r a vote ≡ true → epoch_of vote ≡ e
share_epoch c e j r a (Coin d s share salt branch) h = eqb-true d e (and_parts (d == e) _ h).0
share_epoch c e j r a vote h = absurd (cc (h))

-- what was heard is of an epoch that the run has
heard_within : (c : Numbers) (i j e r a : ℕ) (history : List Post) → heard_by (heard_in c i j history) a (is_share c e j r a) ≡ true → e < c.epochs
heard_within c i j e r a history shown =
    let found = any_stands (λ (h : Hearing). (h.from == a) && is_share c e j r a h.vote) (heard_in c i j history) shown in
    let share = (and_parts (found.0.from == a) (is_share c e j r a found.0.vote) found.2).1 in
    let source = heard_from c i j history found.0 found.1 in
    let vote : source.2.vote ≡ found.0.vote = ap (λ (h : Hearing). h.vote) source.2.hearing_is in
    let below = ltb-true (epoch_of source.2.vote) c.epochs
    (and_parts (nat_lt (epoch_of source.2.vote) c.epochs) (is_below c.rounds (round_of source.2.vote)) source.2.within).0 in
    let epoch : epoch_of source.2.vote ≡ e = share_epoch c e j r a source.2.vote (subst (λ (v : Vote). is_share c e j r a v ≡ true) (sym vote) share) in
    omega (arith, below, epoch)

-- a decision stands on good shares that were heard
pub decided_within : (c : Numbers) (i j e : ℕ) (history : List Post) → IsLegal c history → is_in c.liars i ≡ false → j < c.n
    → list_any (is_any_decision e) (own_in c i j history) ≡ true → e < c.epochs
decided_within c i j e history legal honest lane decided =
    let found = any_stands (is_any_decision e) (own_in c i j history) decided in
    let is = any_decision-is e found.0 found.2 in
    let was = was_allowed c i j honest history legal (Decided e is.0) (subst (λ (v : Vote). Contains (own_in c i j history) v) is.1 found.1) in
    elim was.may [
      | inl may ↦ by was.before is.0 may.1.0
      | inr desk ↦ absurd (omega (arith, desk.0, lane))
    ]
  where
    by : (before : List Post) (b : Bool) → HasSettled c j e b (own_in c i j before) (heard_in c i j before) → e < c.epochs
    by before b settled =
        let shares = settled.shares in
        let member = member_from_count c.n (λ a. heard_by (heard_in c i j before) a (is_share c e j settled.round a)) (omega (arith, shares)) in
        heard_within c i j e settled.round member.0 before member.2
