-- The tests tell what a lane may cast in an agreement.
use Rattle.std.proofs.Common.{◌≡◌, ◌↔◌, ℕ, zero, suc, ◌+◌, ◌-◌, ◌*◌, ◌<◌, ◌≤◌, nat_lt, nat_le, Bool, true, false, not, ◌&&◌, ◌||◌, ◌==◌, inl, inr, List, Option, None, Some, if◌then◌else◌, refl, sym, ap, ◌∙◌, arith}
use Rattle.std.specs.List.{range_with_len}
use Rattle.std.specs.Option.{is_some}
use Rattle.std.proofs.lemmas.Bool.{leb-true, le-leb, ltb-true, lt-ltb, and_parts, and_from, or_cases, or_left, or_right, not-true, not_from_false, ne_eqb}
use Rattle.hb_base.specs.Numbers.{Numbers, AreSound}
use Rattle.merkle_branch.specs.declared.Branch.{Branch}
use Rattle.merkle_branch.specs.Digests.{leaf_digests}
use Rattle.merkle_branch.specs.Branches.{branch_of}
use Rattle.coin_deal.specs.Deal.{share, salt, coin_leaves}
use Rattle.hb_wire.specs.declared.vote.Vals.{Vals}
use Rattle.hb_wire.specs.declared.vote.Vals.TheVariants.{Zero, One, Both}
use Rattle.hb_wire.specs.declared.vote.Vote.{Vote}
use Rattle.hb_wire.specs.declared.vote.Vote.TheVariants.{Est, Bval, Aux, Conf, Pick, Coin, Decided}
use Rattle.hb_wire.proofs.Equality.{one_vote}
use Rattle.hb_rules.specs.Agreement.{confirms, IsGatheredOne, IsGatheredBoth, IsGathered, IsConfirmedOne, IsConfirmedBoth, IsConfirmed, IsLeftWith, GoesOn, MayBegin, MayAgree}
use Rattle.hb_rules.specs.AgreementRows.{view_of, is_gathered_one, is_confirmed_one, was_settled, dealt}
use Rattle.hb_rules.specs.Claims.{is_bit}
use Rattle.hb_rules.specs.Coins.{coin_in}
use Rattle.hb_rules.specs.Hearing.{Hearing}
use Rattle.hb_rules.specs.Marks.{single, Mark, any_est, est, bval, any_aux, any_conf, pick, any_pick, any_coin, any_decision, has, bvals, auxes, any_auxes, confs, any_confs, confs_with, support}
use Rattle.hb_rules.specs.Same.{same_vote}
use Rattle.hb_rules.specs.Terms.{AreHeardSpelled}
use Rattle.hb_rules.proofs.Among.{any_stands}
use Rattle.hb_rules.proofs.Lists.{list_any-from}
use Rattle.hb_rules.specs.Apart.{IsHeardApart}
use Rattle.aba_judge.specs.Tests.{gathers_both, gathers, confirms_both, is_confirmed, is_left, goes_on, begins, settles, allows_est, allows_bval, allows_aux, allows_conf, allows_pick, allows_coin, allows_decided}
use Rattle.aba_judge.proofs.KnownCoins.{coin_stands, coin_counts, coin_known, known_coin, round_within, round_stands}

module _ (c : Numbers) (i j e : ℕ) (own : List Vote) (heard : List Hearing) where
  -- ---- what is first

  first_parts : (r : ℕ) (mark : Mark) → (nat_lt r c.rounds && not (has e mark own)) ≡ true → (r < c.rounds) × (has e mark own ≡ false)
  first_parts r mark first =
      let parts = and_parts (nat_lt r c.rounds) (not (has e mark own)) first in
      (ltb-true r c.rounds parts.0, not-true (has e mark own) parts.1)

  first_from : (r : ℕ) (mark : Mark) → r < c.rounds → has e mark own ≡ false → (nat_lt r c.rounds && not (has e mark own)) ≡ true
  first_from r mark inside empty =
      and_from (nat_lt r c.rounds) (not (has e mark own)) (lt-ltb r c.rounds inside) (not_from_false (has e mark own) empty)

  -- ---- what is left

  gathered_one : (r : ℕ) (b : Bool) → (is_gathered_one c (view_of c i j e own heard) r b ≡ true) ↔ IsGatheredOne c e r b own heard
  gathered_one r b =
      let entered : Bool = has e (any_aux r) own in
      let supported : Bool = nat_le (2 * c.f + 1) (support c.n e (bvals r b) heard) in
      let accepted : Bool = nat_le (c.n - c.f) (support c.n e (auxes r b) heard) in (
        λ told.
            let one = and_parts entered (supported && accepted) told in
            let two = and_parts supported accepted one.1 in
            record {
              entered = one.0;
              supported = leb-true (2 * c.f + 1) (support c.n e (bvals r b) heard) two.0;
              accepted = leb-true (c.n - c.f) (support c.n e (auxes r b) heard) two.1;
            },
        λ is.
            and_from entered (supported && accepted) is.entered
            (and_from supported accepted (le-leb (2 * c.f + 1) (support c.n e (bvals r b) heard) is.supported)
            (le-leb (c.n - c.f) (support c.n e (auxes r b) heard) is.accepted)),
      )

  confirmed_one : (r : ℕ) (b : Bool) → (is_confirmed_one c (view_of c i j e own heard) r b ≡ true) ↔ IsConfirmedOne c e r b own heard
  confirmed_one r b =
      let entered : Bool = has e (any_conf r) own in
      let supported : Bool = nat_le (2 * c.f + 1) (support c.n e (bvals r b) heard) in
      let confirmed : Bool = nat_le (c.n - c.f) (support c.n e (confs r b) heard) in (
        λ told.
            let one = and_parts entered (supported && confirmed) told in
            let two = and_parts supported confirmed one.1 in
            record {
              entered = one.0;
              supported = leb-true (2 * c.f + 1) (support c.n e (bvals r b) heard) two.0;
              confirmed = leb-true (c.n - c.f) (support c.n e (confs r b) heard) two.1;
            },
        λ is.
            and_from entered (supported && confirmed) is.entered
            (and_from supported confirmed (le-leb (2 * c.f + 1) (support c.n e (bvals r b) heard) is.supported)
            (le-leb (c.n - c.f) (support c.n e (confs r b) heard) is.confirmed)),
      )

  -- what holds of each bit
  each_bit : (P : Bool → Type 0) → P false → P true → (b : Bool) → P b
  each_bit P zero_ one_ false = zero_
  each_bit P zero_ one_ true = one_

  gathered_both : (r : ℕ) → (gathers_both c (view_of c i j e own heard) r ≡ true) ↔ IsGatheredBoth c e r own heard
  gathered_both r =
      let entered : Bool = has e (any_aux r) own in
      let supported : Bool → Bool = λ b. nat_le (2 * c.f + 1) (support c.n e (bvals r b) heard) in
      let made : Bool → Bool = λ b. nat_le 1 (support c.n e (auxes r b) heard) in
      let accepted : Bool = nat_le (c.n - c.f) (support c.n e (any_auxes r) heard) in (
        λ told.
            let one = and_parts entered ((supported false && supported true) && ((made false && made true) && accepted)) told in
            let two = and_parts (supported false && supported true) ((made false && made true) && accepted) one.1 in
            let three = and_parts (made false && made true) accepted two.1 in
            let backed = and_parts (supported false) (supported true) two.0 in
            let shown = and_parts (made false) (made true) three.0 in
            record {
              entered = one.0;
              supported = each_bit (λ b. 2 * c.f + 1 ≤ support c.n e (bvals r b) heard)
                  (leb-true (2 * c.f + 1) (support c.n e (bvals r false) heard) backed.0) (leb-true (2 * c.f + 1) (support c.n e (bvals r true) heard) backed.1);
              each = each_bit (λ b. 1 ≤ support c.n e (auxes r b) heard)
                  (leb-true 1 (support c.n e (auxes r false) heard) shown.0) (leb-true 1 (support c.n e (auxes r true) heard) shown.1);
              accepted = leb-true (c.n - c.f) (support c.n e (any_auxes r) heard) three.1;
            },
        λ is.
            and_from entered ((supported false && supported true) && ((made false && made true) && accepted)) is.entered
            (and_from (supported false && supported true) ((made false && made true) && accepted)
            (and_from (supported false) (supported true) (le-leb (2 * c.f + 1) (support c.n e (bvals r false) heard) (is.supported false))
            (le-leb (2 * c.f + 1) (support c.n e (bvals r true) heard) (is.supported true)))
            (and_from (made false && made true) accepted
            (and_from (made false) (made true) (le-leb 1 (support c.n e (auxes r false) heard) (is.each false)) (le-leb 1 (support c.n e (auxes r true) heard) (is.each true)))
            (le-leb (c.n - c.f) (support c.n e (any_auxes r) heard) is.accepted))),
      )

  confirmed_both : (r : ℕ) → (confirms_both c (view_of c i j e own heard) r ≡ true) ↔ IsConfirmedBoth c e r own heard
  confirmed_both r =
      let entered : Bool = has e (any_conf r) own in
      let supported : Bool → Bool = λ b. nat_le (2 * c.f + 1) (support c.n e (bvals r b) heard) in
      let made : Bool → Bool = λ b. nat_le 1 (support c.n e (confs_with r b) heard) in
      let confirmed : Bool = nat_le (c.n - c.f) (support c.n e (any_confs r) heard) in (
        λ told.
            let one = and_parts entered ((supported false && supported true) && (confirmed && (made false && made true))) told in
            let two = and_parts (supported false && supported true) (confirmed && (made false && made true)) one.1 in
            let three = and_parts confirmed (made false && made true) two.1 in
            let backed = and_parts (supported false) (supported true) two.0 in
            let shown = and_parts (made false) (made true) three.1 in
            record {
              entered = one.0;
              supported = each_bit (λ b. 2 * c.f + 1 ≤ support c.n e (bvals r b) heard)
                  (leb-true (2 * c.f + 1) (support c.n e (bvals r false) heard) backed.0) (leb-true (2 * c.f + 1) (support c.n e (bvals r true) heard) backed.1);
              confirmed = leb-true (c.n - c.f) (support c.n e (any_confs r) heard) three.0;
              each = each_bit (λ b. 1 ≤ support c.n e (confs_with r b) heard)
                  (leb-true 1 (support c.n e (confs_with r false) heard) shown.0) (leb-true 1 (support c.n e (confs_with r true) heard) shown.1);
            },
        λ is.
            and_from entered ((supported false && supported true) && (confirmed && (made false && made true))) is.entered
            (and_from (supported false && supported true) (confirmed && (made false && made true))
            (and_from (supported false) (supported true) (le-leb (2 * c.f + 1) (support c.n e (bvals r false) heard) (is.supported false))
            (le-leb (2 * c.f + 1) (support c.n e (bvals r true) heard) (is.supported true)))
            (and_from confirmed (made false && made true) (le-leb (c.n - c.f) (support c.n e (any_confs r) heard) is.confirmed)
            (and_from (made false) (made true) (le-leb 1 (support c.n e (confs_with r false) heard) (is.each false)) (le-leb 1 (support c.n e (confs_with r true) heard) (is.each true))))),
      )

  gathered_is : (r : ℕ) (vals : Vals) → (gathers c (view_of c i j e own heard) r vals ≡ true) ↔ IsGathered c e r vals own heard
  gathered_is r Zero = gathered_one r false
  gathered_is r One = gathered_one r true
  gathered_is r Both = gathered_both r

  confirmed_is : (r : ℕ) (vals : Vals) → (is_confirmed c (view_of c i j e own heard) r vals ≡ true) ↔ IsConfirmed c e r vals own heard
  confirmed_is r Zero = confirmed_one r false
  confirmed_is r One = confirmed_one r true
  confirmed_is r Both = confirmed_both r

  left_by : (confirm : Bool) (r : ℕ) (vals : Vals)
      → ((if confirm then is_confirmed c (view_of c i j e own heard) r vals else gathers c (view_of c i j e own heard) r vals) ≡ true)
      ↔ IsLeftWith confirm c e r vals own heard
  left_by true r vals = confirmed_is r vals
  left_by false r vals = gathered_is r vals

  -- ---- rows that ask for no coin

  pub support_told : (r : ℕ) (b : Bool) → (allows_bval c (view_of c i j e own heard) r b ≡ true) ↔ MayAgree c i j own heard (Bval e r b)
  support_told r b =
      let first : Bool = nat_lt r c.rounds && not (has e (bval r b) own) in
      let mine : Bool = has e (est r b) own in
      let any : Bool = has e (any_est r) own in
      let backed : Bool = nat_le (c.f + 1) (support c.n e (bvals r b) heard) in (
        λ told.
            let parts = and_parts first (mine || (any && backed)) told in
            let start = first_parts r (bval r b) parts.0 in (
              start.0,
              elim (or_cases mine (any && backed) parts.1) [
                | inl has ↦ inl has
                | inr both ↦ let two = and_parts any backed both in inr (two.0, leb-true (c.f + 1) (support c.n e (bvals r b) heard) two.1)
              ],
              start.1,
            ),
        λ may.
            and_from first (mine || (any && backed)) (first_from r (bval r b) may.0 may.2) (elim may.1 [
              | inl has ↦ or_left mine (any && backed) has
              | inr both ↦ or_right mine (any && backed) (and_from any backed both.0 (le-leb (c.f + 1) (support c.n e (bvals r b) heard) both.1))
            ]),
      )

  pub accept_told : (r : ℕ) (b : Bool) → (allows_aux c (view_of c i j e own heard) r b ≡ true) ↔ MayAgree c i j own heard (Aux e r b)
  accept_told r b =
      let first : Bool = nat_lt r c.rounds && not (has e (any_aux r) own) in
      let any : Bool = has e (any_est r) own in
      let backed : Bool = nat_le (2 * c.f + 1) (support c.n e (bvals r b) heard) in (
        λ told.
            let parts = and_parts first (any && backed) told in
            let start = first_parts r (any_aux r) parts.0 in
            let two = and_parts any backed parts.1 in
            (start.0, two.0, leb-true (2 * c.f + 1) (support c.n e (bvals r b) heard) two.1, start.1),
        λ may.
            and_from first (any && backed) (first_from r (any_aux r) may.0 may.3)
            (and_from any backed may.1 (le-leb (2 * c.f + 1) (support c.n e (bvals r b) heard) may.2)),
      )

  pub confirm_told : (r : ℕ) (vals : Vals) → (allows_conf c (view_of c i j e own heard) r vals ≡ true) ↔ MayAgree c i j own heard (Conf e r vals)
  confirm_told r vals =
      let first : Bool = nat_lt r c.rounds && not (has e (any_conf r) own) in
      let left : Bool = gathers c (view_of c i j e own heard) r vals in (
        λ told.
            let parts = and_parts first (confirms c && left) told in
            let start = first_parts r (any_conf r) parts.0 in
            let two = and_parts (confirms c) left parts.1 in
            (start.0, two.0, (gathered_is r vals).0 two.1, start.1),
        λ may.
            and_from first (confirms c && left) (first_from r (any_conf r) may.0 may.3)
            (and_from (confirms c) left may.1 ((gathered_is r vals).1 may.2)),
      )

  pub pick_told : (r : ℕ) (vals : Vals) → (allows_pick c (view_of c i j e own heard) r vals ≡ true) ↔ MayAgree c i j own heard (Pick e r vals)
  pick_told r vals =
      let first : Bool = nat_lt r c.rounds && not (has e (any_pick r) own) in
      let left : Bool = is_left c (view_of c i j e own heard) r vals in (
        λ told.
            let parts = and_parts first left told in
            let start = first_parts r (any_pick r) parts.0 in
            (start.0, (left_by (confirms c) r vals).0 parts.1, start.1),
        λ may. and_from first left (first_from r (any_pick r) may.0 may.2) ((left_by (confirms c) r vals).1 may.1),
      )

  pub show_told : (r dealt_share : ℕ) (dealt_salt : List ℕ) (branch : Branch)
      → (allows_coin c i j e (view_of c i j e own heard) r (Coin e r dealt_share dealt_salt branch) ≡ true)
      ↔ MayAgree c i j own heard (Coin e r dealt_share dealt_salt branch)
  show_told r dealt_share dealt_salt branch =
      let first : Bool = nat_lt r c.rounds && not (has e (any_coin r) own) in
      let picked : Bool = has e (any_pick r) own in
      let one = one_vote (dealt c i j e r) (Coin e r dealt_share dealt_salt branch) in
      let mine : Bool = same_vote (dealt c i j e r) (Coin e r dealt_share dealt_salt branch) in (
        λ told.
            let parts = and_parts (first && picked) mine told in
            let two = and_parts first picked parts.0 in
            let start = first_parts r (any_coin r) two.0 in
            let same : dealt c i j e r ≡ Coin e r dealt_share dealt_salt branch = one.0 parts.1 in
            let shares : share c e j r i ≡ dealt_share = cc (same) in
            let salts : salt c e j r i ≡ dealt_salt = cc (same) in
            let branches : branch_of (leaf_digests (coin_leaves c e j r)) i ≡ branch = cc (same) in
            (start.0, sym shares, sym salts, sym branches, two.1, start.1),
        λ may.
            let same : dealt c i j e r ≡ Coin e r dealt_share dealt_salt branch = λ k. Coin e r (sym may.1 k) (sym may.2 k) (sym may.3 k) in
            and_from (first && picked) mine (and_from first picked (first_from r (any_coin r) may.0 may.5) may.4) (one.1 same),
      )

  -- ---- rows that ask for a coin

  module _ (sound : AreSound c) (spelled : AreHeardSpelled c heard) where
    goes_stands : (r : ℕ) (b : Bool) → goes_on (view_of c i j e own heard) r b ≡ true → GoesOn c j e r b own heard
    goes_stands r b told =
        let known : Bool = is_some (coin_in c e j heard r) in
        let alone : Bool = has e (pick r (single b)) own in
        let both : Bool = has e (pick r Both) own in
        let coin : Bool = is_bit b (coin_in c e j heard r) in
        let parts = and_parts known (alone || (both && coin)) told in
        record {
          shares = coin_counts c e j r heard sound spelled parts.0;
          picked = elim (or_cases alone (both && coin) parts.1) [
            | inl has ↦ inl has
            | inr all ↦ let two = and_parts both coin all in inr (two.0, coin_stands c e j r b heard sound spelled two.1)
          ];
        }

    goes_found : (r : ℕ) (b : Bool) → IsHeardApart c i j heard → GoesOn c j e r b own heard → goes_on (view_of c i j e own heard) r b ≡ true
    goes_found r b from goes =
        let known : Bool = is_some (coin_in c e j heard r) in
        let alone : Bool = has e (pick r (single b)) own in
        let both : Bool = has e (pick r Both) own in
        let coin : Bool = is_bit b (coin_in c e j heard r) in
        and_from known (alone || (both && coin)) (known_coin c e j r heard goes.shares) (elim goes.picked [
          | inl has ↦ or_left alone (both && coin) has
          | inr all ↦ or_right alone (both && coin) (and_from both coin all.0 (coin_known c i j e r b heard sound spelled from goes.shares all.1))
        ])

    begins_later : (r : ℕ) (b : Bool) → begins (view_of c i j e own heard) (suc r) b ≡ goes_on (view_of c i j e own heard) r b
    begins_later r b =
        let later : (suc r == 0) ≡ false = ne_eqb (suc r) 0 (λ is. absurd (omega (arith, is))) in
        let less : suc r - 1 ≡ r = omega arith in
        rw later (ap (λ (s : ℕ). goes_on (view_of c i j e own heard) s b) less)

    begins_stands : (r : ℕ) (b : Bool) → begins (view_of c i j e own heard) r b ≡ true → MayBegin c i j e r b own heard
    begins_stands zero true told = told
    begins_stands zero false told = told
    begins_stands (suc r) b told = goes_stands r b (sym (begins_later r b) ∙ told)

    begins_found : (r : ℕ) (b : Bool) → IsHeardApart c i j heard → MayBegin c i j e r b own heard → begins (view_of c i j e own heard) r b ≡ true
    begins_found zero true from may = may
    begins_found zero false from may = may
    begins_found (suc r) b from may = begins_later r b ∙ goes_found r b from may

    pub estimate_stands : (r : ℕ) (b : Bool) → allows_est c (view_of c i j e own heard) r b ≡ true → MayAgree c i j own heard (Est e r b)
    estimate_stands r b told =
        let parts = and_parts (nat_lt r c.rounds && not (has e (any_est r) own)) (begins (view_of c i j e own heard) r b) told in
        let start = first_parts r (any_est r) parts.0 in
        (start.0, begins_stands r b parts.1, start.1)

    pub estimate_found : (r : ℕ) (b : Bool) → IsHeardApart c i j heard → MayAgree c i j own heard (Est e r b)
        → allows_est c (view_of c i j e own heard) r b ≡ true
    estimate_found r b from may =
        and_from (nat_lt r c.rounds && not (has e (any_est r) own)) (begins (view_of c i j e own heard) r b) (first_from r (any_est r) may.0 may.2)
        (begins_found r b from may.1)

    pub decide_stands : (b : Bool) → allows_decided c (view_of c i j e own heard) b ≡ true → MayAgree c i j own heard (Decided e b)
    decide_stands b told =
        let empty : Bool = not (has e any_decision own) in
        let parts = and_parts empty (was_settled (view_of c i j e own heard) c.rounds b) told in
        let found = any_stands (settles (view_of c i j e own heard) b) (range_with_len 0 c.rounds) parts.1 in
        let r : ℕ = found.0 in
        let two = and_parts (has e (pick r (single b)) own) (is_bit b (coin_in c e j heard r)) found.2 in (
          record {
            round = r;
            known = round_within c.rounds r found.1;
            picked = two.0;
            shares = coin_counts c e j r heard sound spelled (known_if b (coin_in c e j heard r) two.1);
            coin = coin_stands c e j r b heard sound spelled two.1;
          },
          not-true (has e any_decision own) parts.0,
        )
      where
        known_if : (b : Bool) (o : Option Bool) → is_bit b o ≡ true → is_some o ≡ true
        known_if b None is = absurd (cc (is))
        known_if b (Some d) is = refl

    pub decide_found : (b : Bool) → IsHeardApart c i j heard → MayAgree c i j own heard (Decided e b)
        → allows_decided c (view_of c i j e own heard) b ≡ true
    decide_found b from may =
        let settled = may.0 in
        let r : ℕ = settled.round in
        and_from (not (has e any_decision own)) (was_settled (view_of c i j e own heard) c.rounds b) (not_from_false (has e any_decision own) may.1)
        (list_any-from (settles (view_of c i j e own heard) b) (range_with_len 0 c.rounds) r (round_stands c.rounds r settled.known)
        (and_from (has e (pick r (single b)) own) (is_bit b (coin_in c e j heard r)) settled.picked
        (coin_known c i j e r b heard sound spelled from settled.shares settled.coin)))
