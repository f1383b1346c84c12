-- What a lane may cast in an agreement, by tests. The letters: round r, bit b.
use Rattle.std.specs.Prelude.{ℕ, ◌+◌, ◌-◌, Bool, true, false, not, ◌&&◌, ◌||◌, ◌==◌, nat_lt, nat_le, if◌then◌else◌, is_some}
use Rattle.hb_base.specs.Numbers.{Numbers}
use Rattle.hb_wire.specs.declared.vote.Vals.{Vals}
use Rattle.hb_wire.specs.declared.vote.Vals.TheVariants.{Zero, One, Both}
use Rattle.hb_wire.specs.declared.vote.Vote.{Vote}
use Rattle.hb_rules.specs.Agreement.{confirms}
use Rattle.hb_rules.specs.AgreementRows.{View, is_supported, has_quorum, is_made, is_gathered_one, is_confirmed_one, was_settled, dealt}
use Rattle.hb_rules.specs.Claims.{is_bit}
use Rattle.hb_rules.specs.Marks.{single, delivery, est, any_est, bval, any_aux, any_conf, pick, any_pick, any_coin, any_decision, bvals, auxes, any_auxes, any_confs, confs_with}
use Rattle.hb_rules.specs.Same.{same_vote}

-- both bits are left, by the claims of accepted bits
abbrev pub gathers_both : Numbers → View → ℕ → Bool
gathers_both c v r =
    v.cast (any_aux r)
    && ((is_supported c v r false && is_supported c v r true)
    && ((is_made v (auxes r false) && is_made v (auxes r true)) && has_quorum c v (any_auxes r)))

abbrev pub gathers : Numbers → View → ℕ → Vals → Bool
gathers c v r Zero = is_gathered_one c v r false
gathers c v r One = is_gathered_one c v r true
gathers c v r Both = gathers_both c v r

-- both bits are left after the confirm phase
abbrev pub confirms_both : Numbers → View → ℕ → Bool
confirms_both c v r =
    v.cast (any_conf r)
    && ((is_supported c v r false && is_supported c v r true)
    && (has_quorum c v (any_confs r) && (is_made v (confs_with r false) && is_made v (confs_with r true))))

abbrev pub is_confirmed : Numbers → View → ℕ → Vals → Bool
is_confirmed c v r Zero = is_confirmed_one c v r false
is_confirmed c v r One = is_confirmed_one c v r true
is_confirmed c v r Both = confirms_both c v r

abbrev pub is_left : Numbers → View → ℕ → Vals → Bool
is_left c v r vals = if confirms c then is_confirmed c v r vals else gathers c v r vals

-- the bit with which the lane goes on from a round
abbrev pub goes_on : View → ℕ → Bool → Bool
goes_on v r b = is_some (v.coin r) && (v.cast (pick r (single b)) || (v.cast (pick r Both) && is_bit b (v.coin r)))

abbrev pub begins : View → ℕ → Bool → Bool
begins v r b = if r == 0 then (if b then v.cast delivery else v.no_more) else goes_on v (r - 1) b

-- ---- the rows: each has the round, if the vote has one, and what is cast once before the rest

abbrev pub allows_est : Numbers → View → ℕ → Bool → Bool
allows_est c v r b = (nat_lt r c.rounds && not (v.cast (any_est r))) && begins v r b

abbrev pub allows_bval : Numbers → View → ℕ → Bool → Bool
allows_bval c v r b =
    (nat_lt r c.rounds && not (v.cast (bval r b)))
    && (v.cast (est r b) || (v.cast (any_est r) && nat_le (c.f + 1) (v.count (bvals r b))))

abbrev pub allows_aux : Numbers → View → ℕ → Bool → Bool
allows_aux c v r b = (nat_lt r c.rounds && not (v.cast (any_aux r))) && (v.cast (any_est r) && is_supported c v r b)

abbrev pub allows_conf : Numbers → View → ℕ → Vals → Bool
allows_conf c v r vals = (nat_lt r c.rounds && not (v.cast (any_conf r))) && (confirms c && gathers c v r vals)

abbrev pub allows_pick : Numbers → View → ℕ → Vals → Bool
allows_pick c v r vals = (nat_lt r c.rounds && not (v.cast (any_pick r))) && is_left c v r vals

abbrev pub allows_coin : Numbers → ℕ → ℕ → ℕ → View → ℕ → Vote → Bool
allows_coin c i j e v r vote = ((nat_lt r c.rounds && not (v.cast (any_coin r))) && v.cast (any_pick r)) && same_vote (dealt c i j e r) vote

abbrev pub allows_decided : Numbers → View → Bool → Bool
allows_decided c v b = not (v.cast any_decision) && was_settled v c.rounds b

-- whether a round settles a bit
abbrev pub settles : View → Bool → ℕ → Bool
settles v b r = v.cast (pick r (single b)) && is_bit b (v.coin r)
