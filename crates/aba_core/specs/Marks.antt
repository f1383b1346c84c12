-- Which votes a lane has cast in a round.
use Rattle.std.specs.Prelude.{Bool, true, false, ◌||◌}
use Rattle.hb_wire.specs.declared.vote.Vals.{Vals}
use Rattle.hb_wire.specs.declared.vote.Vals.TheVariants.{Zero, One, Both}
use Rattle.hb_wire.specs.declared.vote.Vote.{Vote}
use Rattle.hb_wire.specs.declared.vote.Vote.TheVariants.{Est, Bval, Aux, Conf, Pick, Coin}
use Rattle.hb_rules.specs.Marks.{Mark, est, any_est, bval, any_aux, any_conf, pick, any_pick, any_coin}
use Rattle.aba_core.specs.declared.marks.Marks.{Marks}
use Rattle.aba_core.specs.Bits.{holds, no_bits, with_bit}

abbrev pub no_marks : Marks
no_marks = record { ests = no_bits; bvals = no_bits; aux = false; conf = false; picks = no_bits; pick_both = false; coin = false }

abbrev pub any_pick_in : Marks → Bool
any_pick_in m = (m.picks.zero || m.picks.one) || m.pick_both

-- whether the round has a vote with this mark, of its own round
abbrev pub is_marked : Marks → Mark → Bool
is_marked m (est r b) = holds m.ests b
is_marked m (any_est r) = m.ests.zero || m.ests.one
is_marked m (bval r b) = holds m.bvals b
is_marked m (any_aux r) = m.aux
is_marked m (any_conf r) = m.conf
is_marked m (pick r Zero) = m.picks.zero
is_marked m (pick r One) = m.picks.one
is_marked m (pick r Both) = m.pick_both
is_marked m (any_pick r) = any_pick_in m
is_marked m (any_coin r) = m.coin
is_marked m _ = false

-- one vote of the round more
abbrev pub with_pick : Marks → Vals → Marks
with_pick m Zero = record m { picks = with_bit m.picks false }
with_pick m One = record m { picks = with_bit m.picks true }
with_pick m Both = record m { pick_both = true }

abbrev pub with_vote : Marks → Vote → Marks
with_vote m (Est e r b) = record m { ests = with_bit m.ests b }
with_vote m (Bval e r b) = record m { bvals = with_bit m.bvals b }
with_vote m (Aux e r b) = record m { aux = true }
with_vote m (Conf e r vals) = record m { conf = true }
with_vote m (Pick e r vals) = with_pick m vals
with_vote m (Coin e r share salt branch) = record m { coin = true }
with_vote m _ = m
