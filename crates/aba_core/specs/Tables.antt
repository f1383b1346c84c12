-- What nodes claim in a round, and who claims it.
use Rattle.std.specs.Prelude.{ℕ, Bool, true, false, List}
use Rattle.hb_base.specs.Counting.{count_nodes}
use Rattle.hb_base.specs.Limits.{most_nodes}
use Rattle.hb_base.specs.NodeSet.{is_in}
use Rattle.hb_wire.specs.declared.vote.Vals.{Vals}
use Rattle.hb_wire.specs.declared.vote.Vote.{Vote}
use Rattle.hb_wire.specs.declared.vote.Vote.TheVariants.{Bval, Aux, Conf}
use Rattle.hb_rules.specs.Claims.{same_bit}
use Rattle.hb_rules.specs.Marks.{single, has_bit, same_vals, Claim, bvals, auxes, any_auxes, confs, any_confs, confs_with}
use Rattle.aba_core.specs.declared.tables.Tables.{Tables}
use Rattle.aba_core.specs.Bits.{voters_of, no_voters, no_bit_voters}

-- none claims anything
abbrev pub no_tables : Tables
no_tables = record {
  bvals = no_bit_voters;
  auxes = no_bit_voters;
  any_auxes = no_voters;
  confs = no_bit_voters;
  any_confs = no_voters;
  confs_with = no_bit_voters;
}

-- the nodes that make a claim, of the tables' own round
abbrev pub voters_in : Tables → Claim → List Bool
voters_in t (bvals r b) = voters_of t.bvals b
voters_in t (auxes r b) = voters_of t.auxes b
voters_in t (any_auxes r) = t.any_auxes
voters_in t (confs r b) = voters_of t.confs b
voters_in t (any_confs r) = t.any_confs
voters_in t (confs_with r b) = voters_of t.confs_with b

-- how many they are
abbrev pub count_in : Tables → Claim → ℕ
count_in t claim = count_nodes most_nodes (is_in (voters_in t claim))

-- whether a node that is left with this set makes the claim
abbrev pub claims_set : Claim → Vals → Bool
claims_set (confs r b) vals = same_vals vals (single b)
claims_set (any_confs r) vals = true
claims_set (confs_with r b) vals = has_bit b vals
claims_set _ vals = false

-- whether a vote makes the claim, whatever its epoch and round
abbrev pub claims : Claim → Vote → Bool
claims (bvals r b) (Bval e s bit) = same_bit bit b
claims (auxes r b) (Aux e s bit) = same_bit bit b
claims (any_auxes r) (Aux e s bit) = true
claims claim (Conf e s vals) = claims_set claim vals
claims _ _ = false
