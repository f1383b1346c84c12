-- Which counts of a round are at the thresholds that the rows ask for.
use Rattle.std.specs.Prelude.{ℕ, ◌+◌, ◌-◌, ◌*◌, Bool, true, false, nat_le}
use Rattle.hb_base.specs.Counting.{count_nodes}
use Rattle.hb_base.specs.Limits.{most_nodes}
use Rattle.hb_base.specs.NodeSet.{is_in}
use Rattle.hb_base.specs.Numbers.{Numbers}
use Rattle.hb_rules.specs.Marks.{Claim, bvals, auxes, any_auxes, confs, any_confs, confs_with}
use Rattle.aba_core.specs.declared.bits.Bits.{Bits}
use Rattle.aba_core.specs.declared.levels.Levels.{Levels}
use Rattle.aba_core.specs.declared.voters.BitVoters.{BitVoters}
use Rattle.aba_core.specs.Bits.{voters_of}

-- the bits for which a number, given by the bit, is reached
abbrev pub bits_at : (Bool → ℕ) → ℕ → Bits
bits_at count enough = record { zero = nat_le enough (count false); one = nat_le enough (count true) }

-- the bits that so many nodes claim
abbrev pub bits_with : BitVoters → ℕ → Bits
bits_with voters enough = bits_at (λ b. count_nodes most_nodes (is_in (voters_of voters b))) enough

-- the levels of round r, where so many nodes make each claim
abbrev pub levels_of : Numbers → (Claim → ℕ) → ℕ → Levels
levels_of c count r = record {
  backed = bits_at (λ b. count (bvals r b)) (c.f + 1);
  supported = bits_at (λ b. count (bvals r b)) (2 * c.f + 1);
  accepted = bits_at (λ b. count (auxes r b)) 1;
  gathered = bits_at (λ b. count (auxes r b)) (c.n - c.f);
  any_gathered = nat_le (c.n - c.f) (count (any_auxes r));
  confirmed = bits_at (λ b. count (confs r b)) (c.n - c.f);
  any_confirmed = nat_le (c.n - c.f) (count (any_confs r));
  left = bits_at (λ b. count (confs_with r b)) 1;
}
