-- Sets of bits, and what is kept for either bit.
use Rattle.std.specs.Prelude.{Bool, true, false, List, replicate}
use Rattle.hb_base.specs.Limits.{most_nodes}
use Rattle.aba_core.specs.declared.bits.Bits.{Bits}
use Rattle.aba_core.specs.declared.voters.BitVoters.{BitVoters}

-- whether a bit is in the set
abbrev pub holds : Bits → Bool → Bool
holds bits false = bits.zero
holds bits true = bits.one

-- the set with no bit
abbrev pub no_bits : Bits
no_bits = record { zero = false; one = false }

-- the set and one bit more
abbrev pub with_bit : Bits → Bool → Bits
with_bit bits false = record bits { zero = true }
with_bit bits true = record bits { one = true }

-- the nodes that make the claim of this bit
abbrev pub voters_of : BitVoters → Bool → List Bool
voters_of voters false = voters.zero
voters_of voters true = voters.one

-- none makes a claim, of either bit
abbrev pub no_voters : List Bool
no_voters = replicate most_nodes false

abbrev pub no_bit_voters : BitVoters
no_bit_voters = record { zero = no_voters; one = no_voters }
