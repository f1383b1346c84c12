-- Votes by which tables and marks change.
use Rattle.std.specs.Prelude.{◌≡◌, ℕ, Some}
use Rattle.hb_wire.specs.declared.vote.Vote.{Vote}
use Rattle.hb_wire.specs.declared.vote.Vote.TheVariants.{Delivered, Decided, Bval, Aux, Conf}
use Rattle.hb_wire.specs.Votes.{epoch_of}
use Rattle.hb_rules.specs.Hearing.{round_of}

-- a vote that is no delivery and no decision
abbrev pub IsOfRound : Vote → Type 0
IsOfRound (Delivered e value) = ⊥
IsOfRound (Decided e bit) = ⊥
IsOfRound _ = Unit {0}

-- a vote of the epoch and of round r
pub record IsOf (e r : ℕ) (vote : Vote) : Type 0 where
  pub epoch : epoch_of vote ≡ e
  pub round : round_of vote ≡ Some r

-- a claim of this round
abbrev pub IsClaim : ℕ → Vote → Type 0
IsClaim r (Bval e s bit) = s ≡ r
IsClaim r (Aux e s bit) = s ≡ r
IsClaim r (Conf e s vals) = s ≡ r
IsClaim r _ = ⊥
