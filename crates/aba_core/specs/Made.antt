-- The rounds of an agreement, of which only the first are made. The letters: round r of lane j and epoch e.
use Rattle.std.specs.Prelude.{ℕ, ◌-◌, ◌<◌, ◌≤◌, List, ◌++◌, length, map, slice_index_or, slice_set}
use Rattle.std.specs.List.{range_with_len}
use Rattle.hb_base.specs.Numbers.{Numbers}
use Rattle.aba_core.specs.declared.round.Round.{Round}
use Rattle.aba_core.specs.Rounds.{new_round, blank}

-- each round that the run has: those that are made, and behind them new ones
unfoldable pub all_rounds : Numbers → ℕ → ℕ → List Round → List Round
all_rounds c j e made = made ++ map (new_round c j e) (range_with_len (length made) (c.rounds - length made))

-- the run and the place of an agreement, and each round that the run has
pub record RoundsView : Type 0 where
  pub config : Numbers
  pub lane : ℕ
  pub epoch : ℕ
  pub all : List Round

-- what is known of a round
abbrev pub round_of : RoundsView → ℕ → Round
round_of s r = slice_index_or s.all r blank

-- another round stands in its place
abbrev pub replaced : RoundsView → ℕ → Round → RoundsView
replaced s r x = record s { all = slice_set s.all r x }

-- of a lane and an epoch of the run no more rounds are made than it has, and there is room for all of these
pub record AreMade (c : Numbers) (j e : ℕ) (made : List Round) (capacity : ℕ) : Type 0 where
  pub lane : j < c.n
  pub epoch : e < c.epochs
  pub count : length made ≤ c.rounds
  pub room : c.rounds ≤ capacity
