-- What lanes have done in each epoch, as marks in a table. The letters: node i, lane j, epoch e, and k the number of a mark.
use Rattle.std.specs.Prelude.{◌≡◌, ℕ, ◌+◌, ◌-◌, ◌*◌, Bool, false, ◌&&◌, ◌||◌, ◌==◌, not, nat_lt, List, Option, Some, None, if◌then◌else◌, length, slice_index_or}
use Rattle.std.specs.List.{list_any, range_with_len}
use Rattle.std.specs.Option.{option_and_then}
use Rattle.hb_base.specs.Limits.{most_nodes, most_epochs}
use Rattle.hb_base.specs.Numbers.{Numbers}
use Rattle.hb_wire.specs.declared.vote.Vote.{Vote}
use Rattle.hb_wire.specs.declared.vote.Vote.TheVariants.{Pick, Decided}
use Rattle.hb_wire.specs.declared.post.Post.{Post}
use Rattle.hb_base.specs.NodeSet.{is_in}
use Rattle.hb_rules.specs.declared.report.Report.{Report}
use Rattle.hb_rules.specs.Hearing.{spelled}
use Rattle.hb_rules.specs.Report.{works}
use Rattle.run_status.specs.declared.spent.Mark.{Mark}
use Rattle.run_status.specs.declared.spent.Mark.TheVariants.{LastPick, Decision}
use Rattle.run_status.specs.Shown.{is_number}

-- the place of a lane of a node, and an epoch
abbrev pub place_of : ℕ → ℕ → ℕ → ℕ
place_of i j e = (i * most_nodes + j) * most_epochs + e

-- the number of a mark in a table of all: first those of last picks, then those of decisions
abbrev pub number_of : Mark → ℕ → ℕ → ℕ → ℕ
number_of LastPick i j e = place_of i j e
number_of Decision i j e = 8192 + place_of i j e

-- the number that a vote of a lane marks
abbrev pub number_in : Numbers → ℕ → ℕ → Vote → Option ℕ
number_in c i j (Pick e r vals) = if r == c.rounds - 1 then Some (number_of LastPick i j e) else None
number_in c i j (Decided e b) = Some (number_of Decision i j e)
number_in c i j _ = None

-- the number that a post marks
abbrev pub mark_of : Numbers → Post → Option ℕ
mark_of c post =
    if nat_lt post.from most_nodes && nat_lt post.actor most_nodes
    then option_and_then (number_in c post.from post.actor) (spelled c post)
    else None

-- what stands in a table under a number
abbrev pub entry : List Bool → ℕ → Bool
entry table k = slice_index_or table k false

-- in the table those numbers stand out that some of the posts mark
pub record AreMarked (c : Numbers) (posts : List Post) (table : List Bool) : Type 0 where
  pub size : length table ≡ 16384
  pub each : (k : ℕ) → entry table k ≡ list_any (λ post. is_number k (mark_of c post)) posts

-- beside those of the old table, the new one has the number that one more post marks
pub record AreMarkedBy (c : Numbers) (post : Post) (old new : List Bool) : Type 0 where
  pub size : length new ≡ length old
  pub each : (k : ℕ) → entry new k ≡ (entry old k || is_number k (mark_of c post))

-- whether by the table a lane has picked in the last round of an epoch, and decided nothing in it
abbrev pub is_stuck_in : List Bool → ℕ → ℕ → ℕ → Bool
is_stuck_in table i j e = entry table (number_of LastPick i j e) && not (entry table (number_of Decision i j e))

-- whether it is so in some epoch
unfoldable pub is_stuck_by : List Bool → ℕ → ℕ → Bool
is_stuck_by table i j = list_any (is_stuck_in table i j) (range_with_len 0 most_epochs)

-- whether by the table a lane of a correct node works and has spent its rounds
abbrev pub has_spent_by : Report → List Bool → ℕ → Bool
has_spent_by report table i =
    not (is_in report.config.liars i)
    && list_any (λ j. works report.ends.items i j && is_stuck_by table i j) (range_with_len 0 report.config.n)
