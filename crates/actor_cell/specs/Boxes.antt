-- Whose the mailboxes of a run are, and where they stand. The letters: actor x of node i, in a run of config c.
use Rattle.std.specs.Prelude.{ℕ, ◌+◌, List, [], ◌∷◌, length, map, if◌then◌else◌}
use Rattle.std.specs.List.{flat_map, range_with_len}
use Rattle.atomic_blocks.specs.Laid.{WebId}
use Rattle.hb_base.specs.Numbers.{Numbers}
use Rattle.hb_base.specs.NodeSet.{is_in}

-- whose mailboxes node i has: one for each actor, or, if it lies, one for all its actors, as of actor 0
abbrev pub owners_at : Numbers → ℕ → List (ℕ × ℕ)
owners_at c i = if is_in c.liars i then (i, 0) ∷ [] else map (λ x. (i, x)) (range_with_len 0 (c.n + 1))

-- those of the nodes below i, by node and then actor
abbrev pub owners_below : Numbers → ℕ → List (ℕ × ℕ)
owners_below c i = flat_map (owners_at c) (range_with_len 0 i)

-- those of the run
abbrev pub owners : Numbers → List (ℕ × ℕ)
owners c = owners_below c c.n

-- whose the mailbox is into which comes what is for actor x of node i
abbrev pub owner_of : Numbers → ℕ → ℕ → ℕ × ℕ
owner_of c i x = (i, if is_in c.liars i then 0 else x)

-- where that mailbox stands: behind those of the nodes before
abbrev pub place_of : Numbers → ℕ → ℕ → ℕ
place_of c i x = length (owners_below c i) + (if is_in c.liars i then 0 else x)

-- for each node below i, where its first mailbox stands
abbrev pub firsts_below : Numbers → ℕ → List ℕ
firsts_below c i = map (λ a. length (owners_below c a)) (range_with_len 0 i)

-- the mailboxes of a run: the config, and their names in the order of their owners
pub record BoxesView : Type 0 where
  pub config : Numbers
  pub names : List WebId
