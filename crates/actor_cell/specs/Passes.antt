-- The passes to the mailboxes of a run.
use Rattle.std.specs.Prelude.{◌≡◌, ℕ, Bool, false, List, [], ◌∷◌, ◌++◌, length, map, All, slice_index_or, slice_set, slice_get, Some}
use Rattle.std.specs.List.{range_with_len}
use Rattle.atomic_blocks.specs.Laid.{WebId}
use Rattle.mailbox.specs.Passes.{PutPassView, TakePassView}
use Rattle.actor_cell.specs.Boxes.{BoxesView}

-- the place of a mailbox among all, its take pass, and a put pass of each mailbox in their order
pub record PassesView : Type 0 where
  pub place : ℕ
  pub take : TakePassView
  pub puts : List PutPassView

-- of the put passes, in the order of the mailboxes: whose they are, how often they were split, what was put through each
abbrev pub names_of : List PutPassView → List WebId
names_of puts = map (λ p. p.at) puts

abbrev pub splits_of : PassesView → List ℕ
splits_of passes = map (λ p. p.splits) passes.puts

abbrev pub puts_of : PassesView → List (List ℕ)
puts_of passes = map (λ p. p.put) passes.puts

-- whether each pass saw last that a new block is needed, and so that of the mailbox at a place
abbrev pub blocks_of : PassesView → List Bool
blocks_of passes = map (λ p. p.needs_block) passes.puts

abbrev pub needs_block_at : ℕ → PassesView → Bool
needs_block_at place passes = slice_index_or (blocks_of passes) place false

-- one number more was put into the mailbox at a place, and nothing into the others
abbrev pub with_put : ℕ → ℕ → List (List ℕ) → List (List ℕ)
with_put place number puts = slice_set puts place (slice_index_or puts place [] ++ number ∷ [])

-- what was put through the pass to the own mailbox, which is the one whose numbers the take pass takes
abbrev pub own_puts : PassesView → List ℕ
own_puts passes = slice_index_or (puts_of passes) passes.place []

-- the passes are of these mailboxes, and the take pass was told of all own puts
pub record ArePassesOf (boxes : BoxesView) (passes : PassesView) : Type 0 where
  pub take : slice_get boxes.names passes.place ≡ Some passes.take.at
  pub puts : names_of passes.puts ≡ boxes.names
  pub own : passes.take.own ≡ own_puts passes

-- ---- new passes

pub record IsNewTake (take : TakePassView) : Type 0 where
  pub taken : take.taken ≡ []
  pub splits : take.splits ≡ []
  pub joined : take.joined ≡ []
  pub own : take.own ≡ []

abbrev pub IsNewPut : PutPassView → Type 0
IsNewPut put = put.put ≡ []

-- for one mailbox: nothing was taken, and there is a pass of each mailbox, through which nothing was put
pub record AreNewPasses (names : List WebId) (passes : PassesView) : Type 0 where
  pub take : IsNewTake passes.take
  pub puts : names_of passes.puts ≡ names
  pub none : All IsNewPut passes.puts

-- new passes for each of the mailboxes with these names, in their order
pub record AreDealt (names : List WebId) (all : List PassesView) : Type 0 where
  pub places : map (λ p. p.place) all ≡ range_with_len 0 (length names)
  pub takes : map (λ p. p.take.at) all ≡ names
  pub new : All (AreNewPasses names) all
