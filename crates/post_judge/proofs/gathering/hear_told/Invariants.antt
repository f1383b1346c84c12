use Rattle.std.proofs.Common.{◌≡◌, ◌++◌, filter_map, take}
use Rattle.post_judge.specs.Tables.{posts_of, told_to}
use Rattle.post_judge.proofs.gathering.hear_told.Given as goal

-- what is heard of the numbers before this one
abbrev pub invariant-loop-k : goal.invariant-loop-k
invariant-loop-k l =
    l.heard.items
    ≡ l.fn.heard.items
    ++ filter_map (told_to l.table.config l.fn.node l.fn.actor) (posts_of l.table.posts.items (take l.k l.numbers))
