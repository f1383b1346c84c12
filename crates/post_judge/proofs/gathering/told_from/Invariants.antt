use Rattle.std.proofs.Common.{◌≡◌, take}
use Rattle.post_judge.specs.Tables.{told_from}
use Rattle.post_judge.proofs.gathering.told_from.Given as goal

-- what is heard of the places before this one
abbrev pub invariant-loop-place : goal.invariant-loop-place
invariant-loop-place l =
    l.heard.items
    ≡ told_from l.table.config l.fn.node l.fn.actor l.table.posts.items l.table.buckets.by_place (take l.place-index l.places)
