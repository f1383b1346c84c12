use Rattle.std.proofs.Common.{◌≡◌, take}
use Rattle.std.specs.List.{flat_map}
use Rattle.std.specs.Option.{option_to_list}
use Rattle.hb_wire.specs.Reading.{vote_at}
use Rattle.library_calls.proofs.heard.Given as goal

-- the votes so far
abbrev pub invariant-loop-post : goal.invariant-loop-post
invariant-loop-post l = l.votes.items ≡ flat_map (λ post. option_to_list (vote_at l.config.n l.config.version post.bytes)) (take l.post-index l.posts)
