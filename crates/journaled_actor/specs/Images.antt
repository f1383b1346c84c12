-- What a user may read of an image that a crash has left of an actor's disk.
use Rattle.std.specs.Prelude.{◌≡◌, List, Contains}
use Rattle.std.specs.List.{concat}
use Rattle.disk_model.specs.Image.{Image}
use Rattle.hb_base.specs.Numbers.{Numbers}
use Rattle.hb_wire.specs.declared.vote.Vote.{Vote}
use Rattle.vote_journal.specs.Text.{IsSound, live_entries}
use Rattle.hb_rules.specs.Terms.{AreSpelled}
use Rattle.journaled_actor.specs.Payload.{payload}

-- The image is sound, and the entries that a recovery of it gives are, put together, the bytes of votes that have spellings,
-- with this one among them.
pub record HasVote (c : Numbers) (image : Image) (vote : Vote) : Type 0 where
  pub sound : IsSound image
  pub votes : List Vote
  pub spelled : AreSpelled c votes
  pub reads : concat (live_entries image) ≡ payload votes
  pub among : Contains votes vote
