use Rattle.std.specs.Prelude.{Contains}
use Rattle.disk_model.specs.Image.{Image}
use Rattle.hb_wire.specs.declared.vote.Vote.{Vote}
use Rattle.hb_rules.specs.Terms.{cast_in}
use Rattle.journaled_actor.specs.Images.{HasVote}
use Rattle.journaled_actor.proofs.Actors.{along}
use Rattle.journaled_actor.proofs.Images.{has_vote}
use Rattle.journaled_actor.proofs.actor.JournaledActor.kept_in_images.Goals as goal

pub returns : goal.returns
returns g c =
    let t = g.C.Core.terms in
    along c.self.view_is
    (λ a. (image : Image) (vote : Vote) → g.D.Disk.may_leave a.disk image → Contains (cast_in (t a.core) (g.B.Book.seen a.seat)) vote → HasVote (t a.core).config image vote)
    (λ image vote may cast. has_vote (t c.self.inside.core) (g.B.Book.seen c.self.inside.seat) image vote (c.self.invariant.safe image may) cast)
