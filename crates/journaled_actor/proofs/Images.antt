-- What images have of a vote that was cast.
use Rattle.std.proofs.Common.{◌∙◌, [], List, sym, subst}
use Rattle.std.specs.Prelude.{Contains}
use Rattle.std.proofs.lemmas.List.Elements.{Contains-append_left}
use Rattle.disk_model.specs.Image.{Image}
use Rattle.hb_wire.specs.declared.post.Post.{Post}
use Rattle.hb_wire.specs.declared.vote.Vote.{Vote}
use Rattle.vote_journal.proofs.Arranges.{live_text}
use Rattle.hb_rules.specs.Same.{firsts}
use Rattle.hb_rules.specs.Terms.{Terms, cast_in}
use Rattle.hb_rules.proofs.Firsts.{firsts_have}
use Rattle.journaled_actor.specs.Kept.{IsCovered}
use Rattle.journaled_actor.specs.Images.{HasVote}

pub has_vote : (t : Terms) (seen : List Post) (image : Image) (vote : Vote) → IsCovered t seen image → Contains (cast_in t seen) vote → HasVote t.config image vote
has_vote t seen image vote c cast = record {
  sound = c.sound;
  votes = c.votes;
  spelled = c.covers.are.spelled;
  reads = live_text image c.sound ∙ c.says;
  among = subst (λ (votes : List Vote). Contains votes vote) (sym c.covers.posted.is)
      (Contains-append_left (firsts (cast_in t seen)) c.covers.posted.rest vote (firsts_have (cast_in t seen) [] vote cast));
}
