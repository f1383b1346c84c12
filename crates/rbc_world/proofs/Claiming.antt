-- What a post claims, by what is read at the front of its bytes.
use Rattle.std.proofs.Common.{◌≡◌, ℕ, ◌<◌, true, ◌==◌, List, ◌∷◌, Option, None, Some, refl, sym, ◌∙◌, arith}
use Rattle.std.specs.Prelude.{IsSomeAnd}
use Rattle.std.proofs.lemmas.Bool.{eq-eqb}
use Rattle.hb_base.specs.Numbers.{Numbers}
use Rattle.hb_wire.specs.declared.vote.Vote.{Vote}
use Rattle.hb_wire.specs.declared.post.Post.{Post}
use Rattle.hb_wire.specs.Votes.{kind_of, epoch_of, Spells}
use Rattle.hb_wire.specs.Glances.{IsGlance}
use Rattle.hb_wire.specs.Reading.{vote_at}
use Rattle.hb_wire.proofs.VoteLemmas.{vote_takes}
use Rattle.hb_rules.specs.Hearing.{spelled}
use Rattle.rbc_world.specs.declared.claims.Kind.{Kind}
use Rattle.rbc_world.specs.Claimed.{code_of, lane_of, place_of, body_of, claim_of}

-- what a post claims, and that its epoch is one
pub record IsMade (c : Numbers) (kind : Kind) (post : Post) (lane epoch : ℕ) (rest : List ℕ) : Type 0 where
  pub claims : Some (place_of lane epoch, rest) ≡ claim_of c kind post
  pub known : epoch < 32

pub claim_made : (c : Numbers) (kind : Kind) (post : Post) (lane code epoch : ℕ) (bytes rest : List ℕ) → lane_of c kind post ≡ Some lane
    → bytes ≡ post.bytes → IsSomeAnd (vote_at c.n c.version bytes) (λ vote. IsGlance bytes vote code epoch rest) → code ≡ code_of kind
    → IsMade c kind post lane epoch rest
claim_made c kind post lane code epoch bytes rest lane_is bytes_are seen code_is =
    by (spelled c post) refl (rw bytes_are at seen)
  where
    by : (o : Option Vote) → spelled c post ≡ o → IsSomeAnd o (λ vote. IsGlance post.bytes vote code epoch rest) → IsMade c kind post lane epoch rest
    by None is seen = absurd seen
    by (Some vote) is seen =
        let spells : Spells c.n c.version post.bytes vote = vote_takes c.n c.version post.bytes vote is in
        let parts : code ∷ epoch ∷ rest ≡ kind_of vote ∷ epoch_of vote ∷ body_of vote = sym seen.parts ∙ spells.spelled in
        let body_is : rest ≡ body_of vote = cc (parts) in
        let right : (kind_of vote == code_of kind) ≡ true = eq-eqb (kind_of vote) (code_of kind) (sym seen.kind_is ∙ code_is) in
        record {
          claims = rw (lane_is, is, right, seen.epoch_is, body_is) refl;
          known = omega (arith, seen.epoch_is, spells.fits.epoch);
        }
