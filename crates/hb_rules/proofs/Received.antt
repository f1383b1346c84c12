-- What an actor heard of the posts that it received: it has spellings, and is among all that it hears.
use Rattle.std.proofs.Common.{◌≡◌, ℕ, List, [], ◌∷◌, Option, None, Some, slice_get, refl, subst}
use Rattle.std.specs.List.{filter_map, cons_option}
use Rattle.hb_base.specs.Numbers.{Numbers}
use Rattle.hb_wire.specs.declared.post.Post.{Post}
use Rattle.hb_wire.proofs.VoteLemmas.{vote_takes}
use Rattle.hb_rules.specs.Hearing.{Hearing, hearing_of, heard_in}
use Rattle.hb_rules.specs.History.{HasSpelling}
use Rattle.hb_rules.specs.Terms.{Terms, AreHeardSpelled, AreAmong, heard_all, heard_got}
use Rattle.hb_rules.proofs.Cast.{heard_is}
use Rattle.hb_rules.proofs.Lists.{at_contains, source_of, Contains-filter_map}

-- all that was heard has spellings
pub heard_spelled : (c : Numbers) (i x : ℕ) (posts : List Post) → AreHeardSpelled c (heard_in c i x posts)
heard_spelled c i x [] = tt
heard_spelled c i x (post ∷ posts) = by (hearing_of c i x post) refl (heard_spelled c i x posts)
  where
    by : (o : Option Hearing) → hearing_of c i x post ≡ o → AreHeardSpelled c (heard_in c i x posts)
        → AreHeardSpelled c (cons_option o (heard_in c i x posts))
    by None is rest = rest
    by (Some h) is rest =
        let heard = heard_is c i x post h is in
        (subst (λ (g : Hearing). HasSpelling c g.vote) heard.hearing_is (vote_takes c.n c.version post.bytes heard.vote heard.is).fits, rest)

-- what was heard of posts that were received is heard of the history
pub got_heard : (t : Terms) (seen : List Post) (got : List ℕ) → AreAmong (heard_got t seen got) (heard_all t seen)
got_heard t seen got = record {
  each = λ h stands.
      let heard = source_of (hearing_of t.config t.node t.actor) (filter_map (slice_get seen) got) h stands in
      Contains-filter_map (hearing_of t.config t.node t.actor) seen heard.element h
      (let n = source_of (slice_get seen) got heard.element heard.stands in at_contains seen n.element heard.element n.gives) heard.gives;
}
