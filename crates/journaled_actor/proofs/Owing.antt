-- What an actor owes, by the votes of its journal.
use Rattle.std.proofs.Common.{◌≡◌, ℕ, List, [], ◌++◌, ap, ◌∙◌, subst}
use Rattle.hb_wire.specs.declared.vote.Vote.{Vote}
use Rattle.hb_wire.specs.declared.post.Post.{Post}
use Rattle.hb_rules.specs.Hearing.{Hearing}
use Rattle.hb_rules.specs.Ledger.{IsPrefix}
use Rattle.hb_rules.specs.Same.{firsts, AreSame}
use Rattle.hb_rules.specs.Terms.{Terms, AreProper, AreLawful, cast_in}
use Rattle.journaled_actor.specs.Kept.{Covers, IsAll, IsOpen}
use Rattle.hb_rules.proofs.Firsts.{same_firsts, same_sym}
use Rattle.hb_rules.proofs.Turns.{proper_front, votes_longer}

pub open_with : (t : Terms) (seen : List Post) (text : List ℕ) (stands : List Vote → List Hearing → Type 0) (votes : List Vote) (heard : List Hearing)
    → AreLawful t → IsAll t seen text (votes ++ t.owed votes heard) → stands (votes ++ t.owed votes heard) heard → IsOpen t seen text stands heard
open_with t seen text stands votes heard lawful all standing = record {
  votes = votes ++ t.owed votes heard;
  all = all;
  holds = standing;
  idle = lawful.rests votes heard;
}

-- while others posted, all that the journal has stays cast
pub all_watched : (t : Terms) (old new : List Post) (text : List ℕ) (votes : List Vote) → IsPrefix old new → cast_in t new ≡ cast_in t old
    → IsAll t old text votes → IsAll t new text votes
all_watched t old new text votes prefix same all = record {
  says = all.says;
  are = votes_longer t old new votes prefix all.are;
  complete = ap firsts same ∙ all.complete;
}

-- what is owed by what was cast is owed by the votes of the journal
pub owed_by_cast : (t : Terms) (seen : List Post) (text : List ℕ) (votes : List Vote) (heard : List Hearing) → AreLawful t → IsAll t seen text votes
    → t.owed (cast_in t seen) heard ≡ t.owed votes heard
owed_by_cast t seen text votes heard lawful all =
    lawful.same (cast_in t seen) votes heard
    (subst (AreSame (cast_in t seen)) all.complete (same_sym (firsts (cast_in t seen)) (cast_in t seen) (same_firsts (cast_in t seen))))

-- nothing is owed by what was cast
pub owes_nothing : (t : Terms) (seen : List Post) (text : List ℕ) (stands : List Vote → List Hearing → Type 0) (heard : List Hearing)
    → AreLawful t → IsOpen t seen text stands heard → t.owed (cast_in t seen) heard ≡ []
owes_nothing t seen text stands heard lawful open_now = owed_by_cast t seen text open_now.votes heard lawful open_now.all ∙ open_now.idle

-- what was cast is proper
pub cast_proper : (t : Terms) (seen : List Post) (votes : List Vote) → Covers t seen votes → AreProper t [] (firsts (cast_in t seen))
cast_proper t seen votes covers =
    proper_front t [] (firsts (cast_in t seen)) covers.posted.rest (subst (AreProper t []) covers.posted.is covers.are.proper)
