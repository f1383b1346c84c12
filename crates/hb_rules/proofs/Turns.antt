-- Votes of a journal that are posted in turn.
use Rattle.std.proofs.Common.{◌≡◌, ◌≤◌, true, false, Some, inl, inr, List, [], ◌∷◌, ◌++◌, length, refl, sym, ap, ◌∙◌, subst, arith, append-nil, append_assoc, length-append}
use Rattle.std.specs.List.{list_any}
use Rattle.std.proofs.lemmas.Bool.{eq-eqb}
use Rattle.std.proofs.lemmas.List.Elements.{filter_map-append}
use Rattle.hb_wire.specs.declared.vote.Vote.{Vote}
use Rattle.hb_wire.specs.declared.post.Post.{Post}
use Rattle.hb_wire.specs.Votes.{Spells, spelling}
use Rattle.hb_wire.proofs.VoteLemmas.{vote_again}
use Rattle.hb_rules.specs.Book.{post_of}
use Rattle.hb_rules.specs.Hearing.{Hearing, hearing_of, is_by, spelled}
use Rattle.hb_rules.specs.History.{HasSpelling, IsAllowed}
use Rattle.hb_rules.specs.Ledger.{IsPrefix}
use Rattle.hb_rules.specs.Rules.{MayCast}
use Rattle.hb_rules.specs.Same.{firsts, same_vote, with_vote}
use Rattle.hb_rules.specs.Terms.{Terms, AreVotes, AreCastable, AreProper, AreHeardSpelled, AreAmong, AreLawful, cast_in, heard_all}
use Rattle.hb_rules.proofs.Lists.{AllByRecursion-append, AllByRecursion-parts}
use Rattle.hb_rules.proofs.MoreHeard.{AreAmong-more, MayCast-among}
use Rattle.hb_rules.specs.Keeping.{Covers, Turn}
use Rattle.hb_rules.proofs.SameRules.{cast_same, new_vote}
use Rattle.hb_rules.proofs.Firsts.{same_firsts, firsts_cast, firsts_more, with_known, with_new, front_cases, front_whole}

-- ---- lists of votes, of which each may be cast after those before it

pub castable_more : (t : Terms) (some all : List Hearing) (before votes : List Vote) → AreAmong some all → AreCastable t some before votes
    → AreCastable t all before votes
castable_more t some all before [] among may = tt
castable_more t some all before (vote ∷ votes) among may =
    (MayCast-among t.config t.node t.actor before some all vote among may.0, castable_more t some all (before ++ vote ∷ []) votes among may.1)

-- the vote behind those that are done
castable_at : (t : Terms) (heard : List Hearing) (before done rest : List Vote) (vote : Vote) → AreCastable t heard before (done ++ vote ∷ rest)
    → MayCast t.config t.node t.actor (before ++ done) heard vote
castable_at t heard before [] rest vote may =
    subst (λ (own : List Vote). MayCast t.config t.node t.actor own heard vote) (sym (append-nil before)) may.0
castable_at t heard before (d ∷ done) rest vote may =
    subst (λ (own : List Vote). MayCast t.config t.node t.actor own heard vote) (append_assoc before (d ∷ []) done)
    (castable_at t heard (before ++ d ∷ []) done rest vote may.1)

pub castable_append : (t : Terms) (heard : List Hearing) (before votes more : List Vote) → AreCastable t heard before votes
    → AreCastable t heard (before ++ votes) more → AreCastable t heard before (votes ++ more)
castable_append t heard before [] more one two = subst (λ (own : List Vote). AreCastable t heard own more) (append-nil before) two
castable_append t heard before (vote ∷ votes) more one two = (
  one.0,
  castable_append t heard (before ++ vote ∷ []) votes more one.1
      (subst (λ (own : List Vote). AreCastable t heard own more) (sym (append_assoc before (vote ∷ []) votes)) two),
)

pub proper_append : (t : Terms) (before votes more : List Vote) → AreProper t before votes → AreProper t (before ++ votes) more
    → AreProper t before (votes ++ more)
proper_append t before [] more one two = subst (λ (own : List Vote). AreProper t own more) (append-nil before) two
proper_append t before (vote ∷ votes) more one two = (
  one.0,
  proper_append t (before ++ vote ∷ []) votes more one.1
      (subst (λ (own : List Vote). AreProper t own more) (sym (append_assoc before (vote ∷ []) votes)) two),
)

pub proper_front : (t : Terms) (before votes more : List Vote) → AreProper t before (votes ++ more) → AreProper t before votes
proper_front t before [] more proper = tt
proper_front t before (vote ∷ votes) more proper = (proper.0, proper_front t (before ++ vote ∷ []) votes more proper.1)

-- ---- the history goes on

-- what is heard of a longer history is more
pub heard_longer : (t : Terms) (old new : List Post) → IsPrefix old new → AreAmong (heard_all t old) (heard_all t new)
heard_longer t old new prefix =
    let grown : heard_all t new ≡ heard_all t old ++ heard_all t prefix.rest =
    ap (heard_all t) prefix.is ∙ filter_map-append (hearing_of t.config t.node t.actor) old prefix.rest in
    subst (λ (heard : List Hearing). AreAmong (heard_all t old) heard) (sym grown) (AreAmong-more (heard_all t old) (heard_all t prefix.rest))

pub votes_longer : (t : Terms) (old new : List Post) (votes : List Vote) → IsPrefix old new → AreVotes t old votes → AreVotes t new votes
votes_longer t old new votes prefix are = record {
  castable = castable_more t (heard_all t old) (heard_all t new) [] votes (heard_longer t old new prefix) are.castable;
  proper = are.proper;
  spelled = are.spelled;
  rest = are.rest;
}

-- others posted
pub covers_watched : (t : Terms) (old new : List Post) (votes : List Vote) → IsPrefix old new → cast_in t new ≡ cast_in t old → Covers t old votes
    → Covers t new votes
covers_watched t old new votes prefix same covers = record {
  are = votes_longer t old new votes prefix covers.are;
  posted = subst (λ (own : List Vote). IsPrefix (firsts own) votes) (sym same) covers.posted;
}

-- ---- one turn

pub turn_begins : (t : Terms) (seen : List Post) (votes : List Vote) → Covers t seen votes → Turn t seen [] votes
turn_begins t seen votes covers = record { covers = covers; far = omega arith }

-- behind votes that were all cast
pub turn_after : (t : Terms) (seen : List Post) (done rest : List Vote) → AreVotes t seen (done ++ rest) → firsts (cast_in t seen) ≡ done
    → Turn t seen done rest
turn_after t seen done rest are complete = record {
  covers = record { are = are; posted = record { rest = rest; is = ap (λ (votes : List Vote). votes ++ rest) (sym complete) } };
  far = omega (arith, ap (λ (votes : List Vote). length votes) complete);
}

pub turn_watched : (t : Terms) (old new : List Post) (done rest : List Vote) → IsPrefix old new → cast_in t new ≡ cast_in t old
    → Turn t old done rest → Turn t new done rest
turn_watched t old new done rest prefix same turn = record {
  covers = covers_watched t old new (done ++ rest) prefix same turn.covers;
  far = subst (λ (own : List Vote). length done ≤ length (firsts own)) (sym same) turn.far;
}

-- the next vote has a spelling
pub turn_spelled : (t : Terms) (seen : List Post) (done rest : List Vote) (vote : Vote) → Turn t seen done (vote ∷ rest) → HasSpelling t.config vote
turn_spelled t seen done rest vote turn =
    (AllByRecursion-parts (HasSpelling t.config) done (vote ∷ rest) turn.covers.are.spelled).1.0

may_next : (t : Terms) (seen : List Post) (done rest : List Vote) (vote : Vote) → AreVotes t seen (done ++ vote ∷ rest)
    → MayCast t.config t.node t.actor done (heard_all t seen) vote
may_next t seen done rest vote are = castable_at t (heard_all t seen) [] done rest vote are.castable

-- it may be posted
pub turn_allows : (t : Terms) (seen : List Post) (done rest : List Vote) (vote : Vote) → Turn t seen done (vote ∷ rest)
    → IsAllowed t.config t.node t.actor seen vote
turn_allows t seen done rest vote turn =
    elim (front_cases (firsts (cast_in t seen)) done rest vote turn.covers.posted turn.far) [
      | inl same ↦ inr (cast_same (firsts (cast_in t seen)) (cast_in t seen) (same_firsts (cast_in t seen)) t.config t.node t.actor (heard_all t seen) vote
          (subst (λ (own : List Vote). MayCast t.config t.node t.actor own (heard_all t seen) vote) (sym same)
          (may_next t seen done rest vote turn.covers.are)))
      | inr known ↦ inl (firsts_cast (cast_in t seen) vote known.1)
    ]

shifted : (done rest : List Vote) (vote : Vote) → (done ++ vote ∷ []) ++ rest ≡ done ++ vote ∷ rest
shifted done rest vote = append_assoc done (vote ∷ []) rest

-- and once it is posted, the turn is at the one behind it
pub turn_next : (t : Terms) (old new : List Post) (done rest : List Vote) (vote : Vote) → IsPrefix old new
    → cast_in t new ≡ cast_in t old ++ vote ∷ [] → Turn t old done (vote ∷ rest) → Turn t new (done ++ vote ∷ []) rest
turn_next t old new done rest vote prefix cast turn =
    let own = cast_in t old in
    let now : firsts (cast_in t new) ≡ with_vote (firsts own) vote = ap firsts cast ∙ firsts_more own vote in
    let are : AreVotes t new ((done ++ vote ∷ []) ++ rest) =
    subst (AreVotes t new) (sym (shifted done rest vote)) (votes_longer t old new (done ++ vote ∷ rest) prefix turn.covers.are) in
    elim (front_cases (firsts own) done rest vote turn.covers.posted turn.far) [
      | inl same ↦
          let fresh : list_any (same_vote vote) (firsts own) ≡ false =
          new_vote t.config t.node t.actor (firsts own) (heard_all t old) vote
          (subst (λ (votes : List Vote). MayCast t.config t.node t.actor votes (heard_all t old) vote) (sym same)
          (may_next t old done rest vote turn.covers.are)) in
          turn_after t new (done ++ vote ∷ []) rest are
          (now ∙ with_new (firsts own) vote fresh ∙ ap (λ (votes : List Vote). votes ++ vote ∷ []) same)
      | inr known ↦
          let stays : firsts (cast_in t new) ≡ firsts own = now ∙ with_known (firsts own) vote known.1 in
          record {
            covers = record {
              are = are;
              posted = record {
                rest = turn.covers.posted.rest;
                is = shifted done rest vote ∙ turn.covers.posted.is ∙ ap (λ (votes : List Vote). votes ++ turn.covers.posted.rest) (sym stays);
              };
            };
            far = omega (arith, known.0, length-append done (vote ∷ []), ap (λ (votes : List Vote). length votes) stays);
          }
    ]

-- all are cast
pub turn_done : (t : Terms) (seen : List Post) (done : List Vote) → Turn t seen done [] → firsts (cast_in t seen) ≡ done
turn_done t seen done turn =
    front_whole (firsts (cast_in t seen)) done (subst (λ (votes : List Vote). IsPrefix (firsts (cast_in t seen)) votes) (append-nil done) turn.covers.posted)
    turn.far

-- what the turn covers, wherever it stands
pub turn_covers : (t : Terms) (seen : List Post) (before done rest votes : List Vote) → done ++ rest ≡ votes → Turn t seen (before ++ done) rest
    → Covers t seen (before ++ votes)
turn_covers t seen before done rest votes whole turn =
    subst (Covers t seen) (append_assoc before done rest ∙ ap (λ (xs : List Vote). before ++ xs) whole) turn.covers

-- ---- what is owed, and what a post casts

-- with the votes that are owed they are votes that the actor may keep
pub owed_votes : (t : Terms) (seen : List Post) (votes : List Vote) (heard : List Hearing) → AreLawful t → AreVotes t seen votes
    → AreHeardSpelled t.config heard → AreAmong heard (heard_all t seen) → AreVotes t seen (votes ++ t.owed votes heard)
owed_votes t seen votes heard lawful are spelled among = record {
  castable = castable_append t (heard_all t seen) [] votes (t.owed votes heard) are.castable
      (lawful.castable votes heard (heard_all t seen) spelled among are.castable);
  proper = proper_append t [] votes (t.owed votes heard) are.proper (lawful.proper votes heard);
  spelled = AllByRecursion-append (HasSpelling t.config) votes (t.owed votes heard) are.spelled (lawful.spelled votes heard spelled);
  rest = inr (lawful.less (votes ++ t.owed votes heard) heard (lawful.rests votes heard));
}

-- nothing was heard
pub none_among : (t : Terms) (seen : List Post) → AreAmong [] (heard_all t seen)
none_among t seen = record { each = λ h stands. absurd (omega (arith, stands.1)) }

-- a vote's bytes spell it
abbrev pub IsWritten : Terms → Vote → Type 0
IsWritten t vote = Spells t.config.n t.config.version (spelling vote) vote

pub post_by : (t : Terms) (vote : Vote) → is_by t.node t.actor (post_of t.node t.actor vote) ≡ true
post_by t vote = rw (eq-eqb t.node t.node refl, eq-eqb t.actor t.actor refl) refl

pub one_cast : (t : Terms) (vote : Vote) → IsWritten t vote → cast_in t (post_of t.node t.actor vote ∷ []) ≡ vote ∷ []
one_cast t vote written =
    let is : spelled t.config (post_of t.node t.actor vote) ≡ Some vote = vote_again t.config.n t.config.version (spelling vote) vote written in
    rw (eq-eqb t.node t.node refl, eq-eqb t.actor t.actor refl, is) refl
