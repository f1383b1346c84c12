-- Whether a post may follow a history. The letters: actor x of node i.
use Rattle.std.proofs.Common.{◌≡◌, ℕ, ◌<◌, ◌≤◌, nat_lt, Bool, true, false, inl, inr, List, [], ◌∷◌, ◌++◌, Contains, None, Some, refl, sym, ap, ◌∙◌, subst, arith}
use Rattle.std.specs.List.{list_any}
use Rattle.std.proofs.lemmas.Bool.{and_from, eq-eqb, lt-ltb, both_ways}
use Rattle.hb_base.specs.NodeSet.{is_in}
use Rattle.hb_base.specs.Numbers.{Numbers, AreSound}
use Rattle.hb_wire.specs.Votes.{address_of, epoch_of}
use Rattle.hb_wire.specs.declared.post.Post.{Post}
use Rattle.hb_wire.specs.declared.vote.Vote.{Vote}
use Rattle.hb_wire.specs.declared.vote.Vote.TheVariants.{Propose, NoMore, Closed}
use Rattle.hb_wire.proofs.Equality.{one_vote}
use Rattle.hb_wire.proofs.VoteLemmas.{vote_again, vote_takes}
use Rattle.hb_rules.specs.Desk.{MayAtDesk}
use Rattle.hb_rules.specs.Hearing.{Hearing, spelled, own_in, heard_in}
use Rattle.hb_rules.specs.History.{IsAllowed, IsCorrectPost, MayFollow, IsLegal}
use Rattle.hb_rules.specs.Lanes.{is_correct}
use Rattle.hb_rules.specs.Parts.{part_of}
use Rattle.hb_rules.specs.Rules.{MayInPart, MayCast}
use Rattle.hb_rules.specs.Same.{AreSame, same_vote}
use Rattle.hb_rules.specs.Strings.{NoCollision}
use Rattle.hb_rules.proofs.Addressed.{legal_addressed}
use Rattle.hb_rules.proofs.Among.{any_stands}
use Rattle.hb_rules.proofs.Lists.{list_any-from}
use Rattle.hb_rules.proofs.MoreHeard.{MayCast-among}
use Rattle.hb_rules.proofs.SameRules.{cast_same}
use Rattle.hb_rules.proofs.LaneVotes.{correct_is}
use Rattle.hb_rules.specs.Apart.{IsHeardApart}
use Rattle.history_verdict.specs.Verdicts.{Judges}
use Rattle.post_judge.specs.Places.{casts, is_cast_ever, looked_at}
use Rattle.post_judge.specs.Tables.{Table, own_votes, told_from, AreTold}
use Rattle.post_judge.proofs.Epochs.{next_in_run}
use Rattle.post_judge.proofs.Heard.{own_right, own_all, own_lane, own_desk, heard_among, heard_kept}
use Rattle.post_judge.proofs.OwnEpoch.{AreAlike, in_part_alike}
use Rattle.post_judge.proofs.Kept.{may_by_part}
use Rattle.post_judge.proofs.Places.{looked_at-listens}

-- a node below n that is no liar
pub correct_node : (c : Numbers) (i : ℕ) → i < c.n → is_in c.liars i ≡ false → is_correct c i ≡ true
correct_node c i known correct = rw (lt-ltb i c.n known, correct) refl

-- ---- which actors cast which votes

in_lane : (c : Numbers) (i x : ℕ) (own : List Vote) (vote : Vote) (history : List Post) → x < c.n
    → MayInPart (part_of vote) c i x own (heard_in c i x history) vote → casts c.n x vote ≡ true
in_lane c i x own (Propose e value) history lane may = absurd may
in_lane c i x own (NoMore e) history lane may = absurd may
in_lane c i x own (Closed e list) history lane may = absurd may
in_lane c i x own vote history lane may = lt-ltb x c.n lane

at_desk : (c : Numbers) (i x : ℕ) (own : List Vote) (vote : Vote) (history : List Post) → x ≡ c.n → MayAtDesk c own (heard_in c i x history) vote
    → casts c.n x vote ≡ true
at_desk c i x own (Propose e value) history last may = eq-eqb x c.n last
at_desk c i x own (NoMore e) history last may = eq-eqb x c.n last
at_desk c i x own (Closed e list) history last may = eq-eqb x c.n last
at_desk c i x own vote history last may = absurd may

casts_such : (c : Numbers) (i x : ℕ) (own : List Vote) (vote : Vote) (history : List Post) → MayCast c i x own (heard_in c i x history) vote
    → casts c.n x vote ≡ true
casts_such c i x own vote history (inl may) = in_lane c i x own vote history may.0 may.1
casts_such c i x own vote history (inr may) = at_desk c i x own vote history may.0 may.1

-- a vote that may be cast now is cast by such actors, and of an epoch of the run
pub cast_ever : (c : Numbers) (i x : ℕ) (vote : Vote) (seen : List Post) → AreSound c → is_in c.liars i ≡ false → IsLegal c seen
    → MayCast c i x (own_in c i x seen) (heard_in c i x seen) vote → is_cast_ever c x vote ≡ true
cast_ever c i x vote seen sound correct legal may =
    and_from (casts c.n x vote) (nat_lt (epoch_of vote) c.epochs) (casts_such c i x (own_in c i x seen) vote seen may)
    (lt-ltb (epoch_of vote) c.epochs (next_in_run c i x seen vote sound correct legal may))

-- ---- by own votes that are alike

-- own votes that are alike where the actor looks: for a lane in the epoch of the vote, for a desk everywhere
pub record AreOwn (c : Numbers) (x : ℕ) (vote : Vote) (own other : List Vote) : Type 0 where
  pub lane : x < c.n → AreAlike (epoch_of vote) own other
  pub desk : x ≡ c.n → AreSame own other

own_back : (c : Numbers) (x : ℕ) (vote : Vote) (own other : List Vote) → AreOwn c x vote own other → AreOwn c x vote other own
own_back c x vote own other are = record {
  lane = λ lane. record { tests = λ test at. sym ((are.lane lane).tests test at) };
  desk = λ last. record { tests = λ test. sym ((are.desk last).tests test) };
}

cast_own : (c : Numbers) (i x : ℕ) (vote : Vote) (own other : List Vote) (heard : List Hearing) → AreOwn c x vote own other
    → MayCast c i x own heard vote → MayCast c i x other heard vote
cast_own c i x vote own other heard are (inl may) =
    inl (may.0, in_part_alike (part_of vote) own other c i x heard vote (are.lane may.0) may.1)
cast_own c i x vote own other heard are (inr may) = cast_same own other (are.desk may.0) c i x heard vote (inr may)

-- ---- by a table

table_own : (c : Numbers) (seen : List Post) (table : Table) → AreTold c seen table → (i x : ℕ) (vote : Vote) → is_correct c i ≡ true
    → AreOwn c x vote (own_votes c i x vote seen table) (own_in c i x seen)
table_own c seen table are i x vote known = record {
  lane = λ lane. own_lane c seen table are i x known lane vote;
  desk = λ last. own_desk c seen table are i x known (omega (arith, last)) vote;
}

module _ (c : Numbers) (seen : List Post) (table : Table) (are : AreTold c seen table) (i x : ℕ) (vote : Vote)
    (known : is_correct c i ≡ true) (such : casts c.n x vote ≡ true) where
  -- what may be cast by what the table has may be cast
  pub cast_sound : MayCast c i x (own_votes c i x vote seen table) (told_from c i x seen table (looked_at c i x vote)) vote
      → MayCast c i x (own_in c i x seen) (heard_in c i x seen) vote
  cast_sound may =
      cast_own c i x vote (own_votes c i x vote seen table) (own_in c i x seen) (heard_in c i x seen) (table_own c seen table are i x vote known)
      (MayCast-among c i x (own_votes c i x vote seen table) (told_from c i x seen table (looked_at c i x vote)) (heard_in c i x seen) vote
      (heard_among c seen table are i x (looked_at c i x vote) (looked_at-listens c i x vote such)) may)

  -- and the other way
  pub cast_complete : is_in c.liars i ≡ false → IsLegal c seen → MayCast c i x (own_in c i x seen) (heard_in c i x seen) vote
      → MayCast c i x (own_votes c i x vote seen table) (told_from c i x seen table (looked_at c i x vote)) vote
  cast_complete correct legal may =
      may_by_part c i x (heard_in c i x seen) (told_from c i x seen table (looked_at c i x vote)) (own_votes c i x vote seen table) vote
      (λ p among. heard_kept c seen table are i x (legal_addressed c seen legal) correct (looked_at c i x vote) p among)
      (cast_own c i x vote (own_in c i x seen) (own_votes c i x vote seen table) (heard_in c i x seen)
      (own_back c x vote (own_votes c i x vote seen table) (own_in c i x seen) (table_own c seen table are i x vote known)) may)

  -- what it has for a lane was heard apart
  pub told_apart : IsLegal c seen → NoCollision c seen → x < c.n → IsHeardApart c i x (told_from c i x seen table (looked_at c i x vote))
  told_apart legal apart lane = record {
    history = seen;
    legal = legal;
    apart = apart;
    correct = correct_is c i known;
    lane = lane;
    among = heard_among c seen table are i x (looked_at c i x vote) (looked_at-listens c i x vote such);
  }

-- a vote that the actor has cast before
pub cast_before : (c : Numbers) (seen : List Post) (table : Table) (i x : ℕ) (vote : Vote) → AreTold c seen table
    → list_any (same_vote vote) (own_votes c i x vote seen table) ≡ true → Contains (own_in c i x seen) vote
cast_before c seen table i x vote are h =
    let found = any_stands (same_vote vote) (own_votes c i x vote seen table) h in
    own_right c seen table are i x vote vote
    (subst (λ (v : Vote). Contains (own_votes c i x vote seen table) v) (sym ((one_vote vote found.0).0 found.2)) found.1)

-- and one that it has not
pub not_cast_before : (c : Numbers) (seen : List Post) (table : Table) (i x : ℕ) (vote : Vote) → AreTold c seen table
    → is_correct c i ≡ true → list_any (same_vote vote) (own_votes c i x vote seen table) ≡ false → IsAllowed c i x seen vote
    → MayCast c i x (own_in c i x seen) (heard_in c i x seen) vote
not_cast_before c seen table i x vote are known new (inl before) =
    absurd (both_ways (list_any (same_vote vote) (own_votes c i x vote seen table)) new
    (list_any-from (same_vote vote) (own_votes c i x vote seen table) vote (own_all c seen table are i x known vote vote refl before)
    ((one_vote vote vote).1 refl)))
not_cast_before c seen table i x vote are known new (inr may) = may

-- ---- the answers

-- a post of none of the nodes
pub judges_stranger : (c : Numbers) (seen : List Post) (post : Post) → c.n ≤ post.from → Judges c seen post false
judges_stranger c seen post out = record {
  sound = λ h. absurd (cc (h));
  complete = λ h apart follows. absurd (omega (arith, out, follows.known));
}

-- a liar's
pub judges_liar : (c : Numbers) (seen : List Post) (post : Post) → post.from < c.n → is_in c.liars post.from ≡ true → Judges c seen post true
judges_liar c seen post known liar = record {
  sound = λ h. record { known = known; correct = λ correct. absurd (both_ways (is_in c.liars post.from) correct liar) };
  complete = λ h. absurd (cc (h));
}

-- one that spells nothing
pub judges_unread : (c : Numbers) (seen : List Post) (post : Post) → is_in c.liars post.from ≡ false → spelled c post ≡ None → Judges c seen post false
judges_unread c seen post correct none = record {
  sound = λ h. absurd (cc (h));
  complete = λ h apart follows.
      let right = follows.correct correct in
      let again : spelled c post ≡ Some right.vote = vote_again c.n c.version post.bytes right.vote right.spells in
      absurd (cc (none, again));
}

-- the vote of a post that may follow
follows_by : (c : Numbers) (seen : List Post) (post : Post) (vote : Vote) → is_in c.liars post.from ≡ false → spelled c post ≡ Some vote
    → MayFollow c seen post → (post.to ≡ address_of vote) × IsAllowed c post.from post.actor seen vote
follows_by c seen post vote correct is follows =
    let right : IsCorrectPost c seen post = follows.correct correct in
    let again : spelled c post ≡ Some right.vote = vote_again c.n c.version post.bytes right.vote right.spells in
    let same : right.vote ≡ vote = cc (again, is) in
    (right.address ∙ ap address_of same, subst (IsAllowed c post.from post.actor seen) same right.allowed)

-- one with another address
pub judges_address : (c : Numbers) (seen : List Post) (post : Post) (vote : Vote) → is_in c.liars post.from ≡ false → spelled c post ≡ Some vote
    → (post.to ≡ address_of vote → ⊥) → Judges c seen post false
judges_address c seen post vote correct is other = record {
  sound = λ h. absurd (cc (h));
  complete = λ h apart follows. other (follows_by c seen post vote correct is follows).0;
}

-- and one that was allowed, or not
pub judges_vote : (c : Numbers) (seen : List Post) (post : Post) (vote : Vote) (answer : Bool) → post.from < c.n → is_in c.liars post.from ≡ false
    → spelled c post ≡ Some vote → post.to ≡ address_of vote
    → (answer ≡ true → IsAllowed c post.from post.actor seen vote)
    → (NoCollision c seen → IsAllowed c post.from post.actor seen vote → answer ≡ true)
    → (NoCollision c (seen ++ post ∷ []) → NoCollision c seen)
    → Judges c seen post answer
judges_vote c seen post vote answer known correct is address sound complete before = record {
  sound = λ h. record {
    known = known;
    correct = λ _. record {
      vote = vote;
      spells = vote_takes c.n c.version post.bytes vote is;
      address = address;
      allowed = sound h;
    };
  };
  complete = λ h apart follows.
      absurd (both_ways answer h
      (complete (before apart) (follows_by c seen post vote correct is follows).1));
}
