-- What a post says, and when two posts contradict each other: two votes are the same exactly where their bytes are.
use Rattle.std.proofs.Common.{◌≡◌, ℕ, Bool, true, false, ◌==◌, ◌&&◌, ◌||◌, not, bytes_eq, if◌then◌else◌, List, Option, None, Some, refl, sym, ap, ◌∙◌}
use Rattle.std.specs.Option.{option_map}
use Rattle.std.specs.Bool.{Decides}
use Rattle.std.specs.Cmp.Lexicographic.{bytes_decides}
use Rattle.std.proofs.lemmas.Bool.{both_ways, false_from_ne_true, eqb-true, eq-eqb}
use Rattle.std.proofs.lemmas.Option.{same_Some}
use Rattle.hb_base.specs.Numbers.{Numbers}
use Rattle.hb_wire.specs.declared.vote.Vote.{Vote}
use Rattle.hb_wire.specs.declared.post.Post.{Post}
use Rattle.hb_wire.specs.Votes.{spelling}
use Rattle.hb_wire.specs.Reading.{vote_at}
use Rattle.hb_wire.proofs.VoteLemmas.{vote_takes}
use Rattle.hb_wire.proofs.Equality.{one_vote}
use Rattle.hb_rules.specs.Hearing.{spelled}
use Rattle.hb_rules.specs.Same.{same_vote}
use Rattle.accuse.specs.declared.place.Place.{Place}
use Rattle.accuse.specs.contracts.place.PlacePartialEq.TheImpl.{ghosts as equal}
use Rattle.accuse.specs.contracts.place.PlaceOrd.TheImpl.Laws.{matches_eq-law}
use Rattle.accuse.specs.Conflicts.{excludes, show_two_roots}
use Rattle.accuse.specs.Accused.{said, contradict}
use Rattle.accuse.specs.Places.{place_of, same_place}
use Rattle.accuse.proofs.Same.{place_is, place_self}
use Rattle.accuse.proofs.Places.{share_place, are_rivals}

-- a post is of node i and of this actor, and spells this vote
pub record IsSaying (c : Numbers) (i : ℕ) (post : Post) (s : ℕ × Vote) : Type 0 where
  pub from : post.from ≡ i
  pub actor : post.actor ≡ s.0
  pub spells : spelled c post ≡ Some s.1

pub said_is : (c : Numbers) (i : ℕ) (post : Post) (s : ℕ × Vote) → said c i post ≡ Some s → IsSaying c i post s
said_is c i post s says = by (post.from == i) refl (spelled c post) refl says
  where
    by : (b : Bool) → (post.from == i) ≡ b → (o : Option Vote) → spelled c post ≡ o → (if b then option_map (λ v. (post.actor, v)) o else None) ≡ Some s
        → IsSaying c i post s
    by true mine (Some v) is says =
        let same : (post.actor, v) ≡ s = same_Some (post.actor, v) s says in
        record {
          from = eqb-true post.from i mine;
          actor = ap (λ (t : ℕ × Vote). t.0) same;
          spells = is ∙ ap (λ (t : ℕ × Vote). Some t.1) same;
        }
    by true mine None is says = absurd (cc (says))
    by false other o is says = absurd (cc (says))

-- two tests of one fact answer alike
same_answer : {P Q : Type 0} (a b : Bool) → Decides a P → Decides b Q → (P → Q) → (Q → P) → a ≡ b
same_answer true b first second there back = sym (second.1 (there (first.0 refl)))
same_answer false b first second there back = sym (false_from_ne_true b (λ yes. cc (first.1 (back (second.0 yes)))))

pub same_by_bytes : (n version : ℕ) (a b : List ℕ) (v w : Vote) → vote_at n version a ≡ Some v → vote_at n version b ≡ Some w
    → same_vote v w ≡ bytes_eq a b
same_by_bytes n version a b v w first second =
    same_answer (same_vote v w) (bytes_eq a b) (one_vote v w) (bytes_decides a b)
    (λ same. (vote_takes n version a v first).spelled ∙ ap spelling same ∙ sym (vote_takes n version b w second).spelled)
    (λ same. same_Some v w (sym first ∙ ap (vote_at n version) same ∙ second))

-- two posts of one actor, of which the one excludes the other, and that show one root if they do
pub contradict_by_bytes : (c : Numbers) (i : ℕ) (post other : Post) (v w : Vote) → said c i post ≡ Some (post.actor, v)
    → said c i other ≡ Some (other.actor, w) → post.actor ≡ other.actor → show_two_roots v w ≡ false → excludes v w ≡ true
    → not (bytes_eq post.bytes other.bytes) ≡ contradict (said c i post) (said c i other)
contradict_by_bytes c i post other v w first second actors roots excluded =
    let one : spelled c post ≡ Some v = (said_is c i post (post.actor, v) first).spells in
    let two : spelled c other ≡ Some w = (said_is c i other (other.actor, w) second).spells in
    let same : same_vote v w ≡ bytes_eq post.bytes other.bytes = same_by_bytes c.n c.version post.bytes other.bytes v w one two in
    let alike : (post.actor == other.actor) ≡ true = eq-eqb post.actor other.actor actors in
    let both : contradict (said c i post) (said c i other) ≡ contradict (Some (post.actor, v)) (Some (other.actor, w)) =
    λ k. contradict (first k) (second k) in
    let tests : contradict (Some (post.actor, v)) (Some (other.actor, w)) ≡ (true && (false || (true && not (bytes_eq post.bytes other.bytes)))) =
    λ k. (alike k) && ((roots k) || ((excluded k) && not (same k))) in
    sym (both ∙ tests)

-- ---- excluding by places

pub excludes_at : (v w : Vote) (a b : Place) → place_of 0 v ≡ Some a → place_of 0 w ≡ Some b → equal.eq a b ≡ excludes v w
excludes_at v w a b first second = matches_eq-law a b ∙ by (same_place a b) refl
  where
    by : (same : Bool) → same_place a b ≡ same → same ≡ excludes v w
    by true is = sym (are_rivals 0 0 v w a first (second ∙ ap Some (sym (place_is a b is)))).excluded
    by false is = sym (false_from_ne_true (excludes v w) (λ yes.
        let one = share_place 0 v w yes in
        let same : a ≡ b = same_Some a b (sym first ∙ one.first ∙ sym one.second ∙ second) in
        both_ways (same_place a b) is (ap (same_place a) (sym same) ∙ place_self a)))

pub excludes_nothing : (v w : Vote) → place_of 0 v ≡ None → false ≡ excludes v w
excludes_nothing v w none = sym (false_from_ne_true (excludes v w) (λ yes. cc (none, (share_place 0 v w yes).first)))

pub excluded_by_nothing : (v w : Vote) → place_of 0 w ≡ None → false ≡ excludes v w
excluded_by_nothing v w none = sym (false_from_ne_true (excludes v w) (λ yes. cc (none, (share_place 0 v w yes).second)))
