-- What a post closes, by what is read at the front of its bytes, and the votes that correct desks have cast.
use Rattle.std.proofs.Common.{◌≡◌, ℕ, ◌==◌, ◌&&◌, Bool, true, false, List, ◌∷◌, Contains, Option, None, Some, if◌then◌else◌, refl, sym, ap, ◌∙◌, arith}
use Rattle.std.specs.Prelude.{IsSomeAnd}
use Rattle.std.specs.Option.{option_and_then}
use Rattle.std.proofs.lemmas.Bool.{and_parts, and_from, eqb-true, eq-eqb}
use Rattle.std.proofs.lemmas.Option.{option_and_then_some}
use Rattle.hb_base.specs.Numbers.{Numbers}
use Rattle.hb_wire.specs.declared.items.Item.{Item}
use Rattle.hb_wire.specs.declared.vote.Vote.{Vote}
use Rattle.hb_wire.specs.declared.vote.Vote.TheVariants.{Closed}
use Rattle.hb_wire.specs.declared.post.Post.{Post}
use Rattle.hb_wire.specs.Votes.{kind_of, epoch_of, Spells}
use Rattle.hb_wire.specs.Glances.{IsGlance}
use Rattle.hb_wire.specs.Reading.{vote_at}
use Rattle.hb_wire.proofs.VoteLemmas.{vote_takes}
use Rattle.hb_rules.specs.Hearing.{spelled, own_in}
use Rattle.hb_rules.specs.Lanes.{is_correct}
use Rattle.hb_rules.specs.Ledger.{IsCorrect}
use Rattle.hb_rules.proofs.Cast.{cast_from, cast_stands}
use Rattle.hb_rules.proofs.LaneVotes.{correct_is, correct_from}
use Rattle.acs_world.specs.Closed.{Closure, closing, closing_by, IsShown}

-- ---- votes

-- a vote of the kind of closed ones
closed_kind : (vote : Vote) → kind_of vote ≡ 0x12 → (closure : Closure) × (vote ≡ Closed closure.0 closure.1)
closed_kind (Closed e list) h = ((e, list), refl)
closed_kind vote h = absurd (omega (arith, h))

closing_is : (vote : Vote) (closure : Closure) → closing vote ≡ Some closure → vote ≡ Closed closure.0 closure.1
closing_is (Closed e list) closure h =
    let same : (e, list) ≡ closure = cc (h) in
    ap (λ (x : Closure). Closed x.0 x.1) same
closing_is vote closure h = absurd (cc (h))

-- ---- posts

-- a post of the desk of a correct node
pub record IsOfDesk (c : Numbers) (post : Post) : Type 0 where
  pub correct : is_correct c post.from ≡ true
  pub desk : post.actor ≡ c.n

pub at_desk : (c : Numbers) (post : Post) → IsOfDesk c post → closing_by c post ≡ option_and_then closing (spelled c post)
at_desk c post of_desk =
    let right : (is_correct c post.from && (post.actor == c.n)) ≡ true =
    and_from (is_correct c post.from) (post.actor == c.n) of_desk.correct (eq-eqb post.actor c.n of_desk.desk) in
    rw right refl

-- bytes spell a vote that closes an epoch, as they show
pub record IsRead (c : Numbers) (bytes : List ℕ) (epoch : ℕ) (rest : List ℕ) : Type 0 where
  pub closure : Closure
  pub closes : option_and_then closing (vote_at c.n c.version bytes) ≡ Some closure
  pub shown : IsShown closure epoch rest

pub closing_read : (c : Numbers) (bytes : List ℕ) (kind epoch : ℕ) (rest : List ℕ)
    → IsSomeAnd (vote_at c.n c.version bytes) (λ vote. IsGlance bytes vote kind epoch rest) → kind ≡ 0x12 → IsRead c bytes epoch rest
closing_read c bytes kind epoch rest seen closed = by (vote_at c.n c.version bytes) refl seen
  where
    by : (o : Option Vote) → vote_at c.n c.version bytes ≡ o → IsSomeAnd o (λ vote. IsGlance bytes vote kind epoch rest) → IsRead c bytes epoch rest
    by None is seen = absurd seen
    by (Some vote) is seen =
        let found = closed_kind vote (sym seen.kind_is ∙ closed) in
        let closure : Closure = found.0 in
        let spells : Spells c.n c.version bytes vote = vote_takes c.n c.version bytes vote is in
        let front : bytes ≡ 0x12 ∷ epoch ∷ rest = seen.parts ∙ ap (λ (k : ℕ). k ∷ epoch ∷ rest) closed in
        let epoch_is : closure.0 ≡ epoch = ap epoch_of (sym found.1) ∙ sym seen.epoch_is in
        let vote_is : vote ≡ Closed epoch closure.1 = found.1 ∙ ap (λ (e : ℕ). Closed e closure.1) epoch_is in
        record {
          closure = closure;
          closes = ap (λ (o : Option Vote). option_and_then closing o) (is ∙ ap Some found.1);
          shown = record {
            epoch_is = epoch_is;
            rest_is = record { n = c.n; version = c.version; epoch = epoch; spells = rw (front, vote_is) at spells };
          };
        }

-- ---- what was cast

pub record IsCastClosure (c : Numbers) (posts : List Post) (node : ℕ) (closure : Closure) : Type 0 where
  pub correct : IsCorrect c node
  pub cast : Contains (own_in c node c.n posts) (Closed closure.0 closure.1)

-- what a post closes, its node's desk has cast
pub closing_cast : (c : Numbers) (posts : List Post) (post : Post) (closure : Closure) → Contains posts post → closing_by c post ≡ Some closure
    → IsCastClosure c posts post.from closure
closing_cast c posts post closure stands closes =
    by (is_correct c post.from && (post.actor == c.n)) refl closes
  where
    by : (b : Bool) → (is_correct c post.from && (post.actor == c.n)) ≡ b
        → (if b then option_and_then closing (spelled c post) else None) ≡ Some closure → IsCastClosure c posts post.from closure
    by false other closes = absurd (cc (closes))
    by true right closes =
        let parts = and_parts (is_correct c post.from) (post.actor == c.n) right in
        option_and_then_some closing (spelled c post) closure closes (λ vote spells gives.
        record {
          correct = correct_is c post.from parts.0;
          cast = cast_stands c post.from c.n posts post (Closed closure.0 closure.1) stands
              (record {
                from = refl;
                actor = eqb-true post.actor c.n parts.1;
                is = spells ∙ ap (λ (v : Vote). Some v) (closing_is vote closure gives);
              });
        })

-- and the converse
pub record IsPosted (c : Numbers) (posts : List Post) (node : ℕ) (closure : Closure) : Type 0 where
  pub post : Post
  pub stands : Contains posts post
  pub from : post.from ≡ node
  pub closes : closing_by c post ≡ Some closure

pub cast_closing : (c : Numbers) (posts : List Post) (i e : ℕ) (list : List Item) → IsCorrect c i → Contains (own_in c i c.n posts) (Closed e list)
    → IsPosted c posts i (e, list)
cast_closing c posts i e list correct stands =
    let source = cast_from c i c.n posts (Closed e list) stands in
    let of_desk : IsOfDesk c source.0 = record { correct = ap (is_correct c) source.2.from ∙ correct_from c i correct; desk = source.2.actor } in
    record {
      post = source.0;
      stands = source.1;
      from = source.2.from;
      closes = at_desk c source.0 of_desk ∙ ap (λ (o : Option Vote). option_and_then closing o) source.2.is;
    }
