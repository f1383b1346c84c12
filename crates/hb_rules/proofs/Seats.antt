-- What a seat may post is allowed while others post, and what calls on it do to its book.
use Rattle.std.proofs.Common.{◌≡◌, ℕ, ◌+◌, ◌-◌, ◌<◌, ◌≤◌, true, false, ◌||◌, ◌==◌, inl, inr, List, [], ◌∷◌, ◌++◌, None, Result, Ok, Err, length, take, refl, sym, ap, ◌∙◌, subst, arith, append-nil, append_assoc, length-take-le}
use Rattle.std.specs.Prelude.{IsOkAnd, IfOk, OnOk}
use Rattle.std.specs.List.{filter_map}
use Rattle.std.proofs.lemmas.Bool.{and_parts, and_from, or_right, false_from_ne_true}
use Rattle.std.proofs.lemmas.List.{append_cancel_left}
use Rattle.std.proofs.lemmas.List.Elements.{filter_map-append}
use Rattle.std.proofs.Math.Seq.{take-append-add}
use Rattle.hb_base.specs.Limits.{most_posts}
use Rattle.hb_base.specs.Numbers.{Numbers}
use Rattle.hb_base.specs.NodeSet.{is_in}
use Rattle.hb_wire.specs.declared.vote.Vote.{Vote}
use Rattle.hb_wire.specs.declared.post.Post.{Post}
use Rattle.hb_rules.specs.Hearing.{Hearing, is_by, vote_by, own_in, hearing_of, heard_in}
use Rattle.hb_rules.specs.History.{IsAllowed}
use Rattle.hb_rules.specs.Ledger.{IsPrefix}
use Rattle.hb_rules.specs.declared.book.BookFault.{BookFault}
use Rattle.hb_rules.specs.Book.{SeatView, BookView, is_mine, mine_in, Watched, Posted, IsSeatOf}
use Rattle.hb_rules.specs.BookLaws.{mine_in-append}
use Rattle.hb_rules.proofs.Lists.{filter_map_within}
use Rattle.hb_rules.proofs.MoreHeard.{AreAmong-more, MayCast-among}

-- a post that is not of the seat is not of its actor
pub not_by : (c : Numbers) (i x : ℕ) (post : Post) → is_mine c i x post ≡ false → is_by i x post ≡ false
not_by c i x post others = false_from_ne_true (is_by i x post) (λ by.
    let parts = and_parts (post.from == i) (post.actor == x) by in
    let mine : is_mine c i x post ≡ true =
    and_from (post.from == i) (is_in c.liars i || (post.actor == x)) parts.0 (or_right (is_in c.liars i) (post.actor == x) parts.1) in
    absurd (cc (sym mine ∙ others)))

none_by : (c : Numbers) (i x : ℕ) (post : Post) → is_mine c i x post ≡ false → vote_by c i x post ≡ None
none_by c i x post others = rw (not_by c i x post others) refl

-- others' posts are no votes of the seat's actor
own_in-others : (c : Numbers) (i x : ℕ) (posts : List Post) → mine_in c i x posts ≡ [] → own_in c i x posts ≡ []
own_in-others c i x posts none =
    sym (filter_map_within (vote_by c i x) (is_mine c i x) (none_by c i x) posts) ∙ ap (filter_map (vote_by c i x)) none

-- own votes stay while others post
pub own_in-watched : (c : Numbers) (i x : ℕ) (old new : List Post) → Watched c i x old new → own_in c i x new ≡ own_in c i x old
own_in-watched c i x old new watched =
    ap (own_in c i x) watched.is
    ∙ filter_map-append (vote_by c i x) old watched.between
    ∙ ap (λ (votes : List Vote). own_in c i x old ++ votes) (own_in-others c i x watched.between watched.others)
    ∙ append-nil (own_in c i x old)

-- what was heard stays heard while the history goes on
heard_in-watched : (c : Numbers) (i x : ℕ) (old new : List Post) (watched : Watched c i x old new)
    → heard_in c i x new ≡ heard_in c i x old ++ heard_in c i x watched.between
heard_in-watched c i x old new watched = ap (heard_in c i x) watched.is ∙ filter_map-append (hearing_of c i x) old watched.between

-- what was allowed by what a seat has seen is allowed at its turn
pub IsAllowed-watched : (c : Numbers) (i x : ℕ) (old new : List Post) (vote : Vote) → Watched c i x old new → IsAllowed c i x old vote
    → IsAllowed c i x new vote
IsAllowed-watched c i x old new vote watched (inl again) = inl (rw (own_in-watched c i x old new watched) again)
IsAllowed-watched c i x old new vote watched (inr may) =
    let own : List Vote = own_in c i x old in
    let heard : List Hearing = heard_in c i x old in
    let more : List Hearing = heard_in c i x watched.between in
    inr (rw (own_in-watched c i x old new watched, heard_in-watched c i x old new watched)
    (MayCast-among c i x own heard (heard ++ more) vote (AreAmong-more heard more) may))

-- what a seat may post is allowed by all that its book keeps
pub IsAllowed-seat : (book : BookView) (seat : SeatView) (vote : Vote) → IsSeatOf book seat
    → IsAllowed seat.config seat.node seat.actor seat.seen vote → IsAllowed book.config seat.node seat.actor book.posts vote
IsAllowed-seat book seat vote is_seat allowed =
    subst (λ (config : Numbers). IsAllowed config seat.node seat.actor book.posts vote) is_seat.config
    (IsAllowed-watched seat.config seat.node seat.actor seat.seen book.posts vote is_seat.watched allowed)

-- what a call that added a post behind the others did for its seat, which it then showed all
pub Posted-seen : (result : Result ℕ BookFault) (old new : BookView) (s t : SeatView) (post : Post) → IsSeatOf old s → t.seen ≡ new.posts
    → IfOk result (λ k. (k ≡ length old.posts) × (k < most_posts))
    → OnOk result (new ≡ record old { posts = old.posts ++ post ∷ [] })
    → IfOk result (λ k. (k < most_posts) × Posted s.config s.node s.actor post k s.seen t.seen)
Posted-seen (Ok k) old new s t post seat all number added = (
  number.1,
  record {
    before = old.posts;
    watched = seat.watched;
    number = number.0;
    is = all ∙ ap (λ (book : BookView). book.posts) added;
  },
)
Posted-seen (Err fault) old new s t post seat all number added = tt

-- what a call did with a copy of bytes it did with the bytes
pub OnOk-copied : {E : Type 0} (result : Result ℕ BookFault) (copy : Result (List ℕ) E) (bytes : List ℕ) (Holds : List ℕ → Type 0)
    → IfOk copy (λ b. b ≡ bytes) → OnOk result (IsOkAnd copy Holds) → OnOk result (Holds bytes)
OnOk-copied (Ok k) (Ok b) bytes Holds is holds = subst Holds is holds
OnOk-copied (Ok k) (Err e) bytes Holds is holds = absurd holds
OnOk-copied (Err fault) copy bytes Holds is holds = tt

-- ---- two seats that meet

-- the first posts of a history begin more of its first posts, also once it is longer
pub begins_more : (front whole history : List Post) (count most : ℕ) → front ≡ take count history → count ≤ length history → IsPrefix front whole
    → count ≤ most → IsPrefix front (take most whole)
begins_more front whole history count most is within prefix more =
    let long : length front ≡ count = ap (λ (posts : List Post). length posts) is ∙ length-take-le count history within in
    let parts : most ≡ length front + (most - count) = omega arith in
    record {
      rest = take (most - count) prefix.rest;
      is =
          ap (take most) prefix.is
          ∙ ap (λ (m : ℕ). take m (front ++ prefix.rest)) parts
          ∙ take-append-add front prefix.rest (most - count);
    }

both_none : (xs ys : List Post) → xs ++ ys ≡ [] → (xs ≡ []) × (ys ≡ [])
both_none [] ys none = (refl, none)
both_none (x ∷ xs) ys none = absurd (omega (arith, ap (λ (posts : List Post). length posts) none))

-- what a seat has not seen is of others, so it is after the seat has seen more
pub record IsOnWay (c : Numbers) (i x : ℕ) (old new posts : List Post) : Type 0 where
  pub so_far : Watched c i x old new
  pub left : Watched c i x new posts

pub on_way : (c : Numbers) (i x : ℕ) (old new posts : List Post) → Watched c i x old posts → IsPrefix old new → IsPrefix new posts
    → IsOnWay c i x old new posts
on_way c i x old new posts watched more most =
    let parts : watched.between ≡ more.rest ++ most.rest =
    append_cancel_left old watched.between (more.rest ++ most.rest)
    (sym watched.is ∙ most.is ∙ ap (λ (front : List Post). front ++ most.rest) more.is ∙ append_assoc old more.rest most.rest) in
    let none : mine_in c i x more.rest ++ mine_in c i x most.rest ≡ [] =
    sym (mine_in-append c i x more.rest most.rest) ∙ ap (mine_in c i x) (sym parts) ∙ watched.others in
    let each = both_none (mine_in c i x more.rest) (mine_in c i x most.rest) none in
    record {
      so_far = record { between = more.rest; others = each.0; is = more.is };
      left = record { between = most.rest; others = each.1; is = most.is };
    }

-- a seat that was shown more of its book's posts is still of the book
pub IsSeatOf-more : (book : BookView) (old new : SeatView) → IsSeatOf book old → new ≡ record old { seen = new.seen } → IsPrefix old.seen new.seen
    → IsPrefix new.seen book.posts → IsSeatOf book new
IsSeatOf-more book old new seat same more most =
    let way = on_way old.config old.node old.actor old.seen new.seen book.posts seat.watched more most in
    let shown : SeatView = record old { seen = new.seen } in
    let kept : IsSeatOf book shown = record { config = seat.config; known = seat.known; watched = way.left } in
    subst (IsSeatOf book) (sym same) kept
