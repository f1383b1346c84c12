-- Votes that are posted, and what the book has of them in the end.
use Rattle.std.proofs.Common.{◌≡◌, ℕ, ◌⊎◌, inl, inr, ⊎_elim, true, List, [], ◌∷◌, ◌++◌, Result, Ok, Err, Some, length, refl, sym, ap, ◌∙◌, subst, append_assoc, append-nil}
use Rattle.std.specs.Prelude.{All, Contains, IfOk, OnErr, slice_get}
use Rattle.std.proofs.lemmas.Bool.{eq-eqb}
use Rattle.std.proofs.lemmas.List.Elements.{All-weaker, Contains-push, Contains-push_cases, filter_map-append}
use Rattle.atomic_table.specs.Seated.{TableId}
use Rattle.hb_base.specs.Numbers.{Numbers}
use Rattle.hb_wire.specs.declared.vote.Vote.{Vote}
use Rattle.hb_wire.specs.declared.post.Post.{Post}
use Rattle.hb_wire.specs.Votes.{Spells, spelling}
use Rattle.hb_wire.proofs.VoteLemmas.{vote_again}
use Rattle.hb_rules.specs.declared.book.BookFault.{BookFault}
use Rattle.hb_rules.specs.Hearing.{vote_by, own_in, spelled}
use Rattle.hb_rules.specs.History.{IsAllowed}
use Rattle.hb_rules.specs.Ledger.{IsPrefix}
use Rattle.hb_rules.specs.Book.{SeatView, is_mine, mine_in, post_of, Watched, Posted}
use Rattle.hb_rules.specs.BookLaws.{mine_in-append}
use Rattle.hb_rules.proofs.Seats.{IsAllowed-watched}
use Rattle.post_book.specs.Numbering.{IsPlace, seat_number, post_number}
use Rattle.post_book.specs.SharedSeats.{SharedView}
use Rattle.post_book.proofs.Numbers.{mine_names, vote_names}
use Rattle.book_cases.specs.Posting.{MayPost, IsSame, HasPosted, posts_told}
use Rattle.book_cases.specs.Seating.{HasAllOf}
use Rattle.book_cases.proofs.Seatings.{only_one, IsPrefix-trans}

-- a vote that was posted may be posted again
pub allowed_again : (c : Numbers) (i x k : ℕ) (vote : Vote) (old new : List Post) → Spells c.n c.version (spelling vote) vote
    → Posted c i x (post_of i x vote) k old new → IsAllowed c i x new vote
allowed_again c i x k vote old new spells posted =
    let is : spelled c (post_of i x vote) ≡ Some vote = vote_again c.n c.version (spelling vote) vote spells in
    let one : own_in c i x (post_of i x vote ∷ []) ≡ vote ∷ [] = rw (eq-eqb i i refl, eq-eqb x x refl, is) refl in
    let own : own_in c i x new ≡ own_in c i x posted.before ++ vote ∷ [] =
    ap (own_in c i x) posted.is
    ∙ filter_map-append (vote_by c i x) posted.before (post_of i x vote ∷ [])
    ∙ ap (λ (votes : List Vote). own_in c i x posted.before ++ votes) one in
    inl (subst (λ (votes : List Vote). Contains votes vote) (sym own) (Contains-push (own_in c i x posted.before) vote))

pub Watched-trans : (c : Numbers) (i x : ℕ) (old mid new : List Post) → Watched c i x old mid → Watched c i x mid new → Watched c i x old new
Watched-trans c i x old mid new one two = record {
  between = one.between ++ two.between;
  others =
      mine_in-append c i x one.between two.between
      ∙ ap (λ (posts : List Post). posts ++ mine_in c i x two.between) one.others
      ∙ two.others;
  is = two.is ∙ ap (λ (posts : List Post). posts ++ two.between) one.is ∙ append_assoc old one.between two.between;
}

pub mine_in-watched : (c : Numbers) (i x : ℕ) (old new : List Post) → Watched c i x old new → mine_in c i x new ≡ mine_in c i x old
mine_in-watched c i x old new watched =
    ap (mine_in c i x) watched.is
    ∙ mine_in-append c i x old watched.between
    ∙ ap (λ (posts : List Post). mine_in c i x old ++ posts) watched.others
    ∙ append-nil (mine_in c i x old)

seam : {A : Type 0} (before rest : List A) (x : A) → slice_get ((before ++ x ∷ []) ++ rest) (length before) ≡ Some x
seam [] rest x = refl
seam (y ∷ before) rest x = seam before rest x

-- a post stands under its number in each history that begins with what the seat had seen
pub stands_in : (c : Numbers) (i x k : ℕ) (post : Post) (old new history : List Post) → Posted c i x post k old new → IsPrefix new history
    → slice_get history k ≡ Some post
stands_in c i x k post old new history posted front =
    ap (λ (posts : List Post). slice_get posts k) front.is
    ∙ ap (λ (posts : List Post). slice_get (posts ++ front.rest) k) posted.is
    ∙ ap (λ (m : ℕ). slice_get ((posted.before ++ post ∷ []) ++ front.rest) m) posted.number
    ∙ seam posted.before front.rest post

module _ (c : Numbers) (i x : ℕ) (place : IsPlace c i x) (vote : Vote) where
  its_own : mine_in c i x (post_of i x vote ∷ []) ≡ post_of i x vote ∷ []
  its_own = rw (mine_names c i x place (post_of i x vote) (vote_names c i x place vote)) refl

  -- what a seat has posted that had posted nothing
  told_alone : (told : Result ℕ BookFault) (old new : List Post) → old ≡ [] → IfOk told (λ k. Posted c i x (post_of i x vote) k old new)
      → OnErr told (Watched c i x old new) → mine_in c i x new ≡ posts_told i x vote told
  told_alone (Ok k) old new none posted refused =
      ap (mine_in c i x) posted.is
      ∙ mine_in-append c i x posted.before (post_of i x vote ∷ [])
      ∙ ap (λ (posts : List Post). posts ++ mine_in c i x (post_of i x vote ∷ [])) (mine_in-watched c i x old posted.before posted.watched ∙ ap (mine_in c i x) none)
      ∙ its_own
  told_alone (Err fault) old new none posted refused = mine_in-watched c i x old new refused ∙ ap (mine_in c i x) none

  stands_told : (told : Result ℕ BookFault) (old new history : List Post) → IfOk told (λ k. Posted c i x (post_of i x vote) k old new)
      → IsPrefix new history → IfOk told (λ k. slice_get history k ≡ Some (post_of i x vote))
  stands_told (Ok k) old new history posted front = stands_in c i x k (post_of i x vote) old new history posted front
  stands_told (Err fault) old new history posted front = tt

-- what a closed history has of a seat that posted a vote once and was then shown more
pub record IsDone (c : Numbers) (i x : ℕ) (vote : Vote) (told : Result ℕ BookFault) (history : List Post) : Type 0 where
  pub mine : mine_in c i x history ≡ posts_told i x vote told
  pub stands : IfOk told (λ k. slice_get history k ≡ Some (post_of i x vote))

pub one_seat : (c : Numbers) (i x : ℕ) (vote : Vote) (told : Result ℕ BookFault) (made posted shown : SharedView) (history : List Post)
    → IsPlace c i x → made.seat ≡ record { config = c; node = i; actor = x; seen = [] } → HasPosted vote told made posted
    → IsSame posted shown → Watched posted.seat.config posted.seat.node posted.seat.actor posted.seat.seen shown.seat.seen
    → HasAllOf c shown history → IsDone c i x vote told history
one_seat c i x vote told made posted shown history place is has same watched all =
    let config0 : made.seat.config ≡ c = ap (λ (s : SeatView). s.config) is in
    let node0 : made.seat.node ≡ i = ap (λ (s : SeatView). s.node) is in
    let actor0 : made.seat.actor ≡ x = ap (λ (s : SeatView). s.actor) is in
    let none : made.seat.seen ≡ [] = ap (λ (s : SeatView). s.seen) is in
    let config1 : posted.seat.config ≡ c = ap (λ (s : SeatView). s.config) has.same.seat ∙ config0 in
    let node1 : posted.seat.node ≡ i = ap (λ (s : SeatView). s.node) has.same.seat ∙ node0 in
    let actor1 : posted.seat.actor ≡ x = ap (λ (s : SeatView). s.actor) has.same.seat ∙ actor0 in
    let node2 : shown.seat.node ≡ i = ap (λ (s : SeatView). s.node) same.seat ∙ node1 in
    let actor2 : shown.seat.actor ≡ x = ap (λ (s : SeatView). s.actor) same.seat ∙ actor1 in
    let stands : IfOk told (λ k. Posted c i x (post_of i x vote) k made.seat.seen posted.seat.seen) = rw (config0, node0, actor0) at has.stands in
    let refused : OnErr told (Watched c i x made.seat.seen posted.seat.seen) = rw (config0, node0, actor0) at has.refused in
    let later : Watched c i x posted.seat.seen shown.seat.seen = rw (config1, node1, actor1) at watched in
    let mine : IsPlace c i x → mine_in c i x history ≡ mine_in c i x shown.seat.seen = rw (node2, actor2) at all.mine in
    let front : IsPrefix posted.seat.seen history =
    IsPrefix-trans posted.seat.seen shown.seat.seen history (record { rest = later.between; is = later.is }) all.begins in
    record {
      mine =
          mine place
          ∙ mine_in-watched c i x posted.seat.seen shown.seat.seen later
          ∙ told_alone c i x place vote told made.seat.seen posted.seat.seen none stands refused;
      stands = stands_told c i x place vote told made.seat.seen posted.seat.seen history stands front;
    }

-- a post that names one of two numbers is of one of the two seats
pub of_either : (c : Numbers) (x : ℕ) (given : List ℕ) (history : List Post) → IsPlace c 0 x → IsPlace c 1 x
    → given ≡ seat_number 0 x ∷ seat_number 1 x ∷ [] → All (λ post. Contains given (post_number c post)) history
    → All (λ post. (is_mine c 0 x post ≡ true) ⊎ (is_mine c 1 x post ≡ true)) history
of_either c x given history one two is named =
    All-weaker (λ (post : Post). Contains given (post_number c post)) (λ (post : Post). (is_mine c 0 x post ≡ true) ⊎ (is_mine c 1 x post ≡ true))
    (λ post stands. ⊎_elim
    (λ (first : Contains (seat_number 0 x ∷ []) (post_number c post)). inl (mine_names c 0 x one post (sym (only_one (seat_number 0 x) (post_number c post) first))))
    (λ (last : seat_number 1 x ≡ post_number c post). inr (mine_names c 1 x two post (sym last)))
    (Contains-push_cases (seat_number 0 x ∷ []) (seat_number 1 x) (post_number c post)
    (subst (λ (xs : List ℕ). Contains xs (post_number c post)) is stands)))
    history named

pub same_refl : (s : SharedView) → IsSame s s
same_refl s = record { book = refl; seat = refl }

pub same_trans : (one two three : SharedView) → IsSame one two → IsSame two three → IsSame one three
same_trans one two three a b = record {
  book = b.book ∙ a.book;
  seat = b.seat ∙ ap (λ (s : SeatView). record s { seen = three.seat.seen }) a.seat;
}

-- what a seat may post it may post again, whatever it was told
again_told : (told : Result ℕ BookFault) (c : Numbers) (i x : ℕ) (vote : Vote) (old new : List Post) → Spells c.n c.version (spelling vote) vote
    → IsAllowed c i x old vote → IfOk told (λ k. Posted c i x (post_of i x vote) k old new) → OnErr told (Watched c i x old new)
    → IsAllowed c i x new vote
again_told (Ok k) c i x vote old new spells allowed posted refused = allowed_again c i x k vote old new spells posted
again_told (Err fault) c i x vote old new spells allowed posted refused = IsAllowed-watched c i x old new vote refused allowed

pub may_again : (name : TableId) (told : Result ℕ BookFault) (vote : Vote) (old new : SharedView) → MayPost name vote old → HasPosted vote told old new
    → MayPost name vote new
may_again name told vote old new may has =
    let same : record old.seat { seen = new.seat.seen } ≡ new.seat = sym has.same.seat in
    let c : Numbers = old.seat.config in
    record {
      book = has.same.book ∙ may.book;
      spelled = subst (λ (s : SeatView). Spells s.config.n s.config.version (spelling vote) vote) same may.spelled;
      allowed =
          subst (λ (s : SeatView). IsAllowed s.config s.node s.actor s.seen vote) same
          (again_told told c old.seat.node old.seat.actor vote old.seat.seen new.seat.seen may.spelled may.allowed has.stands has.refused);
    }
