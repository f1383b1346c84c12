-- The laws of a book: what a seat knows stays true while others post.
use Rattle.std.proofs.Common.{◌≡◌, ℕ, Bool, true, false, ◌||◌, ◌==◌, List, [], ◌∷◌, ◌++◌, refl, sym, ap, ◌∙◌, subst, append_assoc, append-nil}
use Rattle.std.specs.List.{list_all}
use Rattle.std.proofs.lemmas.Bool.{eqb-true, and_parts, and_from, false_from_ne_true}
use Rattle.std.proofs.lemmas.List.Elements.{filter-append}
use Rattle.std.proofs.lemmas.List.Folds.{list_all-append}
use Rattle.hb_base.specs.Numbers.{Numbers}
use Rattle.hb_base.specs.NodeSet.{is_in}
use Rattle.hb_wire.specs.declared.post.Post.{Post}
use Rattle.hb_rules.specs.Ledger.{IsPrefix}
use Rattle.hb_rules.specs.Book.{SeatView, BookView, is_mine, mine_in, AreTwo, Watched, Extended, IsSeatOf, Moved, HasSeenAll}

pub mine_in-append : (c : Numbers) (i x : ℕ) (old new : List Post) → mine_in c i x (old ++ new) ≡ mine_in c i x old ++ mine_in c i x new
mine_in-append c i x old new = filter-append (is_mine c i x) old new

pub Extended-refl : (c : Numbers) (i x : ℕ) (posts : List Post) → Extended c i x posts posts
Extended-refl c i x posts = record { added = []; mine = refl; is = sym (append-nil posts) }

pub Extended-trans : (c : Numbers) (i x : ℕ) (old mid new : List Post) → Extended c i x old mid → Extended c i x mid new → Extended c i x old new
Extended-trans c i x old mid new one two = record {
  added = one.added ++ two.added;
  mine =
      list_all-append (is_mine c i x) one.added two.added
      ∙ and_from (list_all (is_mine c i x) one.added) (list_all (is_mine c i x) two.added) one.mine two.mine;
  is = two.is ∙ ap (λ (posts : List Post). posts ++ two.added) one.is ∙ append_assoc old one.added two.added;
}

-- the actor of a seat's post, where the seat's node does not lie
actor_of_mine : (b : Bool) (y x : ℕ) → b ≡ false → (b || (y == x)) ≡ true → y ≡ x
actor_of_mine true y x honest mine = absurd (cc (honest))
actor_of_mine false y x honest mine = eqb-true y x mine

-- a post of one seat is none of another's
is_mine-others : (c : Numbers) (i x a y : ℕ) → AreTwo c i x a y → (post : Post) → is_mine c i x post ≡ true → is_mine c a y post ≡ false
is_mine-others c i x a y apart post mine = false_from_ne_true (is_mine c a y post) (λ other.
    let one = and_parts (post.from == i) (is_in c.liars i || (post.actor == x)) mine in
    let two = and_parts (post.from == a) (is_in c.liars a || (post.actor == y)) other in
    let same : a ≡ i = sym (eqb-true post.from a two.0) ∙ eqb-true post.from i one.0 in
    let two_actors = apart same in
    let honest : is_in c.liars a ≡ false = ap (λ (m : ℕ). is_in c.liars m) same ∙ two_actors.0 in
    two_actors.1 (sym (actor_of_mine (is_in c.liars a) post.actor y honest two.1)
    ∙ actor_of_mine (is_in c.liars i) post.actor x two_actors.0 one.1))

-- posts of one seat are none of another's
pub mine_in-others : (c : Numbers) (i x a y : ℕ) (posts : List Post) → list_all (is_mine c i x) posts ≡ true → AreTwo c i x a y
    → mine_in c a y posts ≡ []
mine_in-others c i x a y [] mine apart = refl
mine_in-others c i x a y (post ∷ posts) mine apart =
    let parts = and_parts (is_mine c i x post) (list_all (is_mine c i x) posts) mine in
    rw (is_mine-others c i x a y apart post parts.0) (mine_in-others c i x a y posts parts.1 apart)

pub Watched-refl : (c : Numbers) (i x : ℕ) (posts : List Post) → Watched c i x posts posts
Watched-refl c i x posts = record { between = []; others = refl; is = sym (append-nil posts) }

pub Watched-extended : (c : Numbers) (i x a y : ℕ) (old mid new : List Post) → Watched c a y old mid → Extended c i x mid new → AreTwo c i x a y
    → Watched c a y old new
Watched-extended c i x a y old mid new watched extended apart = record {
  between = watched.between ++ extended.added;
  others =
      mine_in-append c a y watched.between extended.added
      ∙ ap (λ (posts : List Post). posts ++ mine_in c a y extended.added) watched.others
      ∙ mine_in-others c i x a y extended.added extended.mine apart;
  is = extended.is ∙ ap (λ (posts : List Post). posts ++ extended.added) watched.is ∙ append_assoc old watched.between extended.added;
}

-- the laws of a book
pub Moved-refl : (i x : ℕ) (b : BookView) → Moved i x b b
Moved-refl i x b = record { config = refl; extended = Extended-refl b.config i x b.posts }

pub Moved-trans : (i x : ℕ) (a b c : BookView) → Moved i x a b → Moved i x b c → Moved i x a c
Moved-trans i x a b c one two = record {
  config = two.config ∙ one.config;
  extended =
      Extended-trans a.config i x a.posts b.posts c.posts one.extended
      (subst (λ (config : Numbers). Extended config i x b.posts c.posts) one.config two.extended);
}

pub IsSeatOf-moved : (i x : ℕ) (a b : BookView) (s : SeatView) → Moved i x a b → AreTwo s.config i x s.node s.actor → IsSeatOf a s → IsSeatOf b s
IsSeatOf-moved i x a b s moved apart seat = record {
  config = seat.config ∙ sym moved.config;
  known = seat.known;
  watched =
      Watched-extended s.config i x s.node s.actor s.seen a.posts b.posts seat.watched
      (subst (λ (config : Numbers). Extended config i x a.posts b.posts) (sym seat.config) moved.extended) apart;
}

-- a seat that has seen all has seen as much as each other
pub HasSeenAll-most : (a b : BookView) (s t : SeatView) → HasSeenAll b s → IsSeatOf b t → IsPrefix t.seen s.seen
HasSeenAll-most a b s t all seat = record { rest = seat.watched.between; is = all ∙ seat.watched.is }
