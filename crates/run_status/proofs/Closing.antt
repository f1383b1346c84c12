-- The desks that have closed the last epoch, one post after another.
use Rattle.std.proofs.Common.{◌≡◌, ℕ, ◌+◌, ◌<◌, Bool, true, false, ◌&&◌, ◌||◌, ◌==◌, nat_lt, if◌then◌else◌, List, [], length, take, slice_index_or, Option, None, Some, refl, sym, ap, ◌∙◌, arith}
use Rattle.std.proofs.lemmas.Bool.{eqb-true, lt-ltb}
use Rattle.hb_base.specs.Limits.{most_nodes}
use Rattle.hb_base.specs.NodeSet.{is_in}
use Rattle.hb_base.specs.Numbers.{Numbers}
use Rattle.hb_wire.specs.declared.vote.Vote.{Vote}
use Rattle.hb_wire.specs.declared.post.Post.{Post}
use Rattle.hb_rules.specs.Hearing.{spelled}
use Rattle.run_status.specs.Shown.{passes, shows, is_number}
use Rattle.run_status.specs.Closers.{is_last_closing, closer_of, AreClosers, AreClosersBy}
use Rattle.run_status.proofs.Shows.{cast_shown, one_more}

-- a chosen number is this one, or another
chosen_is : (i m : ℕ) (b : Bool) → (m == i) ≡ true → is_number i (if b then Some m else None) ≡ b
chosen_is i m true same = same
chosen_is i m false same = refl

chosen_other : (i m : ℕ) (b : Bool) → (m == i) ≡ false → is_number i (if b then Some m else None) ≡ false
chosen_other i m true other = other
chosen_other i m false other = refl

passes_both : (test : Vote → Bool) (b : Bool) (o : Option Vote) → (b && passes test o) ≡ passes test (if b then o else None)
passes_both test true o = refl
passes_both test false o = refl

-- a post is named as one by which a node's desk closes the last epoch where it shows that
named : (c : Numbers) (post : Post) (i : ℕ) → i < most_nodes → is_number i (closer_of c post) ≡ shows c i c.n (is_last_closing c) post
named c post i below = by (post.from == i) refl
  where
    by : (b : Bool) → (post.from == i) ≡ b
        → is_number i (closer_of c post) ≡ passes (is_last_closing c) (if b && (post.actor == c.n) then spelled c post else None)
    by true same =
        let from : post.from ≡ i = eqb-true post.from i same in
        let low : nat_lt post.from most_nodes ≡ true = lt-ltb post.from most_nodes (omega (arith, from, below)) in
        ap (λ (b : Bool). is_number i (if (b && (post.actor == c.n)) && passes (is_last_closing c) (spelled c post) then Some post.from else None)) low
        ∙ chosen_is i post.from ((post.actor == c.n) && passes (is_last_closing c) (spelled c post)) same
        ∙ passes_both (is_last_closing c) (post.actor == c.n) (spelled c post)
    by false other =
        chosen_other i post.from ((nat_lt post.from most_nodes && (post.actor == c.n)) && passes (is_last_closing c) (spelled c post)) other

-- no post
pub closers_none : (c : Numbers) (nodes : List Bool) → ((i : ℕ) → is_in nodes i ≡ false) → AreClosers c [] nodes
closers_none c nodes none = record { each = λ i below. none i }

-- one post more
pub closers_more : (c : Numbers) (posts : List Post) (number : ℕ) (post : Post) (old new : List Bool) → number < length posts
    → post ≡ slice_index_or posts number post → AreClosers c (take number posts) old → AreClosersBy c post old new
    → AreClosers c (take (number + 1) posts) new
closers_more c posts number post old new inside is are by_post = record {
  each = λ i below.
      one_more (shows c i c.n (is_last_closing c)) posts number post (is_in old i) (is_in new i) inside is
      (are.each i below ∙ cast_shown c i c.n (is_last_closing c) (take number posts))
      (by_post.each i ∙ ap (λ (b : Bool). is_in old i || b) (named c post i below))
      ∙ sym (cast_shown c i c.n (is_last_closing c) (take (number + 1) posts));
}
