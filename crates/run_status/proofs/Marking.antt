-- Tables of what lanes have done, one post after another.
use Rattle.std.proofs.Common.{◌≡◌, ℕ, zero, suc, ◌+◌, ◌<◌, Bool, false, List, [], length, take, slice_index_or, refl, ap, ◌∙◌}
use Rattle.std.specs.Prelude.{replicate}
use Rattle.std.proofs.lemmas.List.{length-replicate}
use Rattle.hb_base.specs.Numbers.{Numbers}
use Rattle.hb_wire.specs.declared.post.Post.{Post}
use Rattle.run_status.specs.Shown.{is_number}
use Rattle.run_status.specs.Spent.{mark_of, entry, AreMarked, AreMarkedBy}
use Rattle.run_status.proofs.Shows.{one_more}

none_at : (n k : ℕ) → entry (replicate n false) k ≡ false
none_at zero k = refl
none_at (suc n) zero = refl
none_at (suc n) (suc k) = none_at n k

-- no post
pub marked_none : (c : Numbers) (table : List Bool) → table ≡ replicate 16384 false → AreMarked c [] table
marked_none c table is = record {
  size = ap (λ (t : List Bool). length t) is ∙ length-replicate {A = Bool} 16384 false;
  each = λ k. ap (λ (t : List Bool). entry t k) is ∙ none_at 16384 k;
}

-- one post more
pub marked_more : (c : Numbers) (posts : List Post) (number : ℕ) (post : Post) (old new : List Bool) → number < length posts
    → post ≡ slice_index_or posts number post → AreMarked c (take number posts) old → AreMarkedBy c post old new
    → AreMarked c (take (number + 1) posts) new
marked_more c posts number post old new inside is are by_post = record {
  size = by_post.size ∙ are.size;
  each = λ k.
      one_more (λ (p : Post). is_number k (mark_of c p)) posts number post (entry old k) (entry new k) inside is (are.each k) (by_post.each k);
}
