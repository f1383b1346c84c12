-- Tables of marked numbers, one post after another.
use Rattle.std.proofs.Common.{◌≡◌, ℕ, zero, suc, ◌+◌, ◌<◌, Bool, false, ◌||◌, List, [], length, take, slice_index_or, refl, sym, ap, ◌∙◌}
use Rattle.std.specs.Prelude.{replicate}
use Rattle.std.specs.List.{list_any}
use Rattle.std.proofs.lemmas.List.{length-replicate}
use Rattle.std.proofs.lemmas.List.Folds.{list_any_more}
use Rattle.hb_base.specs.Numbers.{Numbers}
use Rattle.hb_wire.specs.declared.post.Post.{Post}
use Rattle.aba_world.specs.declared.marks.Kind.{Kind}
use Rattle.aba_world.specs.Marked.{marks, entry, AreMarked, AreMarkedBy}

none_at : (n k : ℕ) → entry (replicate n false) k ≡ false
none_at zero k = refl
none_at (suc n) zero = refl
none_at (suc n) (suc k) = none_at n k

-- no post
pub marked_none : (c : Numbers) (kind : Kind) (table : List Bool) → table ≡ replicate 1024 false → AreMarked c kind [] table
marked_none c kind table is = record {
  size = ap (λ (t : List Bool). length t) is ∙ length-replicate {A = Bool} 1024 false;
  each = λ k. ap (λ (t : List Bool). entry t k) is ∙ none_at 1024 k;
}

-- one post more
pub marked_more : (c : Numbers) (kind : Kind) (posts : List Post) (number : ℕ) (post : Post) (old new : List Bool) → number < length posts
    → post ≡ slice_index_or posts number post → AreMarked c kind (take number posts) old → AreMarkedBy c kind post old new
    → AreMarked c kind (take (number + 1) posts) new
marked_more c kind posts number post old new inside is are by_post = record {
  size = by_post.size ∙ are.size;
  each = λ k.
      by_post.each k
      ∙ ap (λ (b : Bool). b || marks c kind k post) (are.each k)
      ∙ ap (λ (p : Post). list_any (marks c kind k) (take number posts) || marks c kind k p) is
      ∙ sym (list_any_more (marks c kind k) posts number post inside);
}
