-- The lines of numbered posts.
use Rattle.std.proofs.Common.{◌≡◌, ℕ, ◌+◌, ◌<◌, List, [], ◌∷◌, ◌++◌, length, get_or, take, drop, sym, ap, ◌∙◌, arith, add-one, append_assoc, append-nil, drop-cons}
use Rattle.std.proofs.lemmas.List.{take-append-drop, take_more, length-take-le}
use Rattle.hb_wire.specs.declared.post.Post.{Post}
use Rattle.trace_text.specs.Text.{post_line, posts_text}

pub posts_append : (k : ℕ) (xs ys : List Post) → posts_text k (xs ++ ys) ≡ posts_text k xs ++ posts_text (k + length xs) ys
posts_append k [] ys =
    let same : k ≡ k + 0 = omega arith in
    ap (λ (m : ℕ). posts_text m ys) same
posts_append k (x ∷ xs) ys =
    let same : k + 1 + length xs ≡ k + length (x ∷ xs) = omega arith in
    ap (λ (bytes : List ℕ). post_line k x ++ bytes) (posts_append (k + 1) xs ys ∙ ap (λ (m : ℕ). posts_text (k + 1) xs ++ posts_text m ys) same)
    ∙ sym (append_assoc (post_line k x) (posts_text (k + 1) xs) (posts_text (k + length (x ∷ xs)) ys))

front_text : (posts rest : List Post) (k : ℕ) → k < length posts → posts_text 0 (take k posts ++ rest) ≡ posts_text 0 (take k posts) ++ posts_text k rest
front_text posts rest k below =
    let count : length (take k posts) ≡ k = length-take-le k posts (omega (arith, below)) in
    let same : 0 + length (take k posts) ≡ k = omega (arith, count) in
    posts_append 0 (take k posts) rest ∙ ap (λ (m : ℕ). posts_text 0 (take k posts) ++ posts_text m rest) same

-- one post more
pub posts_step : (posts : List Post) (k : ℕ) (x d : Post) → k < length posts → x ≡ get_or posts k d
    → posts_text 0 (take (k + 1) posts) ≡ posts_text 0 (take k posts) ++ post_line k x
posts_step posts k x d below is =
    ap (posts_text 0) (take_more posts k d below ∙ ap (λ (y : Post). take k posts ++ y ∷ []) (sym is))
    ∙ front_text posts (x ∷ []) k below
    ∙ ap (λ (bytes : List ℕ). posts_text 0 (take k posts) ++ bytes) (append-nil (post_line k x))

-- all of them, in front of a post, at it and behind it
pub posts_split : (posts : List Post) (k : ℕ) (x d : Post) → k < length posts → x ≡ get_or posts k d
    → posts_text 0 posts ≡ posts_text 0 (take k posts) ++ (post_line k x ++ posts_text (k + 1) (drop (k + 1) posts))
posts_split posts k x d below is =
    ap (posts_text 0)
    (sym (take-append-drop k posts)
    ∙ ap (λ (rest : List Post). take k posts ++ rest) (rw (add-one) (drop-cons posts k d below) ∙ ap (λ (y : Post). y ∷ drop (k + 1) posts) (sym is)))
    ∙ front_text posts (x ∷ drop (k + 1) posts) k below
