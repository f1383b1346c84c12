-- Shards that are the same one by one.
use Rattle.std.proofs.Common.{◌≡◌, ℕ, ◌+◌, ◌<◌, List, [], ◌∷◌, ◌++◌, length, get_or, take, sym, ap₂, ◌∙◌, subst}
use Rattle.std.proofs.lemmas.List.{take_more}

pub same_next : (xs ys : List (ℕ × List ℕ)) (k : ℕ) (x y : ℕ × List ℕ) → k < length xs → length xs ≡ length ys
    → x ≡ get_or xs k x → y ≡ get_or ys k y → x.0 ≡ y.0 → x.1 ≡ y.1 → take k xs ≡ take k ys → take (k + 1) xs ≡ take (k + 1) ys
same_next xs ys k x y inside size here there nodes shards so_far =
    take_more xs k x inside
    ∙ ap₂ (λ front last. front ++ last ∷ []) so_far (sym here ∙ ap₂ (λ node shard. (node, shard)) nodes shards ∙ there)
    ∙ sym (take_more ys k y (subst (λ n. k < n) size inside))
